-- For an attribute, which cannot write the name of a choice: `unfolding(words::specs::Opened::choices)`.
use Rattle.words.specs.Word.{when◌then◌else◌}

unfoldable pub choices : Type 0
unfolding when◌then◌else◌
choices = Unit {0}
