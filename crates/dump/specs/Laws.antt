-- What holds of a recording as a walk.
use Rattle.std.proofs.Common.{ℕ, ◌<◌, ◌≡◌, List, [], length, lt-ltb, arith}
use Rattle.words.specs.Word.{when◌then◌else◌}
use Rattle.interpreter.specs.State.{too_long}
use Rattle.course.specs.Walk.{Laws}
use Rattle.dump.specs.Dump.{dump_of}
use Rattle.dump.specs.Advance.{dump_walk}

pub dump_long : (file : List ℕ) → 65536 < length file → dump_of file ≡ []
unfolding dump_of too_long when◌then◌else◌
dump_long file h = rw (lt-ltb 65536 (length file) h)

pub dump_laws : Laws dump_walk
dump_laws = record { long = dump_long; short = λ file. omega arith; room = omega arith }
