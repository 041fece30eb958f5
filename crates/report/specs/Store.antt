-- What the functions of src/rows.rt need, which store where there is room and test no place
use Rattle.std.specs.Prelude.{ℕ, ◌+◌, ◌/◌, ◌%◌, ◌≤◌, ◌≡◌, Bool, ◌&&◌, List, [], ◌∷◌, ◌++◌, ltb, length}
use Rattle.report.specs.Print.{after_comma}
use Rattle.report.specs.declared.Row.{Row}
use Rattle.report.specs.declared.page.Page.{Page}

-- There is room for so many bytes more
abbrev pub Fits : Page → ℕ → Type 0
Fits page most = page.used + most ≤ length page.bytes.now

-- No more than so many bytes of the room are taken
pub record Takes (before : Page) (most : ℕ) (after : Page) : Type 0 where
  pub used : after.used ≤ before.used + most
  pub length : length after.bytes.now ≡ length before.bytes.now

-- The two digits of a number below a hundred
unfoldable pub pair_of : ℕ → List ℕ
pair_of n = (48 + n / 10) ∷ (48 + n % 10) ∷ []

-- The five fields in the middle of a row, and whether each has one digit
unfoldable pub states_of : Row → List ℕ
states_of r =
    after_comma r.mode ++ (after_comma r.position ++ (after_comma r.command ++ (after_comma r.end ++ after_comma r.output)))

unfoldable pub short_states : Row → Bool
short_states r = ltb r.mode 10 && ltb r.position 10 && ltb r.command 10 && ltb r.end 10 && ltb r.output 10
