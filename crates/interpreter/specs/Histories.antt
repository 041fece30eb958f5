-- The motors' histories, rule 5.2, as the lines of a file make them. A scan of a file takes in every motor, each with the word that it holds
-- then. proofs/Followed.antt shows that the claim on a motor speaks of these histories: rule 6.6.
use Rattle.std.specs.Prelude.{ℕ, List, [], ◌∷◌, ◌++◌, eqb}
use Rattle.words.specs.Word.{when◌then◌else◌}
use Rattle.rules.specs.declared.Settings.{Settings}
use Rattle.rules.specs.Scans.{Input}
use Rattle.book.specs.Log.{Log, none, ◌▸◌}
use Rattle.sheet.specs.declared.Request.{Request}
use Rattle.sheet.specs.declared.Request.TheVariants.{Motor as M, Input as I, Scan as S, Refused}
use Rattle.interpreter.specs.State.{State, empty_state, refusal_for, state_after}

pub record History : Type 0 where
  pub settings : Settings
  pub scans : Log Input

-- a scan is entered in each history, with the motor's word
unfoldable pub entered : List History → List ℕ → ℕ → List History
entered [] words period = []
entered (h ∷ hs) [] period = h ∷ hs
entered (h ∷ hs) (word ∷ words) period =
    record { settings = h.settings; scans = h.scans ▸ record { word = word; period = period } } ∷ entered hs words period

-- after an accepted line, taken in the state t: M adds a motor, which was not scanned yet
unfoldable pub histories_after : List History → State → Request → List History
histories_after hs t (M number ops1 ops2 w u) =
    hs ++ (record { settings = record { ops1 = ops1; ops2 = ops2; w = w; u = u }; scans = none } ∷ [])
histories_after hs t (I number word) = hs
histories_after hs t (S period) = entered hs t.words period
histories_after hs t Refused = hs

-- after the requests of some lines; a refused line adds nothing
unfoldable pub histories_from : List History → State → List Request → List History
histories_from hs t [] = hs
histories_from hs t (r ∷ rs) = histories_from (when eqb (refusal_for t r) 0 then histories_after hs t r else hs) (state_after t r) rs

unfoldable pub histories_of : List Request → List History
histories_of rs = histories_from [] empty_state rs
