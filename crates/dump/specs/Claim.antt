-- What is claimed of the dump of a file: rule 9.5. A reader (vcd/specs/Reader.antt) reads it; the outputs are those of the motors' histories,
-- which the file alone makes.
use Rattle.std.specs.Prelude.{ℕ, ◌≡◌, Bool, true, false, List, [], ◌∷◌, map, leb, length}
use Rattle.words.specs.Word.{when◌then◌else◌}
use Rattle.rules.specs.declared.Motor.{Motor}
use Rattle.rules.specs.Scans.{Input}
use Rattle.book.specs.Log.{Log, none, ◌▸◌}
use Rattle.book.specs.Claim.{total}
use Rattle.book.specs.History.{record_of}
use Rattle.sheet.specs.Grammar.{requests_of}
use Rattle.interpreter.specs.State.{empty_state, accepted_from, too_long}
use Rattle.interpreter.specs.Histories.{History, histories_of}
use Rattle.vcd.specs.Text.{word_one, word_ms}
use Rattle.vcd.specs.Reader.{Wire, declared, unknown, scale_of, wires_of, value_at}
use Rattle.vcd.specs.Expected.{motor_wires, bit}
use Rattle.dump.specs.Dump.{signals_of, dump_of}

-- The histories of the motors of a file, by number, up to a line that is refused
unfoldable pub histories_in : List ℕ → List History
histories_in file = histories_of (accepted_from empty_state (requests_of file))

-- The scans of a history that are not later than a time: the time of a scan is the sum of the periods up to and with it
unfoldable pub up_to : ℕ → Log Input → Log Input
up_to time none = none
up_to time (scans ▸ x) = when leb (total (scans ▸ x)) time then scans ▸ x else up_to time scans

-- A motor's record after the last of these
unfoldable pub record_at : ℕ → History → Motor
record_at time h = record_of h.settings (up_to time h.scans)

-- All outputs at a time, by number
unfoldable pub outputs_at : List ℕ → ℕ → List Bool
outputs_at file time = signals_of (map (record_at time) (histories_in file))

-- The dump of a file is in ms; it declares two wires for each motor, On and Off; these have at every time the values of the outputs; and no
-- other code has one at any time
pub record ReadsBack (file : List ℕ) : Type 0 where
  pub scale : scale_of (dump_of file) ≡ word_one ∷ word_ms ∷ []
  pub wires : wires_of (dump_of file) ≡ motor_wires 0 1 (length (histories_in file))
  pub values : (time : ℕ) → map (λ (w : Wire). value_at (dump_of file) w.code time) (wires_of (dump_of file)) ≡ map bit (outputs_at file time)
  pub others : (code : List ℕ) (time : ℕ) → declared (wires_of (dump_of file)) code ≡ false → value_at (dump_of file) code time ≡ unknown

-- The claim, for any file; one that is too long has no dump
pub record DumpClaim (file : List ℕ) : Type 0 where
  pub long : too_long (length file) ≡ true → dump_of file ≡ []
  pub read : too_long (length file) ≡ false → ReadsBack file
