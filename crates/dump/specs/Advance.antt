-- A recording as a walk through the lines of a file (course/specs/Walk.antt): what a dump goes by between two lines, and what each adds to it.
use Rattle.std.specs.Prelude.{ℕ, ◌+◌, ◌≡◌, List, [], ◌++◌, eqb, length, take}
use Rattle.words.specs.Word.{when◌then◌else◌}
use Rattle.rules.specs.declared.Motor.{Motor}
use Rattle.sheet.specs.declared.Request.{Request}
use Rattle.sheet.specs.declared.Request.TheVariants.{Motor as M, Input as I, Scan as S, Refused}
use Rattle.totals.specs.Running.{capped}
use Rattle.interpreter.specs.State.{State, empty_state, refusal_for, changed, too_long}
use Rattle.interpreter.specs.declared.Bench.{Bench}
use Rattle.course.specs.Through.{Lines}
use Rattle.course.specs.Walk.{Walk}
use Rattle.vcd.specs.Text.{timed, changes_from}
use Rattle.dump.specs.Dump.{signals_of, opening, dump_of}
use Rattle.dump.specs.Claim.{DumpClaim}
use Rattle.dump.specs.declared.Recording.{Recording}

-- What a dump goes by, at a place of a file: the motors, their words, the count of scans and the time. Totals are none of it: what a recording's
-- bench has for them is open. A place past the file's end says that all is put.
pub record Moment : Type 0 where
  pub at : ℕ
  pub motors : List Motor
  pub words : List ℕ
  pub scans : ℕ
  pub time : ℕ

abbrev pub moment : ℕ → State → ℕ → Moment
moment at t time = record { at = at; motors = t.motors; words = t.words; scans = t.scans; time = time }

abbrev pub bench_at : ℕ → Bench → ℕ → Moment
bench_at at b time = record { at = at; motors = take b.count b.motors; words = take b.count b.words; scans = b.scans; time = time }

abbrev pub moment_of : Recording → Moment
moment_of r = bench_at r.at r.bench r.time

-- A state that has them
abbrev pub state_of : Moment → State
state_of p = record { motors = p.motors; totals = []; words = p.words; scans = p.scans }

-- The same past the file's end
abbrev pub past_end : List ℕ → Moment → Moment
past_end file p = record { at = length file + 1; motors = p.motors; words = p.words; scans = p.scans; time = p.time }

-- The time after an accepted request, as a 32-bit word. In a file of 65,536 bytes no sum of periods comes near its end (proofs/DumpLaws.antt).
unfoldable pub clock_after : ℕ → Request → ℕ
clock_after time (M number ops1 ops2 w u) = time
clock_after time (I number word) = time
clock_after time (S period) = capped (time + period)
clock_after time Refused = time

abbrev pub moment_after : ℕ → Moment → Request → Moment
moment_after next p r = moment next (changed (state_of p) r) (clock_after p.time r)

-- Header and #0, before the first scan or where the dump ends without one
unfoldable pub first_text : ℕ → List Motor → List ℕ
first_text scans ms = when eqb scans 0 then opening ms else []

-- What an accepted line adds: a scan its time and the changed signals, and before them, if it is the first, header and #0
unfoldable pub scan_text : ℕ → ℕ → List Motor → List Motor → List ℕ
scan_text scans time before after = first_text scans before ++ timed time (changes_from 0 (signals_of before) (signals_of after))

unfoldable pub added : Moment → ℕ → Request → List ℕ
added p time (M number ops1 ops2 w u) = []
added p time (I number word) = []
added p time (S period) = scan_text p.scans time p.motors (changed (state_of p) (S period)).motors
added p time Refused = []

-- A refused line is the last, and puts what the end puts.
abbrev pub dump_lines : Lines Moment
dump_lines =
    record {
      at = λ p. p.at;
      refusal = λ p r. refusal_for (state_of p) r;
      after = moment_after;
      answer = λ p r. added p (clock_after p.time r) r;
      stop = λ p r. first_text p.scans p.motors;
      end = λ p. first_text p.scans p.motors;
      past = past_end;
    }

-- No line adds more, nor the end: header and #0 for 32 motors and a time with 64 signals, with ten digits for each number
abbrev pub most_put : ℕ
most_put = 2633

-- An empty bench before the first line, or past the end of a file that is too long, of which there is no dump. With it comes the claim on
-- reading back.
pub record Begins (file : List ℕ) (r : Recording) : Type 0 where
  pub at : r.at ≡ (when too_long (length file) then length file + 1 else 0)
  pub moment_is : moment_of r ≡ moment r.at empty_state 0
  pub claim : DumpClaim file

abbrev pub dump_walk : Walk Recording
dump_walk =
    record {
      Place = Moment;
      lines = dump_lines;
      place_of = moment_of;
      begins = Begins;
      text = dump_of;
      opening = λ file. [];
      refused = [];
      most_put = most_put;
    }
