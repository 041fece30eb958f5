-- How the lines that were taken advance a recording. Assumes nothing.
use Rattle.std.proofs.Common.{ℕ, ◌+◌, ◌-◌, ◌≤◌, ◌≡◌, refl, sym, ap, ◌∙◌, true, List, [], ◌++◌, length, le-ltb, arith}
use Rattle.std.specs.Prelude.{Some, None, min, take, drop}
use native.Mathlib.Nat.{min-le_right}
use lib.Seq.{take-set-lt}
use Rattle.words.specs.Word.{when◌then◌else◌}
use Rattle.rules.specs.Refusals.{most_motors, period_ok, table_refusal, table_after, part_after}
use Rattle.rules.specs.declared.Motor.{Motor}
use Rattle.rules.proofs.Tables.{length_after, length_part}
use Rattle.totals.specs.Running.{capped}
use Rattle.sheet.specs.declared.Request.{Request}
use Rattle.sheet.specs.declared.Request.TheVariants.{Motor as M, Input as I, Scan as S, Refused}
use Rattle.sheet.specs.Grammar.{next_at}
use Rattle.sheet.proofs.RequestLaws.{taken}
use Rattle.report.specs.Puts.{Puts}
use Rattle.report.specs.declared.page.Page.{Page}
use Rattle.report.proofs.PutLaws.{puts_none, puts_then}
use Rattle.vcd.specs.Text.{timed, changes_from}
use Rattle.interpreter.specs.State.{State, next_number, with_motor, with_words, with_word, scan_refusal, with_scan, refusal_for, changed, state_after, view_of, held_of}
use Rattle.interpreter.specs.Lines.{InputLines, InputRun, ReadyBench}
use Rattle.interpreter.specs.Lines.InputLines.{none as no_line, one_more}
use Rattle.interpreter.specs.declared.Bench.{Bench}
use Rattle.interpreter.specs.declared.lines.Inputs.{Inputs}
use Rattle.interpreter.proofs.ActLaws.{accepted as is-changed, input_there, used, take_used, in_use_again, scan_code, scan_refusal_lem, scan_motors}
use Rattle.interpreter.proofs.LineLaws.{onward, words_right}
use Rattle.interpreter.proofs.ScanLaws.{all_due, range_kept}
use Rattle.course.specs.Through.{Through}
use Rattle.course.specs.Through.Through.{none, accepted, refused, ended}
use Rattle.course.specs.Walk.{NoScan, Advance, Run}
use Rattle.course.proofs.Runs.{run_quietly}
use Rattle.dump.specs.Dump.{signals_of}
use Rattle.dump.specs.Advance.{Moment, moment, bench_at, moment_of, state_of, past_end, clock_after, moment_after, first_text, scan_text, added, dump_lines, most_put, dump_walk}
use Rattle.dump.specs.declared.Recording.{Recording}
use Rattle.dump.proofs.SignalLaws.{scan_length}

-- ---- totals bear on no moment

pub same_moment : (b : Bench) (at next time : ℕ) (r : Request) → moment_after next (bench_at at b time) r ≡ moment next (changed (view_of b) r) (clock_after time r)
unfolding changed with_motor with_word with_words with_scan
same_moment b at next time r = grind (arith)

pub same_refusal : (b : Bench) (at time : ℕ) (r : Request) → refusal_for (state_of (bench_at at b time)) r ≡ refusal_for (view_of b) r
unfolding refusal_for scan_refusal
same_refusal b at time r = grind (arith)

-- ---- one line, or the end

pub few : (b : Bench) → length b.motors ≡ 32 → length (take b.count b.motors) ≤ 32
unfolding most_motors
few b is = omega (arith, used b.count b.motors is)

-- an accepted line that is no scan adds nothing, and takes no time
quiet : (file : List ℕ) (s : Recording) (r : Request) (next : ℕ) → next_at file s.at ≡ Some (r, next) → refusal_for (view_of s.bench) r ≡ 0 → NoScan dump_walk file s
    → (added (moment_of s) (clock_after s.time r) r ≡ []) × (clock_after s.time r ≡ s.time)
unfolding added clock_after
quiet file s (M number ops1 ops2 w u) next at h n = (refl, refl)
quiet file s (I number word) next at h n = (refl, refl)
quiet file s (S period) next at h n = absurd (n period next at (same_refusal s.bench s.at s.time (S period) ∙ h))
quiet file s Refused next at h n = (refl, refl)

-- the dump ends, at the end of the file or at a refused line
module _ {file : List ℕ} {s t : Recording} {page after : Page} (put : Puts page (first_text s.bench.scans (moment_of s).motors) after)
    (past : moment_of t ≡ past_end file (moment_of s)) (short : length (first_text s.bench.scans (moment_of s).motors) ≤ most_put) where
  ends : Through dump_lines file (moment_of s) (first_text s.bench.scans (moment_of s).motors) (past_end file (moment_of s)) → s.at ≤ length file → Advance dump_walk file s page t after
  ends through l =
      record {
        piece = first_text s.bench.scans (moment_of s).motors;
        through = rw past through;
        put = put;
        short = short;
        further = omega (arith, ap (λ (p : Moment). p.at) past);
      }

  pub at_end : s.at ≤ length file → next_at file s.at ≡ None → Advance dump_walk file s page t after
  at_end l found = ends (ended none l found) l

  pub stops : {q : Request} {next : ℕ} → next_at file s.at ≡ Some (q, next) → (refusal_for (view_of s.bench) q ≡ 0 → ⊥) → Advance dump_walk file s page t after
  stops {q} {next} found h =
      let line = taken file s.at q next found in
      ends (refused none found (λ e. h (sym (same_refusal s.bench s.at s.time q) ∙ e))) (omega (arith, line.further, line.within))

-- a line that is accepted and is no scan
pub goes_on : {file : List ℕ} {s : Recording} {page : Page} {q : Request} {next : ℕ} (b : Bench) → next_at file s.at ≡ Some (q, next) → NoScan dump_walk file s → refusal_for (view_of s.bench) q ≡ 0
    → view_of b ≡ state_after (view_of s.bench) q → Advance dump_walk file s page (record { bench = b; at = next; time = s.time }) page
goes_on {file} {s} {q = q} {next} b found n h e =
    let c = quiet file s q next found h n in
    let m : moment_after next (moment_of s) q ≡ bench_at next b s.time =
    same_moment s.bench s.at next s.time q ∙ rw c.1 (ap (λ (u : State). moment next u s.time) (sym (e ∙ is-changed (view_of s.bench) q h))) in
    record {
      piece = [];
      through = rw (← m, ← c.0) (accepted none found (same_refusal s.bench s.at s.time q ∙ h));
      put = puts_none;
      short = omega arith;
      further = (taken file s.at q next found).further;
    }

-- ---- runs of I lines, which add nothing

inputs_through : {file words : List ℕ} {held at line : ℕ} {later : List ℕ} {here k : ℕ} (ms : List Motor) (scans time count : ℕ) → length ms ≡ held → min count most_motors ≡ held
    → InputLines file held words at line later here k
    → Through dump_lines file (record { at = at; motors = ms; words = take count words; scans = scans; time = time }) []
    (record { at = here; motors = ms; words = take count later; scans = scans; time = time })
unfolding refusal_for changed with_word with_words added clock_after
inputs_through ms scans time count e f no_line = none
inputs_through {held = held} ms scans time count e f (one_more {later} {number = number} {word} s found h) =
    let n = input_there held number word h in
    rw (take-set-lt count later (number - 1) word (omega (arith, n.0, n.1))) (accepted (inputs_through ms scans time count e f s) found (rw e h))

-- the recording after a run of I lines
abbrev pub after_inputs : Recording → Inputs → Recording
after_inputs s n =
    record {
      bench = record { motors = s.bench.motors; totals = s.bench.totals; words = n.words; count = s.bench.count; scans = s.bench.scans };
      at = n.at;
      time = s.time;
    }

pub inputs_ready : {file : List ℕ} (s : Recording) {line : ℕ} {i : Inputs} → ReadyBench s.bench → InputRun file (held_of s.bench) (record { words = s.bench.words; at = s.at; line = line }) i
    → ReadyBench (after_inputs s i).bench
inputs_ready s ready inputs = record { records = ready.records; words = words_right inputs.lines ready.words }

module _ {file : List ℕ} {s here : Recording} {page after : Page} {line : ℕ} where
  pub and_inputs : Run dump_walk file s page here after → (i : Inputs) → length here.bench.motors ≡ 32
      → InputRun file (held_of here.bench) (record { words = here.bench.words; at = here.at; line = line }) i → Run dump_walk file s page (after_inputs here i) after
  and_inputs run i is inputs =
      run_quietly run (inputs_through (moment_of here).motors here.bench.scans here.time here.bench.count (used here.bench.count here.bench.motors is) refl inputs.lines) (onward inputs.lines)

-- ---- an S line

-- of a bench that is ready every scan is accepted
module _ (b : Bench) (is : length b.motors ≡ 32) (js : length b.words ≡ 32) (ready : ReadyBench b) (period : ℕ) (ok : period_ok period ≡ true) where
  scan_due : refusal_for (view_of b) (S period) ≡ 0
  scan_due =
      sym (scan_refusal_lem b is js period)
      ∙ all_due b.motors b.words (min b.count most_motors) (min-le_right _ most_motors) is js ready.records ready.words period ok

  pub in_use_due : {held : ℕ} → held ≡ min b.count most_motors → table_refusal (take held b.motors) (take held b.words) period ≡ 0
  in_use_due e = scan_code b is js period e ∙ scan_due

-- the recording after it, whose motors are these then
abbrev pub after_scan : Recording → List Motor → ℕ → ℕ → Recording
after_scan s ms period next =
    record {
      bench = record { motors = ms; totals = s.bench.totals; words = s.bench.words; count = s.bench.count; scans = next_number s.bench.scans };
      at = next;
      time = capped (s.time + period);
    }

-- the motors in use are scanned as a table, and those past them stay
pub in_use_scanned : (b : Bench) (period : ℕ) {held : ℕ} {ms : List Motor} → held ≡ min b.count most_motors
    → ms ≡ table_after (take held b.motors) (take held b.words) period → ms ++ drop held b.motors ≡ part_after b.motors (min b.count most_motors) b.words period
unfolding part_after when◌then◌else◌
in_use_scanned b period e f = rw (f, e, le-ltb most_motors (min b.count most_motors) (min-le_right _ most_motors))

-- what is put of them is put of the motors up to the bench's count
pub in_use_put : (b : Bench) → length b.motors ≡ 32 → (period : ℕ) {held : ℕ} {ms : List Motor} → held ≡ min b.count most_motors
    → ms ≡ table_after (take held b.motors) (take held b.words) period → {time sum : ℕ} {page mid after : Page}
    → Puts page (first_text b.scans (take b.count b.motors)) mid → time ≡ sum → Puts mid (timed time (changes_from 0 (signals_of (take held b.motors)) (signals_of ms))) after
    → Puts page (scan_text b.scans sum (take b.count b.motors) (take b.count (ms ++ drop held b.motors))) after
unfolding scan_text
in_use_put b is period {held} {ms} e f p t k =
    let again = in_use_again b.count b.motors is ms e (ap length f ∙ length_after (take held b.motors) (take held b.words) period) in
    rw (again, ← t) (puts_then p (rw (e, ← take_used b.count b.motors is) at k))

module _ (s : Recording) (is : length s.bench.motors ≡ 32) (period : ℕ) {ms : List Motor}
    (e : ms ≡ part_after s.bench.motors (min s.bench.count most_motors) s.bench.words period) where
  pub scanned_length : length ms ≡ 32
  scanned_length = ap length e ∙ length_part s.bench.motors _ s.bench.words period ∙ is

  module _ (js : length s.bench.words ≡ 32) (next : ℕ) where
    scan_moment : moment_after next (moment_of s) (S period) ≡ moment_of (after_scan s ms period next)
    unfolding changed with_scan clock_after
    scan_moment = rw (e, scan_motors s.bench is js period)

    scan_added : added (moment_of s) (clock_after s.time (S period)) (S period) ≡ scan_text s.bench.scans (capped (s.time + period)) (moment_of s).motors (take s.bench.count ms)
    unfolding added changed with_scan clock_after
    scan_added = rw (e, scan_motors s.bench is js period)

    module _ (ready : ReadyBench s.bench) (ok : period_ok period ≡ true) where
      pub scanned_ready : ReadyBench (after_scan s ms period next).bench
      scanned_ready =
          record {
            records = rw e (range_kept s.bench.motors s.bench.words (min s.bench.count most_motors) (min-le_right _ most_motors) is js ready.records ready.words period ok);
            words = ready.words;
          }

      pub one_scan : {file : List ℕ} {page after : Page} → next_at file s.at ≡ Some (S period, next)
          → Puts page (scan_text s.bench.scans (capped (s.time + period)) (moment_of s).motors (take s.bench.count ms)) after
          → Advance dump_walk file s page (after_scan s ms period next) after
      one_scan {file} found put =
          record {
            piece = scan_text s.bench.scans (capped (s.time + period)) (moment_of s).motors (take s.bench.count ms);
            through = rw (← scan_added, ← scan_moment) (accepted none found (same_refusal s.bench s.at s.time (S period) ∙ scan_due s.bench is js ready period ok));
            put = put;
            short = scan_length s.bench.scans _ _ _ (few s.bench is);
            further = (taken file s.at (S period) next found).further;
          }
