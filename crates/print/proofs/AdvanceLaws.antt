-- What a line does to a sitting, and what runs of lines do. Assumes nothing.
use Prim.Native.Nat.{ℕ, ◌+◌, ◌-◌, ◌≤◌, min}
use mathlib.Core.Path.{◌≡◌, refl, sym, ap, ◌∙◌}
use mathlib.Core.List.{List, []}
use native.Mathlib.Omega.{arith}
use lib.ListN.{length, take, set}
use lib.Seq.{take-set-lt}
use Rattle.rules.specs.Refusals.{most_motors, part_refusal, part_after}
use Rattle.rules.specs.declared.Motor.{Motor}
use Rattle.rules.proofs.Tables.{length_part}
use Rattle.totals.specs.declared.Totals.{Totals}
use Rattle.totals.specs.Running.{all_totals}
use Rattle.sheet.specs.declared.Request.{Request}
use Rattle.sheet.specs.declared.Request.TheVariants.{Motor as M, Input as I, Scan as S, Refused}
use Rattle.std.specs.Prelude.{Some, None}
use Rattle.sheet.specs.Grammar.{next_at}
use Rattle.sheet.proofs.RequestLaws.{taken as Taken-step}
use Rattle.report.specs.Puts.{Puts}
use Rattle.report.specs.declared.page.Page.{Page}
use Rattle.report.specs.Print.{refusal_of}
use Rattle.report.proofs.PutLaws.{puts_none}
use Rattle.report.proofs.PrintLaws.{refusal_length}
use Rattle.interpreter.specs.State.{State, next_number, with_words, with_word, refusal_for, changed, state_after, view_of, held_of}
use Rattle.interpreter.specs.Lines.{InputLines, InputRun}
use Rattle.interpreter.specs.Lines.InputLines.{none as no_line, one_more}
use Rattle.interpreter.specs.declared.Bench.{Bench}
use Rattle.interpreter.specs.declared.lines.Inputs.{Inputs}
use Rattle.interpreter.proofs.ActLaws.{accepted as is-changed, input_there, used, scan_refusal_lem, scanned_state}
use Rattle.interpreter.proofs.LineLaws.{same_size, words_right, onward, inside}
use Rattle.course.specs.Through.{Through}
use Rattle.course.specs.Through.Through.{none, accepted, refused, ended}
use Rattle.course.specs.Walk.{NoScan, Room, Advance, Run as Lines-run}
use Rattle.course.proofs.Runs.{run_quietly, run_and_line}
use Rattle.print.specs.Print.{rows_of, answer_of}
use Rattle.print.specs.Advance.{print_lines, at_end, most_put}
use Rattle.print.specs.Runs.{Run}
use Rattle.print.specs.Course.{print_walk}
use Rattle.print.specs.declared.Sitting.{Sitting}
use Rattle.print.proofs.PrintLaws.{answer_length, end_length}

-- a bench at a place of a file
abbrev pub sitting : Bench → ℕ → ℕ → Sitting
sitting bench at line = record { bench = bench; at = at; line = line }

-- what a run of I lines goes by
abbrev pub inputs_of : Sitting → Inputs
inputs_of s = record { words = s.bench.words; at = s.at; line = s.line }

module _ {file : List ℕ} {s : Sitting} {page after : Page} where
  -- no line is left
  pub at_end_lem : s.at ≤ length file → next_at file s.at ≡ None → length s.bench.motors ≡ 32 → Puts page (at_end (view_of s.bench)) after
      → Advance print_walk file s page (sitting s.bench (length file + 1) s.line) after
  unfolding most_motors
  at_end_lem l f is p =
      record {
        piece = at_end (view_of s.bench);
        through = ended none l f;
        put = p;
        short = end_length (view_of s.bench) (omega (arith, used s.bench.count s.bench.motors is));
        further = omega arith;
      }

  module _ {r : Request} {next : ℕ} (found : next_at file s.at ≡ Some (r, next)) where
    -- a request that is refused
    pub stops : {refusal : ℕ} → refusal ≡ refusal_for (view_of s.bench) r → (refusal_for (view_of s.bench) r ≡ 0 → ⊥) → Puts page (refusal_of s.line refusal) after
        → Advance print_walk file s page (sitting s.bench (length file + 1) s.line) after
    stops {refusal} code h p =
        record {
          piece = refusal_of s.line refusal;
          through = rw code (refused none found h);
          put = p;
          short = omega (arith, refusal_length s.line refusal);
          further = let line = Taken-step file s.at r next found in omega (arith, line.further, line.within);
        }

    -- a request that is accepted
    pub goes_on : (b : Bench) → view_of b ≡ state_after (view_of s.bench) r → refusal_for (view_of s.bench) r ≡ 0 → length (answer_of (view_of b) r) ≤ most_put
        → Puts page (answer_of (view_of b) r) after → Advance print_walk file s page (sitting b next (next_number s.line)) after
    goes_on b state ok short p =
        let q = state ∙ is-changed (view_of s.bench) r ok in
        record { piece = answer_of (view_of b) r; through = rw q (accepted none found ok); put = p; short = short; further = (Taken-step file s.at r next found).further }

-- one that is no scan prints nothing
pub goes_on_quietly : {file : List ℕ} {s : Sitting} {page : Page} {r : Request} {next : ℕ} → next_at file s.at ≡ Some (r, next) → NoScan print_walk file s
    → (b : Bench) → view_of b ≡ state_after (view_of s.bench) r → refusal_for (view_of s.bench) r ≡ 0 → Advance print_walk file s page (sitting b next (next_number s.line)) page
unfolding answer_of
goes_on_quietly {file} {s} {page} {r} {next} found no_scan b state ok =
    let none : answer_of (view_of b) r ≡ [] = no_rows r found ok in
    goes_on found b state ok (rw none (omega arith)) (rw none puts_none)
  where
    no_rows : (q : Request) → next_at file s.at ≡ Some (q, next) → refusal_for (view_of s.bench) q ≡ 0 → answer_of (view_of b) q ≡ []
    no_rows (M number ops1 ops2 w u) at e = refl
    no_rows (I number word) at e = refl
    no_rows (S period) at e = absurd (no_scan period next at e)
    no_rows Refused at e = refl

-- ---- runs of I lines, which print nothing

word_set : (t : State) (count number word : ℕ) (words : List ℕ) → 1 ≤ number → number ≤ min count most_motors
    → changed (with_words t (take count words)) (I number word) ≡ with_words t (take count (set words (number - 1) word))
unfolding changed with_word with_words
word_set t count number word words h l = rw (take-set-lt count words (number - 1) word (omega arith))

inputs_through : {held at line : ℕ} {file words later : List ℕ} {here k : ℕ} (t : State) (count : ℕ) → length t.motors ≡ held → min count most_motors ≡ held
    → InputLines file held words at line later here k
    → Through print_lines file (record { at = at; state = with_words t (take count words); line = line }) [] (record { at = here; state = with_words t (take count later); line = k })
unfolding refusal_for with_words answer_of
inputs_through t count e f no_line = none
inputs_through {held = held} t count e f (one_more {later} {number = number} {word} s found h) =
    let n = input_there held number word h in
    rw (← word_set t count number word later n.0 (omega (arith, n.1))) (accepted (inputs_through t count e f s) found (rw e h))

-- what a run of I lines does to a print
pub run_of_inputs : (file words : List ℕ) (held at line : ℕ) (i : Inputs) → InputRun file held (record { words = words; at = at; line = line }) i → Run file held words at line i
run_of_inputs file words held at line i r =
    record {
      through = λ t count e f. inputs_through t count e f r.lines;
      size = same_size r.lines;
      right = words_right r.lines;
      onward = onward r.lines;
      within = inside r.lines;
    }

-- ---- runs of I and S lines

-- the bench after a run of I lines
abbrev pub with_inputs : Bench → List ℕ → Bench
with_inputs b words = record { motors = b.motors; totals = b.totals; words = words; count = b.count; scans = b.scans }

module _ {file : List ℕ} {s here : Sitting} {page after : Page} (r : Lines-run print_walk file s page here after) (i : Inputs) (is : length here.bench.motors ≡ 32)
    (run : InputRun file (held_of here.bench) (inputs_of here) i) where
  -- a run of I lines more
  pub run_inputs : Lines-run print_walk file s page (sitting (with_inputs here.bench i.words) i.at i.line) after
  unfolding with_words
  run_inputs = run_quietly r (inputs_through (view_of here.bench) here.bench.count (used here.bench.count here.bench.motors is) refl run.lines) (onward run.lines)

  -- a run of I lines and an S line more: `records` are the motors after its scan, and `totals` their totals
  pub run_scan : {period next : ℕ} {records : List Motor} {totals : List Totals} {later : Page} → length here.bench.totals ≡ 32 → length here.bench.words ≡ 32
      → next_at file i.at ≡ Some (S period, next)
      → part_refusal here.bench.motors (min here.bench.count most_motors) i.words period ≡ 0
      → records ≡ part_after here.bench.motors (min here.bench.count most_motors) i.words period
      → totals ≡ all_totals here.bench.totals here.bench.motors (take (min here.bench.count most_motors) i.words) period → Room print_walk after
      → Puts after (rows_of (next_number here.bench.scans) 1 (take here.bench.count records)) later
      → Lines-run print_walk file s page
      (sitting (record { motors = records; totals = totals; words = i.words; count = here.bench.count; scans = next_number here.bench.scans }) next (next_number i.line)) later
  unfolding answer_of most_motors
  run_scan {period} {next} {records} {totals} ts js found ok f g room p =
      let b = with_inputs here.bench i.words in
      let js₁ = same_size run.lines ∙ js in
      let later : Bench = record { motors = records; totals = totals; words = i.words; count = here.bench.count; scans = next_number here.bench.scans } in
      let as_many = ap length f ∙ length_part here.bench.motors (min here.bench.count most_motors) i.words period ∙ is in
      run_and_line run_inputs room
      (goes_on {s = sitting b i.at i.line} found later (scanned_state b is js₁ ts period ok f g) (sym (scan_refusal_lem b is js₁ period) ∙ ok)
      (answer_length (view_of later) (S period) (omega (arith, used here.bench.count records as_many))) p)
