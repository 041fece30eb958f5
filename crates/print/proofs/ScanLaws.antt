-- A scan taken motor by motor, each printed as it is scanned: how that comes to the scan of the table. Assumes nothing.
use Rattle.std.specs.List.{list_all}
use Prim.Native.Nat.{ℕ, ◌+◌, ◌<◌, ◌≤◌, min}
use mathlib.Core.Path.{◌≡◌, refl, sym, ap, ◌∙◌}
use mathlib.Core.Bool.{true}
use mathlib.Core.List.{List}
use native.Mathlib.Nat.{min-le_right}
use native.Mathlib.Omega.{arith}
use native.Mathlib.Numerals.{add-one}
use lib.ListN.{length, get_or, set, take, length-set}
use lib.Seq.{set-get_or, take-set-le}
use borrow.Author.Tests.{ne_eqb}
use Rattle.words.specs.Word.{when◌then◌else◌}
use Rattle.rules.specs.declared.Motor.{Motor}
use Rattle.rules.specs.declared.Status.{Status}
use Rattle.rules.specs.Record.{on, with_status}
use Rattle.rules.specs.declared.Reading.{Reading}
use Rattle.rules.specs.declared.Reading.TheVariants.{Off, On, BothOpen, BothClosed}
use Rattle.rules.specs.Steps.{reading, position_read, step}
use Rattle.rules.specs.Resting.{rests, rested_status}
use Rattle.rules.specs.Refusals.{most_motors, word_ok, period_ok, one_refusal, one_after, step_all, part_refusal, part_after}
use Rattle.rules.proofs.Tables.{one_accepted, none_stepped, not_yet, one_more, length_step_all, part_stepped}
use Rattle.words.proofs.Laws.{and_true}
use Rattle.totals.specs.declared.Totals.{Totals}
use Rattle.totals.specs.Running.{on_after, totals_after, scan_totals, all_totals}
use Rattle.totals.proofs.Lists.{none_taken, length_totals, one_counted}
use Rattle.totals.proofs.AtRest.{with_on, rest_totals}
use Rattle.std.specs.Prelude.{Some}
use Rattle.sheet.specs.declared.Request.TheVariants.{Scan as S}
use Rattle.report.specs.Puts.{Puts}
use Rattle.report.specs.declared.page.Page.{Page}
use Rattle.report.specs.Print.{row_of}
use Rattle.report.proofs.PutLaws.{puts_none, puts_then}
use Rattle.interpreter.specs.State.{next_number, held_of}
use Rattle.interpreter.specs.Lines.{InputRun, ReadyBench}
use Rattle.print.specs.Print.{motor_row, rows_of}
use Rattle.course.specs.Walk.{Room, Run}
use Rattle.print.specs.Course.{print_walk}
use Rattle.print.specs.declared.Sitting.{Sitting}
use Rattle.interpreter.specs.declared.lines.Inputs.{Inputs}
use Rattle.sheet.specs.Grammar.{next_at}
use Rattle.interpreter.proofs.ActLaws.{take_used}
use Rattle.print.proofs.PrintLaws.{rows_more}
use Rattle.rules.proofs.Resting.{resting}
use Rattle.interpreter.proofs.ScanLaws.{due, all_due, range_kept}
use Rattle.interpreter.proofs.LineLaws.{words_right, same_size as words_size}
use Rattle.print.proofs.AdvanceLaws.{sitting, inputs_of, run_scan}

-- ---- one motor

-- no other reading gives the position On
not_on : (r : Reading) → (r ≡ On → ⊥) → position_read r ≡ on → ⊥
unfolding position_read
not_on Off other e = absurd (omega (arith, e))
not_on On other e = other refl
not_on BothOpen other e = absurd (omega (arith, e))
not_on BothClosed other e = absurd (omega (arith, e))

-- lists with the motor and its totals after its scan, at rest or not
module _ (ms : List Motor) (ts : List Totals) (i : ℕ) (m : Motor) (t : Totals) (word period : ℕ) (ok : one_refusal m word period ≡ 0) {r : Reading} (read : r ≡ reading m.settings word) where
  module _ (e : rests m.settings m.status m.output word ≡ true) where
    pub set_rested : {v : Status} → v ≡ rested_status m.settings m.status word r → set ms i (with_status m v) ≡ set ms i (step m word period)
    set_rested f = ap (set ms i) (ap (with_status m) (rw read at f) ∙ sym (resting m word period e))

    pub set_rested_totals : {time : ℕ} → time ≡ on_after t.on r period → set ts i (with_on t time) ≡ set ts i (scan_totals t m word period)
    unfolding scan_totals rests with_status
    set_rested_totals f =
        ap (set ts i) (rw (resting m word period e, f, read) (sym (rest_totals t m word period (reading m.settings word) (and_true _ _ (and_true _ _ e).0).0)))

    -- without a sure On reading they stay
    pub rested_totals_kept : (d : Totals) → (r ≡ On → ⊥) → t ≡ get_or ts i d → ts ≡ set ts i (scan_totals t m word period)
    unfolding on_after when◌then◌else◌
    rested_totals_kept d other same = sym (set-get_or ts i d) ∙ ap (set ts i) (sym same) ∙ set_rested_totals (rw (ne_eqb (position_read r) on (not_on r other)))

  module _ {n : Motor} (f : n ≡ one_after m word period) where
    pub set_scanned : set ms i n ≡ set ms i (step m word period)
    set_scanned = ap (set ms i) (f ∙ one_accepted m word period ok)

    pub set_scanned_totals : {u : Totals} → u ≡ totals_after t m n.status r period → set ts i u ≡ set ts i (scan_totals t m word period)
    unfolding scan_totals
    set_scanned_totals g = ap (set ts i) (rw (f, one_accepted m word period ok, read) at g)

-- ---- the first i motors are scanned, counted and printed

pub record Scanning (motors₀ : List Motor) (totals₀ : List Totals) (words : List ℕ) (period scans : ℕ) (page₀ : Page) (motors : List Motor) (totals : List Totals) (page : Page) (i : ℕ) : Type 0 where
  pub records : motors ≡ step_all motors₀ (take i words) period
  pub counted : totals ≡ all_totals totals₀ motors₀ (take i words) period
  pub put : Puts page₀ (rows_of scans 1 (take i motors)) page

module _ {motors₀ : List Motor} {totals₀ : List Totals} {words : List ℕ} {period scans : ℕ} {page₀ : Page} where
  pub scanning_none : Scanning motors₀ totals₀ words period scans page₀ motors₀ totals₀ page₀ 0
  unfolding rows_of
  scanning_none = record { records = sym (none_stepped motors₀ period); counted = sym (none_taken totals₀ motors₀ period); put = puts_none }

  module _ {motors : List Motor} {totals : List Totals} {page : Page} {i : ℕ} (s : Scanning motors₀ totals₀ words period scans page₀ motors totals page i) where
    -- the next one stands as it was
    pub waiting : (d : Motor) → get_or motors i d ≡ get_or motors₀ i d
    waiting d = rw s.records (not_yet motors₀ words period i d)

    same_size : length motors ≡ length motors₀
    same_size = rw s.records (length_step_all motors₀ (take i words) period)

    pub same_totals : length totals ≡ length totals₀
    same_totals = rw s.counted (length_totals totals₀ motors₀ (take i words) period)

    -- it is scanned, counted and printed
    pub scanning_more : (d : Motor) (z : Totals) {later : List Motor} {more : List Totals} {after : Page} → i < length motors₀ → i < length totals₀ → i < length words
        → later ≡ set motors i (step (get_or motors i d) (get_or words i 0) period)
        → more ≡ set totals i (scan_totals (get_or totals i z) (get_or motors i d) (get_or words i 0) period)
        → Puts page (row_of (motor_row scans (i + 1) (get_or later i d))) after
        → Scanning motors₀ totals₀ words period scans page₀ later more after (i + 1)
    scanning_more d z {later} l k m e f p =
        record {
          records = e ∙ rw (waiting d, s.records, add-one i) (one_more motors₀ words period i d l m);
          counted = f ∙ rw (waiting d) (one_counted totals₀ motors₀ words period i z d k l m s.counted);
          put =
              let size : i < length later = omega (arith, ap length e, length-set motors i (step (get_or motors i d) (get_or words i 0) period), same_size) in
              let front : take i later ≡ take i motors = ap (take i) e ∙ take-set-le i motors i _ (omega arith) in
              rw (rows_more scans i later d size, front) (puts_then s.put p);
        }

    -- all are
    scanned : {held : ℕ} → i ≡ held → part_refusal motors₀ held words period ≡ 0 → motors ≡ part_after motors₀ held words period
    scanned {held} e h = s.records ∙ ap (λ (k : ℕ). step_all motors₀ (take k words) period) e ∙ sym (part_stepped motors₀ held words period h)

-- ---- a run of I lines and an S line, whose motors are all scanned and printed

module _ {file : List ℕ} {s here : Sitting} {page after : Page} (r : Run print_walk file s page here after) (i : Inputs) (is : length here.bench.motors ≡ 32) (ts : length here.bench.totals ≡ 32) (js : length here.bench.words ≡ 32) (ready : ReadyBench here.bench) (run : InputRun file (held_of here.bench) (inputs_of here) i) where
  abbrev held : ℕ
  held = min here.bench.count most_motors

  few : held ≤ most_motors
  few = min-le_right here.bench.count most_motors

  js₁ : length i.words ≡ 32
  js₁ = words_size run.lines ∙ js

  right : list_all word_ok (take held i.words) ≡ true
  right = words_right run.lines ready.words

  module _ (period next : ℕ) (found : next_at file i.at ≡ Some (S period, next)) (time : period_ok period ≡ true) where
    -- each motor in use is accepted at its turn
    pub turn_due : {scans k : ℕ} {from to : Page} {motors : List Motor} {totals : List Totals} → Scanning here.bench.motors here.bench.totals i.words period scans from motors totals to k
        → (d : Motor) → k < held_of here.bench → one_refusal (get_or motors k d) (get_or i.words k 0) period ≡ 0
    turn_due {k = k} scan d l = rw (waiting scan d) (due here.bench.motors i.words held few is js₁ ready.records right period time k d l)

    module _ {motors : List Motor} {totals : List Totals} {later : Page} {k : ℕ} (all : k ≡ min here.bench.count most_motors) (scan : Scanning here.bench.motors here.bench.totals i.words period (next_number here.bench.scans) after motors totals later k) where
      abbrev pub after_scan : Sitting
      after_scan = sitting (record { motors = motors; totals = totals; words = i.words; count = here.bench.count; scans = next_number here.bench.scans }) next (next_number i.line)

      accepted_scan : part_refusal here.bench.motors held i.words period ≡ 0
      accepted_scan = all_due here.bench.motors i.words held few is js₁ ready.records right period time

      all_scanned : motors ≡ part_after here.bench.motors held i.words period
      all_scanned = scanned scan all accepted_scan

      all_counted : totals ≡ all_totals here.bench.totals here.bench.motors (take held i.words) period
      all_counted = scan.counted ∙ ap (λ (k : ℕ). all_totals here.bench.totals here.bench.motors (take k i.words) period) all

      size : length motors ≡ 32
      size = same_size scan ∙ is

      pub line_scanned : Room print_walk after
          → (length motors ≡ 32) × (length totals ≡ 32) × (length i.words ≡ 32) × ReadyBench after_scan.bench × Run print_walk file s page after_scan later
      line_scanned room = (
        size,
        same_totals scan ∙ ts,
        js₁,
        record { records = rw all_scanned (range_kept here.bench.motors i.words held few is js₁ ready.records right period time); words = right },
        run_scan r i is run ts js found accepted_scan all_scanned all_counted room (rw (take_used here.bench.count motors size, ← all) scan.put),
      )
