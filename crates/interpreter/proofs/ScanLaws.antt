-- A scan motor by motor: each motor in use is accepted by itself exactly where the table of them is. Assumes nothing.
use Rattle.std.specs.List.{list_all}
use Rattle.std.proofs.Common.{ℕ, ◌<◌, ◌≤◌, ◌≡◌, refl, sym, ◌∙◌, Bool, true, false, List, arith, length, get_or, take, leb-true}
use Rattle.std.proofs.lemmas.Bool.Decides.{nat_tests}
use Rattle.std.proofs.lemmas.Grind.{common_steps}
use Rattle.std.proofs.lemmas.Bool.{false≢true}
use Rattle.std.specs.Prelude.{Some, None, Result}
use Rattle.std.specs.Result.{is_ok}
use Rattle.words.specs.Word.{when◌then◌else◌}
use Rattle.rules.specs.declared.Motor.{Motor}
use Rattle.rules.specs.Steps.{reading, step}
use Rattle.rules.specs.Refusals.{most_motors, in_range, word_ok, period_ok, misfit, one_refusal, table_refusal, part_refusal, part_after}
use Rattle.refusals.specs.declared.Refusal.{Refusal}
use Rattle.refusals.specs.Numbers.{code_of}
use Rattle.refusals.proofs.Numbers.{is_ok-from_zero}
use Rattle.rules.proofs.Range.{one_in_limits}
use Rattle.rules.proofs.Tables.{list_all_each, one_accepts, accepted, part_front}
use Rattle.sheet.specs.Grammar.{next_at}
use Rattle.sheet.specs.declared.Request.TheVariants.{Scan as S}
use Rattle.interpreter.specs.State.{State, scan_refusal, refusal_for, view_of, held_of}
use Rattle.interpreter.specs.Lines.{FoundScan, ReadyBench}
use Rattle.interpreter.specs.declared.Bench.{Bench}
use Rattle.interpreter.proofs.ActLaws.{in_array, scan_code}
use Rattle.interpreter.proofs.Kept.{after_in_range}

-- ---- the motors in use

module _ (motors : List Motor) (words : List ℕ) (held : ℕ) (few : held ≤ most_motors) (is : length motors ≡ 32) (js : length words ≡ 32) where
  module _ (records : list_all in_range (take held motors) ≡ true) (right : list_all word_ok (take held words) ≡ true) (period : ℕ) (time : period_ok period ≡ true) where
    -- each is accepted by itself
    pub due : (i : ℕ) (d : Motor) → i < held → one_refusal (get_or motors i d) (get_or words i 0) period ≡ 0
    unfolding most_motors
    due i d l = grind (arith, common_steps, one_accepts, list_all_each)

    -- and so is the table of them
    pub all_due : part_refusal motors held words period ≡ 0
    unfolding part_refusal table_refusal misfit most_motors when◌then◌else◌
    all_due = grind (arith, nat_tests, common_steps)

    pub range_kept : list_all in_range (take held (part_after motors held words period)) ≡ true
    range_kept = rw (part_front motors held words period few (in_array held motors is few)) (after_in_range (take held motors) (take held words) period records right)

-- ---- a bench of which a scan is accepted

-- where one of period 1 is, records and words are in range
pub ready_if : (b : Bench) → length b.motors ≡ 32 → length b.words ≡ 32 → refusal_for (view_of b) (S 1) ≡ 0 → ReadyBench b
ready_if b is js h =
    let a = accepted (take (held_of b) b.motors) (take (held_of b) b.words) 1 (scan_code b is js 1 refl ∙ h) in
    record { records = a.records; words = a.words }

-- and where it is not, none is
pub unready : (t : State) (period : ℕ) → (refusal_for t (S 1) ≡ 0 → ⊥) → refusal_for t (S period) ≡ 0 → ⊥
unfolding refusal_for scan_refusal table_refusal period_ok when◌then◌else◌
unready t period n h = grind (arith, nat_tests)

-- told by whether the answer for that period is Ok
pub refused_all : (t : State) (r : Result Unit Refusal) {b : Bool} → code_of r ≡ refusal_for t (S 1) → b ≡ is_ok r → b ≡ false
    → (period : ℕ) → refusal_for t (S period) ≡ 0 → ⊥
refused_all t r code e f period = unready t period (λ z. false≢true (sym f ∙ e ∙ is_ok-from_zero r (code ∙ z)))

-- none is with a period out of range
pub untimely : (t : State) (period : ℕ) → period_ok period ≡ false → refusal_for t (S period) ≡ 0 → ⊥
unfolding refusal_for scan_refusal table_refusal when◌then◌else◌
untimely t period e h = grind (arith, nat_tests)

-- and so none is by a line that `next_scan` passes over
pub no_scan : (file : List ℕ) (at : ℕ) → FoundScan file at None → (t : State) (period next : ℕ) → next_at file at ≡ Some (S period, next) → refusal_for t (S period) ≡ 0 → ⊥
no_scan file at missed t period next found = untimely t period (missed period next found)
