-- From an empty bench on, through any requests, the table's scan has nothing to refuse but the period: the order of S is 5, 2.
-- Assumes nothing.
use Rattle.std.proofs.Common.{◌≡◌, ◌∙◌, ℕ, ◌-◌, ◌≤◌, Bool, true, false, List, [], ◌∷◌, eqb, length, refl, arith, length-append, set, length-set, eqb-true}
use Rattle.std.specs.List.{list_all}
use Rattle.std.proofs.lemmas.List.Elements.{All-set}
use Rattle.std.proofs.lemmas.List.Folds.{list_all-append}
use Rattle.std.proofs.lemmas.Bool.Decides.{nat_tests}
use Rattle.std.proofs.lemmas.List.Sums.{AllPass-from_list_all, list_all-from_AllPass}
use Rattle.words.specs.Word.{when◌then◌else◌}
use Rattle.rules.specs.declared.Motor.{Motor}
use Rattle.rules.specs.declared.Settings.{Settings}
use Rattle.rules.specs.Refusals.{most_motors, settings_in_range, in_range, period_ok, word_ok, misfit, table_refusal, step_all, table_after}
use Rattle.rules.proofs.Range.{range_kept, fresh_in_range}
use Rattle.words.proofs.Laws.{and_true, either}
use Rattle.rules.proofs.Tables.{length_after}
use Rattle.sheet.specs.declared.Request.{Request}
use Rattle.sheet.specs.declared.Request.TheVariants.{Motor as M, Input as I, Scan as S, Refused}
use Rattle.interpreter.specs.State.{State, empty_state, motor_refusal, with_motor, input_refusal, with_words, with_word, scan_refusal, with_scan, refusal_for, changed, state_after, states_after}
use Rattle.interpreter.proofs.ActLaws.{motor_room}

-- ---- a test that holds of all elements

pub all_set : {A : Type 0} (test : A → Bool) (l : List A) (i : ℕ) (x : A) → list_all test l ≡ true → test x ≡ true → list_all test (set l i x) ≡ true
all_set test l i x e f = list_all-from_AllPass test (set l i x) (All-set (λ y. test y ≡ true) l i x f (AllPass-from_list_all test l e))

pub steps_in_range : (ms : List Motor) (ws : List ℕ) (period : ℕ) → list_all in_range ms ≡ true → list_all word_ok ws ≡ true → list_all in_range (step_all ms ws period) ≡ true
unfolding step_all
steps_in_range [] ws period e f = refl
steps_in_range (m ∷ ms) [] period e f = e
steps_in_range (m ∷ ms) (w ∷ ws) period e f =
    let a = and_true (in_range m) (list_all in_range ms) e in
    let b = and_true (word_ok w) (list_all word_ok ws) f in
    rw (range_kept m w period a.0 b.0, steps_in_range ms ws period a.1 b.1) refl

pub after_in_range : (ms : List Motor) (ws : List ℕ) (period : ℕ) → list_all in_range ms ≡ true → list_all word_ok ws ≡ true → list_all in_range (table_after ms ws period) ≡ true
unfolding table_after
after_in_range ms ws period e f = either (λ (ns : List Motor). list_all in_range ns ≡ true) _ (steps_in_range ms ws period e f) e

-- ---- what every request keeps

pub record Sound (t : State) : Type 0 where
  pub lengths : length t.motors ≡ length t.words
  pub room : length t.motors ≤ most_motors
  pub records : list_all in_range t.motors ≡ true
  pub words : list_all word_ok t.words ≡ true

pub sound_empty : Sound empty_state
unfolding empty_state most_motors
sound_empty = record { lengths = refl; room = omega arith; records = refl; words = refl }

settings_right : (held scans number : ℕ) (s : Settings) → motor_refusal held scans number s ≡ 0 → settings_in_range s ≡ true
unfolding motor_refusal when◌then◌else◌
settings_right held scans number s h = grind (arith, nat_tests)

pub word_right : (held number word : ℕ) → input_refusal held number word ≡ 0 → word_ok word ≡ true
unfolding input_refusal when◌then◌else◌
word_right held number word h = grind (arith, nat_tests)

sound_motor : (t : State) (number : ℕ) (s : Settings) → Sound t → motor_refusal (length t.motors) t.scans number s ≡ 0 → Sound (with_motor t s)
unfolding with_motor word_ok
sound_motor t number s h e =
    record {
      lengths = grind (arith, length-append, h.lengths);
      room = grind (arith, length-append, motor_room);
      records = grind (arith, nat_tests, list_all-append, fresh_in_range, settings_right, h.records);
      words = grind (arith, nat_tests, list_all-append, h.words);
    }

sound_word : (t : State) (number word : ℕ) → Sound t → input_refusal (length t.motors) number word ≡ 0 → Sound (with_word t number word)
unfolding with_word with_words
sound_word t number word h e =
    record {
      lengths = grind (arith, length-set {A = ℕ}, h.lengths);
      room = h.room;
      records = h.records;
      words = all_set word_ok t.words (number - 1) word h.words (word_right _ _ _ e);
    }

sound_scan : (t : State) (period : ℕ) → Sound t → Sound (with_scan t period)
unfolding with_scan
sound_scan t period h =
    record {
      lengths = length_after t.motors t.words period ∙ h.lengths;
      room = grind (arith, length_after, h.room);
      records = after_in_range t.motors t.words period h.records h.words;
      words = h.words;
    }

pub sound_changed : (t : State) (r : Request) → Sound t → refusal_for t r ≡ 0 → Sound (changed t r)
unfolding refusal_for changed
sound_changed t (M number ops1 ops2 w u) h e = sound_motor t number _ h e
sound_changed t (I number word) h e = sound_word t number word h e
sound_changed t (S period) h e = sound_scan t period h
sound_changed t Refused h e = h

pub sound_after : (t : State) (r : Request) → Sound t → Sound (state_after t r)
unfolding state_after when◌then◌else◌
sound_after t r h = elim (eqb (refusal_for t r) 0) as (λ b. eqb (refusal_for t r) 0 ≡ b → Sound (when b then changed t r else t)) [
  | true ↦ λ e. sound_changed t r h (eqb-true _ _ e)
  | false ↦ λ e. h
] refl

pub sound_through : (t : State) (rs : List Request) → Sound t → Sound (states_after t rs)
unfolding states_after
sound_through t [] h = h
sound_through t (r ∷ rs) h = sound_through (state_after t r) rs (sound_after t r h)

-- ---- so that only the period is left to refuse

scan_by_period : (t : State) (period : ℕ) → Sound t → scan_refusal t period ≡ (when period_ok period then 0 else 2)
unfolding scan_refusal table_refusal misfit when◌then◌else◌
scan_by_period t period h = grind (arith, nat_tests, h.lengths, h.room, h.records, h.words)

-- S is refused by 2, exactly where the period is outside 1 to 10,000, or not at all
pub scan_refused_by_2 : (rs : List Request) (period : ℕ) → refusal_for (states_after empty_state rs) (S period) ≡ (when period_ok period then 0 else 2)
unfolding refusal_for
scan_refused_by_2 rs period = scan_by_period (states_after empty_state rs) period (sound_through empty_state rs sound_empty)
