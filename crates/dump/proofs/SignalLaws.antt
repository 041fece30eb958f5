-- Laws of the signals of motors, one motor after another. Assumes nothing.
use Rattle.std.proofs.Common.{ℕ, zero, suc, ◌+◌, ◌-◌, ◌*◌, ◌<◌, ◌≤◌, ◌≡◌, refl, sym, ap, Bool, List, [], ◌∷◌, ◌++◌, append_assoc, append-nil, length, arith}
use Rattle.std.specs.Prelude.{Option, Some, None, eqb, drop, set, get_or}
use Rattle.std.proofs.lemmas.List.{length-drop}
use native.Mathlib.Numerals.{add-one}
use lib.ListN.{length-append, drop_of_length-le}
use lib.Seq.{drop-cons}
use borrow.Author.Tests.{eq-eqb, ne_eqb}
use Rattle.words.specs.Word.{when◌then◌else◌}
use Rattle.words.proofs.Laws.{either}
use Rattle.rules.specs.declared.Motor.{Motor}
use Rattle.rules.specs.Record.{output_on, output_off}
use Rattle.report.specs.Puts.{Puts}
use Rattle.report.specs.declared.page.Page.{Page}
use Rattle.report.proofs.PutLaws.{Completes, one_more, none_left}
use Rattle.vcd.specs.Text.{code_of, wires_from, on_name, off_name, wire_line, value_line, values_from, change_line, changes_from, time_line, timed}
use Rattle.vcd.proofs.TextLaws.{changes_same, timed_length, opening_length}
use Rattle.dump.specs.Dump.{motor_signals, signals_of, opening}
use Rattle.dump.specs.Advance.{first_text, scan_text}
use Rattle.dump.specs.Signals.{timed_by, due_after}

-- ---- one motor more

-- two lines more
two_more : {from here mid later : Page} {whole rest a b c : List ℕ} → Completes from whole here rest → rest ≡ a ++ (b ++ c) → Puts here a mid → Puts mid b later
    → Completes from whole later c
two_more more e p k = one_more (one_more more e p) refl k

abbrev pub on : Motor → Bool
on m = eqb m.output.state output_on

abbrev pub off : Motor → Bool
off m = eqb m.output.state output_off

wires_more : (i held : ℕ) → i < held → wires_from (2 * i) (i + 1) (held - i)
    ≡ wire_line (code_of (2 * i)) (on_name (i + 1)) ++ (wire_line (code_of (2 * i + 1)) (off_name (i + 1)) ++ wires_from (2 * (i + 1)) (i + 1 + 1) (held - (i + 1)))
unfolding wires_from
wires_more i held h =
    let e : held - i ≡ suc (held - (i + 1)) = omega arith in
    let f : 2 * (i + 1) ≡ 2 * i + 2 = omega arith in
    rw (e, f, append_assoc (wire_line (code_of (2 * i)) (on_name (i + 1))) (wire_line (code_of (2 * i + 1)) (off_name (i + 1))) (wires_from (2 * i + 2) (i + 1 + 1) (held - (i + 1))))

values_more : (i : ℕ) (ms : List Motor) (d : Motor) → i < length ms → values_from (2 * i) (signals_of (drop i ms))
    ≡ value_line (code_of (2 * i)) (on (get_or ms i d)) ++ (value_line (code_of (2 * i + 1)) (off (get_or ms i d)) ++ values_from (2 * (i + 1)) (signals_of (drop (i + 1) ms)))
unfolding values_from signals_of
values_more i ms d h =
    let f : 2 * (i + 1) ≡ 2 * i + 1 + 1 = omega arith in
    rw (f, drop-cons ms i d h, add-one i)

-- ---- a motor's lines put, in the loops over the motors, and no motor left

module _ {from here mid later : Page} {whole : List ℕ} (i : ℕ) {c d : ℕ} (e : code_of (2 * i) ≡ c ∷ []) (f : code_of (2 * i + 1) ≡ d ∷ []) where
  pub wires_put : (held : ℕ) → i < held → Completes from whole here (wires_from (2 * i) (i + 1) (held - i)) → Puts here (wire_line (c ∷ []) (on_name (i + 1))) mid
      → Puts mid (wire_line (d ∷ []) (off_name (i + 1))) later → Completes from whole later (wires_from (2 * (i + 1)) (i + 1 + 1) (held - (i + 1)))
  wires_put held h more = two_more more (rw (wires_more i held h, e, f))

  pub values_put : (ms : List Motor) (x : Motor) → i < length ms → Completes from whole here (values_from (2 * i) (signals_of (drop i ms)))
      → Puts here (value_line (c ∷ []) (on (get_or ms i x))) mid → Puts mid (value_line (d ∷ []) (off (get_or ms i x))) later
      → Completes from whole later (values_from (2 * (i + 1)) (signals_of (drop (i + 1) ms)))
  values_put ms x h more = two_more more (rw (values_more i ms x h, e, f))

module _ {from here : Page} {whole : List ℕ} (i j : ℕ) where
  pub wires_end : (held number : ℕ) → held ≤ i → Completes from whole here (wires_from j number (held - i)) → Puts from whole here
  unfolding wires_from
  wires_end held number h more = let none : held - i ≡ 0 = omega arith in none_left more (rw none)

  pub values_end : (ms : List Motor) → length ms ≤ i → Completes from whole here (values_from j (signals_of (drop i ms))) → Puts from whole here
  unfolding values_from signals_of
  values_end ms h more = none_left more (rw (drop_of_length-le ms {i = i} h))

-- ---- the changes of a scan

-- one motor more that is not what it was
pub one_changed : (i k : ℕ) (ms ns : List Motor) (m d : Motor) → drop i ns ≡ drop i ms → i < length ms
    → changes_from k (signals_of ms) (signals_of (set ns i m))
    ≡ changes_from k (signals_of ms) (signals_of ns) ++ changes_from (k + 2 * i) (motor_signals (get_or ms i d).output.state) (motor_signals m.output.state)
unfolding changes_from signals_of
one_changed zero k [] ns m d e l = absurd (omega arith)
one_changed zero k (a ∷ ms) ns m d e l =
    let f : k + 2 * 0 ≡ k = omega arith in
    rw (e, f, changes_same k (signals_of (a ∷ ms)), changes_same (k + 1 + 1) (signals_of ms)) refl
one_changed (suc i) k [] ns m d e l = absurd (omega arith)
one_changed (suc i) k (a ∷ ms) [] m d e l = absurd (omega (arith, ap length e, length-drop i ms))
one_changed (suc i) k (a ∷ ms) (b ∷ ns) m d e l =
    let f : k + 2 * suc i ≡ k + 1 + 1 + 2 * i = omega arith in
    rw (f, one_changed i (k + 1 + 1) ms ns m d e (omega arith)) (simp append_assoc)

-- a time before changes and more changes
pub timed_by_none : (due : Option ℕ) → timed_by due [] ≡ []
unfolding timed_by timed
timed_by_none (Some time) = refl
timed_by_none None = refl

pub timed_by_more : (due : Option ℕ) (a b : List ℕ) → timed_by due (a ++ b) ≡ timed_by due a ++ timed_by (due_after due a) b
unfolding timed_by due_after timed
timed_by_more (Some time) [] b = refl
timed_by_more (Some time) (x ∷ a) b = sym (append_assoc (time_line time) (x ∷ a) b)
timed_by_more None [] b = refl
timed_by_more None (x ∷ a) b = refl

pub due_after_none : (due : Option ℕ) → due_after due [] ≡ due
unfolding due_after
due_after_none due = refl

pub due_after_more : (due : Option ℕ) (a b : List ℕ) → due_after due (a ++ b) ≡ due_after (due_after due a) b
unfolding due_after
due_after_more due [] b = refl
due_after_more due (x ∷ a) [] = refl
due_after_more due (x ∷ a) (y ∷ b) = refl

-- a motor's two lines
pub both_changes : (i before after : ℕ) {c d : ℕ} → code_of (2 * i) ≡ c ∷ [] → code_of (2 * i + 1) ≡ d ∷ [] → changes_from (2 * i) (motor_signals before) (motor_signals after)
    ≡ change_line (c ∷ []) (eqb before output_on) (eqb after output_on) ++ change_line (d ∷ []) (eqb before output_off) (eqb after output_off)
unfolding changes_from
both_changes i before after {c} {d} e f =
    let last = change_line (d ∷ []) (eqb before output_off) (eqb after output_off) in
    rw (e, f, append-nil last) refl

-- ---- lengths

pub signals_length : (ms : List Motor) → length (signals_of ms) ≡ 2 * length ms
unfolding signals_of
signals_length [] = refl
signals_length (m ∷ ms) = omega (arith, signals_length ms)

-- ---- header and #0, where no scan ran yet

pub first_none_ran : (scans : ℕ) (ms : List Motor) → scans ≡ 0 → first_text scans ms ≡ opening ms
unfolding first_text when◌then◌else◌
first_none_ran scans ms e = rw (eq-eqb scans 0 e)

pub first_some_ran : (scans : ℕ) (ms : List Motor) → (scans ≡ 0 → ⊥) → first_text scans ms ≡ []
unfolding first_text when◌then◌else◌
first_some_ran scans ms h = rw (ne_eqb scans 0 h)

pub first_length : (scans : ℕ) (ms : List Motor) → length ms ≤ 32 → length (first_text scans ms) ≤ 2429
unfolding first_text opening
first_length scans ms h =
    either (λ (l : List ℕ). length l ≤ 2429) (eqb scans 0) (omega (arith, opening_length (length ms) (signals_of ms), signals_length ms)) (omega arith)

pub scan_length : (scans time : ℕ) (before after : List Motor) → length before ≤ 32 → length (scan_text scans time before after) ≤ 2633
unfolding scan_text
scan_length scans time before after h =
    omega (arith, length-append (first_text scans before) (timed time (changes_from 0 (signals_of before) (signals_of after))), first_length scans before h, timed_length time (signals_of before) (signals_of after), signals_length before)
