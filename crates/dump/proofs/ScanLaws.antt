-- A scan that is accepted, motor by motor, and what is put of it. Assumes nothing.
use Rattle.std.proofs.Common.{ℕ, ◌+◌, ◌*◌, ◌<◌, ◌≤◌, ◌≡◌, sym, ◌∙◌, List, ◌++◌, length, arith}
use Rattle.std.specs.Prelude.{Option, Some, take, drop, set, get_or}
use native.Mathlib.Numerals.{add-one}
use lib.Seq.{take_all, drop_at, length-take-le}
use Rattle.rules.specs.Steps.{step}
use Rattle.rules.specs.Refusals.{most_motors, one_refusal, step_all, table_refusal, table_after}
use Rattle.rules.specs.declared.Motor.{Motor}
use Rattle.rules.proofs.Tables.{accepted, each_accepted, table_accepted, not_yet, one_more, none_stepped, length_step_all, steps_front}
use Rattle.report.specs.Puts.{Puts}
use Rattle.report.specs.declared.page.Page.{Page}
use Rattle.report.proofs.PutLaws.{puts_none, puts_then}
use Rattle.vcd.specs.Text.{timed, changes_from}
use Rattle.vcd.proofs.TextLaws.{changes_same, timed_none}
use Rattle.dump.specs.Dump.{motor_signals, signals_of}
use Rattle.dump.specs.Signals.{timed_by, due_after}
use Rattle.dump.proofs.SignalLaws.{one_changed, timed_by_more, due_after_none, due_after_more}

-- The first i motors are scanned, and what changed of them is put.
pub record Scanned (ms : List Motor) (ws : List ℕ) (period time : ℕ) (from : Page) (i : ℕ) (ns : List Motor) (due : Option ℕ) (here : Page) : Type 0 where
  pub stepped : ns ≡ step_all ms (take i ws) period
  pub put : Puts from (timed time (changes_from 0 (signals_of ms) (signals_of ns))) here
  pub due_is : due ≡ due_after (Some time) (changes_from 0 (signals_of ms) (signals_of ns))

module _ {ms : List Motor} {ws : List ℕ} {period time : ℕ} {from : Page} where
  pub none_scanned : Scanned ms ws period time from 0 ms (Some time) from
  none_scanned =
      let none = changes_same 0 (signals_of ms) in
      record {
        stepped = sym (none_stepped ms period);
        put = rw (none, timed_none time) puts_none;
        due_is = rw none (sym (due_after_none (Some time)));
      }

  module _ (h : table_refusal ms ws period ≡ 0) {i : ℕ} {ns : List Motor} {due : Option ℕ} {here : Page} (s : Scanned ms ws period time from i ns due here) where
    module _ (l : i < length ms) where
      pub among : i < 32
      unfolding most_motors
      among = omega (arith, l, (accepted ms ws period h).room)

      pub word_there : i < length ws
      word_there = omega (arith, l, (accepted ms ws period h).lengths)

      pub turn_due : (d : Motor) → one_refusal (get_or ns i d) (get_or ws i 0) period ≡ 0
      turn_due d = rw (s.stepped, not_yet ms ws period i d) (each_accepted ms ws period h i d l)

      -- those from here on are as they were
      not_stepped : drop i ns ≡ drop i ms
      not_stepped =
          rw (s.stepped, steps_front ms ws period i)
          (drop_at (step_all (take i ms) (take i ws) period) (drop i ms) i (length_step_all (take i ms) (take i ws) period ∙ length-take-le i ms (omega (arith, l))))

      changes_more : (d n : Motor) → changes_from 0 (signals_of ms) (signals_of (set ns i n))
          ≡ changes_from 0 (signals_of ms) (signals_of ns) ++ changes_from (2 * i) (motor_signals (get_or ns i d).output.state) (motor_signals n.output.state)
      changes_more d n =
          let e : 0 + 2 * i ≡ 2 * i = omega arith in
          rw (s.stepped, not_yet ms ws period i d, ← s.stepped, ← e) (one_changed i 0 ms ns n d not_stepped l)

      pub one_scanned : (d : Motor) {n : Motor} {later : Option ℕ} {there : Page} → n ≡ step (get_or ns i d) (get_or ws i 0) period
          → Puts here (timed_by due (changes_from (2 * i) (motor_signals (get_or ns i d).output.state) (motor_signals n.output.state))) there
          → later ≡ due_after due (changes_from (2 * i) (motor_signals (get_or ns i d).output.state) (motor_signals n.output.state))
          → Scanned ms ws period time from (i + 1) (set ns i n) later there
      unfolding timed_by
      one_scanned d {n} e p f =
          record {
            stepped = rw (e, s.stepped, not_yet ms ws period i d, add-one i) (one_more ms ws period i d l word_there);
            put = rw (changes_more d n, timed_by_more (Some time) (changes_from 0 (signals_of ms) (signals_of ns)) _, ← s.due_is) (puts_then s.put p);
            due_is = f ∙ rw (s.due_is, changes_more d n) (sym (due_after_more (Some time) (changes_from 0 (signals_of ms) (signals_of ns)) _));
          }

    pub all_scanned : length ms ≤ i → ns ≡ table_after ms ws period
    all_scanned l = s.stepped ∙ rw (table_accepted ms ws period h, take_all i ws (omega (arith, l, (accepted ms ws period h).lengths)))
