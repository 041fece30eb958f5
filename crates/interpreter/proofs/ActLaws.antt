-- What the requests do to the lists that a bench's arrays are. Assumes nothing.
use Rattle.std.proofs.Common.{◌≡◌, ℕ, ◌+◌, ◌-◌, ◌<◌, ◌≤◌, min, List, [], ◌∷◌, ◌++◌, length, set, take, drop, arith}
use Rattle.std.proofs.lemmas.Bool.Decides.{nat_tests}
use Rattle.std.proofs.lemmas.Grind.{common_steps}
use lib.Seq.{take-set-lt}
use Rattle.words.specs.Word.{when◌then◌else◌}
use Rattle.rules.specs.declared.Motor.{Motor}
use Rattle.rules.specs.declared.Settings.{Settings}
use Rattle.refusals.specs.declared.Refusal.{Refusal}
use Rattle.refusals.specs.Numbers.{number_of}
use Rattle.refusals.proofs.Numbers.{number_positive}
use Rattle.rules.specs.Record.{fresh}
use Rattle.rules.specs.Refusals.{most_motors, table_refusal, table_after, part_refusal, part_after}
use Rattle.rules.proofs.Tables.{table_accepted, table_refused, length_after}
use Rattle.sheet.specs.declared.Request.{Request}
use Rattle.sheet.specs.declared.Request.TheVariants.{Motor as M, Input as I, Scan as S, Refused}
use Rattle.sheet.specs.Grammar.{request_refusal}
use Rattle.totals.specs.declared.Totals.{Totals}
use Rattle.totals.specs.Running.{no_totals, all_totals}
use Rattle.totals.proofs.Lists.{length_totals, totals_front}
use Rattle.interpreter.specs.State.{State, next_number, motor_refusal, with_motor, is_there, input_refusal, with_words, with_word, scan_refusal, with_scan, refusal_for, changed, state_after, view_of, held_of}
use Rattle.interpreter.specs.declared.Bench.{Bench}

-- ---- an accepted request changes the state, a refused one does not

pub accepted : (t : State) (r : Request) → refusal_for t r ≡ 0 → state_after t r ≡ changed t r
unfolding state_after when◌then◌else◌
accepted t r h = grind (arith, nat_tests)

pub refused : (t : State) (r : Request) → (refusal_for t r ≡ 0 → ⊥) → state_after t r ≡ t
unfolding state_after when◌then◌else◌
refused t r h = grind (arith, nat_tests)

-- the number of a refusal is not that of an accepted line
pub not_zero : {n : ℕ} (refusal : Refusal) → number_of refusal ≡ n → n ≡ 0 → ⊥
not_zero refusal e z = absurd (omega (arith, e, z, number_positive refusal))

-- a line that makes no request is refused
pub not_accepted : (t : State) (r : Request) → refusal_for t r ≡ 0 → r ≡ Refused → ⊥
unfolding refusal_for request_refusal
not_accepted t r h e = omega (arith, rw e at h)

-- ---- what an accepted request says of its numbers

pub motor_room : (held scans number : ℕ) (s : Settings) → motor_refusal held scans number s ≡ 0 → held < most_motors
unfolding motor_refusal when◌then◌else◌
motor_room held scans number s h = grind (arith, nat_tests)

-- M is accepted before the first scan only
pub motor_first : (held scans number : ℕ) (s : Settings) → motor_refusal held scans number s ≡ 0 → scans ≡ 0
unfolding motor_refusal when◌then◌else◌
motor_first held scans number s h = grind (arith, nat_tests)

pub input_there : (held number word : ℕ) → input_refusal held number word ≡ 0 → (1 ≤ number) × (number ≤ held)
unfolding input_refusal is_there when◌then◌else◌
input_there held number word h = grind (arith, nat_tests)

-- ---- the elements of an array that are in use

module _ {A : Type 0} (n : ℕ) (l : List A) (is : length l ≡ 32) where
  pub used : length (take n l) ≡ min n most_motors
  unfolding most_motors
  used = grind (arith, common_steps)

  -- more than are there are all
  pub take_used : take n l ≡ take (min n most_motors) l
  unfolding most_motors
  take_used = grind (arith, common_steps)

  pub in_array : n ≤ most_motors → n ≤ length l
  unfolding most_motors
  in_array h = omega arith

  -- the first of them anew, and those past them as they were
  pub in_use_again : (new : List A) {held : ℕ} → held ≡ min n most_motors → length new ≡ length (take held l) → take n (new ++ drop held l) ≡ new
  unfolding most_motors
  in_use_again new e f = grind (arith, common_steps)

  -- one after them
  pub one_more : (x : A) → min n most_motors < most_motors → take (min n most_motors + 1) (set l (min n most_motors) x) ≡ take n l ++ (x ∷ [])
  unfolding most_motors
  one_more x h = grind (arith, common_steps)

-- ---- the bench after M, I and S

pub motor_added : (b : Bench) (number : ℕ) (s : Settings) {held : ℕ} → held ≡ held_of b → length b.motors ≡ 32 → length b.words ≡ 32 → length b.totals ≡ 32
    → 0 ≡ motor_refusal held b.scans number s
    → view_of (record { motors = set b.motors held (fresh s); words = set b.words held 0; count = held + 1; scans = b.scans; totals = set b.totals held no_totals })
    ≡ state_after (view_of b) (M number s.ops1 s.ops2 s.w s.u)
unfolding refusal_for changed with_motor
motor_added b number s e is js ts h = grind (arith, accepted, used, motor_room, one_more)

pub word_state : (b : Bench) (number word : ℕ) → 1 ≤ number → number ≤ held_of b
    → view_of (record b { words = set b.words (number - 1) word }) ≡ changed (view_of b) (I number word)
unfolding changed with_word with_words
word_state b number word h l = grind (arith, take-set-lt)

pub word_set : (b : Bench) (number word : ℕ) {held : ℕ} → held ≡ held_of b → length b.motors ≡ 32 → 0 ≡ input_refusal held number word
    → view_of (record b { words = set b.words (number - 1) word }) ≡ state_after (view_of b) (I number word)
unfolding refusal_for
word_set b number word e is h = grind (arith, accepted, used, input_there, word_state)

module _ (b : Bench) (is : length b.motors ≡ 32) (js : length b.words ≡ 32) where
  pub scan_code : (period : ℕ) {held : ℕ} → held ≡ held_of b → table_refusal (take held b.motors) (take held b.words) period ≡ refusal_for (view_of b) (S period)
  unfolding refusal_for scan_refusal
  scan_code period e = grind (arith, take_used)

  -- scanned as a part of the array
  pub scanned : (period : ℕ) {held : ℕ} {motors : List Motor} {totals : List Totals} → held ≡ held_of b → length b.totals ≡ 32
      → 0 ≡ table_refusal (take held b.motors) (take held b.words) period → motors ≡ table_after (take held b.motors) (take held b.words) period
      → totals ≡ all_totals (take held b.totals) (take held b.motors) (take held b.words) period
      → view_of (record { motors = motors ++ drop held b.motors; words = b.words; count = b.count; scans = next_number b.scans; totals = totals ++ drop held b.totals })
      ≡ state_after (view_of b) (S period)
  unfolding changed with_scan
  scanned period e ts h f g = grind (arith, accepted, scan_code, take_used, in_use_again, length_after, length_totals)

  -- scanned motor by motor where they are
  pub scan_refusal_lem : (period : ℕ) → part_refusal b.motors (held_of b) b.words period ≡ refusal_for (view_of b) (S period)
  unfolding part_refusal most_motors when◌then◌else◌
  scan_refusal_lem period = grind (arith, nat_tests, scan_code)

  pub scan_motors : (period : ℕ) → take b.count (part_after b.motors (held_of b) b.words period) ≡ table_after (take b.count b.motors) (take b.count b.words) period
  unfolding part_after most_motors when◌then◌else◌
  scan_motors period = grind (arith, nat_tests, common_steps, take_used, length_after)

  module _ (ts : length b.totals ≡ 32) where
    pub scan_totals_lem : (period : ℕ) → take b.count (all_totals b.totals b.motors (take (held_of b) b.words) period)
        ≡ all_totals (take b.count b.totals) (take b.count b.motors) (take b.count b.words) period
    scan_totals_lem period = grind (arith, take_used, length_totals, totals_front)

    pub scanned_state : (period : ℕ) {records : List Motor} {totals : List Totals} → part_refusal b.motors (held_of b) b.words period ≡ 0
        → records ≡ part_after b.motors (held_of b) b.words period → totals ≡ all_totals b.totals b.motors (take (held_of b) b.words) period
        → view_of (record { motors = records; totals = totals; words = b.words; count = b.count; scans = next_number b.scans }) ≡ state_after (view_of b) (S period)
    unfolding changed with_scan
    scanned_state period ok f g = grind (arith, accepted, scan_refusal_lem, scan_motors, scan_totals_lem)

-- ---- what `add`, `set_word` and `scan` rest on

pub ruleset adds = (used, motor_room, refused, motor_added)

pub ruleset sets = (used, input_there, refused, word_set)

pub ruleset scans = (common_steps, table_accepted, table_refused, length_after, refused, scan_code, scanned)
