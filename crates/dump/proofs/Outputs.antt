-- The samples of a dump are the outputs that the motors' histories give: at each time those after the scans not later than it. Assumes nothing.
use Rattle.std.proofs.lemmas.Bool.Decides.{nat_tests}
use Prim.Native.Nat.{ℕ, ◌+◌, ◌<◌, ◌≤◌}
use mathlib.Core.Path.{◌≡◌, refl, sym, ap, ◌∙◌}
use mathlib.Core.Bool.{Bool, true, false}
use mathlib.Core.List.{List, [], ◌∷◌, ◌++◌, map}
use native.Mathlib.Omega.{arith}
use lib.Dec.{leb}
use lib.ListN.{length, length-map}
use borrow.Author.Tests.{le-leb, lt-leb, leb-true, leb-false}
use Rattle.words.specs.Word.{when◌then◌else◌}
use Rattle.rules.specs.Scans.{Input}
use Rattle.rules.proofs.Tables.{accepted as table-in-limits}
use Rattle.book.specs.Log.{Log, none, ◌▸◌}
use Rattle.book.specs.Claim.{total}
use Rattle.sheet.specs.declared.Request.{Request}
use Rattle.sheet.specs.declared.Request.TheVariants.{Motor as M, Input as I, Scan as S, Refused}
use Rattle.interpreter.specs.State.{State, empty_state, with_words, with_word, scan_refusal, refusal_for, changed, accepted_from}
use Rattle.interpreter.specs.Histories.{History, entered, histories_after, histories_from}
use Rattle.interpreter.proofs.ActLaws.{accepted as is-changed, not_accepted, motor_first}
use Rattle.interpreter.proofs.Records.{record_in, records_on}
use Rattle.vcd.specs.Text.{Sample}
use Rattle.vcd.specs.Expected.{signals_at}
use Rattle.dump.specs.Dump.{signals_of, time_after, sample_of, samples_from, is_scan, motors_before_scans}
use Rattle.dump.specs.Claim.{up_to, record_at}
use Rattle.dump.proofs.DumpLaws.{samples_accepted, samples_refused, before_accepted, before_refused, by_refusal, before_scan, scan_counted}

-- ---- the scans of histories up to a time

-- all have the same time so far
abbrev Summed : ℕ → List History → Type 0
Summed time [] = Unit {0}
Summed time (g ∷ hs) = (total g.scans ≡ time) × Summed time hs

-- at that time or later they are there whole
whole : (at : ℕ) (scans : Log Input) → total scans ≤ at → up_to at scans ≡ scans
unfolding up_to when◌then◌else◌
whole at none l = refl
whole at (scans ▸ x) l = rw (le-leb (total (scans ▸ x)) at l)

all_whole : (at time : ℕ) (hs : List History) → Summed time hs → time ≤ at → map (record_at at) hs ≡ map record_in hs
unfolding record_at
all_whole at time [] s l = refl
all_whole at time (g ∷ hs) s l = rw (whole at g.scans (omega (arith, s.0)), all_whole at time hs s.1 l)

-- a scan later than the time asked for is not seen
all_earlier : (at time : ℕ) (hs : List History) (words : List ℕ) (period : ℕ) → Summed time hs → at < time + period
    → map (record_at at) (entered hs words period) ≡ map (record_at at) hs
unfolding entered record_at up_to total when◌then◌else◌
all_earlier at time [] words period s l = refl
all_earlier at time (g ∷ hs) [] period s l = refl
all_earlier at time (g ∷ hs) (word ∷ words) period s l =
    rw (lt-leb (total g.scans + period) at (omega (arith, s.0)), all_earlier at time hs words period s.1 l)

summed_entered : (time : ℕ) (hs : List History) (words : List ℕ) (period : ℕ) → length hs ≤ length words → Summed time hs
    → Summed (time + period) (entered hs words period)
unfolding entered total
summed_entered time [] words period l s = tt
summed_entered time (g ∷ hs) [] period l s = absurd (omega arith)
summed_entered time (g ∷ hs) (word ∷ words) period l s =
    (ap (λ (n : ℕ). n + period) s.0, summed_entered time hs words period (omega arith) s.1)

summed_more : (hs : List History) (g : History) → g.scans ≡ none → Summed 0 hs → Summed 0 (hs ++ (g ∷ []))
unfolding total
summed_more [] g e s = (rw e, tt)
summed_more (d ∷ hs) g e s = (s.0, summed_more hs g e s.1)

-- ---- a state, its time, and the histories of its motors

record Standing (hs : List History) (t : State) (time : ℕ) : Type 0 where
  motors : t.motors ≡ map record_in hs
  sums : Summed time hs

module _ (hs : List History) (t : State) (time period : ℕ) (k : Standing hs t time) (h : refusal_for t (S period) ≡ 0) where
  scan_stands : Standing (histories_after hs t (S period)) (changed t (S period)) (time + period)
  unfolding histories_after refusal_for scan_refusal
  scan_stands =
      let few = (table-in-limits t.motors t.words period h).lengths in
      record {
        motors = records_on hs t (S period) h k.motors;
        sums = summed_entered time hs t.words period (omega (arith, few, ap length k.motors, length-map hs record_in)) k.sums;
      }

  -- what a reader takes at a time for the signals: those after this scan, if it is not later
  scan_seen : (at : ℕ) → (when leb (time + period) at then signals_of (changed t (S period)).motors else signals_of (map (record_at at) hs))
      ≡ signals_of (map (record_at at) (histories_after hs t (S period)))
  unfolding histories_after when◌then◌else◌
  scan_seen at = go (leb (time + period) at) refl
    where
      go : (b : Bool) → leb (time + period) at ≡ b → (when b then signals_of (changed t (S period)).motors else signals_of (map (record_at at) hs))
          ≡ signals_of (map (record_at at) (entered hs t.words period))
      go true e = ap signals_of (scan_stands.motors ∙ sym (all_whole at (time + period) (entered hs t.words period) scan_stands.sums (leb-true _ _ e)))
      go false e = ap signals_of (sym (all_earlier at time hs t.words period k.sums (leb-false _ _ e)))

-- ---- the outputs at a time, after some histories and the requests that are accepted

accepted_first : (t : State) (r : Request) (rs : List Request) → refusal_for t r ≡ 0 → accepted_from t (r ∷ rs) ≡ r ∷ accepted_from (changed t r) rs
unfolding accepted_from when◌then◌else◌
accepted_first t r rs h = grind (arith, nat_tests)

histories_first : (hs : List History) (t : State) (r : Request) (rs : List Request) → refusal_for t r ≡ 0
    → histories_from hs t (r ∷ rs) ≡ histories_from (histories_after hs t r) (changed t r) rs
unfolding histories_from when◌then◌else◌
histories_first hs t r rs h = grind (arith, nat_tests, is-changed)

module _ (at : ℕ) where
  unfoldable pub outputs_from : List History → State → List Request → List Bool
  outputs_from hs t rs = signals_of (map (record_at at) (histories_from hs t (accepted_from t rs)))

  outputs_accepted : (hs : List History) (t : State) (r : Request) (rs : List Request) → refusal_for t r ≡ 0
      → outputs_from hs t (r ∷ rs) ≡ outputs_from (histories_after hs t r) (changed t r) rs
  unfolding outputs_from
  outputs_accepted hs t r rs h =
      ap (λ (l : List Request). signals_of (map (record_at at) (histories_from hs t l))) (accepted_first t r rs h)
      ∙ ap (λ (l : List History). signals_of (map (record_at at) l)) (histories_first hs t r (accepted_from (changed t r) rs) h)

  outputs_refused : (hs : List History) (t : State) (r : Request) (rs : List Request) → (refusal_for t r ≡ 0 → ⊥)
      → outputs_from hs t (r ∷ rs) ≡ signals_of (map (record_at at) hs)
  unfolding outputs_from accepted_from histories_from when◌then◌else◌
  outputs_refused hs t r rs h = grind (arith, nat_tests)

  -- the first of some requests, a scan
  scan_first : (hs : List History) (t : State) (time period : ℕ) (rs : List Request) (before : List Bool) → refusal_for t (S period) ≡ 0 → Standing hs t time
      → before ≡ signals_of (map (record_at at) hs)
      → signals_at (signals_of (map (record_at at) (histories_after hs t (S period)))) (samples_from (time + period) (changed t (S period)) rs) at
      ≡ outputs_from (histories_after hs t (S period)) (changed t (S period)) rs
      → signals_at before (samples_from time t (S period ∷ rs)) at ≡ outputs_from hs t (S period ∷ rs)
  unfolding time_after sample_of signals_at
  scan_first hs t time period rs before h k e later =
      let u = changed t (S period) in
      let ss = samples_from (time + period) u rs in
      ap (λ (l : List Sample). signals_at before l at) (samples_accepted t (S period) rs h time)
      ∙ ap (λ (vs : List Bool). signals_at (when leb (time + period) at then signals_of u.motors else vs) ss at) e
      ∙ ap (λ (vs : List Bool). signals_at vs ss at) (scan_seen hs t time period k h at)
      ∙ later
      ∙ sym (outputs_accepted hs t (S period) rs h)

  -- ---- once there was a scan no motor is added

  after_first : (hs : List History) (t : State) (time : ℕ) (r : Request) (rs : List Request) → refusal_for t r ≡ 0 → Standing hs t time → 0 < t.scans
      → (Standing (histories_after hs t r) (changed t r) (time_after time r) → 0 < (changed t r).scans
      → signals_at (signals_of (map (record_at at) (histories_after hs t r))) (samples_from (time_after time r) (changed t r) rs) at ≡ outputs_from (histories_after hs t r) (changed t r) rs)
      → signals_at (signals_of (map (record_at at) hs)) (samples_from time t (r ∷ rs)) at ≡ outputs_from hs t (r ∷ rs)
  unfolding time_after sample_of histories_after refusal_for changed with_word with_words
  after_first hs t time (M number ops1 ops2 w u) rs h k n later = absurd (omega (arith, motor_first _ _ _ _ h))
  after_first hs t time (I number word) rs h k n later =
      rw (samples_accepted t (I number word) rs h time, outputs_accepted hs t (I number word) rs h) (later (record { motors = k.motors; sums = k.sums }) n)
  after_first hs t time (S period) rs h k n later =
      scan_first hs t time period rs _ h k refl (later (scan_stands hs t time period k h) (scan_counted t period))
  after_first hs t time Refused rs h k n later = absurd (not_accepted t Refused h refl)

  after_scans : (hs : List History) (t : State) (time : ℕ) (rs : List Request) → Standing hs t time → 0 < t.scans
      → signals_at (signals_of (map (record_at at) hs)) (samples_from time t rs) at ≡ outputs_from hs t rs
  unfolding samples_from signals_at outputs_from accepted_from histories_from
  after_scans hs t time [] k n = refl
  after_scans hs t time (r ∷ rs) k n =
      by_refusal t r (λ h. after_first hs t time r rs h k n (after_scans (histories_after hs t r) (changed t r) (time_after time r) rs))
      (λ h. rw (samples_refused t r rs h time, outputs_refused hs t r rs h))

  -- ---- before the first scan the time is 0

  stands : (hs : List History) (t : State) → Standing hs t 0 → signals_of t.motors ≡ signals_of (map (record_at at) hs)
  stands hs t k = ap signals_of (k.motors ∙ sym (all_whole at 0 hs k.sums (omega arith)))

  before_first : (hs : List History) (t : State) (r : Request) (rs : List Request) → refusal_for t r ≡ 0 → Standing hs t 0
      → (Standing (histories_after hs t r) (changed t r) 0
      → signals_at (signals_of (motors_before_scans (changed t r) rs)) (samples_from 0 (changed t r) rs) at ≡ outputs_from (histories_after hs t r) (changed t r) rs)
      → signals_at (signals_of (motors_before_scans t (r ∷ rs))) (samples_from 0 t (r ∷ rs)) at ≡ outputs_from hs t (r ∷ rs)
  unfolding time_after sample_of is_scan histories_after changed with_word with_words
  before_first hs t (M number ops1 ops2 w u) rs h k later =
      let r = M number ops1 ops2 w u in
      let g : History = record { settings = record { ops1 = ops1; ops2 = ops2; w = w; u = u }; scans = none } in
      rw (before_accepted t r rs h refl, samples_accepted t r rs h 0, outputs_accepted hs t r rs h)
      (later (record { motors = records_on hs t r h k.motors; sums = summed_more hs g refl k.sums }))
  before_first hs t (I number word) rs h k later =
      let r = I number word in
      rw (before_accepted t r rs h refl, samples_accepted t r rs h 0, outputs_accepted hs t r rs h) (later (record { motors = k.motors; sums = k.sums }))
  before_first hs t (S period) rs h k later =
      rw (before_scan t period rs)
      (scan_first hs t 0 period rs _ h k (stands hs t k)
      (after_scans (histories_after hs t (S period)) (changed t (S period)) (0 + period) rs (scan_stands hs t 0 period k h) (scan_counted t period)))
  before_first hs t Refused rs h k later = absurd (not_accepted t Refused h refl)

  from_first : (hs : List History) (t : State) (rs : List Request) → Standing hs t 0
      → signals_at (signals_of (motors_before_scans t rs)) (samples_from 0 t rs) at ≡ outputs_from hs t rs
  unfolding motors_before_scans samples_from signals_at outputs_from accepted_from histories_from
  from_first hs t [] k = stands hs t k
  from_first hs t (r ∷ rs) k =
      by_refusal t r (λ h. before_first hs t r rs h k (from_first (histories_after hs t r) (changed t r) rs))
      (λ h. rw (before_refused t r rs h, samples_refused t r rs h 0, outputs_refused hs t r rs h) (stands hs t k))

  -- From the empty bench on, what is recorded are the outputs that the histories give.
  pub samples_outputs : (rs : List Request) → signals_at (signals_of (motors_before_scans empty_state rs)) (samples_from 0 empty_state rs) at ≡ outputs_from [] empty_state rs
  unfolding empty_state
  samples_outputs rs = from_first [] empty_state rs (record { motors = refl; sums = tt })
