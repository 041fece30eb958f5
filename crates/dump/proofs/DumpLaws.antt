-- Laws of the dump: what its first request makes of it, what is left to put from a moment on, and what lines that were taken leave. Assumes
-- nothing.
use Rattle.std.proofs.lemmas.Bool.Decides.{nat_tests}
use Prim.Native.Nat.{ℕ, ◌+◌, ◌*◌, ◌<◌, ◌≤◌}
use mathlib.Core.Path.{◌≡◌, refl, sym, ap, ◌∙◌}
use mathlib.Core.Bool.{false}
use mathlib.Core.List.{List, [], ◌∷◌, ◌++◌, append_assoc, append-nil}
use native.Mathlib.Omega.{arith}
use native.Mathlib.Decide.{dec_le}
use lib.Dec.{ltb}
use lib.ListN.{length, drop}
use Rattle.words.specs.Word.{when◌then◌else◌}
use Rattle.rules.specs.declared.Motor.{Motor}
use Rattle.rules.proofs.Tables.{accepted as table-in-limits}
use Rattle.book.proofs.Periods.{period_limits}
use Rattle.sheet.specs.declared.Request.{Request}
use Rattle.sheet.specs.declared.Request.TheVariants.{Motor as M, Input as I, Scan as S, Refused}
use Rattle.sheet.specs.Grammar.{requests_of, request_refusal}
use Rattle.sheet.proofs.RequestLaws.{Step, requests_end, taken, done}
use Rattle.totals.specs.declared.Totals.{Totals}
use Rattle.totals.specs.Running.{capped}
use Rattle.interpreter.specs.State.{State, next_number, with_motor, with_words, with_word, scan_refusal, with_scan, refusal_for, changed}
use Rattle.interpreter.proofs.ActLaws.{motor_first, not_accepted}
use Rattle.vcd.specs.Text.{samples_text}
use Rattle.dump.specs.Dump.{signals_of, time_after, sample_of, samples_from, is_scan, motors_before_scans}
use Rattle.course.specs.Through.{Through}
use Rattle.course.specs.Through.Through.{none, accepted, refused, ended}
use Rattle.dump.specs.Advance.{Moment, moment, state_of, past_end, clock_after, moment_after, first_text, scan_text, added, dump_lines}

-- a request is accepted or refused
pub by_refusal : (t : State) (r : Request) {P : Type 0} → (refusal_for t r ≡ 0 → P) → ((refusal_for t r ≡ 0 → ⊥) → P) → P
by_refusal t r {P} a b = go (dec_le (refusal_for t r) 0)
  where
    go : Dec (refusal_for t r ≤ 0) → P
    go (yes l) = a (omega (arith, l))
    go (no f) = b (λ e. f (omega (arith, e)))

-- ---- the first of some requests

module _ (t : State) (r : Request) (rs : List Request) where
  module _ (h : refusal_for t r ≡ 0) where
    pub samples_accepted : (time : ℕ) → samples_from time t (r ∷ rs) ≡ sample_of (time_after time r) (changed t r) r ++ samples_from (time_after time r) (changed t r) rs
    unfolding samples_from when◌then◌else◌
    samples_accepted time = grind (arith, nat_tests)

    pub before_accepted : is_scan r ≡ false → motors_before_scans t (r ∷ rs) ≡ motors_before_scans (changed t r) rs
    unfolding motors_before_scans when◌then◌else◌
    before_accepted e = grind (arith, nat_tests)

  module _ (h : refusal_for t r ≡ 0 → ⊥) where
    pub samples_refused : (time : ℕ) → samples_from time t (r ∷ rs) ≡ []
    unfolding samples_from when◌then◌else◌
    samples_refused time = grind (arith, nat_tests)

    pub before_refused : motors_before_scans t (r ∷ rs) ≡ t.motors
    unfolding motors_before_scans when◌then◌else◌
    before_refused = grind (arith, nat_tests)

pub before_scan : (t : State) (period : ℕ) (rs : List Request) → motors_before_scans t (S period ∷ rs) ≡ t.motors
unfolding motors_before_scans is_scan when◌then◌else◌
before_scan t period rs = refl

-- ---- what an accepted request does to time, motors and scans

-- no period is longer than 10,000
pub time_goes : (time : ℕ) (t : State) (r : Request) → refusal_for t r ≡ 0 → (time ≤ time_after time r) × (time_after time r ≤ time + 10000)
unfolding time_after refusal_for scan_refusal
time_goes time t r h = grind (arith, period_limits, table-in-limits)

-- a sum of 32 bits is not capped, and capping only lowers it
clock_exact : (time : ℕ) (r : Request) → time_after time r ≤ 4294967295 → clock_after time r ≡ time_after time r
unfolding clock_after time_after capped
clock_exact time r h = grind (arith)

clock_late : (time : ℕ) (r : Request) → clock_after time r ≤ time_after time r
unfolding clock_after time_after capped
clock_late time r = grind (arith)

-- once a scan was accepted, no motor is added
pub once_scanned : (t : State) (rs : List Request) → 0 < t.scans → motors_before_scans t rs ≡ t.motors
unfolding motors_before_scans is_scan refusal_for request_refusal changed with_word with_words when◌then◌else◌
once_scanned t [] h = refl
once_scanned t (r ∷ rs) h = grind (arith, nat_tests, motor_first, once_scanned (changed t r) rs)

pub scan_counted : (t : State) (period : ℕ) → 0 < (changed t (S period)).scans
unfolding changed with_scan next_number
scan_counted t period = omega arith

-- ---- totals bear on nothing

abbrev pub with_totals : State → List Totals → State
with_totals t us = record { motors = t.motors; totals = us; words = t.words; scans = t.scans }

module _ (t : State) (us : List Totals) where
  refusal_alike : (r : Request) → refusal_for (with_totals t us) r ≡ refusal_for t r
  unfolding refusal_for scan_refusal
  refusal_alike r = grind (arith)

  changed_alike : (r : Request) → changed (with_totals t us) r ≡ with_totals (changed t r) (changed (with_totals t us) r).totals
  unfolding changed with_motor with_word with_words with_scan
  changed_alike r = grind (arith)

  sample_alike : (time : ℕ) (r : Request) → sample_of time (with_totals t us) r ≡ sample_of time t r
  unfolding sample_of
  sample_alike time r = grind (arith)

pub samples_alike : (time : ℕ) (t : State) (us : List Totals) (rs : List Request) → samples_from time (with_totals t us) rs ≡ samples_from time t rs
unfolding samples_from
samples_alike time t us [] = refl
samples_alike time t us (r ∷ rs) =
    let vs = (changed (with_totals t us) r).totals in
    rw (refusal_alike t us r, changed_alike t us r, sample_alike (changed t r) vs (time_after time r) r, samples_alike (time_after time r) (changed t r) vs rs)

pub before_alike : (t : State) (us : List Totals) (rs : List Request) → motors_before_scans (with_totals t us) rs ≡ motors_before_scans t rs
unfolding motors_before_scans
before_alike t us [] = refl
before_alike t us (r ∷ rs) = rw (refusal_alike t us r, changed_alike t us r, before_alike (changed t r) (changed (with_totals t us) r).totals rs)

-- ---- what is left to put of some requests, from a time and a state on

-- (after a scan header and #0 are put, and the motors before the next one are those that there are)
unfoldable pub left_of : ℕ → State → List Request → List ℕ
left_of time t rs = first_text t.scans (motors_before_scans t rs) ++ samples_text (signals_of (motors_before_scans t rs)) (samples_from time t rs)

left_alike : (time : ℕ) (t : State) (us : List Totals) (rs : List Request) → left_of time (with_totals t us) rs ≡ left_of time t rs
unfolding left_of
left_alike time t us rs = rw (before_alike t us rs, samples_alike time t us rs)

-- of none, and after a refused one
left_none : (time : ℕ) (t : State) → left_of time t [] ≡ first_text t.scans t.motors
unfolding left_of motors_before_scans samples_from samples_text
left_none time t = append-nil _

left_refused : (time : ℕ) (t : State) (r : Request) (rs : List Request) → (refusal_for t r ≡ 0 → ⊥) → left_of time t (r ∷ rs) ≡ first_text t.scans t.motors
unfolding left_of samples_text
left_refused time t r rs h = rw (before_refused t r rs h, samples_refused t r rs h time) (append-nil _)

-- header and #0 are put once
first_once : (scans : ℕ) (ms : List Motor) → 0 < scans → first_text scans ms ≡ []
unfolding first_text when◌then◌else◌
first_once scans ms h = grind (arith, nat_tests)

left_scan : (time : ℕ) (t : State) (period : ℕ) (rs : List Request) → refusal_for t (S period) ≡ 0
    → left_of time t (S period ∷ rs)
    ≡ scan_text t.scans (time + period) t.motors (changed t (S period)).motors ++ left_of (time + period) (changed t (S period)) rs
unfolding left_of time_after sample_of samples_text scan_text
left_scan time t period rs h =
    let u = changed t (S period) in
    rw (before_scan t period rs, samples_accepted t (S period) rs h time, once_scanned u rs (scan_counted t period), first_once u.scans u.motors (scan_counted t period))
    (sym (append_assoc (first_text t.scans t.motors) _ _))

-- after an accepted one
left_accepted : (p : Moment) (r : Request) (rs : List Request) → refusal_for (state_of p) r ≡ 0
    → left_of p.time (state_of p) (r ∷ rs) ≡ added p (time_after p.time r) r ++ left_of (time_after p.time r) (changed (state_of p) r) rs
unfolding left_of added time_after sample_of is_scan changed with_motor with_word with_words
left_accepted p (M number ops1 ops2 w u) rs h = rw (before_accepted (state_of p) (M number ops1 ops2 w u) rs h refl, samples_accepted (state_of p) (M number ops1 ops2 w u) rs h p.time)
left_accepted p (I number word) rs h = rw (before_accepted (state_of p) (I number word) rs h refl, samples_accepted (state_of p) (I number word) rs h p.time)
left_accepted p (S period) rs h = left_scan p.time (state_of p) period rs h
left_accepted p Refused rs h = absurd (not_accepted (state_of p) Refused h refl)

-- ---- what is left to put from a moment on

unfoldable pub rest_from : List ℕ → Moment → List ℕ
rest_from file p = when ltb (length file) p.at then [] else left_of p.time (state_of p) (requests_of (drop p.at file))

pub rest_past : (file : List ℕ) (p : Moment) → length file < p.at → rest_from file p ≡ []
unfolding rest_from when◌then◌else◌
rest_past file p h = grind (arith, nat_tests)

pub rest_from_lem : (file : List ℕ) (p : Moment) → p.at ≤ length file → rest_from file p ≡ left_of p.time (state_of p) (requests_of (drop p.at file))
unfolding rest_from when◌then◌else◌
rest_from_lem file p h = grind (arith, nat_tests)

module _ (file : List ℕ) (p : Moment) where
  rest_end : p.at ≤ length file → length file ≤ p.at → rest_from file p ≡ first_text p.scans p.motors
  rest_end h l = rest_from_lem file p h ∙ rw (requests_end file p.at l) (left_none p.time (state_of p))

  module _ {r : Request} {next : ℕ} (s : Step file p.at r next) where
    here : rest_from file p ≡ left_of p.time (state_of p) (r ∷ s.rest)
    here = rest_from_lem file p (omega (arith, s.further, s.within)) ∙ rw s.here

    rest_refused : (refusal_for (state_of p) r ≡ 0 → ⊥) → rest_from file p ≡ first_text p.scans p.motors
    rest_refused h = here ∙ left_refused p.time (state_of p) r s.rest h

    -- where the time is not capped
    rest_accepted : refusal_for (state_of p) r ≡ 0 → time_after p.time r ≤ 4294967295
        → rest_from file p ≡ added p (clock_after p.time r) r ++ rest_from file (moment_after next p r)
    rest_accepted h few =
        let q = moment next (changed (state_of p) r) (time_after p.time r) in
        rw (clock_exact p.time r few)
        (here ∙ left_accepted p r s.rest h
        ∙ rw (rest_from_lem file q s.within, left_alike (time_after p.time r) (changed (state_of p) r) [] (requests_of (drop next file)), s.goes_on (not_accepted (state_of p) r h)))

-- ---- the lines that were taken, and what is left

-- The time goes on by at most 10,000 with each line, and a line has a byte at least.
abbrev pub Early : Moment → Type 0
Early p = p.time ≤ 10000 * p.at

-- past the end nothing is left
nothing_left : (file : List ℕ) (p : Moment) (piece : List ℕ) → piece ≡ piece ++ rest_from file (past_end file p)
nothing_left file p piece = sym (ap (λ (l : List ℕ). piece ++ l) (rest_past file (past_end file p) (omega arith)) ∙ append-nil piece)

module _ {file : List ℕ} {from : Moment} where
  module _ (early : Early from) where
    pub through_early : {piece : List ℕ} {p : Moment} → Through dump_lines file from piece p → Early p
    through_early none = early
    through_early (accepted {p = p} {r} {next} c f h) =
        let s = taken file p.at r next f in
        omega (arith, through_early c, s.further, clock_late p.time r, (time_goes p.time (state_of p) r h).1)
    through_early (refused {p = p} {r} {next} c f h) =
        let s = taken file p.at r next f in
        omega (arith, through_early c, s.further, s.within)
    through_early (ended c l f) = omega (arith, through_early c, l)

    pub through_rest : {piece : List ℕ} {p : Moment} → length file ≤ 65536 → Through dump_lines file from piece p → rest_from file from ≡ piece ++ rest_from file p
    through_rest few none = refl
    through_rest few (accepted {piece} {p} {r} {next} c f h) =
        let s = taken file p.at r next f in
        through_rest few c
        ∙ ap (λ (l : List ℕ). piece ++ l) (rest_accepted file p s h (omega (arith, through_early c, s.further, s.within, (time_goes p.time (state_of p) r h).1)))
        ∙ sym (append_assoc piece (added p (clock_after p.time r) r) _)
    through_rest few (refused {piece} {p} {r} {next} c f h) =
        through_rest few c
        ∙ ap (λ (l : List ℕ). piece ++ l) (rest_refused file p (taken file p.at r next f) h)
        ∙ nothing_left file p (piece ++ first_text p.scans p.motors)
    through_rest few (ended {piece} {p} c l f) =
        through_rest few c
        ∙ ap (λ (l : List ℕ). piece ++ l) (rest_end file p l (done file p.at f))
        ∙ nothing_left file p (piece ++ first_text p.scans p.motors)
