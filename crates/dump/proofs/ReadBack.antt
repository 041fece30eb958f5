-- The dump of a file is read back: the wires of its motors, and at each time the outputs that the last scan up to it left, as the motors'
-- histories give them. Assumes nothing.
use Prim.Native.Nat.{ℕ, ◌+◌, ◌*◌, ◌<◌, ◌≤◌}
use mathlib.Core.Path.{◌≡◌, refl, ap}
use mathlib.Core.List.{List, [], ◌∷◌, ◌++◌, map}
use native.Mathlib.Omega.{arith}
use lib.ListN.{length, length-map}
use borrow.Author.Tests.{le-ltb, ltb-false}
use Rattle.words.specs.Word.{when◌then◌else◌}
use Rattle.rules.specs.declared.Motor.{Motor}
use Rattle.rules.proofs.Tables.{length_after, accepted as table-in-limits}
use Rattle.book.proofs.Periods.{period_limits}
use Rattle.sheet.specs.declared.Request.{Request}
use Rattle.sheet.specs.declared.Request.TheVariants.{Motor as M, Input as I, Scan as S, Refused}
use Rattle.sheet.specs.Grammar.{requests_of}
use Rattle.octets.specs.Number.{largest}
use Rattle.sheet.proofs.MoreLines.{few_requests}
use Rattle.interpreter.specs.State.{State, empty_state, scan_refusal, with_scan, refusal_for, changed, too_long}
use Rattle.interpreter.specs.Histories.{histories_of}
use Rattle.interpreter.proofs.ActLaws.{not_accepted}
use Rattle.vcd.specs.Text.{Sample, recording_text}
use Rattle.vcd.specs.Expected.{signals_at}
use Rattle.vcd.proofs.ReadBack.{Rising, SameWidth, scale_back, wires_back, signals_width, all_back, others_unknown}
use Rattle.dump.specs.Dump.{signals_of, time_after, sample_of, samples_from, is_scan, motors_before_scans, requests_dump, dump_of}
use Rattle.dump.specs.Claim.{histories_in, record_at, outputs_at, ReadsBack, DumpClaim}
use Rattle.dump.proofs.SignalLaws.{signals_length}
use Rattle.dump.proofs.DumpLaws.{by_refusal, samples_accepted, samples_refused, before_accepted, before_scan, time_goes, once_scanned, scan_counted}
use Rattle.dump.proofs.Outputs.{outputs_from, samples_outputs}

-- ---- the times rise, by at most 10,000 with each request

-- times rise from a time on, up to another
abbrev pub Between : ℕ → ℕ → List Sample → Type 0
Between from last [] = Unit {0}
Between from last (s ∷ ss) = (from < s.time) × (s.time ≤ last) × Between s.time last ss

rising : (from last : ℕ) (ss : List Sample) → last ≤ largest → Between from last ss → Rising from ss
rising from last [] h b = tt
rising from last (s ∷ ss) h b = (omega (arith, b.0), omega (arith, b.1), rising s.time last ss h b.2)

-- what the first of some requests records comes before all else; a period is at least 1
one_between : (last time : ℕ) (t : State) (r : Request) (ss : List Sample) → refusal_for t r ≡ 0 → time_after time r ≤ last
    → Between (time_after time r) last ss → Between time last (sample_of (time_after time r) (changed t r) r ++ ss)
unfolding time_after sample_of refusal_for scan_refusal
one_between last time t (M number ops1 ops2 w u) ss h l b = b
one_between last time t (I number word) ss h l b = b
one_between last time t (S period) ss h l b = (grind (arith, period_limits, table-in-limits), l, b)
one_between last time t Refused ss h l b = b

samples_between : (last time : ℕ) (t : State) (rs : List Request) → time + 10000 * length rs ≤ last → Between time last (samples_from time t rs)
unfolding samples_from when◌then◌else◌
samples_between last time t [] h = tt
samples_between last time t (r ∷ rs) h =
    by_refusal t r (λ k. rw (samples_accepted t r rs k time)
    (one_between last time t r _ k (omega (arith, (time_goes time t r k).1)) (samples_between last (time_after time r) (changed t r) rs (omega (arith, (time_goes time t r k).1)))))
    (λ k. rw (samples_refused t r rs k time) tt)

-- ---- each sample has the signals of the motors before the first scan

scan_keeps_length : (t : State) (period : ℕ) → length (signals_of (changed t (S period)).motors) ≡ length (signals_of t.motors)
unfolding changed with_scan
scan_keeps_length t period =
    omega (arith, signals_length (changed t (S period)).motors, signals_length t.motors, length_after t.motors t.words period)

one_wide : (time : ℕ) (t : State) (r : Request) (rs : List Request) → refusal_for t r ≡ 0
    → SameWidth (length (signals_of (motors_before_scans (changed t r) rs))) (samples_from (time_after time r) (changed t r) rs)
    → SameWidth (length (signals_of (motors_before_scans t (r ∷ rs)))) (samples_from time t (r ∷ rs))
unfolding sample_of is_scan
one_wide time t (M number ops1 ops2 w u) rs h k =
    rw (before_accepted t (M number ops1 ops2 w u) rs h refl, samples_accepted t (M number ops1 ops2 w u) rs h time) k
one_wide time t (I number word) rs h k = rw (before_accepted t (I number word) rs h refl, samples_accepted t (I number word) rs h time) k
one_wide time t (S period) rs h k =
    rw (before_scan t period rs, samples_accepted t (S period) rs h time)
    (scan_keeps_length t period, rw (once_scanned (changed t (S period)) rs (scan_counted t period), scan_keeps_length t period) at k)
one_wide time t Refused rs h k = absurd (not_accepted t Refused h refl)

samples_wide : (time : ℕ) (t : State) (rs : List Request) → SameWidth (length (signals_of (motors_before_scans t rs))) (samples_from time t rs)
unfolding samples_from
samples_wide time t [] = tt
samples_wide time t (r ∷ rs) =
    by_refusal t r (λ k. one_wide time t r rs k (samples_wide (time_after time r) (changed t r) rs)) (λ k. rw (samples_refused t r rs k time) tt)

-- ---- of a file: the motors of its header, and its accepted scans up to the first refused line, each with all periods up to then, added up

unfoldable pub motors_of : List ℕ → List Motor
motors_of file = motors_before_scans empty_state (requests_of file)

unfoldable pub samples_of : List ℕ → List Sample
samples_of file = samples_from 0 empty_state (requests_of file)

pub times_between : (file : List ℕ) → Between 0 (10000 * length file) (samples_of file)
unfolding samples_of
times_between file = samples_between (10000 * length file) 0 empty_state (requests_of file) (omega (arith, few_requests file))

pub times_rise : (file : List ℕ) → length file ≤ 65536 → Rising 0 (samples_of file)
times_rise file h = rising 0 (10000 * length file) (samples_of file) (omega arith) (times_between file)

signals_wide : (file : List ℕ) → SameWidth (length (signals_of (motors_of file))) (samples_of file)
unfolding motors_of samples_of
signals_wide file = samples_wide 0 empty_state (requests_of file)

-- what is recorded are the outputs by the histories, so there are as many of these as motors
outputs_recorded : (file : List ℕ) (time : ℕ) → signals_at (signals_of (motors_of file)) (samples_of file) time ≡ outputs_at file time
unfolding motors_of samples_of outputs_at histories_in histories_of outputs_from
outputs_recorded file time = samples_outputs time (requests_of file)

as_many : (file : List ℕ) → length (motors_of file) ≡ length (histories_in file)
unfolding outputs_at
as_many file =
    let ms = motors_of file in
    let hs = histories_in file in
    omega (
      arith,
      signals_width (signals_of ms) (samples_of file) 0 (length (signals_of ms)) refl (signals_wide file),
      ap length (outputs_recorded file 0),
      signals_length ms,
      signals_length (map (record_at 0) hs),
      length-map hs (record_at 0),
    )

dump_is : (file : List ℕ) → length file ≤ 65536 → dump_of file ≡ recording_text (length (motors_of file)) (signals_of (motors_of file)) (samples_of file)
unfolding dump_of requests_dump motors_of samples_of too_long when◌then◌else◌
dump_is file h = rw (le-ltb 65536 (length file) h)

pub reads_back : (file : List ℕ) → length file ≤ 65536 → ReadsBack file
reads_back file h =
    let ms = motors_of file in
    let first = signals_of ms in
    let ss = samples_of file in
    record {
      scale = rw (dump_is file h) (scale_back (length ms) first ss);
      wires = rw (dump_is file h, ← as_many file) (wires_back (length ms) first ss);
      values = λ time. rw (dump_is file h, ← outputs_recorded file time) (all_back (length ms) first ss (times_rise file h) (signals_wide file) (signals_length ms) time);
      others = λ code time. rw (dump_is file h) (others_unknown (length ms) first ss (times_rise file h) (signals_wide file) (signals_length ms) code time);
    }

-- The claim holds of any file.
pub claimed : (file : List ℕ) → DumpClaim file
unfolding dump_of too_long when◌then◌else◌
claimed file = record { long = λ e. rw e; read = λ e. reads_back file (ltb-false 65536 (length file) e) }
