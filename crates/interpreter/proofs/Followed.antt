-- Every motor of a bench that began empty is one that the claim follows: it was fresh when its M line added it, and each accepted S line
-- since is a scan of the whole table with the words that the motors held. Its history, as the lines of a file make it, is the one that the claim
-- and the claim on the totals speak of. Assumes nothing.
use Rattle.std.proofs.Common.{ℕ, zero, suc, ◌<◌, ◌≡◌, refl, sym, ap, ◌∙◌, true, false, List, [], ◌∷◌, ◌++◌, map, arith, eqb, length, get_or, length-append, eqb-true}
use mathlib.Core.List.{map-append}
use native.Mathlib.Decide.{dec_lt}
use lib.ListN.{length-map, get_or-map, get_or-append}
use lib.Seq.{get_or-append_seam}
use Rattle.words.specs.Word.{when◌then◌else◌}
use Rattle.rules.specs.Refusals.{table_after}
use Rattle.rules.specs.declared.Motor.{Motor}
use Rattle.rules.specs.Record.{fresh}
use Rattle.rules.specs.Scans.{Input}
use Rattle.rules.proofs.Tables.{accepted as table-in-limits}
use Rattle.book.specs.Log.{Log, none, ◌▸◌}
use Rattle.book.specs.History.{Entry, history}
use Rattle.book.specs.Run.{Order, all, nobody, scanned, table_run, entries_at, Followed}
use Rattle.book.proofs.Run.{length_run, followed, scan_entered}
use Rattle.totals.specs.Claim.{TotalsClaim}
use Rattle.totals.proofs.Theorem.{claimed}
use Rattle.sheet.specs.declared.Request.{Request}
use Rattle.sheet.specs.declared.Request.TheVariants.{Motor as M, Input as I, Scan as S, Refused}
use Rattle.interpreter.specs.State.{State, empty_state, next_number, with_motor, with_words, with_word, scan_refusal, with_scan, refusal_for, changed, state_after, states_after}
use Rattle.interpreter.specs.Histories.{History, entered, histories_after, histories_from, histories_of}
use Rattle.interpreter.proofs.ActLaws.{accepted as is-changed, motor_first}

-- ---- the scans that the accepted requests make

unfoldable pub ordered : Log Order → State → Request → Log Order
ordered os t (M number ops1 ops2 w u) = os
ordered os t (I number word) = os
ordered os t (S period) = os ▸ all t.words period
ordered os t Refused = os

unfoldable pub orders_from : Log Order → State → List Request → Log Order
orders_from os t [] = os
orders_from os t (r ∷ rs) = orders_from (when eqb (refusal_for t r) 0 then ordered os t r else os) (state_after t r) rs

-- ---- the motors of some histories, fresh; and one scan more of them

abbrev pub fresh_in : History → Motor
fresh_in h = fresh h.settings

-- stands for a history that is not there
abbrev pub unheld : History
unheld = record { settings = record { ops1 = 0; ops2 = 0; w = 0; u = 0 }; scans = none }

fresh_entered : (hs : List History) (words : List ℕ) (period : ℕ) → map fresh_in (entered hs words period) ≡ map fresh_in hs
unfolding entered
fresh_entered [] words period = refl
fresh_entered (h ∷ hs) [] period = refl
fresh_entered (h ∷ hs) (word ∷ words) period = rw (fresh_entered hs words period) refl

entered_at : (hs : List History) (words : List ℕ) (period j : ℕ) → j < length hs → j < length words
    → get_or (entered hs words period) j unheld ≡ record { settings = (get_or hs j unheld).settings; scans = (get_or hs j unheld).scans ▸ record { word = get_or words j 0; period = period } }
unfolding entered
entered_at [] words period j l k = absurd (omega arith)
entered_at (h ∷ hs) [] period j l k = absurd (omega arith)
entered_at (h ∷ hs) (word ∷ words) period zero l k = refl
entered_at (h ∷ hs) (word ∷ words) period (suc j) l k = entered_at hs words period j (omega arith) (omega arith)

-- ---- the motors are what the scans make of fresh ones, and the histories have these scans

record Run (t : State) (hs : List History) (os : Log Order) : Type 0 where
  motors : t.motors ≡ table_run (map fresh_in hs) os
  unscanned : t.scans ≡ 0 → os ≡ none
  histories : (j : ℕ) → j < length hs → (get_or hs j unheld).scans ≡ history (get_or hs j unheld).settings (entries_at j (map fresh_in hs) os)

-- a motor more, before the first scan
none_entered : (hs : List History) (h : History) → h.scans ≡ none
    → ((j : ℕ) → j < length hs → (get_or hs j unheld).scans ≡ history (get_or hs j unheld).settings (entries_at j (map fresh_in hs) none))
    → (j : ℕ) → j < length (hs ++ (h ∷ [])) → (get_or (hs ++ (h ∷ [])) j unheld).scans ≡ history (get_or (hs ++ (h ∷ [])) j unheld).settings (entries_at j (map fresh_in (hs ++ (h ∷ []))) none)
unfolding entries_at history
none_entered hs h e a j l = go (dec_lt j (length hs))
  where
    go : Dec (j < length hs) → (get_or (hs ++ (h ∷ [])) j unheld).scans ≡ none
    go (yes k) = rw (get_or-append hs (h ∷ []) unheld j k) (a j k)
    go (no k) = let i : j ≡ length hs = grind (arith, length-append) in rw (i, get_or-append_seam hs h [] unheld) e

-- a scan more
scan_histories : (t : State) (hs : List History) (os : Log Order) (period : ℕ) → scan_refusal t period ≡ 0 → Run t hs os
    → (j : ℕ) → j < length (entered hs t.words period)
    → (get_or (entered hs t.words period) j unheld).scans ≡ history (get_or (entered hs t.words period) j unheld).settings (entries_at j (map fresh_in (entered hs t.words period)) (os ▸ all t.words period))
unfolding scan_refusal nobody
scan_histories t hs os period ok a j l =
    let same = fresh_entered hs t.words period in
    let few : j < length hs = omega (arith, length-map (entered hs t.words period) fresh_in, ap length same, length-map hs fresh_in) in
    let many = rw a.motors at ok in
    let size = ap length a.motors ∙ length_run (map fresh_in hs) os ∙ length-map hs fresh_in in
    rw (same, entered_at hs t.words period j few (omega (arith, size, (table-in-limits t.motors t.words period ok).lengths)))
    (ap (λ (x : Log Input). x ▸ record { word = get_or t.words j 0; period = period }) (a.histories j few)
    ∙ sym (scan_entered (map fresh_in hs) j (get_or hs j unheld).settings (omega (arith, length-map hs fresh_in)) (get_or-map fresh_in hs j unheld) os t.words period many))

run_on : {t : State} {hs : List History} {os : Log Order} (r : Request) → refusal_for t r ≡ 0 → Run t hs os → Run (changed t r) (histories_after hs t r) (ordered os t r)
unfolding refusal_for changed with_motor with_word with_words with_scan next_number histories_after ordered table_run scanned
run_on {hs = hs} (M number ops1 ops2 w u) h a =
    let z = a.unscanned (motor_first _ _ _ _ h) in
    let g : History = record { settings = record { ops1 = ops1; ops2 = ops2; w = w; u = u }; scans = none } in
    record {
      motors = rw (z, map-append fresh_in hs) (ap (λ (l : List Motor). l ++ (fresh_in g ∷ [])) (rw z at a.motors));
      unscanned = λ e. z;
      histories = rw z (none_entered hs g refl (rw z at a.histories));
    }
run_on (I number word) h a = record { motors = a.motors; unscanned = a.unscanned; histories = a.histories }
run_on {t} {hs} {os} (S period) h a =
    record {
      motors =
          ap (λ (ms : List Motor). table_after ms t.words period) a.motors
          ∙ ap (λ (ms : List Motor). table_after (table_run ms os) t.words period) (sym (fresh_entered hs t.words period));
      unscanned = λ e. absurd (omega arith);
      histories = scan_histories t hs os period h a;
    }
run_on Refused h a = a

run_through : (t : State) (rs : List Request) {hs : List History} {os : Log Order} → Run t hs os
    → Run (states_after t rs) (histories_from hs t rs) (orders_from os t rs)
unfolding states_after state_after histories_from orders_from when◌then◌else◌
run_through t [] a = a
run_through t (r ∷ rs) {hs} {os} a =
    run_through (state_after t r) rs
    (elim (eqb (refusal_for t r) 0) as (λ b. eqb (refusal_for t r) 0 ≡ b → Run (when b then changed t r else t) (when b then histories_after hs t r else hs) (when b then ordered os t r else os)) [
      | true ↦ λ e. run_on r (eqb-true _ _ e) a
      | false ↦ λ e. a
    ] refl)

-- ---- from the empty bench on, whatever is asked of it

abbrev pub orders_of : List Request → Log Order
orders_of rs = orders_from none empty_state rs

started : Run empty_state [] none
unfolding empty_state table_run
started = record { motors = refl; unscanned = λ e. refl; histories = λ j l. absurd (omega arith) }

run_of : (rs : List Request) → Run (states_after empty_state rs) (histories_of rs) (orders_of rs)
unfolding histories_of
run_of rs = run_through empty_state rs started

pub motors_run : (rs : List Request) → (states_after empty_state rs).motors ≡ table_run (map fresh_in (histories_of rs)) (orders_of rs)
motors_run rs = (run_of rs).motors

-- what the motor at the place j meets
abbrev pub met_by : ℕ → List Request → Log Entry
met_by j rs = entries_at j (map fresh_in (histories_of rs)) (orders_of rs)

module _ (rs : List Request) (j : ℕ) (h : j < length (histories_of rs)) where
  -- the claim holds of each motor
  pub each_followed : Followed (map fresh_in (histories_of rs)) j (get_or (histories_of rs) j unheld).settings (orders_of rs)
  unfolding nobody
  each_followed =
      let hs = histories_of rs in
      followed (map fresh_in hs) j (get_or hs j unheld).settings (omega (arith, length-map hs fresh_in)) (get_or-map fresh_in hs j unheld) (orders_of rs)

  -- and speaks of the history that the lines make
  pub each_history : (get_or (histories_of rs) j unheld).scans ≡ history (get_or (histories_of rs) j unheld).settings (met_by j rs)
  each_history = (run_of rs).histories j h

  -- of which the claim on the totals holds
  pub each_claimed : TotalsClaim (get_or (histories_of rs) j unheld).settings (get_or (histories_of rs) j unheld).scans
  each_claimed = rw each_history (claimed (get_or (histories_of rs) j unheld).settings (met_by j rs))

-- ---- so it is of any bench that accepted requests lead to

pub record Reached (t : State) : Type 0 where
  pub requests : List Request
  pub state : t ≡ states_after empty_state requests

one_request_more : (t : State) (rs : List Request) (r : Request) → states_after t (rs ++ (r ∷ [])) ≡ state_after (states_after t rs) r
unfolding states_after
one_request_more t [] r = refl
one_request_more t (q ∷ rs) r = one_request_more (state_after t q) rs r

-- one more
pub one_reached : (t : State) (r : Request) → Reached t → refusal_for t r ≡ 0 → Reached (changed t r)
one_reached t r b h =
    record {
      requests = b.requests ++ (r ∷ []);
      state = sym (is-changed t r h) ∙ ap (λ (u : State). state_after u r) b.state ∙ sym (one_request_more empty_state b.requests r);
    }
