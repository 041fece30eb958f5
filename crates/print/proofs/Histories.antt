-- What is printed at the end of a file: the running totals that a bench keeps are the totals of its motors' histories, and a file is too short
-- for any of them to be capped. Assumes nothing.
use Prim.Native.Nat.{ℕ, suc, ◌+◌, ◌≤◌}
use mathlib.Core.Path.{◌≡◌, refl, sym, ap}
use mathlib.Core.Bool.{Bool, true, false}
use mathlib.Core.List.{List, [], ◌∷◌, ◌++◌, map, map-append}
use native.Mathlib.Omega.{arith}
use lib.Dec.{eqb}
use lib.ListN.{length}
use borrow.Author.Tests.{eqb-true, le-ltb}
use Rattle.words.specs.Word.{when◌then◌else◌}
use Rattle.rules.specs.Refusals.{period_ok}
use Rattle.rules.proofs.Tables.{accepted as table-in-limits}
use Rattle.book.specs.Log.{none, count}
use Rattle.book.specs.History.{record_of}
use Rattle.book.proofs.Book.{book_held}
use Rattle.book.proofs.Periods.{Timely, timely_total}
use Rattle.totals.specs.declared.Totals.{Totals}
use Rattle.totals.specs.Totals.{under_way_in, under_way_of}
use Rattle.totals.specs.Running.{scan_totals, all_totals, running_of}
use Rattle.totals.proofs.Running.{running_exact}
use Rattle.sheet.specs.Grammar.{requests_of}
use Rattle.sheet.specs.declared.Request.{Request}
use Rattle.sheet.specs.declared.Request.TheVariants.{Motor as M, Input as I, Scan as S, Refused}
use Rattle.sheet.proofs.MoreLines.{few_requests}
use Rattle.interpreter.specs.State.{State, empty_state, with_motor, with_words, with_word, scan_refusal, with_scan, refusal_for, changed, state_after, states_after, too_long}
use Rattle.interpreter.specs.Histories.{History, entered, histories_after, histories_from, histories_of}
use Rattle.interpreter.proofs.Records.{record_in, records_on}
use Rattle.print.specs.Print.{history_row, totals_print, requests_print, print_of}
use Rattle.print.specs.Advance.{running_print, at_end}
use Rattle.print.proofs.PrintLaws.{rest_from, rest_from_lem}

-- ---- what a bench holds, by the histories of its motors

abbrev totals_in : History → Totals
totals_in g = running_of g.settings g.scans

-- each history has at most n scans, and each of them a period of a scan
abbrev Short : ℕ → List History → Type 0
Short n [] = Unit {0}
Short n (g ∷ hs) = (count g.scans ≤ n) × Timely g.scans × Short n hs

record Kept (hs : List History) (t : State) (n : ℕ) : Type 0 where
  motors : t.motors ≡ map record_in hs
  totals : t.totals ≡ map totals_in hs
  short : Short n hs

-- ---- one scan more

totals_entered : (hs : List History) (words : List ℕ) (period : ℕ)
    → all_totals (map totals_in hs) (map record_in hs) words period ≡ map totals_in (entered hs words period)
unfolding all_totals entered running_of
totals_entered [] words period = refl
totals_entered (g ∷ hs) [] period = refl
totals_entered (g ∷ hs) (word ∷ words) period = ap (λ (l : List Totals). scan_totals (totals_in g) (record_in g) word period ∷ l) (totals_entered hs words period)

later : (n : ℕ) (hs : List History) → Short n hs → Short (suc n) hs
later n [] h = tt
later n (g ∷ hs) h = (omega (arith, h.0), h.1, later n hs h.2)

short_entered : (n : ℕ) (hs : List History) (words : List ℕ) (period : ℕ) → period_ok period ≡ true → Short n hs → Short (suc n) (entered hs words period)
unfolding entered count
short_entered n [] words period e h = tt
short_entered n (g ∷ hs) [] period e h = later n (g ∷ hs) h
short_entered n (g ∷ hs) (word ∷ words) period e h = (omega (arith, h.0), (h.1, e), short_entered n hs words period e h.2)

-- ---- one motor more, with no scan

short_more : (n : ℕ) (hs : List History) (g : History) → g.scans ≡ none → Short n hs → Short n (hs ++ (g ∷ []))
unfolding count
short_more n [] g e h = (rw e (omega arith), rw e tt, tt)
short_more n (d ∷ hs) g e h = (h.0, h.1, short_more n hs g e h.2)

-- ---- from the empty bench on

kept_on : {hs : List History} {t : State} {n : ℕ} (r : Request) → refusal_for t r ≡ 0 → Kept hs t n → Kept (histories_after hs t r) (changed t r) (suc n)
unfolding refusal_for scan_refusal changed with_motor with_word with_words with_scan histories_after record_of running_of
kept_on {hs} {t} {n} (M number ops1 ops2 w u) h k =
    let g : History = record { settings = record { ops1 = ops1; ops2 = ops2; w = w; u = u }; scans = none } in
    record {
      motors = records_on hs t (M number ops1 ops2 w u) h k.motors;
      totals = rw (k.totals, map-append totals_in hs);
      short = later n (hs ++ (g ∷ [])) (short_more n hs g refl k.short);
    }
kept_on {hs} {t} {n} (I number word) h k = record { motors = k.motors; totals = k.totals; short = later n hs k.short }
kept_on {hs} {t} {n} (S period) h k =
    record {
      motors = records_on hs t (S period) h k.motors;
      totals = rw (k.totals, k.motors) (totals_entered hs t.words period);
      short = short_entered n hs t.words period (table-in-limits t.motors t.words period h).period k.short;
    }
kept_on {hs} {t} {n} Refused h k = record { motors = k.motors; totals = k.totals; short = later n hs k.short }

kept_through : (hs : List History) (t : State) (rs : List Request) {n : ℕ} → Kept hs t n → Kept (histories_from hs t rs) (states_after t rs) (n + length rs)
unfolding histories_from states_after state_after when◌then◌else◌
kept_through hs t [] {n} k = let e : n ≡ n + 0 = omega arith in rw (← e) k
kept_through hs t (r ∷ rs) {n} k =
    let e : suc n + length rs ≡ n + suc (length rs) = omega arith in
    rw (← e) (kept_through (when eqb (refusal_for t r) 0 then histories_after hs t r else hs) (state_after t r) rs (one (eqb (refusal_for t r) 0) refl))
  where
    one : (b : Bool) → eqb (refusal_for t r) 0 ≡ b → Kept (when b then histories_after hs t r else hs) (when b then changed t r else t) (suc n)
    one true e = kept_on r (eqb-true _ _ e) k
    one false e = record { motors = k.motors; totals = k.totals; short = later n hs k.short }

none_kept : Kept [] empty_state 0
unfolding empty_state
none_kept = record { motors = refl; totals = refl; short = tt }

-- ---- the T lines

under_way_is : (g : History) → under_way_in (record_in g).status ≡ under_way_of g.settings g.scans
unfolding under_way_of
under_way_is g = ap under_way_in (book_held g.settings g.scans).status_is

rows_are : (number n : ℕ) (hs : List History) → n ≤ 65536 → Short n hs → running_print number (map record_in hs) (map totals_in hs) ≡ totals_print number hs
unfolding running_print totals_print history_row
rows_are number n [] few h = refl
rows_are number n (g ∷ hs) few h =
    rw (
      under_way_is g,
      running_exact g.settings g.scans (omega (arith, h.0)) (omega (arith, h.0, timely_total g.scans h.1)),
      rows_are (number + 1) n hs few h.2,
    )

module _ (rs : List Request) (few : length rs ≤ 65536) where
  pub end_is : at_end (states_after empty_state rs) ≡ totals_print 1 (histories_of rs)
  unfolding at_end histories_of
  end_is = let k = kept_through [] empty_state rs none_kept in rw (k.motors, k.totals) (rows_are 1 (0 + length rs) (histories_of rs) (omega arith) k.short)

-- ---- so they are what a file prints at its end

pub print_rest : (file : List ℕ) → length file ≤ 65536 → print_of file ≡ rest_from file 0 empty_state 1
unfolding print_of requests_print too_long when◌then◌else◌
print_rest file h =
    rw (le-ltb 65536 (length file) h, ← end_is (requests_of file) (omega (arith, few_requests file))) (sym (rest_from_lem file 0 empty_state 1 (omega arith)))
