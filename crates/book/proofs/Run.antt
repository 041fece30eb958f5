-- Every fresh motor of a table is followed through any list of scans of it. Assumes nothing.
use Prim.Native.Nat.{ℕ, zero, suc, ◌<◌}
use mathlib.Core.Path.{◌≡◌, refl, sym, ap, ◌∙◌}
use mathlib.Core.Bool.{Bool, true, false}
use mathlib.Core.List.{List, [], ◌∷◌, ◌++◌}
use native.Mathlib.Omega.{arith}
use lib.Dec.{eqb}
use lib.ListN.{length, get_or, take, drop, set, length-take, length-set}
use lib.Seq.{split_at, get_or-set_same, get_or-set_other}
use borrow.Author.Tests.{eqb-true, eqb-false, eq-eqb}
use Rattle.words.specs.Word.{when◌then◌else◌}
use Rattle.rules.specs.declared.Settings.{Settings}
use Rattle.rules.specs.declared.Motor.{Motor}
use Rattle.rules.specs.Record.{fresh}
use Rattle.rules.specs.Refusals.{one_after, table_refusal, table_after}
use Rattle.rules.proofs.Tables.{length_after}
use Rattle.book.specs.Log.{Log, none, ◌▸◌}
use Rattle.book.specs.History.{single, other_single, result_of, after, input_of, takes_in, counts, record_after, history}
use Rattle.book.specs.Run.{Order, all, one, nobody, scanned, table_run, entry_at, entries_at, Followed}
use Rattle.book.proofs.Record.{taken_is}
use Rattle.book.proofs.Theorem.{claimed}

length_scanned : (t : List Motor) (o : Order) → length (scanned t o) ≡ length t
unfolding scanned
length_scanned t (all ws p) = length_after t ws p
length_scanned t (one i w p) = length-set t i _

pub length_run : (t : List Motor) (os : Log Order) → length (table_run t os) ≡ length t
unfolding table_run
length_run t none = refl
length_run t (os ▸ o) = length_scanned (table_run t os) o ∙ length_run t os

any_default : (l : List Motor) (j : ℕ) (d e : Motor) → j < length l → get_or l j d ≡ get_or l j e
any_default [] j d e h = absurd (omega arith)
any_default (x ∷ l) zero d e h = refl
any_default (x ∷ l) (suc j) d e h = any_default l j d e (omega arith)

scanned_at : (t : List Motor) (j : ℕ) (o : Order) → j < length t → get_or (scanned t o) j nobody ≡ after (get_or t j nobody) (entry_at j t o)
unfolding scanned entry_at after when◌then◌else◌
scanned_at t j (all ws p) h =
    let m : Motor = get_or t j nobody in
    let l : length (take j t) ≡ j = length-take j t ∙ omega arith in
    any_default (table_after t ws p) j nobody m (omega (arith, length_scanned t (all ws p)))
    ∙ ap (λ (r : List Motor). get_or (table_after r ws p) j m) (split_at t j nobody h)
    ∙ ap (λ (i : ℕ). get_or (table_after (take j t ++ (m ∷ drop (suc j) t)) ws p) i m) (sym l)
scanned_at t j (one i w p) h = go (eqb i j) refl
  where
    go : (b : Bool) → eqb i j ≡ b
        → get_or (set t i (one_after (get_or t i nobody) w p)) j nobody
        ≡ after (get_or t j nobody) (when b then single w p else other_single (get_or t i nobody) w p)
    go true e = rw (eqb-true i j e) (get_or-set_same t j _ nobody h)
    go false e = get_or-set_other t i j _ nobody (λ x. eqb-false i j e (sym x))

run_at : (t : List Motor) (j : ℕ) (s : Settings) → j < length t → get_or t j nobody ≡ fresh s → (os : Log Order)
    → get_or (table_run t os) j nobody ≡ record_after s (entries_at j t os)
unfolding table_run entries_at record_after
run_at t j s h f none = f
run_at t j s h f (os ▸ o) =
    scanned_at (table_run t os) j o (omega (arith, length_run t os))
    ∙ ap (λ (m : Motor). after m (entry_at j (table_run t os) o)) (run_at t j s h f os)

pub followed : (t : List Motor) (j : ℕ) (s : Settings) → j < length t → get_or t j nobody ≡ fresh s → (os : Log Order) → Followed t j s os
followed t j s h f os = record { same = run_at t j s h f os; claim = claimed s (entries_at j t os) }

-- an accepted scan of the table is entered in the history of each motor, with its own word
module _ (t : List Motor) (j : ℕ) (s : Settings) (h : j < length t) (f : get_or t j nobody ≡ fresh s) (os : Log Order) (words : List ℕ) (period : ℕ) (ok : table_refusal (table_run t os) words period ≡ 0) where
  abbrev there : List Motor
  there = table_run t os

  in_table : j < length there
  in_table = omega (arith, length_run t os)

  word_at : input_of (entry_at j there (all words period)) ≡ record { word = get_or words j 0; period = period }
  unfolding entry_at input_of
  word_at =
      let l : length (take j there) ≡ j = length-take j there ∙ omega (arith, in_table) in
      ap (λ (i : ℕ). record { word = get_or words i 0; period = period }) l

  counted : counts (record_after s (entries_at j t os)) (entry_at j there (all words period)) ≡ true
  unfolding entry_at counts takes_in result_of
  counted = rw (← run_at t j s h f os, ← split_at there j nobody in_table) (eq-eqb (table_refusal there words period) 0 ok)

  pub scan_entered : history s (entries_at j t (os ▸ all words period)) ≡ (history s (entries_at j t os) ▸ record { word = get_or words j 0; period = period })
  unfolding entries_at
  scan_entered = rw (← word_at) (taken_is s (entries_at j t os) (entry_at j there (all words period)) counted).1
