-- What follows for the two scans from their definitions, whatever the range and the ten steps are. Assumes nothing.
use Rattle.std.specs.List.{list_all}
use Rattle.std.proofs.lemmas.List.Folds.{list_all_at}
use mathlib.Core.Path.{◌≡◌, refl, sym, ◌∙◌, ap}
use Prim.Native.Nat.{ℕ, zero, suc, ◌<◌, ◌≤◌}
use native.Mathlib.Nat.{not-suc-le-zero, le_of_suc-le-suc}
use native.Mathlib.Omega.{arith}
use mathlib.Core.Bool.{Bool, true, false, not, ◌||◌, and-true as and-end}
use mathlib.Core.List.{List, [], ◌∷◌, ◌++◌}
use lib.Dec.{eqb, ltb, lit<}
use lib.ListN.{length, get_or, set, take, drop, take-append-drop}
use lib.Seq.{length-take-le, length_front, take_at, drop_at}
use borrow.Author.Tests.{eqb-true, ltb-false, not-false, eq-eqb, ne_eqb, le-ltb}
use Rattle.words.specs.Word.{when◌then◌else◌}
use Rattle.words.proofs.Laws.{either, if_map}
use Rattle.rules.specs.Steps.{step}
use Rattle.rules.specs.Refusals.{in_range, most_motors, misfit, period_ok, word_ok, one_refusal, one_after, table_refusal, step_all, table_after, part_refusal, part_after}
use Rattle.rules.specs.declared.Motor.{Motor}

-- ---- tests
pub or_false : (a b : Bool) → a || b ≡ false → (a ≡ false) × (b ≡ false)
or_false true b e = (e, cc)
or_false false b e = (refl, e)

pub if_zero : (z : Bool) (c a : ℕ) → 0 < c → when◌then◌else◌ z c a ≡ 0 → (z ≡ false) × (a ≡ 0)
unfolding when◌then◌else◌
if_zero true c a l e = absurd (omega (arith, l, e))
if_zero false c a l e = (refl, e)

pub list_all_each : {A : Type 0} (f : A → Bool) (xs : List A) (i : ℕ) (d : A) → list_all f xs ≡ true → i < length xs → f (get_or xs i d) ≡ true
list_all_each f xs i d e l = grind (arith, list_all_at)

-- ---- one motor
pub one_refused : (m : Motor) (w p : ℕ) → (one_refusal m w p ≡ 0 → ⊥) → one_after m w p ≡ m
unfolding one_after when◌then◌else◌
one_refused m w p h = rw (ne_eqb (one_refusal m w p) 0 h)

pub one_accepted : (m : Motor) (w p : ℕ) → one_refusal m w p ≡ 0 → one_after m w p ≡ step m w p
unfolding one_after when◌then◌else◌
one_accepted m w p h = rw (eq-eqb (one_refusal m w p) 0 h)

pub one_accepts : (m : Motor) (w p : ℕ) → in_range m ≡ true → period_ok p ≡ true → word_ok w ≡ true → one_refusal m w p ≡ 0
unfolding one_refusal when◌then◌else◌
one_accepts m w p a b c = rw (a, b, c)

-- ---- a table
pub table_refused : (ms : List Motor) (ws : List ℕ) (p : ℕ) → (table_refusal ms ws p ≡ 0 → ⊥) → table_after ms ws p ≡ ms
unfolding table_after when◌then◌else◌
table_refused ms ws p h = rw (ne_eqb (table_refusal ms ws p) 0 h)

pub table_accepted : (ms : List Motor) (ws : List ℕ) (p : ℕ) → table_refusal ms ws p ≡ 0 → table_after ms ws p ≡ step_all ms ws p
unfolding table_after when◌then◌else◌
table_accepted ms ws p h = rw (eq-eqb (table_refusal ms ws p) 0 h)

-- what is so where a table is accepted
pub record Accepted (ms : List Motor) (ws : List ℕ) (p : ℕ) : Type 0 where
  pub lengths : length ms ≡ length ws
  pub room : length ms ≤ most_motors
  pub records : list_all in_range ms ≡ true
  pub period : period_ok p ≡ true
  pub words : list_all word_ok ws ≡ true

pub accepted : (ms : List Motor) (ws : List ℕ) (p : ℕ) → table_refusal ms ws p ≡ 0 → Accepted ms ws p
unfolding table_refusal misfit
accepted ms ws p h =
    let a = if_zero (not (eqb (length ms) (length ws)) || ltb most_motors (length ms)) 1 _ (lit< tt) h in
    let b = if_zero (not (list_all in_range ms)) 6 _ (lit< tt) a.1 in
    let c = if_zero (not (period_ok p)) 2 _ (lit< tt) b.1 in
    let d = if_zero (not (list_all word_ok ws)) 3 _ (lit< tt) c.1 in
    let o = or_false (not (eqb (length ms) (length ws))) (ltb most_motors (length ms)) a.0 in
    record {
      lengths = eqb-true _ _ (not-false _ o.0);
      room = ltb-false _ _ o.1;
      records = not-false _ b.0;
      period = not-false _ c.0;
      words = not-false _ d.0;
    }

-- where a table is accepted, so is each of its records with its word
pub each_accepted : (ms : List Motor) (ws : List ℕ) (p : ℕ) → table_refusal ms ws p ≡ 0 → (i : ℕ) (d : Motor) → i < length ms → one_refusal (get_or ms i d) (get_or ws i 0) p ≡ 0
each_accepted ms ws p h i d l =
    let a = accepted ms ws p h in
    one_accepts (get_or ms i d) (get_or ws i 0) p (list_all_each in_range ms i d a.records l) a.period (list_all_each word_ok ws i 0 a.words (rw a.lengths at l))

-- every record is stepped by its own word
pub step_all_at : (ms : List Motor) (ws : List ℕ) (p i : ℕ) (d : Motor) → i < length ms → i < length ws → get_or (step_all ms ws p) i d ≡ step (get_or ms i d) (get_or ws i 0) p
unfolding step_all
step_all_at [] ws p i d l l' = absurd (not-suc-le-zero l)
step_all_at (m ∷ ms) [] p i d l l' = absurd (not-suc-le-zero l')
step_all_at (m ∷ ms) (w ∷ ws) p zero d l l' = refl
step_all_at (m ∷ ms) (w ∷ ws) p (suc i) d l l' = step_all_at ms ws p i d (le_of_suc-le-suc l) (le_of_suc-le-suc l')

pub element : (ms : List Motor) (ws : List ℕ) (p : ℕ) → table_refusal ms ws p ≡ 0 → (i : ℕ) (d : Motor) → i < length ms → get_or (table_after ms ws p) i d ≡ step (get_or ms i d) (get_or ws i 0) p
element ms ws p h i d l = rw (table_accepted ms ws p h) (step_all_at ms ws p i d l (rw (accepted ms ws p h).lengths at l))

-- an element depends on no other: in any two tables that are accepted, at any two places
pub alone : (ms ms' : List Motor) (ws ws' : List ℕ) (p : ℕ) → table_refusal ms ws p ≡ 0 → table_refusal ms' ws' p ≡ 0 → (i i' : ℕ) (d : Motor) → i < length ms → i' < length ms'
    → get_or ms i d ≡ get_or ms' i' d → get_or ws i 0 ≡ get_or ws' i' 0 → get_or (table_after ms ws p) i d ≡ get_or (table_after ms' ws' p) i' d
alone ms ms' ws ws' p h h' i i' d l l' e e' = rw (element ms ws p h i d l, element ms' ws' p h' i' d l', e, e')

pub length_step_all : (ms : List Motor) (ws : List ℕ) (p : ℕ) → length (step_all ms ws p) ≡ length ms
unfolding step_all
length_step_all [] ws p = refl
length_step_all (m ∷ ms) [] p = refl
length_step_all (m ∷ ms) (w ∷ ws) p = ap suc (length_step_all ms ws p)

pub length_after : (ms : List Motor) (ws : List ℕ) (p : ℕ) → length (table_after ms ws p) ≡ length ms
unfolding table_after
length_after ms ws p = either (λ (ns : List Motor). length ns ≡ length ms) _ (length_step_all ms ws p) refl

-- ---- a table of which some records are stepped: as many as there are words
pub none_stepped : (ms : List Motor) (p : ℕ) → step_all ms [] p ≡ ms
unfolding step_all
none_stepped [] p = refl
none_stepped (m ∷ ms) p = refl

-- the record j is not stepped before its turn
pub not_yet : (ms : List Motor) (ws : List ℕ) (p j : ℕ) (d : Motor) → get_or (step_all ms (take j ws) p) j d ≡ get_or ms j d
unfolding step_all
not_yet [] ws p j d = refl
not_yet (m ∷ ms) ws p zero d = refl
not_yet (m ∷ ms) [] p (suc j) d = refl
not_yet (m ∷ ms) (w ∷ ws) p (suc j) d = not_yet ms ws p j d

pub one_more : (ms : List Motor) (ws : List ℕ) (p j : ℕ) (d : Motor) → j < length ms → j < length ws → set (step_all ms (take j ws) p) j (step (get_or ms j d) (get_or ws j 0) p) ≡ step_all ms (take (suc j) ws) p
unfolding step_all
one_more [] ws p j d l l' = absurd (not-suc-le-zero l)
one_more (m ∷ ms) [] p j d l l' = absurd (not-suc-le-zero l')
one_more (m ∷ ms) (w ∷ ws) p zero d l l' = ap (λ (ns : List Motor). step m w p ∷ ns) (sym (none_stepped ms p))
one_more (m ∷ ms) (w ∷ ws) p (suc j) d l l' = ap (λ (ns : List Motor). step m w p ∷ ns) (one_more ms ws p j d (le_of_suc-le-suc l) (le_of_suc-le-suc l'))

-- the first n are stepped, and the others stay
pub steps_front : (ms : List Motor) (ws : List ℕ) (p n : ℕ) → step_all ms (take n ws) p ≡ step_all (take n ms) (take n ws) p ++ drop n ms
unfolding step_all
steps_front [] ws p zero = refl
steps_front [] ws p (suc n) = refl
steps_front (m ∷ ms) ws p zero = refl
steps_front (m ∷ ms) [] p (suc n) = ap (λ (l : List Motor). m ∷ l) (sym (take-append-drop n ms))
steps_front (m ∷ ms) (w ∷ ws) p (suc n) = ap (λ (l : List Motor). step m w p ∷ l) (steps_front ms ws p n)

-- ---- a table of one is refused and scanned as its record by itself
pub single_refusal : (m : Motor) (w p : ℕ) → table_refusal (m ∷ []) (w ∷ []) p ≡ one_refusal m w p
unfolding table_refusal misfit one_refusal most_motors when◌then◌else◌
single_refusal m w p = rw (and-end (in_range m), and-end (word_ok w))

pub single_after : (m : Motor) (w p : ℕ) → table_after (m ∷ []) (w ∷ []) p ≡ one_after m w p ∷ []
unfolding table_after one_after step_all
single_after m w p = rw (single_refusal m w p) (sym (if_map (λ (n : Motor). n ∷ []) (eqb (one_refusal m w p) 0) (step m w p) m))

-- ---- the first records of an array
part_unchanged : (ms : List Motor) (n : ℕ) (ws : List ℕ) (p : ℕ) (z : Bool) → (when◌then◌else◌ z 1 (table_refusal (take n ms) (take n ws) p) ≡ 0 → ⊥) → when◌then◌else◌ z ms (table_after (take n ms) (take n ws) p ++ drop n ms) ≡ ms
unfolding when◌then◌else◌
part_unchanged ms n ws p true h = refl
part_unchanged ms n ws p false h = rw (table_refused (take n ms) (take n ws) p h) (take-append-drop n ms)

pub part_refused : (ms : List Motor) (n : ℕ) (ws : List ℕ) (p : ℕ) → (part_refusal ms n ws p ≡ 0 → ⊥) → part_after ms n ws p ≡ ms
unfolding part_refusal part_after
part_refused ms n ws p h = part_unchanged ms n ws p (ltb most_motors n) h

pub length_part : (ms : List Motor) (n : ℕ) (ws : List ℕ) (p : ℕ) → length (part_after ms n ws p) ≡ length ms
unfolding part_after
length_part ms n ws p = either (λ (ns : List Motor). length ns ≡ length ms) _ refl (length_front ms (table_after (take n ms) (take n ws) p) n (length_after (take n ms) (take n ws) p))

-- where a table of the first records is accepted, they are stepped
pub part_stepped : (ms : List Motor) (n : ℕ) (ws : List ℕ) (p : ℕ) → part_refusal ms n ws p ≡ 0 → part_after ms n ws p ≡ step_all ms (take n ws) p
unfolding part_refusal part_after when◌then◌else◌
part_stepped ms n ws p h = go (ltb most_motors n) h
  where
    go : (z : Bool) → when◌then◌else◌ z 1 (table_refusal (take n ms) (take n ws) p) ≡ 0
        → when◌then◌else◌ z ms (table_after (take n ms) (take n ws) p ++ drop n ms) ≡ step_all ms (take n ws) p
    go true e = absurd (omega arith)
    go false e = rw (table_accepted (take n ms) (take n ws) p e) (sym (steps_front ms ws p n))

-- where the count is one of a table, the first records are scanned as a table, and the others stay
pub part_front : (ms : List Motor) (n : ℕ) (ws : List ℕ) (p : ℕ) → n ≤ most_motors → n ≤ length ms → take n (part_after ms n ws p) ≡ table_after (take n ms) (take n ws) p
unfolding part_after when◌then◌else◌
part_front ms n ws p few l = rw (le-ltb most_motors n few) (take_at (table_after (take n ms) (take n ws) p) (drop n ms) n (length_after (take n ms) (take n ws) p ∙ length-take-le n ms l))

pub part_rest : (ms : List Motor) (n : ℕ) (ws : List ℕ) (p : ℕ) → n ≤ most_motors → n ≤ length ms → drop n (part_after ms n ws p) ≡ drop n ms
unfolding part_after when◌then◌else◌
part_rest ms n ws p few l = rw (le-ltb most_motors n few) (drop_at (table_after (take n ms) (take n ws) p) (drop n ms) n (length_after (take n ms) (take n ws) p ∙ length-take-le n ms l))
