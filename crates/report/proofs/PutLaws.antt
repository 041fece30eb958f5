-- Laws of putting bytes into a buffer. Assumes nothing.
use Prim.Native.Nat.{ℕ, suc, ◌+◌, ◌≤◌}
use mathlib.Core.Path.{◌≡◌, refl, sym, ap, ◌∙◌}
use mathlib.Core.List.{List, [], ◌∷◌, ◌++◌}
use native.Mathlib.Omega.{arith}
use native.Mathlib.Decide.{dec_le}
use native.Mathlib.Nat.{add-zero}
use lib.ListN.{length, take, drop, set, length-append}
use lib.Seq.{sets, sets-eq, length-sets, set_out, take_at}
use Rattle.report.specs.Put.{Put}
use Rattle.report.specs.Puts.{Puts}
use Rattle.report.specs.declared.page.Page.{Page}

-- what is stored past the end is lost
sets_out : (l : List ℕ) (i : ℕ) (b : List ℕ) → length l ≤ i → sets l i b ≡ l
sets_out l i [] h = refl
sets_out l i (x ∷ b) h = rw (set_out l i x h) (sets_out l (suc i) b (omega arith))

-- two runs of stores are one
sets_append : (l : List ℕ) (i : ℕ) (a b : List ℕ) → sets l i (a ++ b) ≡ sets (sets l i a) (i + length a) b
sets_append l i [] b = rw (add-zero i)
sets_append l i (x ∷ a) b =
    let e : suc i + length a ≡ i + suc (length a) = omega arith in
    sets_append (set l i x) (suc i) a b ∙ rw e

-- nothing put
pub put_none : {o : List ℕ} {at : ℕ} → Put o at [] o at
put_none = record { list = refl; place = omega arith }

-- bytes put one after another
module _ {o p q a b : List ℕ} {at n m : ℕ} (h : Put o at a p n) (k : Put p n b q m) where
  then·list : Dec (at + length a ≤ length o) → sets p n b ≡ sets o at (a ++ b)
  then·list (yes f) =
      let e : n ≡ at + length a = omega (arith, h.place) in
      rw (h.list, e) (sym (sets_append o at a b))
  then·list (no f) =
      rw (h.list, sets_append o at a b)
      (sets_out (sets o at a) n b (rw (length-sets o at a) (omega (arith, h.place)))
      ∙ sym (sets_out (sets o at a) (at + length a) b (rw (length-sets o at a) (omega arith))))

  pub then : Put o at (a ++ b) q m
  then = record {
    list = k.list ∙ then·list (dec_le (at + length a) (length o));
    place = omega (arith, h.place, k.place, length-append a b, ap length h.list, length-sets o at a);
  }

-- a buffer keeps its length
pub put_length : {o p b : List ℕ} {at n : ℕ} → Put o at b p n → length p ≡ length o
put_length {o} {p} {b} {at} h = ap length h.list ∙ length-sets o at b

-- where there is room the bytes stand at their place, and the next place is right after them
module _ {o b p : List ℕ} {at n : ℕ} (room : at + length b ≤ length o) (h : Put o at b p n) where
  pub exact_list : p ≡ take at o ++ b ++ drop (at + length b) o
  exact_list = h.list ∙ sets-eq b o at room

  pub exact_place : n ≡ at + length b
  exact_place = omega (arith, h.place)

-- and a buffer that was filled from its start begins with them
pub front : {o b p : List ℕ} {n : ℕ} → length b ≤ length o → Put o 0 b p n → take n p ≡ b
front {o} {b} room h =
    let fits : 0 + length b ≤ length o = omega arith in
    rw (exact_list fits h, exact_place fits h) (take_at b (drop (0 + length b) o) (0 + length b) (omega arith))

-- ---- the same of a page

pub puts_none : {p : Page} → Puts p [] p
puts_none = record { put = put_none; same_buffer = refl }

pub puts_then : {p q r : Page} {a b : List ℕ} → Puts p a q → Puts q b r → Puts p (a ++ b) r
puts_then h k = record { put = then h.put k.put; same_buffer = k.same_buffer ∙ h.same_buffer }

-- ---- the same of a page in a loop

-- Whoever puts the rest puts the whole.
pub record Completes (from : Page) (whole : List ℕ) (here : Page) (rest : List ℕ) : Type 0 where
  pub by : (q : Page) → Puts here rest q → Puts from whole q

pub all_left : {p : Page} {whole : List ℕ} → Completes p whole p whole
all_left = record { by = λ q h. h }

pub one_more : {from here later : Page} {whole rest a b : List ℕ} → Completes from whole here rest → rest ≡ a ++ b → Puts here a later → Completes from whole later b
one_more more e p = record { by = λ q h. more.by q (rw e (puts_then p h)) }

pub none_left : {from here : Page} {whole rest : List ℕ} → Completes from whole here rest → rest ≡ [] → Puts from whole here
none_left {here = here} more e = more.by here (rw e puts_none)
