-- What the lines of a beginning of a file print is a beginning of what its lines print. Assumes nothing.
use Prim.Native.Nat.{ℕ}
use mathlib.Core.Path.{◌≡◌, refl, sym}
use mathlib.Core.Bool.{Bool, true, false}
use mathlib.Core.List.{List, [], ◌∷◌, ◌++◌, append_assoc, append-nil}
use lib.Dec.{eqb}
use borrow.Author.Tests.{eqb-true, eqb-false}
use Rattle.octets.specs.Split.{LF}
use Rattle.sheet.specs.Grammar.{requests_of}
use Rattle.sheet.specs.declared.Request.{Request}
use Rattle.sheet.proofs.MoreLines.{before, requests_more, requests_whole}
use Rattle.interpreter.specs.State.{State, empty_state, next_number, refusal_for, changed}
use Rattle.print.specs.Print.{answer_of, print_from, lines_print}
use Rattle.print.proofs.PrintLaws.{from_accepted, from_refused}

-- the list `whole` begins with `front`
pub record Begins (front whole : List ℕ) : Type 0 where
  pub more : List ℕ
  pub is : whole ≡ front ++ more

-- ---- what more lines print comes after

from_more : (rs qs : List Request) (t : State) (k : ℕ) → Begins (print_from [] rs t k) (print_from [] (rs ++ qs) t k)
unfolding print_from
from_more [] qs t k = record { more = print_from [] qs t k; is = refl }
from_more (r ∷ rs) qs t k = go (eqb (refusal_for t r) 0) refl (from_more rs qs (changed t r) (next_number k))
  where
    go : (z : Bool) → eqb (refusal_for t r) 0 ≡ z → Begins (print_from [] rs (changed t r) (next_number k)) (print_from [] (rs ++ qs) (changed t r) (next_number k))
        → Begins (print_from [] (r ∷ rs) t k) (print_from [] (r ∷ (rs ++ qs)) t k)
    go true e b =
        let h = eqb-true _ _ e in
        record {
          more = b.more;
          is = rw (from_accepted [] r (rs ++ qs) t k h, from_accepted [] r rs t k h, b.is) (sym (append_assoc (answer_of (changed t r) r) _ b.more));
        }
    go false e b =
        let h = eqb-false _ _ e in
        record { more = []; is = rw (from_refused [] r (rs ++ qs) t k h, from_refused [] r rs t k h) (sym (append-nil _)) }

-- p is a beginning of a file up to an LF, q what follows it
pub beginning : (p q : List ℕ) → Begins (lines_print (p ++ LF ∷ [])) (lines_print (p ++ LF ∷ q))
unfolding lines_print
beginning p q = rw (requests_more p q, requests_whole p) (from_more (before p) (requests_of q) empty_state 1)
