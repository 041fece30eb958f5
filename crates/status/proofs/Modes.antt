-- The three mode bits of the risen word: its ones count those that have risen, its trailing zeros name the lowest.
-- Assumes nothing.
use mathlib.Core.Path.{◌≡◌, refl, sym, ap, ◌∙◌, subst}
use mathlib.Core.Bool.{Bool}
use Prim.Native.Nat.{ℕ, ◌+◌, ◌-◌, ◌*◌, ◌/◌, ◌%◌, ◌^◌, ◌<◌, ◌≤◌}
use native.Mathlib.Nat.{add-zero, mod-lt}
use native.Mathlib.Omega.{arith}
use lib.Dec.{eqb, lit<}
use lib.Bits.{bit_and, bit_or, and_high}
use lib.Count.{ones, count_trailing_zeros, ones_cat}
use Rattle.words.specs.Word.{when◌then◌else◌, bit_of, is_set}
use Rattle.words.proofs.Laws.{agree_at}
use Rattle.rules.specs.declared.Status.{Status}
use Rattle.rules.specs.Record.{repair, reserve, work, risen, bit_risen}
use Rattle.rules.specs.Steps.{modes_risen, mode_asked}

-- how many of three bits there are, and the mode of the lowest
how_many : Bool → Bool → Bool → ℕ
how_many a b c = (when a then 1 else 0) + (when b then 1 else 0) + (when c then 1 else 0)

lowest : Bool → Bool → ℕ
lowest a b = when a then repair else when b then reserve else work

-- of the three digits of q, moved up by nine places
record Says (q : ℕ) : Type 0 where
  many : ones q ≡ how_many (eqb (q % 2) 1) (eqb (q / 2 % 2) 1) (eqb (q / 4 % 2) 1)
  least : 9 ≤ count_trailing_zeros 32 (bit_or (q * 512) 2048)
  low : count_trailing_zeros 32 (bit_or (q * 512) 2048) - 9 ≡ lowest (eqb (q % 2) 1) (eqb (q / 2 % 2) 1)

says : (q : ℕ) → q < 8 → Says q
unfolding how_many lowest when◌then◌else◌ ones count_trailing_zeros
says q h =
    let last : count_trailing_zeros 32 (bit_or (q * 512) 2048) ≡ 9 + lowest (eqb (q % 2) 1) (eqb (q / 2 % 2) 1) =
    agree_at (λ q. count_trailing_zeros 32 (bit_or (q * 512) 2048)) (λ q. 9 + lowest (eqb (q % 2) 1) (eqb (q / 2 % 2) 1)) 8 refl q h in
    record {
      many = agree_at ones (λ q. how_many (eqb (q % 2) 1) (eqb (q / 2 % 2) 1) (eqb (q / 4 % 2) 1)) 8 refl q h;
      least = omega arith;
      low = omega arith;
    }

-- of the masked risen word x
pub record Counted (v : Status) (word x : ℕ) : Type 0 where
  pub many : ones x ≡ modes_risen v word
  pub least : 9 ≤ count_trailing_zeros 32 (bit_or x 2048)
  pub low : count_trailing_zeros 32 (bit_or x 2048) - 9 ≡ mode_asked v word

pub counted : (v : Status) (word : ℕ) → Counted v word (bit_and (risen v word) 3584)
unfolding ones modes_risen mode_asked how_many lowest bit_risen is_set bit_of
counted v word =
    let r : ℕ = risen v word in
    let q : ℕ = r / 512 % 8 in
    let e : q * 512 ≡ bit_and r 3584 = sym (and_high r 3 9) in
    let o : ones (q * 512) ≡ ones q = ap ones (sym (add-zero (q * 512))) ∙ ones_cat 9 q 0 (lit< tt) ∙ add-zero (ones q) in
    let s = says q (mod-lt (r / 512) (lit< tt)) in
    let a9 : bit_of 9 r ≡ q % 2 = omega arith in
    let a10 : bit_of 10 r ≡ q / 2 % 2 = omega arith in
    let a11 : bit_of 11 r ≡ q / 4 % 2 = omega arith in
    subst (Counted v word) e
    (record { many = o ∙ s.many ∙ rw (a9, a10, a11); least = s.least; low = s.low ∙ rw (a9, a10) })
