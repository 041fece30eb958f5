-- Laws of the decimal digits, and how long the print is. Assumes nothing.
use Prim.Native.Nat.{ℕ, zero, suc, ◌+◌, ◌*◌, ◌/◌, ◌%◌, ◌^◌, ◌<◌, ◌≤◌}
use mathlib.Core.Path.{◌≡◌, refl, sym, ◌∙◌}
use mathlib.Core.List.{List, [], ◌∷◌, ◌++◌}
use native.Mathlib.Omega.{arith}
use native.Mathlib.Decide.{dec_lt}
use native.Mathlib.Nat.{pow-suc}
use lib.ListN.{length, drop, get_or, length-append, drop_of_length-le}
use lib.Seq.{drop-cons}
use borrow.Author.Tests.{lt-ltb, le-ltb}
use Rattle.words.specs.Word.{when◌then◌else◌}
use Rattle.octets.specs.Split.{LF}
use Rattle.report.specs.Print.{digits_of, decimal, after_comma, after_commas, line_of, letter_r, letter_e, letter_t, row_of, totals_row_of, refusal_of}
use Rattle.report.specs.declared.Row.{Row}
use Rattle.report.specs.declared.TotalsRow.{TotalsRow}

-- ---- a number below ten, and a larger one

pub digits_less : (k n : ℕ) → n < 10 → digits_of (suc k) n ≡ (48 + n) ∷ []
unfolding digits_of when◌then◌else◌
digits_less k n h = rw (lt-ltb n 10 h)

pub digits_more : (k n : ℕ) → 10 ≤ n → digits_of (suc k) n ≡ digits_of k (n / 10) ++ ((48 + n % 10) ∷ [])
unfolding digits_of when◌then◌else◌
digits_more k n h = rw (le-ltb n 10 h)

-- the digits of a number do not depend on how many more there might be
digits_enough : (k j n : ℕ) → n < 10 ^ suc k → n < 10 ^ suc j → digits_of (suc k) n ≡ digits_of (suc j) n
digits_enough zero zero n h g = refl
digits_enough zero (suc j) n h g = digits_less zero n (omega arith) ∙ sym (digits_less (suc j) n (omega arith))
digits_enough (suc k) zero n h g = digits_less (suc k) n (omega arith) ∙ sym (digits_less zero n (omega arith))
digits_enough (suc k) (suc j) n h g =
    go (dec_lt n 10) (digits_enough k j (n / 10) (omega (arith, pow-suc 10 (suc k))) (omega (arith, pow-suc 10 (suc j))))
  where
    go : Dec (n < 10) → digits_of (suc k) (n / 10) ≡ digits_of (suc j) (n / 10) → digits_of (suc (suc k)) n ≡ digits_of (suc (suc j)) n
    go (yes l) e = digits_less (suc k) n l ∙ sym (digits_less (suc j) n l)
    go (no l) e = digits_more (suc k) n (omega arith) ∙ rw e (sym (digits_more (suc j) n (omega arith)))

pub decimal_less : (n : ℕ) → n < 10 → decimal n ≡ (48 + n) ∷ []
unfolding decimal
decimal_less n h = digits_less 9 n h

pub decimal_more : (n : ℕ) → 10 ≤ n → n < 2 ^ 32 → decimal n ≡ decimal (n / 10) ++ ((48 + n % 10) ∷ [])
unfolding decimal
decimal_more n h g = digits_more 9 n h ∙ rw (digits_enough 8 9 (n / 10) (omega arith) (omega arith))

-- ---- the numbers of a line, one after another

module _ (ns : List ℕ) (i : ℕ) where
  pub fields_next : i < length ns → after_commas (drop i ns) ≡ after_comma (get_or ns i 0) ++ after_commas (drop (suc i) ns)
  unfolding after_commas
  fields_next h = rw (drop-cons ns i 0 h)

  pub fields_end : length ns ≤ i → after_commas (drop i ns) ≡ LF ∷ []
  unfolding after_commas
  fields_end h = rw (drop_of_length-le ns h)

-- ---- how long the print is

digits_length : (k n : ℕ) → length (digits_of k n) ≤ k
unfolding digits_of when◌then◌else◌
digits_length zero n = omega arith
digits_length (suc k) n = go (dec_lt n 10) (digits_length k (n / 10))
  where
    go : Dec (n < 10) → length (digits_of k (n / 10)) ≤ k → length (digits_of (suc k) n) ≤ suc k
    go (yes l) e = rw (digits_less k n l) (omega arith)
    go (no l) e = rw (digits_more k n (omega arith)) (omega (arith, length-append (digits_of k (n / 10)) ((48 + n % 10) ∷ [])))

pub decimal_length : (n : ℕ) → length (decimal n) ≤ 10
unfolding decimal
decimal_length n = digits_length 10 n

fields_length : (ns : List ℕ) → length (after_commas ns) ≤ 11 * length ns + 1
unfolding after_commas after_comma
fields_length [] = omega arith
fields_length (n ∷ ns) = omega (arith, length-append (decimal n) (after_commas ns), decimal_length n, fields_length ns)

pub line_length : (letter : ℕ) (ns : List ℕ) → length (line_of letter ns) ≤ 11 * length ns + 2
unfolding line_of
line_length letter ns = omega (arith, fields_length ns)

pub row_length : (r : Row) → length (row_of r) ≤ 90
unfolding row_of
row_length r = line_length letter_r _

pub totals_length : (r : TotalsRow) → length (totals_row_of r) ≤ 101
unfolding totals_row_of
totals_length r = line_length letter_t _

pub refusal_length : (line refusal : ℕ) → length (refusal_of line refusal) ≤ 24
unfolding refusal_of
refusal_length line refusal = line_length letter_e _
