-- What is printed is read back: of all fields the decimal digits of a number alone say it. Assumes nothing.
use Prim.Native.Nat.{ℕ, zero, suc, ◌+◌, ◌-◌, ◌*◌, ◌/◌, ◌%◌, ◌^◌, ◌<◌, ◌≤◌}
use mathlib.Core.Path.{◌≡◌, sym, ap, ◌∙◌, subst}
use mathlib.Core.Bool.{true, false}
use mathlib.Core.List.{List, [], ◌∷◌, ◌++◌}
use native.Mathlib.Omega.{arith}
use native.Mathlib.Decide.{dec_lt}
use native.Mathlib.Nat.{pow-suc}
use lib.ListN.{length, take, get_or, length-append, get_or-append}
use lib.Seq.{length-take-le}
use borrow.Author.Tests.{le-leb, lt-leb}
use Rattle.words.proofs.Laws.{and_true}
use Rattle.octets.specs.Split.{index_of}
use Rattle.octets.specs.Number.{largest, is_digit, all_digits, value_from, number_of}
use Rattle.std.specs.Prelude.{Some}
use Rattle.octets.proofs.SplitLaws.{last_byte}
use Rattle.octets.proofs.RunLaws.{all_snoc, all_free}
use Rattle.octets.proofs.NumberLaws.{value_grows, digit_range, value_more, Spells, spells_number, number_spells}
use Rattle.report.specs.Print.{digits_of, decimal}
use Rattle.report.proofs.PrintLaws.{digits_less, digits_more}

-- ---- one digit

is_digit_lem : (d : ℕ) → d < 10 → is_digit (48 + d) ≡ true
unfolding is_digit
is_digit_lem d h = rw (le-leb 48 (48 + d) (omega arith), le-leb (48 + d) 57 (omega arith))

low_byte : (b : ℕ) → b < 48 → is_digit b ≡ false
unfolding is_digit
low_byte b h = rw (lt-leb 48 b h)

-- a field that spells no 0 begins with none
first_digit : {n : ℕ} (s : List ℕ) → Spells n s → 0 < n → 48 < get_or s 0 0
unfolding value_from
first_digit [] p h = absurd (omega (arith, p.some))
first_digit (b ∷ []) p h = omega (arith, p.value)
first_digit (b ∷ c ∷ s) p h = p.plain (omega arith)

-- ---- the digits of a number spell it

spells_one : (n : ℕ) → n < 10 → Spells n ((48 + n) ∷ [])
unfolding value_from
spells_one n h = record { some = omega arith; digits = rw (is_digit_lem n h); value = omega arith; plain = λ l. absurd (omega arith) }

spells_more : (n : ℕ) (s : List ℕ) → 10 ≤ n → Spells (n / 10) s → Spells n (s ++ ((48 + n % 10) ∷ []))
spells_more n s h p =
    record {
      some = omega (arith, length-append s ((48 + n % 10) ∷ []));
      digits = rw (all_snoc is_digit s (48 + n % 10), p.digits, is_digit_lem (n % 10) (omega arith));
      value = rw (value_more 0 s (48 + n % 10), p.value) (omega arith);
      plain = λ l. rw (get_or-append s ((48 + n % 10) ∷ []) 0 0 p.some) (first_digit s p (omega arith));
    }

spells_digits : (k n : ℕ) → n < 10 ^ suc k → Spells n (digits_of (suc k) n)
spells_digits zero n h = rw (digits_less zero n (omega arith)) (spells_one n (omega arith))
spells_digits (suc k) n h = go (dec_lt n 10) (spells_digits k (n / 10) (omega (arith, pow-suc 10 (suc k))))
  where
    go : Dec (n < 10) → Spells (n / 10) (digits_of (suc k) (n / 10)) → Spells n (digits_of (suc (suc k)) n)
    go (yes l) p = rw (digits_less (suc k) n l) (spells_one n l)
    go (no l) p = rw (digits_more (suc k) n (omega arith)) (spells_more n _ (omega arith) p)

-- ---- and nothing else does

value_pos : (s : List ℕ) → 0 < length s → 48 < get_or s 0 0 → 0 < value_from 0 s
unfolding value_from
value_pos [] h l = absurd (omega arith)
value_pos (b ∷ s) h l = omega (arith, value_grows (0 * 10 + (b - 48)) s)

-- the last byte of a field of several is the last digit, and those before it spell the rest
record Last (n b : ℕ) (s : List ℕ) : Type 0 where
  tens : Spells (n / 10) s
  digit : b ≡ 48 + n % 10
  large : 10 ≤ n

last_of : {n : ℕ} (s : List ℕ) (b : ℕ) → 0 < length s → Spells n (s ++ (b ∷ [])) → Last n b s
last_of {n} s b h p =
    let e = and_true (all_digits s) (is_digit b) (rw (all_snoc is_digit s b) at p.digits) in
    let d = digit_range b e.1 in
    let l = d.0 in
    let m = d.1 in
    let v : value_from 0 s * 10 + (b - 48) ≡ n = sym (value_more 0 s b) ∙ p.value in
    let first : 48 < get_or s 0 0 =
    rw (get_or-append s (b ∷ []) 0 0 h) at (p.plain (omega (arith, length-append s (b ∷ [])))) in
    record {
      tens = record { some = h; digits = e.0; value = omega arith; plain = λ _. first };
      digit = omega arith;
      large = omega (arith, value_pos s h first);
    }

last : {n : ℕ} (s : List ℕ) → 1 < length s → Spells n s → Last n (get_or s (length s - 1) 0) (take (length s - 1) s)
last {n} s h p =
    last_of (take (length s - 1) s) (get_or s (length s - 1) 0) (omega (arith, length-take-le (length s - 1) s (omega arith)))
    (subst (λ (l : List ℕ). Spells n l) (last_byte (length s - 1) s (omega arith)) p)

spelt_one : (k : ℕ) {n : ℕ} (s : List ℕ) → length s ≤ 1 → Spells n s → s ≡ digits_of (suc k) n
unfolding value_from
spelt_one k [] h p = absurd (omega (arith, p.some))
spelt_one k {n} (b ∷ []) h p =
    let d = digit_range b (sym (all_snoc is_digit [] b) ∙ p.digits) in
    let e : b ≡ 48 + n = omega (arith, p.value, d.0) in
    rw (e, digits_less k n (omega (arith, p.value, d.1)))
spelt_one k (b ∷ c ∷ s) h p = absurd (omega arith)

digits_spelt : (k n : ℕ) (s : List ℕ) → Spells n s → n < 10 ^ suc k → s ≡ digits_of (suc k) n
digits_spelt zero n s p h = go (dec_lt 1 (length s))
  where
    go : Dec (1 < length s) → s ≡ digits_of 1 n
    go (yes l) = absurd (omega (arith, (last s l p).large))
    go (no l) = spelt_one zero s (omega arith) p
digits_spelt (suc k) n s p h =
    go (dec_lt 1 (length s)) (λ q. digits_spelt k (n / 10) (take (length s - 1) s) q (omega (arith, pow-suc 10 (suc k))))
  where
    go : Dec (1 < length s) → (Spells (n / 10) (take (length s - 1) s) → take (length s - 1) s ≡ digits_of (suc k) (n / 10))
        → s ≡ digits_of (suc (suc k)) n
    go (yes l) ih =
        let q = last s l p in
        last_byte (length s - 1) s (omega arith)
        ∙ ap (λ (b : ℕ). take (length s - 1) s ++ (b ∷ [])) q.digit
        ∙ ap (λ (t : List ℕ). t ++ ((48 + n % 10) ∷ [])) (ih q.tens)
        ∙ sym (digits_more (suc k) n q.large)
    go (no l) ih = spelt_one (suc k) s (omega arith) p

-- ---- both ways

pub read_back : (n : ℕ) → n ≤ largest → number_of (decimal n) ≡ Some n
unfolding decimal
read_back n h = spells_number (spells_digits 9 n (omega arith)) h

pub print_back : (field : List ℕ) (n : ℕ) → number_of field ≡ Some n → field ≡ decimal n
unfolding decimal
print_back field n e = let p = number_spells field n e in digits_spelt 9 n field p.0 (omega (arith, p.1))

-- ---- a number has no comma, no LF and no other byte below the digits

pub decimal_free : (b n : ℕ) → b < 48 → n ≤ largest → index_of b (decimal n) ≡ length (decimal n)
unfolding decimal
decimal_free b n h l = all_free is_digit b (decimal n) (low_byte b h) (spells_digits 9 n (omega arith)).digits
