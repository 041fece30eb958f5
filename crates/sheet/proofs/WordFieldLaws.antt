-- Laws of hexadecimal digits and of the words that fields say. Assumes nothing.
use Prim.Native.Nat.{ℕ, suc, ◌-◌, ◌<◌, ◌≤◌, ◌^◌}
use mathlib.Core.Path.{◌≡◌, refl, sym, ap, ◌∙◌}
use mathlib.Core.Bool.{Bool, true, false, ◌&&◌, ◌||◌, and-false}
use mathlib.Core.List.{List, [], ◌∷◌}
use native.Mathlib.Omega.{arith}
use native.Mathlib.Decide.{dec_le}
use native.Mathlib.Nat.{pow-le-pow_right}
use lib.ListN.{length, drop, get_or, length-drop}
use lib.Seq.{take_all}
use lib.Dec.{eqb, leb, lit<}
use borrow.Author.Tests.{lt-leb, ne_eqb, eqb-true}
use Rattle.words.specs.Word.{when◌then◌else◌}
use Rattle.words.proofs.Laws.{and_true, both_le}
use Rattle.octets.specs.Split.{index_of}
use Rattle.octets.specs.Number.{is_digit, number_of}
use Rattle.sheet.specs.WordField.{is_hex_digit, hex_digit, all_hex_digits, hex_from, is_hex_count, hex_number, has0x, word_of}
use Rattle.std.specs.Prelude.{Some}
use Rattle.std.specs.Bool.{then_some}
use Rattle.std.specs.List.{slice_range}
use Rattle.octets.proofs.RunLaws.{all_free}
use Rattle.octets.proofs.NumberLaws.{number_spells}

-- ---- digits

pub digit_small : (b : ℕ) → is_hex_digit b ≡ true → hex_digit b < 16
unfolding is_hex_digit hex_digit is_digit when◌then◌else◌
digit_small b h = go (leb 48 b && leb b 57) refl h
  where
    go : (t : Bool) → (leb 48 b && leb b 57) ≡ t → (t || (leb 65 b && leb b 70)) ≡ true → (when t then b - 48 else b - 55) < 16
    go true e h = omega (arith, (both_le {a = 48} {b = b} {c = b} {d = 57} e).1)
    go false e h = omega (arith, (both_le {a = 65} {b = b} {c = b} {d = 70} h).1)

-- eight digits say a number of 32 bits
pub hex_fits : (k : ℕ) → k ≤ 8 → 16 ^ k ≤ 4294967296
hex_fits k h = pow-le-pow_right (lit< tt) h

-- ---- 0x

pub short_no_0x : (s : List ℕ) → length s < 2 → has0x s ≡ false
unfolding has0x
short_no_0x [] h = refl
short_no_0x (x ∷ []) h = rw (ne_eqb 0 120 (λ e. omega arith)) (and-false (eqb x 48))
short_no_0x (x ∷ y ∷ s) h = absurd (omega arith)

pub hex_field : (s : List ℕ) → has0x s ≡ true → s ≡ 48 ∷ 120 ∷ drop 2 s
unfolding has0x
hex_field s e = let w = and_true (eqb (get_or s 0 0) 48) (eqb (get_or s 1 0) 120) e in go s (eqb-true _ _ w.0) (eqb-true _ _ w.1)
  where
    go : (s : List ℕ) → get_or s 0 0 ≡ 48 → get_or s 1 0 ≡ 120 → s ≡ 48 ∷ 120 ∷ drop 2 s
    go [] a b = absurd (omega arith)
    go (x ∷ []) a b = absurd (omega arith)
    go (x ∷ y ∷ s) a b = rw (a, b)

-- the word of a field, by its first two bytes
pub hex_word : (s : List ℕ) → get_or s 0 0 ≡ 48 → get_or s 1 0 ≡ 120 → word_of s ≡ hex_number (slice_range s 2 (length s))
unfolding word_of has0x when◌then◌else◌
hex_word s a b = rw (a, b, take_all (length s - 2) (drop 2 s) (omega (arith, length-drop 2 s)))

pub plain_word : (s : List ℕ) → (2 ≤ length s → get_or s 0 0 ≡ 48 → get_or s 1 0 ≡ 120 → ⊥) → word_of s ≡ number_of s
unfolding word_of when◌then◌else◌
plain_word s n = rw (none (dec_le 2 (length s)))
  where
    none : Dec (2 ≤ length s) → has0x s ≡ false
    none (no h) = short_no_0x s (omega arith)
    none (yes h) = go (has0x s) refl
      where
        go : (t : Bool) → has0x s ≡ t → has0x s ≡ false
        go false e = e
        go true e = let f = hex_field s e in absurd (n h (ap (λ (t : List ℕ). get_or t 0 0) f) (ap (λ (t : List ℕ). get_or t 1 0) f))

-- a field that is a number does not begin so, and its word is that number
pub number_no_0x : (s : List ℕ) (n : ℕ) → number_of s ≡ Some n → has0x s ≡ false
number_no_0x s n e = go (has0x s) refl
  where
    go : (t : Bool) → has0x s ≡ t → has0x s ≡ false
    go false f = f
    go true f =
        let g = hex_field s f in
        let l = (number_spells s n e).0.plain in
        absurd (omega (arith, ap (λ (t : List ℕ). get_or t 0 0) g, l (omega (arith, ap length g))))

pub number_word : (s : List ℕ) (n : ℕ) → number_of s ≡ Some n → word_of s ≡ Some n
unfolding word_of when◌then◌else◌
number_word s n e = rw (number_no_0x s n e) e

-- ---- what the field of a word is: a number, or 0x and digits

pub record HexSays (s : List ℕ) (n : ℕ) : Type 0 where
  pub digits : all_hex_digits s ≡ true
  pub value : hex_from 0 s ≡ n

pub hex_says : (s : List ℕ) (n : ℕ) → hex_number s ≡ Some n → HexSays s n
unfolding hex_number when◌then◌else◌
hex_says s n e = go (is_hex_count (length s)) (all_hex_digits s) refl e
  where
    go : (t d : Bool) → all_hex_digits s ≡ d → then_some (t && d) (hex_from 0 s) ≡ Some n → HexSays s n
    go true true f e = record { digits = f; value = cc }
    go true false f e = let c : ◌≡◌ {A = ℕ} 0 1 = cc in absurd (omega arith)
    go false d f e = let c : ◌≡◌ {A = ℕ} 0 1 = cc in absurd (omega arith)

data WordIs (s : List ℕ) (n : ℕ) : Type 0 where
  decimal : number_of s ≡ Some n → WordIs s n
  hex : s ≡ 48 ∷ 120 ∷ drop 2 s → HexSays (drop 2 s) n → WordIs s n

word_is : (s : List ℕ) (n : ℕ) → word_of s ≡ Some n → WordIs s n
unfolding word_of when◌then◌else◌
word_is s n e = go (has0x s) refl e
  where
    go : (t : Bool) → has0x s ≡ t → (when t then hex_number (drop 2 s) else number_of s) ≡ Some n → WordIs s n
    go false f e = decimal e
    go true f e = hex (hex_field s f) (hex_says (drop 2 s) n e)

pub word_some : (s : List ℕ) (n : ℕ) → word_of s ≡ Some n → 0 < length s
word_some s n e = go (word_is s n e)
  where
    go : WordIs s n → 0 < length s
    go (decimal d) = (number_spells s n d).0.some
    go (hex f d) = omega (arith, ap length f)

-- ---- a word has no comma, no LF and no other byte below the digits

low : (b : ℕ) → b < 48 → is_hex_digit b ≡ false
unfolding is_hex_digit is_digit
low b h = rw (lt-leb 48 b h, lt-leb 65 b (omega arith))

pub word_free : (b : ℕ) (s : List ℕ) (n : ℕ) → b < 48 → word_of s ≡ Some n → index_of b s ≡ length s
unfolding index_of is_digit when◌then◌else◌
word_free b s n h e = go (word_is s n e)
  where
    go : WordIs s n → index_of b s ≡ length s
    go (decimal d) = all_free is_digit b s (rw (lt-leb 48 b h)) (number_spells s n d).0.digits
    go (hex f d) =
        ap (index_of b) f
        ∙ rw (ne_eqb 48 b (λ g. omega arith), ne_eqb 120 b (λ g. omega arith)) (ap suc (ap suc (all_free is_hex_digit b (drop 2 s) (low b h) d.digits)))
        ∙ sym (ap length f)
