-- Hexadecimal words are read back: of all fields with 0x and k digits the print of n in k digits alone says n. Assumes nothing.
use Prim.Native.Nat.{ℕ, zero, suc, ◌+◌, ◌-◌, ◌*◌, ◌/◌, ◌%◌, ◌^◌, ◌<◌, ◌≤◌}
use mathlib.Core.Path.{◌≡◌, refl, sym, ap, subst, ◌∙◌}
use mathlib.Core.Bool.{Bool, true, false, ◌&&◌, ◌||◌}
use mathlib.Core.List.{List, [], ◌∷◌, ◌++◌}
use native.Mathlib.Decide.{dec_lt}
use native.Mathlib.Omega.{arith}
use native.Mathlib.Nat.{pow-zero, pow-suc}
use lib.ListN.{length, take, drop, get_or, length-append, length-drop}
use lib.Seq.{length-take-le}
use lib.Dec.{leb, ltb}
use borrow.Author.Tests.{lt-leb, le-leb, le-ltb, lt-ltb}
use Rattle.words.specs.Word.{when◌then◌else◌}
use Rattle.words.proofs.Laws.{and_true, agree_at, both_le}
use Rattle.octets.specs.Number.{is_digit}
use Rattle.sheet.specs.WordField.{is_hex_digit, hex_digit, all_hex_digits, hex_from, is_hex_count, hex_number, has0x, word_of, hex_digit_of, hex_digits_of, hexadecimal}
use Rattle.std.specs.Prelude.{Some}
use Rattle.octets.proofs.RunLaws.{all_snoc}
use Rattle.octets.proofs.SplitLaws.{last_byte}
use Rattle.sheet.proofs.WordFieldLaws.{digit_small, HexSays, hex_says, hex_field}

-- ---- one digit, both ways

digit_is : (d : ℕ) → d < 16 → is_hex_digit (hex_digit_of d) ≡ true
unfolding is_hex_digit hex_digit_of is_digit when◌then◌else◌
digit_is d h = go (dec_lt d 10)
  where
    go : Dec (d < 10) → is_hex_digit (hex_digit_of d) ≡ true
    go (yes l) = rw (lt-ltb d 10 l, le-leb 48 (48 + d) (omega arith), le-leb (48 + d) 57 (omega arith))
    go (no l) =
        rw (
          le-ltb d 10 (omega arith),
          le-leb 48 (55 + d) (omega arith),
          lt-leb (55 + d) 57 (omega arith),
          le-leb 65 (55 + d) (omega arith),
          le-leb (55 + d) 70 (omega arith),
        )

digit_back : (d : ℕ) → d < 16 → hex_digit (hex_digit_of d) ≡ d
unfolding hex_digit hex_digit_of is_digit when◌then◌else◌
digit_back d h = agree_at (λ n. hex_digit (hex_digit_of n)) (λ n. n) 16 refl d h

digit_print : (b : ℕ) → is_hex_digit b ≡ true → hex_digit_of (hex_digit b) ≡ b
unfolding is_hex_digit hex_digit hex_digit_of is_digit when◌then◌else◌
digit_print b h = go (leb 48 b && leb b 57) refl h
  where
    go : (t : Bool) → (leb 48 b && leb b 57) ≡ t → (t || (leb 65 b && leb b 70)) ≡ true
        → (when ltb (when t then b - 48 else b - 55) 10 then 48 + (when t then b - 48 else b - 55) else 55 + (when t then b - 48 else b - 55)) ≡ b
    go true e h = let w = both_le {a = 48} {b = b} {c = b} {d = 57} e in rw (lt-ltb (b - 48) 10 (omega (arith, w.1))) (omega (arith, w.0))
    go false e h = let w = both_le {a = 65} {b = b} {c = b} {d = 70} h in rw (le-ltb (b - 55) 10 (omega (arith, w.0))) (omega (arith, w.0))

-- ---- one digit more at the end

value_more : (v : ℕ) (s : List ℕ) (b : ℕ) → hex_from v (s ++ (b ∷ [])) ≡ hex_from v s * 16 + hex_digit b
unfolding hex_from
value_more v [] b = refl
value_more v (x ∷ s) b = value_more (v * 16 + hex_digit x) s b

-- ---- the digits of n say n

digits_say : (k n : ℕ) → n < 16 ^ k → HexSays (hex_digits_of k n) n
unfolding hex_digits_of hex_from
digits_say zero n h = record { digits = refl; value = omega (arith, pow-zero 16) }
digits_say (suc k) n h =
    let p = digits_say k (n / 16) (omega (arith, pow-suc 16 k)) in
    let d : n % 16 < 16 = omega arith in
    let s = hex_digits_of k (n / 16) in
    let b = hex_digit_of (n % 16) in
    record {
      digits = rw (all_snoc is_hex_digit s b, p.digits, digit_is (n % 16) d);
      value = rw (value_more 0 s b, p.value, digit_back (n % 16) d) (omega arith);
    }

hex_length : (k n : ℕ) → length (hex_digits_of k n) ≡ k
unfolding hex_digits_of
hex_length zero n = refl
hex_length (suc k) n = omega (arith, length-append (hex_digits_of k (n / 16)) (hex_digit_of (n % 16) ∷ []), hex_length k (n / 16))

pub hex_read_back : (k n : ℕ) → 1 ≤ k → k ≤ 8 → n < 16 ^ k → word_of (hexadecimal k n) ≡ Some n
unfolding word_of has0x hex_number is_hex_count hexadecimal when◌then◌else◌
hex_read_back k n h l f =
    let d = digits_say k n f in
    rw (hex_length k n, le-leb 1 k h, le-leb k 8 l, d.digits, d.value)

-- ---- and nothing else does

-- digits that say n: the last is the last digit of n, and those before it say the rest
record Last (p : List ℕ) (b n : ℕ) : Type 0 where
  rest : HexSays p (n / 16)
  digit : b ≡ hex_digit_of (n % 16)

last : (p : List ℕ) (b n : ℕ) → HexSays (p ++ (b ∷ [])) n → Last p b n
last p b n h =
    let e = and_true (all_hex_digits p) (is_hex_digit b) (sym (all_snoc is_hex_digit p b) ∙ h.digits) in
    let v : hex_from 0 p * 16 + hex_digit b ≡ n = sym (value_more 0 p b) ∙ h.value in
    let l = digit_small b e.1 in
    let r : hex_digit b ≡ n % 16 = omega arith in
    record { rest = record { digits = e.0; value = omega arith }; digit = sym (digit_print b e.1) ∙ ap hex_digit_of r }

digits_spelt : (k : ℕ) (s : List ℕ) (n : ℕ) → length s ≡ k → HexSays s n → s ≡ hex_digits_of k n
unfolding hex_digits_of
digits_spelt zero [] n h e = refl
digits_spelt zero (b ∷ s) n h e = absurd (omega arith)
digits_spelt (suc k) s n h e =
    let p = take k s in
    let l = last p (get_or s k 0) n (subst (λ (t : List ℕ). HexSays t n) (last_byte k s h) e) in
    last_byte k s h
    ∙ ap (λ (x : ℕ). p ++ (x ∷ [])) l.digit
    ∙ ap (λ (t : List ℕ). t ++ (hex_digit_of (n % 16) ∷ [])) (digits_spelt k p (n / 16) (length-take-le k s (omega arith)) l.rest)

pub hex_print_back : (s : List ℕ) (n : ℕ) → has0x s ≡ true → word_of s ≡ Some n → s ≡ hexadecimal (length s - 2) n
unfolding word_of hexadecimal when◌then◌else◌
hex_print_back s n h e =
    let v = hex_says (drop 2 s) n (rw h at e) in
    hex_field s h ∙ ap (λ (t : List ℕ). 48 ∷ 120 ∷ t) (digits_spelt (length s - 2) (drop 2 s) n (length-drop 2 s) v)
