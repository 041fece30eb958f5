-- Laws of words by their bytes, and of the test whether one of these is LF. Assumes nothing.
use Prim.Native.Nat.{ℕ, zero, suc, ◌+◌, ◌-◌, ◌*◌, ◌/◌, ◌%◌, ◌^◌, ◌<◌, ◌≤◌}
use mathlib.Core.Path.{◌≡◌, refl, sym, ap, ◌∙◌}
use mathlib.Core.Bool.{Bool, true, false, not, ◌||◌, false≢true}
use mathlib.Core.List.{List, [], ◌∷◌}
use native.Mathlib.Nat.{div-add-mod'}
use native.Mathlib.Omega.{arith}
use native.Mathlib.Decide.{dec_lt}
use lib.Bits.{bit_and, bit_or, bit_xor, and_block, or_block, xor_block, and_lt, or_lt, xor_lt, mask_lt}
use lib.Dec.{eqb, lit<}
use lib.ListN.{length, take, drop, get_or, length-drop, take-append-drop}
use lib.Seq.{length-take-le, take_all, drop-drop}
use borrow.Author.Tests.{eq-eqb, ne_eqb, eqb-true, eqb-false}
use Rattle.std.specs.Int.{to_le_bytes, from_le_bytes}
use Rattle.std.proofs.lemmas.Nat.{le_bytes_8}
use Rattle.std.proofs.lemmas.List.{get_or_past, get_or-take, get_or-drop}
use Rattle.std.proofs.Common.{w64}
use Rattle.words.specs.Word.{when◌then◌else◌}
use Rattle.words.proofs.Laws.{agree_at}
use Rattle.octets.specs.Split.{LF, index_of, between}
use Rattle.octets.specs.WordBytes.{bytes_of, contains}
use Rattle.octets.proofs.SplitLaws.{index_append}

-- a word of n bytes, all k
unfoldable pub each_byte : ℕ → ℕ → ℕ
each_byte zero k = 0
each_byte (suc n) k = each_byte n k * 256 + k

-- what the test makes of the bytes of w, `lf` being a word of LFs and `low` one of 127s
abbrev pub marks : (lf low w : ℕ) → ℕ
marks lf low w = bit_or (bit_or (bit_xor (bit_and w low) lf + low) w) low

-- one byte: all bits are set exactly if it is not LF
byte_mark : (b : ℕ) → b < 256 → marks LF 127 b ≡ (when eqb b LF then 127 else 255)
unfolding when◌then◌else◌
byte_mark = agree_at (marks LF 127) (λ b. when eqb b LF then 127 else 255) 256 refl

-- the sum stays in its byte
low_sum : (b : ℕ) → bit_xor (bit_and b 127) LF + 127 < 256
low_sum b = let m = xor_lt 7 (bit_and b 127) LF (mask_lt b 7) (lit< tt) in omega (arith, m)

-- no byte changes what the test makes of another
marks_block : (lf low w b : ℕ) → b < 256 → marks (lf * 256 + LF) (low * 256 + 127) (w * 256 + b) ≡ marks lf low w * 256 + marks LF 127 b
marks_block lf low w b h =
    let x : ℕ = bit_xor (bit_and w low) lf in
    let y : ℕ = bit_xor (bit_and b 127) LF in
    let sum : x * 256 + y + (low * 256 + 127) ≡ (x + low) * 256 + (y + 127) = omega arith in
    let or = or_lt 8 (y + 127) b (low_sum b) h in
    rw (
      and_block 8 w low b 127 h (lit< tt),
      xor_block 8 (bit_and w low) lf (bit_and b 127) LF (and_lt 8 b 127 h (lit< tt)) (lit< tt),
      sum,
      or_block 8 (x + low) w (y + 127) b (low_sum b) h,
      or_block 8 (bit_or (x + low) w) low (bit_or (y + 127) b) 127 or (lit< tt),
    )
    refl

-- ---- the test of n bytes

-- w has at most n bytes
unfoldable pub fits : ℕ → ℕ → Type 0
fits zero w = w ≡ 0
fits (suc n) w = fits n (w / 256)

-- All bits are set exactly if no byte is LF: no false alarm, no miss.
pub lf_test : (n w : ℕ) → fits n w → eqb (marks (each_byte n LF) (each_byte n 127) w) (each_byte n 255) ≡ not (contains LF (bytes_of n w))
unfolding fits each_byte contains bytes_of when◌then◌else◌
lf_test zero w f = rw f refl
lf_test (suc n) w f =
    ap (λ (m : ℕ). eqb m (each_byte n 255 * 256 + 255)) (by_byte ∙ ap (λ (m : ℕ). rest * 256 + m) (byte_mark b low)) ∙ go (eqb b LF) (lf_test n (w / 256) f)
  where
    b : ℕ
    b = w % 256

    rest : ℕ
    rest = marks (each_byte n LF) (each_byte n 127) (w / 256)

    low : b < 256
    low = omega arith

    by_byte : marks (each_byte n LF * 256 + LF) (each_byte n 127 * 256 + 127) w ≡ rest * 256 + marks LF 127 b
    by_byte = ap (marks (each_byte n LF * 256 + LF) (each_byte n 127 * 256 + 127)) (sym (div-add-mod' w 256)) ∙ marks_block (each_byte n LF) (each_byte n 127) (w / 256) b low

    same : (t : Bool) → eqb rest (each_byte n 255) ≡ t → eqb (rest * 256 + 255) (each_byte n 255 * 256 + 255) ≡ eqb rest (each_byte n 255)
    same true e = eq-eqb _ _ (ap (λ (m : ℕ). m * 256 + 255) (eqb-true rest (each_byte n 255) e)) ∙ sym e
    same false e = ne_eqb (rest * 256 + 255) (each_byte n 255 * 256 + 255) (λ d. eqb-false rest (each_byte n 255) e (omega arith)) ∙ sym e

    go : (t : Bool) → eqb rest (each_byte n 255) ≡ not (contains LF (bytes_of n (w / 256)))
        → eqb (rest * 256 + (when t then 127 else 255)) (each_byte n 255 * 256 + 255) ≡ not (t || contains LF (bytes_of n (w / 256)))
    go true ih = ne_eqb (rest * 256 + 127) (each_byte n 255 * 256 + 255) (λ e. omega arith)
    go false ih = same (eqb rest (each_byte n 255)) refl ∙ ih

-- ---- words built from bytes

-- by std's words
pub bytes_are : (w : ℕ) → bytes_of 8 w ≡ to_le_bytes w64 w
unfolding bytes_of
bytes_are w =
    let d2 : w / 256 / 256 ≡ w / 65536 = omega arith in
    let d3 : w / 65536 / 256 ≡ w / 16777216 = omega arith in
    let d4 : w / 16777216 / 256 ≡ w / 4294967296 = omega arith in
    let d5 : w / 4294967296 / 256 ≡ w / 1099511627776 = omega arith in
    let d6 : w / 1099511627776 / 256 ≡ w / 281474976710656 = omega arith in
    let d7 : w / 281474976710656 / 256 ≡ w / 72057594037927936 = omega arith in
    rw (d2, d3, d4, d5, d6, d7) refl

pub word_fits : (w : ℕ) → w < 2 ^ 64 → fits 8 w
unfolding fits
word_fits w h = omega arith

-- ---- eight bytes of a list

module _ (s : List ℕ) (i : ℕ) where
  -- and the word that they make
  pub word_is : (w : ℕ) (bytes : List ℕ) → i + 8 ≤ length s → ((k : ℕ) → get_or s k 0 < 256) → bytes ≡ take 8 (take (i + 8 - i) (drop i s))
      → w ≡ from_le_bytes w64 bytes → bytes_of 8 w ≡ between i (i + 8) s
  unfolding between
  word_is w bytes h f same e =
      let size : i + 8 - i ≡ 8 = omega arith in
      let long = length-take-le (i + 8 - i) (drop i s) (omega (arith, length-drop i s)) in
      let here : bytes ≡ between i (i + 8) s = same ∙ take_all 8 _ (omega (arith, long)) in
      bytes_are w ∙ le_bytes_8 (between i (i + 8) s) w (long ∙ size) small (e ∙ ap (from_le_bytes w64) here)
    where
      small : (k : ℕ) → get_or (between i (i + 8) s) k 0 < 256
      small k = go (dec_lt k (i + 8 - i))
        where
          go : Dec (k < i + 8 - i) → get_or (take (i + 8 - i) (drop i s)) k 0 < 256
          go (yes l) = rw (get_or-take (i + 8 - i) (drop i s) k 0 l, get_or-drop i s k 0) (f (i + k))
          go (no l) = omega (arith, get_or_past (take (i + 8 - i) (drop i s)) k 0 (omega (arith, length-take-le (i + 8 - i) (drop i s) (omega (arith, length-drop i s)))))

-- ---- bytes without b

none_contained : (b : ℕ) (p : List ℕ) → contains b p ≡ false → index_of b p ≡ length p
unfolding contains index_of when◌then◌else◌
none_contained b [] e = refl
none_contained b (x ∷ p) e = go (eqb x b) e (none_contained b p)
  where
    go : (t : Bool) → t || contains b p ≡ false → (contains b p ≡ false → index_of b p ≡ length p) → (when t then 0 else suc (index_of b p)) ≡ suc (length p)
    go true f ih = absurd (false≢true (sym f))
    go false f ih = ap suc (ih f)

-- the search passes over them
pub index_skip : (b : ℕ) (s : List ℕ) (i k : ℕ) → i + k ≤ length s → contains b (between i (i + k) s) ≡ false
    → i + index_of b (drop i s) ≡ i + k + index_of b (drop (i + k) s)
unfolding between
index_skip b s i k h e =
    let p : List ℕ = take k (drop i s) in
    let size : i + k - i ≡ k = omega arith in
    let long : length p ≡ k = length-take-le k (drop i s) (omega (arith, length-drop i s)) in
    let none : contains b p ≡ false = rw size at e in
    let parted = index_append b p (drop k (drop i s)) (none_contained b p none) in
    omega (arith, rw (take-append-drop k (drop i s), drop-drop k i s, long) at parted)
