-- Laws of bytes and numbers where they stand in a file: a line that is read there gives the request that the grammar says. Assumes nothing.
use Prim.Native.Nat.{ℕ, suc, ◌+◌, ◌-◌, ◌<◌, ◌≤◌}
use mathlib.Core.Path.{◌≡◌, refl, sym, ◌∙◌}
use mathlib.Core.Bool.{Bool, true, false, false≢true}
use mathlib.Core.List.{List, [], ◌∷◌, ◌++◌, append_assoc}
use native.Mathlib.Nat.{add-zero}
use native.Mathlib.Omega.{arith}
use lib.ListN.{length, drop, get_or, length-append, length-take, length-drop, take-append-drop}
use lib.Seq.{length-take-le, drop-cons, drop-drop, take_at, get_or-drop, get_or-take}
use lib.Dec.{eqb, leb, ltb}
use borrow.Author.Tests.{eq-eqb, eqb-true, lt-ltb, ltb-true, ltb-false}
use Rattle.words.proofs.Laws.{and_true}
use Rattle.words.specs.Word.{when◌then◌else◌}
use Rattle.octets.specs.Split.{LF, comma, joined, index_of, between, field_of, field_count}
use Rattle.sheet.specs.Lines.{longest, line, well_sized, text_of, first_line, line_at}
use Rattle.octets.specs.Number.{largest, is_digit, all_digits, value_from, digits_number, leading_zero, number_of}
use Rattle.sheet.specs.WordField.{word_of}
use Rattle.sheet.specs.Grammar.{letter_m, letter_i, letter_s, letter_of, is_kind, number_in, word_in, with_value, motor_from, input_from, scan_from, motor_of, input_of, scan_of, request_of, taken_at, next_at}
use Rattle.sheet.specs.Places.{is_at, is_digit_at, begins_with, ends_line, SaidAt, Read, NumberRead}
use Rattle.std.specs.Prelude.{Option, Some, None}
use Rattle.std.specs.Bool.{then_some}
use Rattle.std.proofs.lemmas.Option.{none-some, same_Some}
use Rattle.sheet.specs.declared.Line.TheVariants.{Until}
use Rattle.sheet.specs.declared.Request.TheVariants.{Motor, Input, Scan}
use Rattle.octets.proofs.SplitLaws.{Free, free_none, free_more, split_joined, free_joined}
use Rattle.sheet.proofs.LineLaws.{lines_part}
use Rattle.octets.proofs.NumberLaws.{digit_range, first_digit, spells_number}
use Rattle.sheet.proofs.WordFieldLaws.{number_word, word_some, word_free}

-- ---- a byte at a place

pub byte_at : (file : List ℕ) (at b : ℕ) → is_at file at b ≡ true → (at < length file) × (get_or file at 0 ≡ b)
unfolding is_at
byte_at file at b e =
    let w = and_true (ltb at (length file)) (eqb (get_or file at 0) b) e in
    (ltb-true at (length file) w.0, eqb-true (get_or file at 0) b w.1)

pub other_at : (file : List ℕ) (at b : ℕ) → is_at file at b ≡ false → at < length file → get_or file at 0 ≡ b → ⊥
unfolding is_at
other_at file at b e h f = false≢true (sym e ∙ rw (lt-ltb at (length file) h, eq-eqb (get_or file at 0) b f))

drop_byte : (file : List ℕ) (at b : ℕ) → is_at file at b ≡ true → drop at file ≡ b ∷ drop (suc at) file
drop_byte file at b e = let w = byte_at file at b e in drop-cons file at 0 w.0 ∙ rw w.1

pub record DigitAt (file : List ℕ) (at d : ℕ) : Type 0 where
  pub inside : at < length file
  pub is : is_digit (get_or file at 0) ≡ true
  pub value : d ≡ get_or file at 0 - 48
  pub small : d ≤ 9

pub digit_at : (file : List ℕ) (at d : ℕ) → Some d ≡ then_some (is_digit_at file at) (get_or file at 0 - 48) → DigitAt file at d
unfolding is_digit_at
digit_at file at d e = go (is_digit_at file at) refl e
  where
    go : (t : Bool) → is_digit_at file at ≡ t → Some d ≡ then_some t (get_or file at 0 - 48) → DigitAt file at d
    go true f e =
        let w = and_true (ltb at (length file)) (is_digit (get_or file at 0)) f in
        record { inside = ltb-true at (length file) w.0; is = w.1; value = same_Some _ _ e; small = omega (arith, same_Some _ _ e, (digit_range (get_or file at 0) w.1).1) }
    go false f e = absurd (none-some _ (sym e))

-- ---- the bytes between two places

module _ (file : List ℕ) (at : ℕ) where
  between_none : between at at file ≡ []
  unfolding between
  between_none = let z : at - at ≡ 0 = omega arith in rw z

  between_length : (end : ℕ) → end - at ≤ length file - at → length (between at end file) ≡ end - at
  unfolding between
  between_length end h = length-take-le (end - at) (drop at file) (omega (arith, length-drop at file))

  between_head : (end : ℕ) → at < end → get_or (between at end file) 0 0 ≡ get_or file at 0
  unfolding between
  between_head end h = get_or-take (end - at) (drop at file) 0 0 (omega arith) ∙ get_or-drop at file 0 0 ∙ rw (add-zero at)

-- ---- a number at a place

-- the bytes from `at` up to i are digits, and say the value
pub record Digits (file : List ℕ) (at value i : ℕ) : Type 0 where
  pub from : at ≤ i
  pub within : i - at ≤ length file - at
  pub digits : all_digits (between at i file) ≡ true
  pub says : value_from 0 (between at i file) ≡ value

module _ (file : List ℕ) (at : ℕ) where
  -- a 0 alone
  pub zero_number : is_at file at 48 ≡ true → SaidAt number_of file at 0 (at + 1)
  unfolding between number_of digits_number leading_zero is_digit value_from when◌then◌else◌
  zero_number e =
      let n : at + 1 - at ≡ 1 = omega arith in
      record { within = omega (arith, (byte_at file at 48 e).0); says = rw (n, drop_byte file at 48 e) }

  -- digits of which the first is no 0
  pub digits_said : {value i : ℕ} → Digits file at value i → is_at file at 48 ≡ false → at < i → value ≤ largest → SaidAt number_of file at value i
  digits_said {value} {i} d z m h =
      let l = between_length file at i d.within in
      let b = between_head file at i m in
      let f = first_digit (between at i file) d.digits (omega arith) in
      let o : get_or file at 0 ≡ 48 → ⊥ = other_at file at 48 z (omega (arith, d.within)) in
      record {
        within = omega (arith, d.within);
        says = spells_number (record { some = omega arith; digits = d.digits; value = d.says; plain = λ k. omega (arith, o) }) h;
      }

  -- and by a value that is none of no digits
  pub digits_number_lem : {value i : ℕ} → Digits file at value i → is_at file at 48 ≡ false → (value ≡ 0 → ⊥) → value ≤ largest
      → SaidAt number_of file at value i
  unfolding value_from
  digits_number_lem {value} {i} d z n h = digits_said d z (go (ltb at i) refl) h
    where
      go : (t : Bool) → ltb at i ≡ t → at < i
      go true e = ltb-true at i e
      go false e =
          let same : i ≡ at = omega (arith, d.from, ltb-false at i e) in
          absurd (n (sym d.says ∙ rw (same, between_none file at) refl))

-- a number at a place is a word there
pub number_said : {file : List ℕ} {at value end : ℕ} → SaidAt number_of file at value end → SaidAt word_of file at value end
number_said p = record { within = p.within; says = number_word _ _ p.says }

pub number_read : (file : List ℕ) (at : ℕ) (r : Option (ℕ × ℕ)) → Read number_of file at r → Read word_of file at r
unfolding Read
number_read file at None p = tt
number_read file at (Some r) p = number_said p

-- the field that says it, and what follows
pub record Parted (file : List ℕ) (at end : ℕ) : Type 0 where
  pub further : at < end
  pub size : length (between at end file) ≡ end - at
  pub free : (b : ℕ) → b < 48 → index_of b (between at end file) ≡ length (between at end file)
  pub parts : drop at file ≡ between at end file ++ drop end file

pub parted : {file : List ℕ} {at value end : ℕ} → SaidAt word_of file at value end → Parted file at end
unfolding between
parted {file} {at} {value} {end} p =
    let s = word_some (between at end file) value p.says in
    let l = length-take (end - at) (drop at file) in
    let f : at < end = omega arith in
    let m : at + (end - at) ≡ end = omega arith in
    record {
      further = f;
      size = between_length file at end (omega (arith, p.within));
      free = λ b h. word_free b (between at end file) value h p.says;
      parts = sym (take-append-drop (end - at) (drop at file)) ∙ rw (drop-drop (end - at) at file, m);
    }

-- ---- a line, by its beginning and its end

begun : (file : List ℕ) (at letter : ℕ) → begins_with file at letter ≡ true → drop at file ≡ letter ∷ comma ∷ drop (at + 2) file
unfolding begins_with
begun file at letter e =
    let w = and_true (is_at file at letter) (is_at file (at + 1) comma) e in
    let n : suc at ≡ at + 1 = omega arith in
    let m : suc (at + 1) ≡ at + 2 = omega arith in
    drop_byte file at letter w.0 ∙ rw (n, drop_byte file (at + 1) comma w.1, m)

pub begun_inside : (file : List ℕ) (at letter : ℕ) → begins_with file at letter ≡ true → at + 2 ≤ length file
unfolding begins_with
begun_inside file at letter e = omega (arith, (byte_at file (at + 1) comma (and_true (is_at file at letter) (is_at file (at + 1) comma) e).1).0)

ended : (file : List ℕ) (at end : ℕ) → ends_line file at end ≡ true → (is_at file end LF ≡ true) × (leb (end - at) longest ≡ true)
unfolding ends_line
ended file at end e = and_true (is_at file end LF) (leb (end - at) longest) e

pub ended_inside : (file : List ℕ) (at end : ℕ) → ends_line file at end ≡ true → end < length file
ended_inside file at end e = (byte_at file end LF (ended file at end e).0).0

module _ (file l : List ℕ) (at end : ℕ) (parts : drop at file ≡ l ++ drop end file) (some : 0 < length l) (size : length l ≡ end - at)
    (e : ends_line file at end ≡ true) where
  line_text : text_of l ≡ line l
  unfolding text_of well_sized when◌then◌else◌
  line_text = rw (lt-ltb 0 (length l) some, size, (ended file at end e).1)

  line_until : index_of LF l ≡ length l → line_at file at ≡ Until end
  unfolding line_at first_line
  line_until free =
      let b : at + length l ≡ end = omega arith in
      rw (parts, drop_byte file end LF (ended file at end e).0, lines_part l (drop (suc end) file) free, line_text, b)

  line_between : between at end file ≡ l
  unfolding between
  line_between = rw parts (take_at l (drop end file) (end - at) size)

  line_next : index_of LF l ≡ length l → next_at file at ≡ Some (request_of l, end + 1)
  unfolding next_at taken_at
  line_next free = rw (line_until free, line_between)

-- ---- the requests of the three kinds of lines

pub scan_request : (d : List ℕ) (value : ℕ) → Free comma ((letter_s ∷ []) ∷ d ∷ []) → number_of d ≡ Some value
    → request_of (joined comma ((letter_s ∷ []) ∷ d ∷ [])) ≡ Scan value
unfolding request_of is_kind letter_of field_of field_count scan_of scan_from number_in with_value when◌then◌else◌
scan_request d value f e = rw (split_joined f, e)

pub input_request : (d g : List ℕ) (number word : ℕ) → Free comma ((letter_i ∷ []) ∷ d ∷ g ∷ []) → number_of d ≡ Some number
    → word_of g ≡ Some word → request_of (joined comma ((letter_i ∷ []) ∷ d ∷ g ∷ [])) ≡ Input number word
unfolding request_of is_kind letter_of field_of field_count input_of input_from number_in word_in with_value when◌then◌else◌
input_request d g number word f e h = rw (split_joined f, e, h)

pub motor_request : (a b c d e : List ℕ) (number ops1 ops2 w u : ℕ) → Free comma ((letter_m ∷ []) ∷ a ∷ b ∷ c ∷ d ∷ e ∷ []) → number_of a ≡ Some number
    → word_of b ≡ Some ops1 → word_of c ≡ Some ops2 → number_of d ≡ Some w → number_of e ≡ Some u
    → request_of (joined comma ((letter_m ∷ []) ∷ a ∷ b ∷ c ∷ d ∷ e ∷ [])) ≡ Motor number ops1 ops2 w u
unfolding request_of is_kind letter_of field_of field_count motor_of motor_from number_in word_in with_value when◌then◌else◌
motor_request a b c d e number ops1 ops2 w u f g h i j k = rw (split_joined f, g, h, i, j, k)

comma_no_lf : comma ≡ LF → ⊥
comma_no_lf e = omega arith

module _ (file : List ℕ) (at : ℕ) where
  pub scan_next : {value end : ℕ} → begins_with file at letter_s ≡ true → SaidAt number_of file (at + 2) value end → ends_line file at end ≡ true
      → next_at file at ≡ Some (Scan value, end + 1)
  unfolding joined index_of when◌then◌else◌
  scan_next {value} {end} b n e =
      let d : List ℕ = between (at + 2) end file in
      let p = parted (number_said n) in
      let l : List ℕ = joined comma ((letter_s ∷ []) ∷ d ∷ []) in
      let parts : drop at file ≡ l ++ drop end file = begun file at letter_s b ∙ rw p.parts in
      let size : length l ≡ end - at = omega (arith, p.size, p.further) in
      line_next file l at end parts (omega arith) size e (free_joined comma_no_lf (free LF (omega arith) refl))
      ∙ rw (scan_request d value (free comma (omega arith) refl) n.says)
    where
      free : (x : ℕ) → x < 48 → index_of x (letter_s ∷ []) ≡ 1 → Free x ((letter_s ∷ []) ∷ between (at + 2) end file ∷ [])
      free x i f = free_more f (free_more ((parted (number_said n)).free x i) free_none)

  pub input_next : {number parting word end : ℕ} → NumberRead file at number parting → SaidAt word_of file (parting + 1) word end → ends_line file at end ≡ true
      → next_at file at ≡ Some (Input number word, end + 1)
  unfolding joined index_of when◌then◌else◌
  input_next {number} {parting} {word} {end} r m e =
      let n = r.number_said in
      let d : List ℕ = between (at + 2) parting file in
      let g : List ℕ = between (parting + 1) end file in
      let p = parted (number_said n) in
      let q = parted m in
      let l : List ℕ = joined comma ((letter_i ∷ []) ∷ d ∷ g ∷ []) in
      let k : suc parting ≡ parting + 1 = omega arith in
      let rest : drop (at + 2) file ≡ (d ++ comma ∷ g) ++ drop end file =
      p.parts ∙ rw (drop_byte file parting comma r.parted, k, q.parts, append_assoc) in
      let parts : drop at file ≡ l ++ drop end file = begun file at letter_i r.begins ∙ rw rest in
      let size : length l ≡ end - at = omega (arith, p.size, p.further, q.size, q.further, length-append d (comma ∷ g)) in
      line_next file l at end parts (omega arith) size e (free_joined comma_no_lf (free LF (omega arith) refl))
      ∙ rw (input_request d g number word (free comma (omega arith) refl) n.says m.says)
    where
      free : (x : ℕ) → x < 48 → index_of x (letter_i ∷ []) ≡ 1
          → Free x ((letter_i ∷ []) ∷ between (at + 2) parting file ∷ between (parting + 1) end file ∷ [])
      free x i f = free_more f (free_more ((parted (number_said r.number_said)).free x i) (free_more ((parted m).free x i) free_none))
