-- A request that is written as a line is read back, whatever lines follow. Assumes nothing.
use Prim.Native.Nat.{ℕ, ◌+◌, ◌<◌, ◌≤◌}
use mathlib.Core.Path.{◌≡◌, refl, ap, ◌∙◌}
use mathlib.Core.List.{List, [], ◌∷◌, ◌++◌, map, append_assoc}
use native.Mathlib.Omega.{arith}
use lib.ListN.{length, length-append}
use borrow.Author.Tests.{le-leb, lt-ltb, ne_eqb}
use Rattle.words.specs.Word.{when◌then◌else◌}
use Rattle.octets.specs.Split.{LF, comma, joined, index_of}
use Rattle.sheet.specs.Lines.{longest, line, well_sized, text_of, lines_of}
use Rattle.octets.specs.Number.{largest}
use Rattle.sheet.specs.Grammar.{letter_m, letter_i, letter_s, request_of, text_request, requests_of, values_of}
use Rattle.sheet.specs.declared.Request.{Request}
use Rattle.sheet.specs.declared.Request.TheVariants.{Motor, Input, Scan, Refused}
use Rattle.octets.proofs.SplitLaws.{Free, free_none, free_more, free_joined}
use Rattle.sheet.proofs.LineLaws.{lines_part}
use Rattle.sheet.specs.WordField.{word_of}
use Rattle.sheet.proofs.WordFieldLaws.{number_word}
use Rattle.std.specs.Prelude.{Some}
use Rattle.sheet.proofs.PlaceLaws.{motor_request, input_request, scan_request}
use Rattle.report.specs.Print.{decimal, after_comma, after_commas, line_of}
use Rattle.course.specs.Written.{written}
use Rattle.report.proofs.PrintLaws.{line_length}
use Rattle.report.proofs.ReadBack.{decimal_free, read_back}

-- a number that is printed is read back in a word field too
pub word_back : (n : ℕ) → n ≤ largest → word_of (decimal n) ≡ Some n
word_back n h = number_word (decimal n) n (read_back n h)

-- numbers that a field can say
abbrev pub InRange : List ℕ → Type 0
InRange [] = Unit {0}
InRange (n ∷ ns) = (n ≤ largest) × InRange ns

-- ---- a printed line without its LF

-- its fields, a letter and the numbers
abbrev pub fields : ℕ → List ℕ → List (List ℕ)
fields letter ns = (letter ∷ []) ∷ map decimal ns

-- with a part in front of the numbers
pub commas_joined : (p ns : List ℕ) → p ++ after_commas ns ≡ joined comma (p ∷ map decimal ns) ++ LF ∷ []
unfolding after_commas after_comma joined
commas_joined p [] = refl
commas_joined p (n ∷ ns) =
    rw (append_assoc p (comma ∷ joined comma (decimal n ∷ map decimal ns)) (LF ∷ []))
    (ap (λ (l : List ℕ). p ++ comma ∷ l) (commas_joined (decimal n) ns))

commas_pos : (ns : List ℕ) → 0 < length (after_commas ns)
unfolding after_commas after_comma
commas_pos [] = omega arith
commas_pos (n ∷ ns) = omega arith

numbers_free : (b : ℕ) (ns : List ℕ) → b < 48 → InRange ns → Free b (map decimal ns)
numbers_free b [] h r = free_none
numbers_free b (n ∷ ns) h r = free_more (decimal_free b n h r.0) (numbers_free b ns h r.1)

module _ (letter : ℕ) (ns : List ℕ) (high : 48 ≤ letter) (r : InRange ns) where
  fields_free : (b : ℕ) → b < 48 → Free b (fields letter ns)
  unfolding index_of when◌then◌else◌
  fields_free b h = free_more {p = letter ∷ []} (rw (ne_eqb letter b (λ e. omega arith))) (numbers_free b ns h r)

  -- in front of other lines it is a line by itself; six numbers keep within the longest line
  pub line_first : (s : List ℕ) → length ns < 7 → lines_of (line_of letter ns ++ s) ≡ line (joined comma (fields letter ns)) ∷ lines_of s
  unfolding line_of text_of well_sized when◌then◌else◌
  line_first s h =
      let body : List ℕ = joined comma (fields letter ns) in
      let e : line_of letter ns ≡ body ++ LF ∷ [] = commas_joined (letter ∷ []) ns in
      let n : length (line_of letter ns) ≡ length body + 1 = ap length e ∙ length-append body (LF ∷ []) in
      let lines : lines_of (body ++ LF ∷ s) ≡ text_of body ∷ lines_of s = lines_part body s (free_joined (λ z. omega arith) (fields_free LF (omega arith))) in
      let some : 0 < length body = omega (arith, commas_pos ns) in
      let short : length body ≤ longest = omega (arith, line_length letter ns) in
      ap (λ (l : List ℕ). lines_of (l ++ s)) e ∙ ap lines_of (append_assoc body (LF ∷ []) s) ∙ lines
      ∙ rw (lt-ltb 0 (length body) some, le-leb (length body) longest short)

-- ---- the three kinds

-- the requests of a printed line and what follows it
line_request : (letter : ℕ) (ns s : List ℕ) → 48 ≤ letter → InRange ns → length ns < 7
    → requests_of (line_of letter ns ++ s) ≡ request_of (joined comma (fields letter ns)) ∷ requests_of s
unfolding requests_of text_request
line_request letter ns s h r l = rw (line_first letter ns h r s l)

empty_request : (s : List ℕ) → requests_of (LF ∷ s) ≡ Refused ∷ requests_of s
unfolding requests_of text_request text_of well_sized index_of when◌then◌else◌
empty_request s = rw (lines_part [] s refl)

pub written_back : (r : Request) → InRange (values_of r) → (s : List ℕ) → requests_of (written r ++ s) ≡ r ∷ requests_of s
unfolding written values_of
written_back (Motor number ops1 ops2 w u) h s =
    let ns : List ℕ = number ∷ ops1 ∷ ops2 ∷ w ∷ u ∷ [] in
    line_request letter_m ns s (omega arith) h (omega arith)
    ∙ rw (motor_request _ _ _ _ _ number ops1 ops2 w u (fields_free letter_m ns (omega arith) h comma (omega arith)) (read_back number h.0)
    (word_back ops1 h.1.0) (word_back ops2 h.1.1.0) (read_back w h.1.1.1.0) (read_back u h.1.1.1.1.0))
written_back (Input number word) h s =
    let ns : List ℕ = number ∷ word ∷ [] in
    line_request letter_i ns s (omega arith) h (omega arith)
    ∙ rw (input_request _ _ number word (fields_free letter_i ns (omega arith) h comma (omega arith)) (read_back number h.0) (word_back word h.1.0))
written_back (Scan period) h s =
    let ns : List ℕ = period ∷ [] in
    line_request letter_s ns s (omega arith) h (omega arith)
    ∙ rw (scan_request _ period (fields_free letter_s ns (omega arith) h comma (omega arith)) (read_back period h.0))
written_back Refused h s = empty_request s
