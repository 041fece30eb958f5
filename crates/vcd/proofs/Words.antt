-- The words that a reader finds in the lines of a dump. Assumes nothing.
use Prim.Native.Nat.{ℕ, zero, suc, ◌+◌, ◌/◌, ◌%◌, ◌<◌}
use mathlib.Core.Path.{◌≡◌, refl, ap, ◌∙◌}
use mathlib.Core.Bool.{Bool, true, false, not, ◌&&◌}
use mathlib.Core.List.{List, [], ◌∷◌, ◌++◌, append_assoc}
use native.Mathlib.Decide.{dec_lt}
use native.Mathlib.Omega.{arith}
use borrow.Author.Tests.{ne_eqb, not-true}
use Rattle.words.specs.Word.{when◌then◌else◌}
use Rattle.words.proofs.Laws.{and_true}
use Rattle.octets.specs.Split.{LF, joined, join_first}
use Rattle.report.specs.Print.{digits_of, decimal}
use Rattle.report.proofs.PrintLaws.{digits_less, digits_more}
use Rattle.vcd.specs.Text.{blank, word_line, word_timescale, word_one, word_ms, word_scope, word_module, word_bench, word_var, word_wire, word_upscope, word_enddefinitions, word_end, code_of, on_name, off_name, wire_line, wires_from, frame_start, frame_end, time_line, digit_of, value_line}
use Rattle.vcd.specs.Reader.{is_space, parts_of, present, words_in}

-- ---- a word has no white space, and at least one byte

unfoldable spaceless : List ℕ → Bool
spaceless [] = true
spaceless (b ∷ bs) = not (is_space b) && spaceless bs

unfoldable plain : List ℕ → Bool
plain [] = false
plain (b ∷ bs) = spaceless (b ∷ bs)

visible : (b : ℕ) → 32 < b → is_space b ≡ false
unfolding is_space
visible b h =
    rw (ne_eqb b 9 (λ e. omega arith), ne_eqb b 10 (λ e. omega arith), ne_eqb b 13 (λ e. omega arith), ne_eqb b 32 (λ e. omega arith))

visible_more : (b : ℕ) (w : List ℕ) → 32 < b → spaceless w ≡ true → spaceless (b ∷ w) ≡ true
unfolding spaceless
visible_more b w h e = rw (visible b h) e

spaceless_append : (p q : List ℕ) → spaceless p ≡ true → spaceless q ≡ true → spaceless (p ++ q) ≡ true
unfolding spaceless
spaceless_append [] q e f = f
spaceless_append (b ∷ p) q e f = let w = and_true (not (is_space b)) (spaceless p) e in rw w.0 (spaceless_append p q w.1 f)

spaceless_digits : (k n : ℕ) → spaceless (digits_of k n) ≡ true
unfolding spaceless digits_of
spaceless_digits zero n = refl
spaceless_digits (suc k) n = go (dec_lt n 10) (spaceless_digits k (n / 10))
  where
    go : Dec (n < 10) → spaceless (digits_of k (n / 10)) ≡ true → spaceless (digits_of (suc k) n) ≡ true
    go (yes l) e = rw (digits_less k n l) (visible_more (48 + n) [] (omega arith) refl)
    go (no l) e =
        rw (digits_more k n (omega arith)) (spaceless_append (digits_of k (n / 10)) _ e (visible_more (48 + n % 10) [] (omega arith) refl))

spaceless_decimal : (n : ℕ) → spaceless (decimal n) ≡ true
unfolding decimal
spaceless_decimal n = spaceless_digits 10 n

-- ---- the words of a line

-- a byte of white space ends a word
part_ends : (w : List ℕ) (space : ℕ) (rest : List ℕ) → spaceless w ≡ true → is_space space ≡ true → parts_of (w ++ space ∷ rest) ≡ w ∷ parts_of rest
unfolding parts_of spaceless join_first when◌then◌else◌
part_ends [] space rest e s = rw s
part_ends (b ∷ w) space rest e s =
    let f = and_true (not (is_space b)) (spaceless w) e in rw (not-true (is_space b) f.0, part_ends w space rest f.1 s)

word_ends : (w : List ℕ) (space : ℕ) (rest : List ℕ) → plain w ≡ true → is_space space ≡ true → words_in (w ++ space ∷ rest) ≡ w ∷ words_in rest
unfolding words_in plain present
word_ends [] space rest e s = let z : ◌≡◌ {A = ℕ} 0 1 = cc in absurd (omega arith)
word_ends (b ∷ w) space rest e s = ap present (part_ends (b ∷ w) space rest e s)

unfoldable all_plain : List (List ℕ) → Bool
all_plain [] = true
all_plain (w ∷ ws) = plain w && all_plain ws

words_of_line : (w : List ℕ) (ws : List (List ℕ)) (rest : List ℕ) → all_plain (w ∷ ws) ≡ true → words_in (word_line (w ∷ ws) ++ rest) ≡ (w ∷ ws) ++ words_in rest
unfolding word_line joined is_space all_plain
words_of_line w [] rest e = rw (append_assoc w (LF ∷ []) rest) (word_ends w LF rest (and_true (plain w) true e).0 refl)
words_of_line w (v ∷ vs) rest e =
    let p = and_true (plain w) (all_plain (v ∷ vs)) e in
    rw (append_assoc w (blank ∷ joined blank (v ∷ vs)) (LF ∷ []), append_assoc w (blank ∷ joined blank (v ∷ vs) ++ LF ∷ []) rest)
    (word_ends w blank _ p.0 refl ∙ ap (λ (l : List (List ℕ)). w ∷ l) (words_of_line v vs rest p.1))

-- ---- the words of each line of a dump

pub frame_start_words : (rest : List ℕ)
    → words_in (frame_start ++ rest)
    ≡ word_timescale ∷ word_one ∷ word_ms ∷ word_end ∷ word_scope ∷ word_module ∷ word_bench ∷ word_end ∷ words_in rest
unfolding frame_start all_plain plain spaceless is_space
frame_start_words rest =
    let first : List (List ℕ) = word_one ∷ word_ms ∷ word_end ∷ [] in
    let second : List (List ℕ) = word_module ∷ word_bench ∷ word_end ∷ [] in
    rw (append_assoc (word_line (word_timescale ∷ first)) (word_line (word_scope ∷ second)) rest, words_of_line word_timescale first (word_line (word_scope ∷ second) ++ rest) refl, words_of_line word_scope second rest refl)

pub frame_end_words : (rest : List ℕ) → words_in (frame_end ++ rest) ≡ word_upscope ∷ word_end ∷ word_enddefinitions ∷ word_end ∷ words_in rest
unfolding frame_end all_plain plain spaceless is_space
frame_end_words rest =
    let last : List (List ℕ) = word_end ∷ [] in
    rw (append_assoc (word_line (word_upscope ∷ last)) (word_line (word_enddefinitions ∷ last)) rest, words_of_line word_upscope last (word_line (word_enddefinitions ∷ last) ++ rest) refl, words_of_line word_enddefinitions last rest refl)

-- a name begins with m
wire_words : (i : ℕ) (name rest : List ℕ) → spaceless name ≡ true
    → words_in (wire_line (code_of i) (109 ∷ name) ++ rest) ≡ word_var ∷ word_wire ∷ word_one ∷ code_of i ∷ (109 ∷ name) ∷ word_end ∷ words_in rest
unfolding wire_line all_plain plain spaceless is_space code_of
wire_words i name rest e = words_of_line word_var _ rest (rw (visible (33 + i) (omega arith), e))

name_spaceless : (number : ℕ) (end : List ℕ) → spaceless end ≡ true → spaceless (decimal number ++ end) ≡ true
name_spaceless number end e = spaceless_append (decimal number) end (spaceless_decimal number) e

pub motor_words : (i number n : ℕ) (rest : List ℕ)
    → words_in (wires_from i number (suc n) ++ rest)
    ≡ word_var ∷ word_wire ∷ word_one ∷ code_of i ∷ on_name number ∷ word_end ∷ word_var ∷ word_wire ∷ word_one ∷ code_of (i + 1) ∷ off_name number ∷ word_end ∷ words_in (wires_from (i + 2) (number + 1) n ++ rest)
unfolding wires_from on_name off_name spaceless is_space
motor_words i number n rest =
    rw (append_assoc, append_assoc, wire_words i _ _ (name_spaceless number (111 ∷ 110 ∷ []) refl), wire_words (i + 1) _ _ (name_spaceless number (111 ∷ 102 ∷ 102 ∷ []) refl))

pub time_words : (time : ℕ) (rest : List ℕ) → words_in (time_line time ++ rest) ≡ (35 ∷ decimal time) ∷ words_in rest
unfolding time_line all_plain plain spaceless is_space
time_words time rest = words_of_line (35 ∷ decimal time) [] rest (rw (spaceless_decimal time))

pub value_words : (i : ℕ) (value : Bool) (rest : List ℕ) → words_in (value_line (code_of i) value ++ rest) ≡ (digit_of value ∷ code_of i) ∷ words_in rest
unfolding value_line all_plain plain spaceless is_space code_of digit_of when◌then◌else◌
value_words i true rest = words_of_line (49 ∷ code_of i) [] rest (rw (visible (33 + i) (omega arith)))
value_words i false rest = words_of_line (48 ∷ code_of i) [] rest (rw (visible (33 + i) (omega arith)))
