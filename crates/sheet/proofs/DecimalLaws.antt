-- A line of which no word field begins with 0x makes the request that it makes if words are decimal alone; so does each line that makes one then.
-- Assumes nothing.
use Prim.Native.Nat.{ℕ}
use mathlib.Core.Path.{◌≡◌, refl, sym}
use mathlib.Core.Logic.{◌⊎◌, inl, inr}
use mathlib.Core.Bool.{Bool, true, false, ◌||◌, false≢true}
use mathlib.Core.List.{List}
use native.Mathlib.Omega.{arith}
use Rattle.words.specs.Word.{when◌then◌else◌}
use Rattle.octets.specs.Split.{field_of}
use Rattle.sheet.specs.Lines.{Text, line, faulty}
use Rattle.octets.specs.Number.{number_of}
use Rattle.sheet.specs.WordField.{has0x, word_of}
use Rattle.sheet.specs.Grammar.{letter_m, letter_i, is_kind, number_in, word_in, with_value, motor_from, input_from, motor_of, input_of, scan_of, request_of, text_request}
use Rattle.sheet.specs.DecimalWords.{decimal_motor, decimal_input, decimal_scan, decimal_request, decimal_text, line_has0x, text_has0x}
use Rattle.std.specs.Prelude.{Option, Some, None}
use Rattle.sheet.specs.declared.Request.TheVariants.{Refused}
use Rattle.sheet.proofs.WordFieldLaws.{number_no_0x}

no_0x : (l : List ℕ) (k : ℕ) → has0x (field_of l k) ≡ false → word_in l k ≡ number_in l k
unfolding word_in number_in word_of when◌then◌else◌
no_0x l k e = rw e

pub neither : (a b : Bool) → (a || b) ≡ false → (a ≡ false) × (b ≡ false)
neither false b e = (refl, e)
neither true b e = absurd (false≢true (sym e))

-- ---- a line without 0x

same_request : (l : List ℕ) → line_has0x l ≡ false → request_of l ≡ decimal_request l
unfolding line_has0x request_of decimal_request motor_of input_of scan_of decimal_motor decimal_input decimal_scan when◌then◌else◌
same_request l h = go (is_kind letter_m 6 l) refl (is_kind letter_i 3 l) refl h
  where
    go : (x : Bool) → is_kind letter_m 6 l ≡ x → (y : Bool) → is_kind letter_i 3 l ≡ y
        → (when x then has0x (field_of l 2) || has0x (field_of l 3) else when y then has0x (field_of l 2) else false) ≡ false → request_of l ≡ decimal_request l
    go true e y f h = let n = neither (has0x (field_of l 2)) (has0x (field_of l 3)) h in rw (e, no_0x l 2 n.0, no_0x l 3 n.1)
    go false e true f h = rw (e, f, no_0x l 2 h)
    go false e false f h = rw (e, f)

-- ---- a line that makes a request if words are decimal alone

-- a field whose number is there
is_value : (l : List ℕ) (k : ℕ) → (number_in l k ≡ None → ⊥) → has0x (field_of l k) ≡ false
unfolding number_in
is_value l k h = go (number_of (field_of l k)) refl
  where
    go : (a : Option ℕ) → number_of (field_of l k) ≡ a → has0x (field_of l k) ≡ false
    go (Some n) e = number_no_0x (field_of l k) n e
    go None e = absurd (h e)

-- numbers of which one is missing make no request
no_motor : (a b c d e : Option ℕ) → (b ≡ None) ⊎ (c ≡ None) → motor_from a b c d e ≡ Refused
unfolding motor_from with_value
no_motor None b c d e h = refl
no_motor (Some a) None c d e h = refl
no_motor (Some a) (Some b) None d e h = refl
no_motor (Some a) (Some b) (Some c) d e (inl h) = let z : ◌≡◌ {A = ℕ} 0 1 = cc in absurd (omega arith)
no_motor (Some a) (Some b) (Some c) d e (inr h) = let z : ◌≡◌ {A = ℕ} 0 1 = cc in absurd (omega arith)

no_input : (a : Option ℕ) → input_from a None ≡ Refused
unfolding input_from with_value
no_input (Some a) = refl
no_input None = refl

made_no_0x : (l : List ℕ) → (decimal_request l ≡ Refused → ⊥) → line_has0x l ≡ false
unfolding line_has0x decimal_request decimal_motor decimal_input when◌then◌else◌
made_no_0x l h = go (is_kind letter_m 6 l) refl (is_kind letter_i 3 l) refl
  where
    go : (x : Bool) → is_kind letter_m 6 l ≡ x → (y : Bool) → is_kind letter_i 3 l ≡ y
        → (when x then has0x (field_of l 2) || has0x (field_of l 3) else when y then has0x (field_of l 2) else false) ≡ false
    go true e y f =
        rw (
          is_value l 2 (λ g. h (rw e (no_motor _ _ _ _ _ (inl g)))),
          is_value l 3 (λ g. h (rw e (no_motor _ _ _ _ _ (inr g)))),
        )
    go false e true f = is_value l 2 (λ g. h (rw (e, f, g) (no_input _)))
    go false e false f = refl

-- ---- the same of a line of a file, which may be faulty

pub same_text : (l : Text) → text_has0x l ≡ false → text_request l ≡ decimal_text l
unfolding text_has0x text_request decimal_text
same_text (line l) h = same_request l h
same_text faulty h = refl

pub made_text : (l : Text) → (decimal_text l ≡ Refused → ⊥) → text_has0x l ≡ false
unfolding text_has0x decimal_text
made_text (line l) h = made_no_0x l h
made_text faulty h = refl
