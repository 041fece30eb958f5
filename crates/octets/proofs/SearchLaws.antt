-- Laws of the search for LF. Assumes nothing.
use Prim.Native.Nat.{ℕ, ◌+◌, ◌-◌, ◌<◌, ◌≤◌}
use mathlib.Core.Path.{◌≡◌, refl, sym, ap, ◌∙◌}
use mathlib.Core.Bool.{Bool, true, false}
use mathlib.Core.List.{List}
use native.Mathlib.Omega.{arith}
use native.Mathlib.Decide.{dec_lt}
use lib.ListN.{length, drop, get_or, length-drop}
use lib.Seq.{take_all, get_or-drop}
use lib.Dec.{eqb, ltb}
use borrow.Author.Tests.{lt-ltb, le-ltb, ltb-true, ltb-false}
use Rattle.words.specs.Word.{when◌then◌else◌}
use Rattle.octets.specs.Split.{LF, index_of, found_byte, found_lf}
use Rattle.std.specs.Prelude.{Option, Some, None, unwrap_or, max}
use Rattle.std.specs.Bool.{then_some}
use Rattle.std.specs.List.{position, slice_range}
use Rattle.octets.proofs.SplitLaws.{position_is, index_le, index_is, index_first}

-- a place has the first LF from `at` on
pub record FirstLF (file : List ℕ) (at i : ℕ) : Type 0 where
  pub inside : i < length file
  pub from : at ≤ i
  pub is : get_or file i 0 ≡ LF
  pub first : (k : ℕ) → at ≤ k → k < i → get_or file k 0 ≡ LF → ⊥

-- no place from `at` on has one
abbrev pub NoLF : List ℕ → ℕ → Type 0
NoLF file at = (k : ℕ) → at ≤ k → k < length file → get_or file k 0 ≡ LF → ⊥

found·at : (t : Bool) (i j : ℕ) → then_some t i ≡ Some j → (t ≡ true) × (i ≡ j)
unfolding when◌then◌else◌
found·at true i j e = (refl, (cc))
found·at false i j e = let z : ◌≡◌ {A = ℕ} 0 1 = cc in absurd (omega arith)

found·none : (t : Bool) (i : ℕ) → then_some t i ≡ None → t ≡ false
unfolding when◌then◌else◌
found·none true i e = let z : ◌≡◌ {A = ℕ} 0 1 = cc in absurd (omega arith)
found·none false i e = refl

-- of any byte b: by its first place, or the end
module _ (file : List ℕ) (at b : ℕ) where
  pub found_by : (i : ℕ) → i ≡ at + index_of b (drop at file) → i < length file → found_byte file at b ≡ Some i
  unfolding found_byte
  found_by i e h = rw (← e, lt-ltb i (length file) h)

  pub nothing_by : (i : ℕ) → i ≡ at + index_of b (drop at file) → length file ≤ i → found_byte file at b ≡ None
  unfolding found_byte
  nothing_by i e h = rw (← e, le-ltb i (length file) h)

  pub found_place : (i : ℕ) → found_byte file at b ≡ Some i → (at + index_of b (drop at file) ≡ i) × (i < length file)
  unfolding found_byte
  found_place i e =
      let n : ℕ = at + index_of b (drop at file) in
      let w = found·at (ltb n (length file)) n i e in
      (w.1, omega (arith, w.1, ltb-true n (length file) w.0))

  pub found_past : found_byte file at b ≡ None → length file ≤ at + index_of b (drop at file)
  unfolding found_byte
  found_past e =
      let n : ℕ = at + index_of b (drop at file) in
      ltb-false n (length file) (found·none (ltb n (length file)) n e)

  -- by what the search of the rest finds
  pub nothing_past : length file < at → None ≡ found_byte file at b
  nothing_past h = sym (nothing_by (at + index_of b (drop at file)) refl (omega arith))

  module _ (rest : List ℕ) (whole : rest ≡ slice_range file at (length file)) (inside : at ≤ length file) where
    e : rest ≡ drop at file
    e = whole ∙ take_all (length file - at) (drop at file) (omega (arith, length-drop at file))

    pub found_in_rest : (i : ℕ) → Some i ≡ position (λ x. eqb x b) rest → Some (at + i) ≡ found_byte file at b
    found_in_rest i f =
        let w = found·at (ltb (index_of b rest) (length rest)) (index_of b rest) i (sym (f ∙ position_is b rest)) in
        let n : at + i ≡ at + index_of b (drop at file) = omega (arith, w.1, ap (index_of b) e) in
        sym (found_by (at + i) n (omega (arith, w.1, ltb-true (index_of b rest) (length rest) w.0, ap length e, length-drop at file)))

    pub nothing_in_rest : None ≡ position (λ x. eqb x b) rest → None ≡ found_byte file at b
    nothing_in_rest f =
        let p = ltb-false (index_of b rest) (length rest) (found·none (ltb (index_of b rest) (length rest)) (index_of b rest) (sym (f ∙ position_is b rest))) in
        sym (nothing_by (at + index_of b (drop at file)) refl (omega (arith, p, ap (index_of b) e, ap length e, length-drop at file)))

  -- what is found says how many bytes stand before it
  pub index_found : unwrap_or (found_byte file at b) (max at (length file)) ≡ at + index_of b (drop at file)
  index_found = go (found_byte file at b) refl
    where
      go : (r : Option ℕ) → found_byte file at b ≡ r → unwrap_or r (max at (length file)) ≡ at + index_of b (drop at file)
      go (Some i) e = omega (arith, (found_place i e).0)
      go None e = omega (arith, found_past e, index_le b (drop at file), length-drop at file)

  -- from a place with as many before it in all, the same is found
  pub found_on : (m : ℕ) → at + index_of b (drop at file) ≡ m + index_of b (drop m file) → found_byte file m b ≡ found_byte file at b
  unfolding found_byte
  found_on m e = rw e

module _ (file : List ℕ) (at : ℕ) where
  -- a byte ahead
  ahead : (k : ℕ) → at ≤ k → get_or (drop at file) (k - at) 0 ≡ get_or file k 0
  ahead k h = get_or-drop at file (k - at) 0 ∙ ap (λ (j : ℕ). get_or file j 0) (omega arith)

  none_before : (k : ℕ) → at ≤ k → k < at + index_of LF (drop at file) → get_or file k 0 ≡ LF → ⊥
  none_before k h l e = index_first LF (drop at file) (k - at) (omega arith) (ahead k h ∙ e)

  is_there_lem : at + index_of LF (drop at file) < length file → get_or file (at + index_of LF (drop at file)) 0 ≡ LF
  is_there_lem h = sym (get_or-drop at file (index_of LF (drop at file)) 0) ∙ index_is LF (drop at file) (omega (arith, length-drop at file))

  -- what the search gives is the first LF, and nothing only if there is none
  pub found_first : (i : ℕ) → found_lf file at ≡ Some i → FirstLF file at i
  found_first i e =
      let w = found_place file at LF i e in
      let p = w.0 in
      record {
        inside = w.1;
        from = omega arith;
        is = rw p at (is_there_lem (omega (arith, w.1)));
        first = λ k h l. none_before k h (omega arith);
      }

  pub found_nothing : found_lf file at ≡ None → NoLF file at
  found_nothing e k h l = none_before k h (omega (arith, found_past file at LF e))

  -- and the other way round: to show what the search gives, it is enough to know the bytes
  pub first_found : (i : ℕ) → FirstLF file at i → found_lf file at ≡ Some i
  first_found i f = found_by file at LF i (place (dec_lt i n) (dec_lt n i)) f.inside
    where
      n : ℕ
      n = at + index_of LF (drop at file)

      place : Dec (i < n) → Dec (n < i) → i ≡ n
      place (yes l) d = absurd (none_before i f.from l f.is)
      place (no l) (yes m) = absurd (f.first n (omega arith) m (is_there_lem (omega (arith, f.inside))))
      place (no l) (no m) = omega arith

  pub nothing_found : NoLF file at → found_lf file at ≡ None
  nothing_found f = nothing_by file at LF n refl (past (dec_lt n (length file)))
    where
      n : ℕ
      n = at + index_of LF (drop at file)

      past : Dec (n < length file) → length file ≤ n
      past (yes l) = absurd (f n (omega arith) l (is_there_lem l))
      past (no l) = omega arith
