-- Laws of the lines of a file. Assumes nothing.
use Prim.Native.Nat.{ℕ, suc, ◌+◌, ◌-◌, ◌<◌, ◌≤◌}
use mathlib.Core.Path.{◌≡◌, refl, ap, ◌∙◌}
use mathlib.Core.Bool.{Bool, true, false}
use mathlib.Core.List.{List, [], ◌∷◌, ◌++◌, map}
use native.Mathlib.Omega.{arith}
use native.Mathlib.Decide.{dec_le}
use lib.ListN.{length, take, drop, length-drop, drop_of_length-le}
use lib.Seq.{length-take-le, drop-drop}
use borrow.Author.Tests.{ne_eqb}
use Rattle.words.specs.Word.{when◌then◌else◌}
use Rattle.words.proofs.Laws.{both_le}
use Rattle.octets.specs.Split.{LF, split, index_of, between, found_lf}
use Rattle.sheet.specs.Lines.{longest, Text, line, faulty, well_sized, text_of, texts_of, lines_of, first_line, line_at}
use Rattle.std.specs.Prelude.{Option, Some, None}
use Rattle.sheet.specs.declared.Line.{Line}
use Rattle.sheet.specs.declared.Line.TheVariants.{Until, Refused, End}
use Rattle.octets.proofs.SplitLaws.{split_hit, split_none, split_part, parts_pos}
use Rattle.octets.proofs.SearchLaws.{found_place, found_past}

-- ---- the first line of a list of bytes

pub lines_none : lines_of [] ≡ []
unfolding lines_of split texts_of when◌then◌else◌
lines_none = refl

pub texts_more : (ps qs : List (List ℕ)) → 0 < length qs → texts_of (ps ++ qs) ≡ map text_of ps ++ texts_of qs
unfolding texts_of
texts_more [] qs h = refl
texts_more (p ∷ []) [] h = absurd (omega arith)
texts_more (p ∷ []) (q ∷ qs) h = refl
texts_more (p ∷ p' ∷ ps) qs h = ap (λ (l : List Text). text_of p ∷ l) (texts_more (p' ∷ ps) qs h)

pub lines_hit : (s : List ℕ) → index_of LF s < length s → lines_of s ≡ text_of (take (index_of LF s) s) ∷ lines_of (drop (suc (index_of LF s)) s)
unfolding lines_of
lines_hit s h =
    let rest : List ℕ = drop (suc (index_of LF s)) s in
    rw (split_hit LF s h) (texts_more (take (index_of LF s) s ∷ []) (split LF rest) (parts_pos LF rest))

-- a line and its LF, in front of other lines
pub lines_part : (l s : List ℕ) → index_of LF l ≡ length l → lines_of (l ++ LF ∷ s) ≡ text_of l ∷ lines_of s
unfolding lines_of
lines_part l s h = rw (split_part LF l s h) (texts_more (l ∷ []) (split LF s) (parts_pos LF s))

pub lines_open : (s : List ℕ) → 0 < length s → length s ≤ index_of LF s → lines_of s ≡ faulty ∷ []
unfolding lines_of texts_of when◌then◌else◌
lines_open s p h = rw (split_none LF s h, ne_eqb (length s) 0 (λ e. omega arith))

-- ---- the lines from a place on, by what the search finds there

module _ (file : List ℕ) (at : ℕ) where
  pub lines_end : length file ≤ at → lines_of (drop at file) ≡ []
  lines_end h = rw (drop_of_length-le file h) lines_none

  pub lines_nothing : at < length file → found_lf file at ≡ None → lines_of (drop at file) ≡ faulty ∷ []
  lines_nothing h e =
      let p = found_past file at LF e in
      lines_open (drop at file) (omega (arith, length-drop at file)) (omega (arith, length-drop at file))

  pub lines_found : (end : ℕ) → found_lf file at ≡ Some end → lines_of (drop at file) ≡ text_of (between at end file) ∷ lines_of (drop (suc end) file)
  unfolding between
  lines_found end e =
      let w = found_place file at LF end e in
      let p = w.0 in
      let n : end - at ≡ index_of LF (drop at file) = omega arith in
      let m : suc end ≡ at + suc (index_of LF (drop at file)) = omega arith in
      rw (n, m, ← drop-drop (suc (index_of LF (drop at file))) at file) (lines_hit (drop at file) (omega (arith, w.1, length-drop at file)))

  pub between_size : (end : ℕ) → found_lf file at ≡ Some end → length (between at end file) ≡ end - at
  unfolding between
  between_size end e = let w = found_place file at LF end e in length-take-le (end - at) (drop at file) (omega (arith, w.1, length-drop at file))

  -- ---- the line at a place

  pub line_end : length file ≤ at → line_at file at ≡ End
  unfolding line_at first_line
  line_end h = rw (lines_end h)

  pub line_open : at < length file → found_lf file at ≡ None → line_at file at ≡ Refused
  unfolding line_at first_line
  line_open h e = rw (lines_nothing h e)

  module _ (end : ℕ) (e : found_lf file at ≡ Some end) where
    lines_whole : well_sized (end - at) ≡ true → lines_of (drop at file) ≡ line (between at end file) ∷ lines_of (drop (suc end) file)
    unfolding text_of when◌then◌else◌
    lines_whole f = lines_found end e ∙ rw (between_size end e, f)

    lines_faulty : well_sized (end - at) ≡ false → lines_of (drop at file) ≡ faulty ∷ lines_of (drop (suc end) file)
    unfolding text_of when◌then◌else◌
    lines_faulty f = lines_found end e ∙ rw (between_size end e, f)

    pub line_whole : well_sized (end - at) ≡ true → line_at file at ≡ Until end
    unfolding line_at first_line
    line_whole f = rw (lines_whole f, between_size end e) (ap Until (let p = (found_place file at LF end e).0 in omega arith))

    pub line_faulty : well_sized (end - at) ≡ false → line_at file at ≡ Refused
    unfolding line_at first_line
    line_faulty f = rw (lines_faulty f)

-- ---- what an answer says of the file

-- a line up to its LF at `end`, and the lines after it
pub record Whole (file : List ℕ) (at end : ℕ) : Type 0 where
  pub some : at < end
  pub ends : end < length file
  pub short : end - at ≤ longest
  pub lines : lines_of (drop at file) ≡ line (between at end file) ∷ lines_of (drop (suc end) file)

pub data Stands (file : List ℕ) (at : ℕ) : Line → Type 0 where
  whole : {end : ℕ} → Whole file at end → Stands file at (Until end)
  refused : {rest : List Text} → at < length file → lines_of (drop at file) ≡ faulty ∷ rest → Stands file at Refused
  ended : length file ≤ at → Stands file at End

sized : (n : ℕ) → well_sized n ≡ true → (0 < n) × (n ≤ longest)
unfolding well_sized
sized n e = both_le e

pub stands : (file : List ℕ) (at : ℕ) → Stands file at (line_at file at)
stands file at = go (dec_le (length file) at)
  where
    at_end_lem : (end : ℕ) → found_lf file at ≡ Some end → (t : Bool) → well_sized (end - at) ≡ t → Stands file at (line_at file at)
    at_end_lem end e true f =
        let n = sized (end - at) f in
        let w = found_place file at LF end e in
        rw (line_whole file at end e f)
        (whole {end = end} (record { some = omega (arith, n.0); ends = w.1; short = n.1; lines = lines_whole file at end e f }))
    at_end_lem end e false f =
        let w = found_place file at LF end e in
        rw (line_faulty file at end e f) (refused {rest = lines_of (drop (suc end) file)} (omega (arith, w.0, w.1)) (lines_faulty file at end e f))

    at_lf : at < length file → (f : Option ℕ) → found_lf file at ≡ f → Stands file at (line_at file at)
    at_lf h (Some end) e = at_end_lem end e (well_sized (end - at)) refl
    at_lf h None e = rw (line_open file at h e) (refused h (lines_nothing file at h e))

    go : Dec (length file ≤ at) → Stands file at (line_at file at)
    go (yes h) = rw (line_end file at h) (ended h)
    go (no h) = at_lf (omega arith) (found_lf file at) refl

until_of : {file : List ℕ} {at : ℕ} {l : Line} (end : ℕ) → Stands file at l → l ≡ Until end → Whole file at end
until_of end (whole {end = e} w) k = let p : e ≡ end = cc in rw p at w
until_of end (refused h e) k = let z : ◌≡◌ {A = ℕ} 0 1 = cc in absurd (omega arith)
until_of end (ended h) k = let z : ◌≡◌ {A = ℕ} 0 1 = cc in absurd (omega arith)

pub until_whole : (file : List ℕ) (at end : ℕ) → line_at file at ≡ Until end → Whole file at end
until_whole file at end e = until_of end (stands file at) e
