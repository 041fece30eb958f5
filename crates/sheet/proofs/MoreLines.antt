-- The lines before an LF and those after it, and how many lines a file can have. Assumes nothing.
use Prim.Native.Nat.{ℕ, suc, ◌<◌, ◌≤◌}
use mathlib.Core.Path.{◌≡◌, ◌∙◌}
use mathlib.Core.Bool.{Bool, true, false}
use mathlib.Core.List.{List, [], ◌∷◌, ◌++◌, map, map-append, append-nil}
use native.Mathlib.Omega.{arith}
use lib.Dec.{eqb}
use lib.ListN.{length, length-map}
use borrow.Author.Tests.{ne_eqb}
use Rattle.words.specs.Word.{when◌then◌else◌}
use Rattle.octets.specs.Split.{LF, split, join_first}
use Rattle.sheet.specs.Lines.{text_of, texts_of, lines_of}
use Rattle.sheet.specs.Grammar.{text_request, requests_of}
use Rattle.sheet.specs.declared.Request.{Request}
use Rattle.octets.proofs.SplitLaws.{parts_pos, split_more}
use Rattle.sheet.proofs.LineLaws.{texts_more}

-- ---- the lines before an LF, and those after it

lines_more : (p q : List ℕ) → lines_of (p ++ LF ∷ q) ≡ map text_of (split LF p) ++ lines_of q
unfolding lines_of
lines_more p q = rw (split_more LF p q) (texts_more (split LF p) (split LF q) (parts_pos LF q))

-- the requests of the lines up to an LF
unfoldable pub before : List ℕ → List Request
before p = map text_request (map text_of (split LF p))

pub requests_more : (p q : List ℕ) → requests_of (p ++ LF ∷ q) ≡ before p ++ requests_of q
unfolding requests_of before
requests_more p q = rw (lines_more p q) (map-append text_request (map text_of (split LF p)) (lines_of q))

pub requests_whole : (p : List ℕ) → requests_of (p ++ LF ∷ []) ≡ before p
unfolding requests_of lines_of split texts_of when◌then◌else◌
requests_whole p = requests_more p [] ∙ append-nil (before p)

-- ---- a file has no more lines than bytes

few_texts : (x : ℕ) (ps : List (List ℕ)) (n : ℕ) → 0 < length ps → length (texts_of ps) ≤ n → length (texts_of (join_first x ps)) ≤ suc n
unfolding texts_of join_first when◌then◌else◌
few_texts x [] n h l = absurd (omega arith)
few_texts x (p ∷ []) n h l = rw (ne_eqb (suc (length p)) 0 (λ e. omega arith)) (omega arith)
few_texts x (p ∷ q ∷ ps) n h l = omega arith

few_lines : (file : List ℕ) → length (lines_of file) ≤ length file
unfolding lines_of split texts_of when◌then◌else◌
few_lines [] = omega arith
few_lines (x ∷ xs) = go (eqb x LF) (split LF xs) (parts_pos LF xs) (few_lines xs)
  where
    go : (b : Bool) (ps : List (List ℕ)) → 0 < length ps → length (texts_of ps) ≤ length xs → length (texts_of (when b then [] ∷ ps else join_first x ps)) ≤ suc (length xs)
    go true [] h l = absurd (omega arith)
    go true (p ∷ ps) h l = omega arith
    go false ps h l = few_texts x ps (length xs) h l

pub few_requests : (file : List ℕ) → length (requests_of file) ≤ length file
unfolding requests_of
few_requests file = rw (length-map (lines_of file) text_request) (few_lines file)
