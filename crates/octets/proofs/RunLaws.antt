-- Laws of the bytes that pass a test: all of some, and those with which some begin. They hold of decimal and hexadecimal digits alike.
-- Assumes nothing.
use Prim.Native.Nat.{ℕ, suc, ◌<◌, ◌≤◌}
use mathlib.Core.Path.{◌≡◌, refl, sym, ap, ◌∙◌}
use mathlib.Core.Bool.{Bool, true, false, ◌&&◌, false≢true, and-true as and_one, and_assoc}
use mathlib.Core.List.{List, [], ◌∷◌, ◌++◌}
use native.Mathlib.Omega.{arith}
use lib.ListN.{length, take, drop, get_or, drop_of_length-le}
use lib.Seq.{drop-cons}
use lib.Dec.{ltb}
use borrow.Author.Tests.{ne_eqb, ltb-true, ltb-false}
use Rattle.std.specs.Prelude.{None}
use Rattle.std.specs.Bool.{then_some}
use Rattle.std.specs.List.{list_all}
use Rattle.std.proofs.lemmas.Option.{none-some}
use Rattle.words.specs.Word.{when◌then◌else◌}
use Rattle.words.proofs.Laws.{and_true, either}
use Rattle.octets.specs.Split.{index_of}
use Rattle.octets.specs.Runs.{run_of}

module _ (test : ℕ → Bool) where
  -- ---- all of them pass

  -- one more at the end
  pub all_snoc : (s : List ℕ) (b : ℕ) → list_all test (s ++ b ∷ []) ≡ (list_all test s && test b)
  all_snoc [] b = and_one (test b)
  all_snoc (x ∷ s) b = ap (λ (t : Bool). test x && t) (all_snoc s b) ∙ sym (and_assoc (test x) (list_all test s) (test b))

  -- a byte that does not is not among them
  pub all_free : (b : ℕ) (s : List ℕ) → test b ≡ false → list_all test s ≡ true → index_of b s ≡ length s
  unfolding index_of when◌then◌else◌
  all_free b [] f e = refl
  all_free b (x ∷ s) f e =
      let w = and_true (test x) (list_all test s) e in
      rw (ne_eqb x b (λ g. false≢true (sym f ∙ ap test (sym g) ∙ w.0))) (ap suc (all_free b s f w.1))

  pub run_all : (s : List ℕ) → list_all test s ≡ true → run_of test s ≡ s
  unfolding run_of when◌then◌else◌
  run_all [] e = refl
  run_all (b ∷ s) e = let w = and_true (test b) (list_all test s) e in rw (w.0, run_all s w.1)

  pub all_run : (s : List ℕ) → length (run_of test s) ≡ length s → list_all test s ≡ true
  unfolding run_of when◌then◌else◌
  all_run [] e = refl
  all_run (b ∷ s) e = go (test b) e (all_run s)
    where
      go : (t : Bool) → length (when t then b ∷ run_of test s else []) ≡ suc (length s) → (length (run_of test s) ≡ length s → list_all test s ≡ true) → (t && list_all test s) ≡ true
      go true e ih = ih (omega arith)
      go false e ih = absurd (omega arith)

  -- ---- those with which they begin

  pub run_passes : (s : List ℕ) → list_all test (run_of test s) ≡ true
  unfolding run_of when◌then◌else◌
  run_passes [] = refl
  run_passes (b ∷ s) = go (test b) refl (run_passes s)
    where
      go : (t : Bool) → test b ≡ t → list_all test (run_of test s) ≡ true → list_all test (when t then b ∷ run_of test s else []) ≡ true
      go true e ih = rw (e, ih)
      go false e ih = refl

  pub run_take : (s : List ℕ) → take (length (run_of test s)) s ≡ run_of test s
  unfolding run_of when◌then◌else◌
  run_take [] = refl
  run_take (b ∷ s) = go (test b) (run_take s)
    where
      go : (t : Bool) → take (length (run_of test s)) s ≡ run_of test s → take (length (when t then b ∷ run_of test s else [])) (b ∷ s) ≡ (when t then b ∷ run_of test s else [])
      go true ih = ap (λ (l : List ℕ). b ∷ l) ih
      go false ih = refl

  pub run_le : (s : List ℕ) → length (run_of test s) ≤ length s
  unfolding run_of
  run_le [] = omega arith
  run_le (b ∷ s) = either (λ (l : List ℕ). length l ≤ suc (length s)) (test b) (omega (arith, run_le s)) (omega arith)

  -- ---- those from a place on

  module _ (s : List ℕ) (i : ℕ) where
    pub run_here : i < length s → test (get_or s i 0) ≡ true → run_of test (drop i s) ≡ get_or s i 0 ∷ run_of test (drop (suc i) s)
    unfolding run_of when◌then◌else◌
    run_here l e = rw (drop-cons s i 0 l, e)

    -- where none stands there
    pub run_end : (value : ℕ) → None ≡ then_some (ltb i (length s) && test (get_or s i 0)) value → run_of test (drop i s) ≡ []
    unfolding run_of when◌then◌else◌
    run_end value h = go (ltb i (length s)) refl (test (get_or s i 0)) refl h
      where
        go : (x : Bool) → ltb i (length s) ≡ x → (y : Bool) → test (get_or s i 0) ≡ y → None ≡ then_some (x && y) value → run_of test (drop i s) ≡ []
        go true e true f h = absurd (none-some _ h)
        go true e false f h = rw (drop-cons s i 0 (ltb-true i (length s) e), f)
        go false e y f h = rw (drop_of_length-le s (ltb-false i (length s) e))
