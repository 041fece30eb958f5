-- What is read of a file is enough to know what a program makes of it: one that is longer is refused. Assumes nothing.
use Rattle.std.proofs.Common.{◌≡◌, ◌∙◌, ◌++◌, ◌<◌, [], List, ℕ, ap, sym, subst, length, take, arith, IfSome, OnOk}
use Rattle.std.proofs.lemmas.List.{length-take, take_all}
use native.Mathlib.Decide.{dec_lt}
use Rattle.std.specs.Option.{option_map}
use Rattle.std.specs.declared.option.Option.{Option}
use Rattle.std.specs.declared.option.Option.TheVariants.{None, Some}
use Rattle.std.specs.declared.result.Result.{Result}
use Rattle.std.specs.declared.result.Result.TheVariants.{Ok, Err}
use Rattle.std.specs.declared.io.traits.Take.{Take}
use Rattle.std.specs.Io.Take.{take_limit, take_inner, take_remaining}
use Rattle.std.specs.Io.KnownBytes.{Appends}

-- what is read of a reader up to the limit
pub front_known : {R : Type 0} (remaining : R → Option (List ℕ)) (t : Take R) (from : R) (old new : List ℕ) → take_limit t ≡ 65537 → take_inner t ≡ from
    → old ≡ [] → IfSome (take_remaining remaining t) (λ xs. new ≡ old ++ xs) → IfSome (remaining from) (λ all. new ≡ take 65537 all)
front_known remaining t from old new l i e h = go (remaining from) (rw (e, l, i) at h)
  where
    go : (o : Option (List ℕ)) → IfSome (option_map (take 65537) o) (λ xs. new ≡ [] ++ xs) → IfSome o (λ all. new ≡ take 65537 all)
    go None h = tt
    go (Some all) h = h

-- what a program makes of files, the same of all that are too long
module _ (made : List ℕ → List ℕ) (refused : List ℕ) (long : (file : List ℕ) → 65536 < length file → made file ≡ refused) where
  -- of a file's front it makes what it makes of the file
  made_of_front : (all : List ℕ) → made (take 65537 all) ≡ made all
  made_of_front all = elim (dec_lt 65536 (length all)) [
    | yes l ↦ long (take 65537 all) (omega (arith, length-take 65537 all)) ∙ sym (long all l)
    | no n ↦ ap made (take_all 65537 all (omega arith))
  ]

  -- where that of `seen` is written, and `seen` is the file as it was read
  pub written_known : {T E : Type 0} (r : Result T E) (known a b : Option (List ℕ)) (seen file : List ℕ) → seen ≡ file → OnOk r (Appends a b (made seen))
      → IfSome known (λ all. file ≡ take 65537 all) → OnOk r (IfSome known (λ all. Appends a b (made all)))
  written_known (Err e) known a b seen file s h i = tt
  written_known (Ok x) None a b seen file s h i = tt
  written_known (Ok x) (Some all) a b seen file s h i = subst (λ l. Appends a b l) (ap made (s ∙ i) ∙ made_of_front all) h
