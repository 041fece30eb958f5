-- The pieces that `fill` puts, one call after another up to the end of a file, are together what is printed of it after its beginning, and each
-- stands whole on its page. The calls come to an end. Assumes nothing.
use Rattle.std.proofs.Common.{ℕ, suc, ◌-◌, ◌<◌, ◌≤◌, ◌≡◌, List, [], ◌∷◌, ◌++◌, length, take, subst, arith}
use Rattle.report.specs.Put.{Put}
use Rattle.report.specs.Puts.{Puts}
use Rattle.report.specs.declared.page.Page.{Page}
use Rattle.report.proofs.PutLaws.{front}
use Rattle.course.specs.Walk.{Walk, Laws, place, Leads, Begin, Fill}
use Rattle.course.specs.Through.Through.{none}
use Rattle.course.proofs.ThroughLaws.{through_then}

module _ {C : Type 0} (w : Walk C) (file : List ℕ) where
  -- Calls, each with a page with nothing on it and from the place that the one before left, up to one past the end of the file; and the piece that
  -- each of them puts. A call past the end is not made.
  pub data Calls : C → List (List ℕ) → Type 0 where
    ended : {c : C} → length file < place w c → Calls c []
    one_page : {c d : C} {page after : Page} {ps : List (List ℕ)} → place w c ≤ length file → page.used ≡ 0 → w.most_put ≤ length page.bytes.now
        → (f : Fill w file c page d after) → Calls d ps → Calls c (f.run.piece ∷ ps)

unfoldable pub together : List (List ℕ) → List ℕ
together [] = []
together (p ∷ ps) = p ++ together ps

-- what stands on a page that had nothing on it is what was put
on_page : {page after : Page} {bytes : List ℕ} → page.used ≡ 0 → length bytes ≤ length page.bytes.now → Puts page bytes after → take after.used after.bytes.now ≡ bytes
on_page {page} {after} {bytes} e room p = front room (subst (λ at. Put page.bytes.now at bytes after.bytes.now after.used) e p.put)

module _ {C : Type 0} {w : Walk C} {file : List ℕ} where
  pub all_through : {c : C} {ps : List (List ℕ)} → Calls w file c ps → (d : C) × Leads w file c (together ps) d × (length file < place w d)
  unfolding together
  all_through {c} (ended h) = (c, none, h)
  all_through (one_page h e m f calls) = let (d, through, past) = all_through calls in (d, through_then f.run.through through, past)

  -- the whole print
  pub calls_text : {c : C} {page after : Page} {ps : List (List ℕ)} → Begin w file c page after → Calls w file c ps → w.text file ≡ w.opening file ++ together ps
  calls_text b calls = let (d, through, past) = all_through calls in b.whole through past

  -- each call goes further, so that there are at most as many as places are left
  pub calls_end : {c : C} {ps : List (List ℕ)} → Calls w file c ps → length ps ≤ suc (length file) - place w c
  calls_end (ended h) = omega arith
  calls_end (one_page h e m f calls) = omega (arith, f.further (omega (arith, m, e)) h, calls_end calls)

  pub fill_exact : {c d : C} {page after : Page} (f : Fill w file c page d after) → page.used ≡ 0 → take after.used after.bytes.now ≡ f.run.piece
  fill_exact f e = on_page e (omega (arith, e, f.run.fits (omega (arith, e)))) f.run.put

  pub begin_exact : {c : C} {page after : Page} → Laws w → Begin w file c page after → page.used ≡ 0 → w.most_put ≤ length page.bytes.now → take after.used after.bytes.now ≡ w.opening file
  begin_exact laws b e room = on_page e (omega (arith, laws.short file)) b.put
