-- Laws of `split` and `index_of`: what the first b of a list parts. Assumes nothing.
use Prim.Native.Nat.{ℕ, zero, suc, ◌+◌, ◌-◌, ◌<◌, ◌≤◌, min}
use mathlib.Core.Path.{◌≡◌, refl, sym, ap, ◌∙◌}
use mathlib.Core.Bool.{Bool, true, false}
use mathlib.Core.List.{List, [], ◌∷◌, ◌++◌}
use native.Mathlib.Omega.{arith}
use native.Mathlib.Decide.{dec_le, dec_lt}
use lib.ListN.{length, take, drop, get_or, length-append, length-drop, drop_of_length-le}
use lib.Seq.{take_all, take-nil, take-suc}
use lib.Dec.{eqb, ltb}
use borrow.Author.Tests.{eq-eqb, ne_eqb, eqb-true, eqb-false}
use Rattle.std.specs.Prelude.{Option, Some, None, count_by, cond, unwrap_or}
use Rattle.std.specs.Bool.{then_some}
use Rattle.std.specs.List.{position, position_or_len, slice_get, slice_split, onto_first}
use Rattle.std.proofs.lemmas.List.Recursion.{is_position_or_len}
use Rattle.std.specs.Option.{option_copied}
use Rattle.std.proofs.Common.{Bor}
use Rattle.std.proofs.lemmas.Option.{unwrap_or-slice_get}
use Rattle.std.proofs.lemmas.List.Splits.{length-slice_split}
use Rattle.words.specs.Word.{when◌then◌else◌}
use Rattle.words.proofs.Laws.{either}
use Rattle.octets.specs.Split.{comma, split, join_first, joined, index_of, between, field_of, field_count}

-- ---- the first b

pub index_le : (b : ℕ) (s : List ℕ) → index_of b s ≤ length s
unfolding index_of
index_le b [] = omega arith
index_le b (x ∷ s) = either (λ (n : ℕ). n ≤ suc (length s)) _ (omega arith) (omega (arith, index_le b s))

-- by std's words
pub position_is : (b : ℕ) (s : List ℕ) → position (λ x. eqb x b) s ≡ then_some (ltb (index_of b s) (length s)) (index_of b s)
unfolding index_of when◌then◌else◌
position_is b s = rw counted (go (ltb (index_of b s) (length s)))
  where
    go : (t : Bool) → cond t (Some (index_of b s)) None ≡ then_some t (index_of b s)
    go true = refl
    go false = refl

    counted : position_or_len (λ x. eqb x b) s ≡ index_of b s
    counted = sym (is_position_or_len (index_of b) (λ x. eqb x b) refl (λ x xs. either_way (eqb x b) (index_of b xs)) s)
      where
        either_way : (t : Bool) (n : ℕ) → (when t then 0 else suc n) ≡ cond t 0 (1 + n)
        either_way true n = refl
        either_way false n = omega arith

-- it is a b, and there is none before it
pub index_is : (b : ℕ) (s : List ℕ) → index_of b s < length s → get_or s (index_of b s) 0 ≡ b
unfolding index_of when◌then◌else◌
index_is b [] h = absurd (omega arith)
index_is b (x ∷ s) h = go (eqb x b) refl h (index_is b s)
  where
    go : (t : Bool) → eqb x b ≡ t → (when t then 0 else suc (index_of b s)) < suc (length s) → (index_of b s < length s → get_or s (index_of b s) 0 ≡ b)
        → get_or (x ∷ s) (when t then 0 else suc (index_of b s)) 0 ≡ b
    go true e l ih = eqb-true x b e
    go false e l ih = ih (omega arith)

pub index_first : (b : ℕ) (s : List ℕ) (k : ℕ) → k < index_of b s → get_or s k 0 ≡ b → ⊥
unfolding index_of when◌then◌else◌
index_first b [] k h e = omega arith
index_first b (x ∷ s) k h e = go (eqb x b) refl k h e (index_first b s)
  where
    go : (t : Bool) → eqb x b ≡ t → (k : ℕ) → k < (when t then 0 else suc (index_of b s)) → get_or (x ∷ s) k 0 ≡ b
        → ((k : ℕ) → k < index_of b s → get_or s k 0 ≡ b → ⊥) → ⊥
    go true f k l e ih = omega arith
    go false f zero l e ih = eqb-false x b f e
    go false f (suc k) l e ih = ih k (omega arith) e

pub index_append : (b : ℕ) (p q : List ℕ) → index_of b p ≡ length p → index_of b (p ++ q) ≡ length p + index_of b q
unfolding index_of when◌then◌else◌
index_append b [] q h = omega arith
index_append b (x ∷ p) q h = go (eqb x b) h (index_append b p q)
  where
    go : (t : Bool) → (when t then 0 else suc (index_of b p)) ≡ suc (length p) → (index_of b p ≡ length p → index_of b (p ++ q) ≡ length p + index_of b q)
        → (when t then 0 else suc (index_of b (p ++ q))) ≡ suc (length p) + index_of b q
    go true e ih = absurd (omega arith)
    go false e ih = omega (arith, ih (omega arith))

-- ---- the parts

-- with a b in the list, the first part is what stands before it, and what follows it is parted in turn
pub split_hit : (b : ℕ) (s : List ℕ) → index_of b s < length s → split b s ≡ take (index_of b s) s ∷ split b (drop (suc (index_of b s)) s)
unfolding index_of split when◌then◌else◌ join_first
split_hit b [] h = absurd (omega arith)
split_hit b (x ∷ s) h = go (eqb x b) (split_hit b s) h
  where
    go : (t : Bool) → (index_of b s < length s → split b s ≡ take (index_of b s) s ∷ split b (drop (suc (index_of b s)) s))
        → (when t then 0 else suc (index_of b s)) < suc (length s)
        → (when t then [] ∷ split b s else join_first x (split b s))
        ≡ take (when t then 0 else suc (index_of b s)) (x ∷ s) ∷ split b (drop (suc (when t then 0 else suc (index_of b s))) (x ∷ s))
    go true ih l = refl
    go false ih l = ap (join_first x) (ih (omega arith))

-- with none, the list is its one part
pub split_none : (b : ℕ) (s : List ℕ) → length s ≤ index_of b s → split b s ≡ s ∷ []
unfolding index_of split when◌then◌else◌ join_first
split_none b [] h = refl
split_none b (x ∷ s) h = go (eqb x b) (split_none b s) h
  where
    go : (t : Bool) → (length s ≤ index_of b s → split b s ≡ s ∷ []) → suc (length s) ≤ (when t then 0 else suc (index_of b s))
        → (when t then [] ∷ split b s else join_first x (split b s)) ≡ (x ∷ s) ∷ []
    go true ih l = absurd (omega arith)
    go false ih l = ap (join_first x) (ih (omega arith))

-- a list has at least one part
pub parts_pos : (b : ℕ) (s : List ℕ) → 0 < length (split b s)
parts_pos b s = go (dec_lt (index_of b s) (length s))
  where
    go : Dec (index_of b s < length s) → 0 < length (split b s)
    go (yes h) = rw (split_hit b s h) (omega arith)
    go (no h) = rw (split_none b s (omega arith)) (omega arith)

-- a list is made of its parts: the fields of a line say the line, and the lines of a file the file
pub joined_split : (b : ℕ) (s : List ℕ) → joined b (split b s) ≡ s
unfolding split joined join_first when◌then◌else◌
joined_split b [] = refl
joined_split b (x ∷ s) = go (eqb x b) refl (split b s) (parts_pos b s) (joined_split b s)
  where
    go : (t : Bool) → eqb x b ≡ t → (ps : List (List ℕ)) → 0 < length ps → joined b ps ≡ s
        → joined b (when t then [] ∷ ps else join_first x ps) ≡ x ∷ s
    go t e [] h f = absurd (omega arith)
    go true e (p ∷ ps) h f = rw (f, eqb-true x b e)
    go false e (p ∷ []) h f = ap (λ (l : List ℕ). x ∷ l) f
    go false e (p ∷ q ∷ ps) h f = ap (λ (l : List ℕ). x ∷ l) f

-- the parts before a b, and those after it
first_more : (x : ℕ) (ps qs : List (List ℕ)) → 0 < length ps → join_first x (ps ++ qs) ≡ join_first x ps ++ qs
unfolding join_first
first_more x [] qs h = absurd (omega arith)
first_more x (p ∷ ps) qs h = refl

pub split_more : (b : ℕ) (p q : List ℕ) → split b (p ++ b ∷ q) ≡ split b p ++ split b q
unfolding split when◌then◌else◌
split_more b [] q = rw (eq-eqb b b refl)
split_more b (x ∷ p) q = go (eqb x b) (split_more b p q)
  where
    go : (t : Bool) → split b (p ++ b ∷ q) ≡ split b p ++ split b q
        → (when t then [] ∷ split b (p ++ b ∷ q) else join_first x (split b (p ++ b ∷ q))) ≡ (when t then [] ∷ split b p else join_first x (split b p)) ++ split b q
    go true e = rw e
    go false e = rw e (first_more x (split b p) (split b q) (parts_pos b p))

-- parts without a b are the parts of what they make
pub split_part : (b : ℕ) (p s : List ℕ) → index_of b p ≡ length p → split b (p ++ b ∷ s) ≡ p ∷ split b s
split_part b p s h = split_more b p s ∙ rw (split_none b p (omega arith))

-- no b in any of the parts
pub data Free (b : ℕ) : List (List ℕ) → Type 0 where
  free_none : Free b []
  free_more : {p : List ℕ} {ps : List (List ℕ)} → index_of b p ≡ length p → Free b ps → Free b (p ∷ ps)

pub split_joined : {b : ℕ} {p : List ℕ} {ps : List (List ℕ)} → Free b (p ∷ ps) → split b (joined b (p ∷ ps)) ≡ p ∷ ps
unfolding joined
split_joined {b} {p} (free_more h free_none) = split_none b p (omega arith)
split_joined {b} {p} (free_more h (free_more {p = q} {ps = qs} g f)) =
    split_part b p (joined b (q ∷ qs)) h ∙ rw (split_joined (free_more g f))

-- and none in what is joined of them with another byte
pub free_joined : {b c : ℕ} {ps : List (List ℕ)} → (c ≡ b → ⊥) → Free b ps → index_of b (joined c ps) ≡ length (joined c ps)
unfolding joined index_of when◌then◌else◌
free_joined n free_none = refl
free_joined n (free_more h free_none) = h
free_joined {b} {c} n (free_more {p = p} h (free_more {p = q} {ps = qs} g f)) =
    rw (index_append b p (c ∷ joined c (q ∷ qs)) h, ne_eqb c b n)
    (omega (arith, length-append p (c ∷ joined c (q ∷ qs)), free_joined n (free_more {p = q} g f)))

-- ---- the fields of a line

-- by std's words
split_is : (b : ℕ) (s : List ℕ) → split b s ≡ slice_split (λ x. eqb x b) s
unfolding split join_first when◌then◌else◌
split_is b [] = refl
split_is b (x ∷ s) = rw (split_is b s) (go (eqb x b) (slice_split (λ y. eqb y b) s))
  where
    first : (ps : List (List ℕ)) → join_first x ps ≡ onto_first x ps
    first [] = refl
    first (p ∷ ps) = refl

    go : (t : Bool) (ps : List (List ℕ)) → (when t then [] ∷ ps else join_first x ps) ≡ cond t ([] ∷ ps) (onto_first x ps)
    go true ps = refl
    go false ps = first ps

pub fields_counted : (s : List ℕ) → field_count s ≡ count_by (λ b. eqb b comma) s + 1
unfolding field_count
fields_counted s = rw (split_is comma s) (length-slice_split (λ b. eqb b comma) s)

pub field_by : (s : List ℕ) (k : ℕ) → unwrap_or (slice_get (slice_split (λ b. eqb b comma) s) k) [] ≡ field_of s k
unfolding field_of
field_by s k = unwrap_or-slice_get (slice_split (λ b. eqb b comma) s) k [] ∙ sym (ap (λ (ps : List (List ℕ)). get_or ps k []) (split_is comma s))

-- a lent part, or else an empty one
pub lent_or : (r : Option (Bor (List ℕ))) (x d : Bor (List ℕ)) (o : Option (List ℕ)) → x ≡ unwrap_or r d → d.now ≡ [] → option_copied r ≡ o
    → x.now ≡ unwrap_or o []
lent_or None x d o e n p = rw (e, ← p) n
lent_or (Some y) x d o e n p = rw (e, ← p) refl

pub first_field : (s : List ℕ) → take (index_of comma s) s ≡ field_of s 0
unfolding field_of
first_field s = go (dec_lt (index_of comma s) (length s))
  where
    go : Dec (index_of comma s < length s) → take (index_of comma s) s ≡ get_or (split comma s) 0 []
    go (yes h) = rw (split_hit comma s h)
    go (no h) = rw (split_none comma s (omega arith), take_all (index_of comma s) s (omega arith))

-- ---- a part between two places

-- to the end
pub between_last : (n : ℕ) (s : List ℕ) → between n (length s) s ≡ drop n s
unfolding between
between_last n s = take_all (length s - n) (drop n s) (omega (arith, length-drop n s))

-- a count may be cut to the length
pub take_cut : {A : Type 0} (m n : ℕ) (l : List A) → m ≡ min n (length l) → take m l ≡ take n l
take_cut m n l e = go (dec_le n (length l))
  where
    go : Dec (n ≤ length l) → take m l ≡ take n l
    go (yes h) = let g : m ≡ n = omega arith in rw g
    go (no h) = take_all m l (omega arith) ∙ sym (take_all n l (omega arith))

-- and so may both ends
pub between_cut : (from to start end : ℕ) (s : List ℕ) → end ≡ min to (length s) → start ≡ min from end
    → take (end - start) (drop start s) ≡ between from to s
unfolding between
between_cut from to start end s e f = go (dec_le from end)
  where
    go : Dec (from ≤ end) → take (end - start) (drop start s) ≡ take (to - from) (drop from s)
    go (yes h) =
        let g : start ≡ from = omega arith in
        rw g (take_cut (end - from) (to - from) (drop from s) (omega (arith, length-drop from s)))
    go (no h) = by_end (dec_le to from)
      where
        g : end - start ≡ 0
        g = omega arith

        by_end : Dec (to ≤ from) → take (end - start) (drop start s) ≡ take (to - from) (drop from s)
        by_end (yes l) = let z : to - from ≡ 0 = omega arith in rw (g, z)
        by_end (no l) = rw (g, drop_of_length-le s {i = from} (omega arith), take-nil {A = ℕ} (to - from))

-- a part without its last byte, and that byte
pub last_byte : (k : ℕ) (s : List ℕ) → length s ≡ suc k → s ≡ take k s ++ (get_or s k 0 ∷ [])
last_byte k s h = sym (take_all (suc k) s (omega arith)) ∙ take-suc s k 0 (omega arith)
