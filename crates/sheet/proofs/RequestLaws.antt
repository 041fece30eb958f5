-- What the answers of `next_at` say of the requests of a file, and a request of its line. Assumes nothing.
use Prim.Native.Nat.{ℕ, suc, ◌+◌, ◌-◌, ◌<◌, ◌≤◌}
use mathlib.Core.Path.{◌≡◌, refl, sym, ap, ◌∙◌}
use mathlib.Core.Bool.{Bool, true, false}
use mathlib.Core.List.{List, [], ◌∷◌, map}
use native.Mathlib.Nat.{add-zero}
use native.Mathlib.Numerals.{add-one}
use native.Mathlib.Omega.{arith}
use lib.Dec.{eqb}
use lib.ListN.{length, drop, get_or, length-take}
use lib.Seq.{get_or-drop, get_or-take}
use borrow.Author.Tests.{eqb-true}
use Rattle.octets.specs.Split.{comma, index_of, between, field_of}
use Rattle.sheet.specs.Lines.{Text, faulty, lines_of}
use Rattle.words.specs.Word.{when◌then◌else◌}
use Rattle.words.proofs.Laws.{and_true}
use Rattle.sheet.specs.Grammar.{letter_m, letter_i, letter_s, letter_of, is_kind, number_in, word_in, with_value, motor_from, input_from, scan_from, motor_of, input_of, scan_of, request_of, text_request, requests_of, taken_at, next_at}
use Rattle.std.specs.Prelude.{Option, Some, None}
use Rattle.std.proofs.lemmas.Option.{none-some, some_pair_parts}
use Rattle.sheet.specs.declared.Line.{Line}
use Rattle.sheet.specs.declared.Request.{Request}
use Rattle.sheet.specs.declared.Request.TheVariants.{Motor, Input, Scan, Refused}
use Rattle.octets.proofs.SplitLaws.{first_field}
use Rattle.sheet.proofs.LineLaws.{lines_end, Whole, Stands, whole, refused, ended, stands}

-- past the end there is no request
pub requests_end : (file : List ℕ) (at : ℕ) → length file ≤ at → requests_of (drop at file) ≡ []
unfolding requests_of
requests_end file at h = rw (lines_end file at h)

-- the request at a place is the first of those from there on; those after it stand from the next place on, unless it is refused
pub record Step (file : List ℕ) (at : ℕ) (request : Request) (next : ℕ) : Type 0 where
  pub rest : List Request
  pub here : requests_of (drop at file) ≡ request ∷ rest
  pub goes_on : (request ≡ Refused → ⊥) → rest ≡ requests_of (drop next file)
  pub further : at < next
  pub within : next ≤ length file

module _ {file : List ℕ} {at : ℕ} where
  whole_step : (end : ℕ) → Whole file at end → Step file at (request_of (between at end file)) (end + 1)
  unfolding requests_of text_request
  whole_step end w =
      record {
        rest = requests_of (drop (suc end) file);
        here = rw w.lines;
        goes_on = λ h. rw (add-one end);
        further = omega (arith, w.some);
        within = omega (arith, w.ends);
      }

  refused_step : {more : List Text} → at < length file → lines_of (drop at file) ≡ faulty ∷ more → Step file at Refused (length file)
  unfolding requests_of text_request
  refused_step {more} h e =
      record {
        rest = map text_request more;
        here = rw e;
        goes_on = λ g. absurd (g refl);
        further = h;
        within = omega arith;
      }

  step_of : {l : Line} (request : Request) (next : ℕ) → Stands file at l → taken_at file at l ≡ Some (request, next) → Step file at request next
  unfolding taken_at
  step_of request next (whole {end = end} w) e =
      let p = some_pair_parts _ _ _ _ e in
      rw (p.0, p.1) at (whole_step end w)
  step_of request next (refused h g) e =
      let p = some_pair_parts _ _ _ _ e in
      rw (p.0, p.1) at (refused_step h g)
  step_of request next (ended h) e = absurd (none-some _ e)

  done_of : {l : Line} → Stands file at l → taken_at file at l ≡ None → length file ≤ at
  unfolding taken_at
  done_of (whole w) e = absurd (none-some _ (sym e))
  done_of (refused h g) e = absurd (none-some _ (sym e))
  done_of (ended h) e = h

pub taken : (file : List ℕ) (at : ℕ) (request : Request) (next : ℕ) → next_at file at ≡ Some (request, next) → Step file at request next
unfolding next_at
taken file at request next e = step_of request next (stands file at) e

pub done : (file : List ℕ) (at : ℕ) → next_at file at ≡ None → length file ≤ at
unfolding next_at
done file at e = done_of (stands file at) e

-- ---- a request that is not refused says what its line has: its kind, and the number or word in each field

pub data Says (l : List ℕ) : Request → Type 0 where
  motor : {number ops1 ops2 w u : ℕ} → is_kind letter_m 6 l ≡ true → number_in l 1 ≡ Some number → word_in l 2 ≡ Some ops1
      → word_in l 3 ≡ Some ops2 → number_in l 4 ≡ Some w → number_in l 5 ≡ Some u → Says l (Motor number ops1 ops2 w u)
  input : {number word : ℕ} → is_kind letter_i 3 l ≡ true → number_in l 1 ≡ Some number → word_in l 2 ≡ Some word → Says l (Input number word)
  scan : {period : ℕ} → is_kind letter_s 2 l ≡ true → number_in l 1 ≡ Some period → Says l (Scan period)
  nothing : Says l Refused

pub says : (l : List ℕ) → Says l (request_of l)
unfolding request_of motor_of input_of scan_of motor_from input_from scan_from with_value when◌then◌else◌
says l = go (is_kind letter_m 6 l) refl (is_kind letter_i 3 l) refl (is_kind letter_s 2 l) refl
  where
    go_motor : is_kind letter_m 6 l ≡ true → (a : Option ℕ) → number_in l 1 ≡ a → (b : Option ℕ) → word_in l 2 ≡ b → (c : Option ℕ) → word_in l 3 ≡ c
        → (d : Option ℕ) → number_in l 4 ≡ d → (e : Option ℕ) → number_in l 5 ≡ e → Says l (motor_from a b c d e)
    go_motor k (Some a) f (Some b) g (Some c) h (Some d) i (Some e) j = motor k f g h i j
    go_motor k None f b g c h d i e j = nothing
    go_motor k (Some a) f None g c h d i e j = nothing
    go_motor k (Some a) f (Some b) g None h d i e j = nothing
    go_motor k (Some a) f (Some b) g (Some c) h None i e j = nothing
    go_motor k (Some a) f (Some b) g (Some c) h (Some d) i None j = nothing

    go_input : is_kind letter_i 3 l ≡ true → (a : Option ℕ) → number_in l 1 ≡ a → (b : Option ℕ) → word_in l 2 ≡ b → Says l (input_from a b)
    go_input k (Some a) f (Some b) g = input k f g
    go_input k None f b g = nothing
    go_input k (Some a) f None g = nothing

    go_scan : is_kind letter_s 2 l ≡ true → (a : Option ℕ) → number_in l 1 ≡ a → Says l (scan_from a)
    go_scan k (Some a) f = scan k f
    go_scan k None f = nothing

    go : (x : Bool) → is_kind letter_m 6 l ≡ x → (y : Bool) → is_kind letter_i 3 l ≡ y → (z : Bool) → is_kind letter_s 2 l ≡ z
        → Says l (when x then motor_of l else when y then input_of l else when z then scan_of l else Refused)
    go true e y f z g = go_motor e (number_in l 1) refl (word_in l 2) refl (word_in l 3) refl (number_in l 4) refl (number_in l 5) refl
    go false e true f z g = go_input f (number_in l 1) refl (word_in l 2) refl
    go false e false f true g = go_scan g (number_in l 1) refl
    go false e false f false g = nothing

-- ---- the line of a request begins with its letter

first_byte : (l : List ℕ) (letter : ℕ) → letter_of (field_of l 0) ≡ letter → (letter ≡ 0 → ⊥) → get_or l 0 0 ≡ letter
unfolding letter_of when◌then◌else◌
first_byte l letter e n = go (eqb (length (field_of l 0)) 1) refl e
  where
    go : (b : Bool) → eqb (length (field_of l 0)) 1 ≡ b → (when b then get_or (field_of l 0) 0 0 else 0) ≡ letter → get_or l 0 0 ≡ letter
    go true f g =
        let one = eqb-true (length (field_of l 0)) 1 f in
        let some : 0 < index_of comma l = omega (arith, one, ap length (first_field l), length-take (index_of comma l) l) in
        sym (get_or-take (index_of comma l) l 0 0 some) ∙ ap (λ (s : List ℕ). get_or s 0 0) (first_field l) ∙ g
    go false f g = absurd (n (sym g))

pub input_begins : (file : List ℕ) (at number word next : ℕ) → next_at file at ≡ Some (Input number word, next)
    → (at < length file) × (get_or file at 0 ≡ letter_i)
unfolding next_at taken_at is_kind between
input_begins file at number word next e = go (stands file at) e
  where
    kind : (l : List ℕ) (r : Request) → Says l r → r ≡ Input number word → is_kind letter_i 3 l ≡ true
    kind l _ (motor k f g h i j) q = let z : ◌≡◌ {A = ℕ} 0 1 = cc in absurd (omega arith)
    kind l _ (input k f g) q = k
    kind l _ (scan k f) q = let z : ◌≡◌ {A = ℕ} 0 1 = cc in absurd (omega arith)
    kind l _ nothing q = let z : ◌≡◌ {A = ℕ} 0 1 = cc in absurd (omega arith)

    go : {l : Line} → Stands file at l → taken_at file at l ≡ Some (Input number word, next) → (at < length file) × (get_or file at 0 ≡ letter_i)
    go (whole {end = end} w) q =
        let p = (some_pair_parts _ _ _ _ q).0 in
        let k = (and_true _ _ (kind (between at end file) _ (says (between at end file)) p)).0 in
        let b = first_byte (between at end file) letter_i (eqb-true _ _ k) (λ z. omega arith) in
        let some = w.some in
        let ends = w.ends in
        (omega arith, ap (λ (i : ℕ). get_or file i 0) (sym (add-zero at)) ∙ sym (get_or-drop at file 0 0) ∙ sym (get_or-take (end - at) (drop at file) 0 0 (omega arith)) ∙ b)
    go (refused h g) q = let z = (some_pair_parts _ _ _ _ q).0 in let y : ◌≡◌ {A = ℕ} 0 1 = cc in absurd (omega arith)
    go (ended h) q = absurd (none-some _ q)
