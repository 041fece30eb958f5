-- Laws of the number from a place on, and of a field that is one. Assumes nothing.
use Prim.Native.Nat.{ℕ, suc, ◌+◌, ◌-◌, ◌*◌, ◌<◌, ◌≤◌}
use mathlib.Core.Path.{◌≡◌, refl, sym, ap, ◌∙◌}
use mathlib.Core.Bool.{Bool, true, false, ◌&&◌, and-false}
use mathlib.Core.List.{List, [], ◌∷◌}
use native.Mathlib.Omega.{arith}
use native.Mathlib.Decide.{dec_lt}
use lib.ListN.{length, drop, get_or, length-drop}
use lib.Dec.{eqb, leb, ltb}
use borrow.Author.Tests.{eq-eqb, ne_eqb, le-leb, lt-leb, leb-true, lt-ltb, le-ltb, ltb-true}
use Rattle.std.specs.Prelude.{Option, Some, None}
use Rattle.std.specs.Bool.{then_some}
use Rattle.std.proofs.lemmas.Option.{none-some, some_pair_parts}
use Rattle.words.specs.Word.{when◌then◌else◌}
use Rattle.octets.specs.Split.{between}
use Rattle.octets.specs.Number.{largest, is_digit, value_from, number_of}
use Rattle.sheet.specs.WordField.{word_of}
use Rattle.sheet.specs.Places.{is_at, is_digit_at, digit_run, number_at, SaidAt, Read}
use Rattle.octets.proofs.SplitLaws.{between_last}
use Rattle.octets.proofs.RunLaws.{run_all, run_passes, run_take, run_le, run_here, run_end}
use Rattle.octets.proofs.NumberLaws.{value_grows, Spells, number_spells}
use Rattle.sheet.proofs.PlaceLaws.{DigitAt, Digits, byte_at, zero_number, digits_said, number_read}

-- ---- the digits read so far

pub record Run (s : List ℕ) (at value i : ℕ) : Type 0 where
  pub from : at ≤ i
  pub fits : value ≤ largest
  pub says : value_from 0 (digit_run (drop at s)) ≡ value_from value (digit_run (drop i s))
  pub count : length (digit_run (drop at s)) ≡ (i - at) + length (digit_run (drop i s))

pub run_none : (s : List ℕ) (at : ℕ) → Run s at 0 at
run_none s at = record { from = omega arith; fits = omega arith; says = refl; count = omega arith }

module _ (s : List ℕ) (i : ℕ) where
  here : {d : ℕ} → DigitAt s i d → digit_run (drop i s) ≡ get_or s i 0 ∷ digit_run (drop (suc i) s)
  here w = run_here is_digit s i w.inside w.is

  over : None ≡ then_some (is_digit_at s i) (get_or s i 0 - 48) → digit_run (drop i s) ≡ []
  unfolding is_digit_at
  over h = run_end is_digit s i _ h

module _ {s : List ℕ} {at value i : ℕ} (r : Run s at value i) where
  pub run_more : {d : ℕ} → DigitAt s i d → value * 10 + d ≤ largest → Run s at (value * 10 + d) (suc i)
  unfolding value_from
  run_more w h =
      let e = here s i w in
      record {
        from = omega (arith, r.from);
        fits = h;
        says = r.says ∙ rw (e, w.value);
        count = omega (arith, r.count, ap length e, r.from);
      }

  module _ (z : is_at s at 48 ≡ false) where
    pub run_large : {d : ℕ} → DigitAt s i d → largest < value * 10 + d → number_at s at ≡ None
    unfolding number_at value_from when◌then◌else◌
    run_large {d} w h =
        let n : ℕ = value_from 0 (digit_run (drop at s)) in
        let more : n ≡ value_from (value * 10 + d) (digit_run (drop (suc i) s)) = r.says ∙ rw (here s i w, w.value) in
        let past : largest < n = omega (arith, more, value_grows (value * 10 + d) (digit_run (drop (suc i) s))) in
        rw (z, lt-leb n largest past, and-false (ltb 0 (length (digit_run (drop at s)))))

    pub run_said : None ≡ then_some (is_digit_at s i) (get_or s i 0 - 48) → number_at s at ≡ then_some (ltb at i) (value, i)
    unfolding number_at value_from when◌then◌else◌
    run_said h = rw z (go (dec_lt at i))
      where
        run : List ℕ
        run = digit_run (drop at s)

        long : length run ≡ i - at
        long = omega (arith, r.count, ap length (over s i h))

        v : value_from 0 run ≡ value
        v = r.says ∙ rw (over s i h)

        go : Dec (at < i) → then_some {T = ℕ × ℕ} (ltb 0 (length run) && leb (value_from 0 run) largest) (value_from 0 run, at + length run) ≡ then_some (ltb at i) (value, i)
        go (yes l) =
            let p : at + length run ≡ i = omega (arith, long) in
            rw (lt-ltb 0 (length run) (omega (arith, long)), v, le-leb value largest r.fits, p, lt-ltb at i l)
        go (no l) = rw (le-ltb 0 (length run) (omega (arith, long)), le-ltb at i (omega arith))

pub number_alone : (s : List ℕ) (at : ℕ) → is_at s at 48 ≡ true → number_at s at ≡ Some (0, at + 1)
unfolding number_at when◌then◌else◌
number_alone s at e = rw e

-- ---- what is read is what the bytes between say

module _ (file : List ℕ) (at : ℕ) where
  run_spells : is_at file at 48 ≡ false → 0 < length (digit_run (drop at file)) → value_from 0 (digit_run (drop at file)) ≤ largest
      → SaidAt number_of file at (value_from 0 (digit_run (drop at file))) (at + length (digit_run (drop at file)))
  unfolding between
  run_spells z some h =
      let run = digit_run (drop at file) in
      let n = length run in
      let k : at + n - at ≡ n = omega arith in
      let all : between at (at + n) file ≡ run = rw (k, run_take is_digit (drop at file)) in
      let d : Digits file at (value_from 0 run) (at + n) = record {
        from = omega arith;
        within = omega (arith, run_le is_digit (drop at file), length-drop at file);
        digits = rw (all, run_passes is_digit (drop at file));
        says = rw all;
      } in
      digits_said file at d z (omega (arith, some)) h

  pub number_read_at : (r : Option (ℕ × ℕ)) → r ≡ number_at file at → Read number_of file at r
  unfolding Read number_at when◌then◌else◌
  number_read_at r e = go (is_at file at 48) refl e
    where
      run : List ℕ
      run = digit_run (drop at file)

      by_tests : is_at file at 48 ≡ false → (x : Bool) → ltb 0 (length run) ≡ x → (y : Bool) → leb (value_from 0 run) largest ≡ y
          → r ≡ then_some {T = ℕ × ℕ} (x && y) (value_from 0 run, at + length run) → Read number_of file at r
      by_tests z true f true h e = rw e (run_spells z (ltb-true 0 (length run) f) (leb-true (value_from 0 run) largest h))
      by_tests z true f false h e = rw e tt
      by_tests z false f y h e = rw e tt

      go : (t : Bool) → is_at file at 48 ≡ t → r ≡ (when t then Some (0, at + 1) else then_some {T = ℕ × ℕ} (ltb 0 (length run) && leb (value_from 0 run) largest) (value_from 0 run, at + length run))
          → Read number_of file at r
      go true f e = rw e (zero_number file at f)
      go false f e = by_tests f (ltb 0 (length run)) refl (leb (value_from 0 run) largest) refl e

-- as a number is a word, too
pub number_said_at : {file : List ℕ} {at value end : ℕ} → Some (value, end) ≡ number_at file at → SaidAt number_of file at value end
unfolding Read
number_said_at {file} {at} {value} {end} e = number_read_at file at (Some (value, end)) e

pub word_read_at : (file : List ℕ) (at : ℕ) (r : Option (ℕ × ℕ)) → r ≡ number_at file at → Read word_of file at r
word_read_at file at r e = number_read file at r (number_read_at file at r e)

-- ---- a field that is a number: it is read to its end

one : (t : List ℕ) → length t ≡ 1 → get_or t 0 0 ≡ 48 → value_from 0 t ≡ 0
unfolding value_from
one [] l h = absurd (omega arith)
one (x ∷ []) l h = omega (arith, h)
one (x ∷ y ∷ t) l h = absurd (omega arith)

module _ (s : List ℕ) where
  spelt : (n : ℕ) → number_of s ≡ Some n → number_at s 0 ≡ Some (n, length s)
  unfolding number_at when◌then◌else◌
  spelt n e = go (is_at s 0 48) refl
    where
      p : Spells n s
      p = (number_spells s n e).0

      whole : digit_run s ≡ s
      whole = run_all is_digit s p.digits

      go : (t : Bool) → is_at s 0 48 ≡ t → (when t then Some (0, 0 + 1) else then_some {T = ℕ × ℕ} (ltb 0 (length (digit_run (drop 0 s))) && leb (value_from 0 (digit_run (drop 0 s))) largest) (value_from 0 (digit_run (drop 0 s)), 0 + length (digit_run (drop 0 s)))) ≡ Some (n, length s)
      go true f =
          let b = byte_at s 0 48 f in
          let l : length s ≡ 1 = go_len (dec_lt 1 (length s)) b.1 in
          let v : n ≡ 0 = sym p.value ∙ one s l b.1 in
          rw (v, l)
        where
          go_len : Dec (1 < length s) → get_or s 0 0 ≡ 48 → length s ≡ 1
          go_len (yes h) z = absurd (omega (arith, p.plain h))
          go_len (no h) z = omega (arith, p.some)
      go false f = let z : 0 + length s ≡ length s = omega arith in rw (whole, p.value, lt-ltb 0 (length s) p.some, le-leb n largest (number_spells s n e).1, z)

  pub number_none : number_at s 0 ≡ None → number_of s ≡ None
  number_none e = go (number_of s) refl
    where
      go : (o : Option ℕ) → number_of s ≡ o → o ≡ None
      go None f = refl
      go (Some n) f = absurd (none-some _ (sym (sym (spelt n f) ∙ e)))

  pub number_whole : {value end : ℕ} → number_at s 0 ≡ Some (value, end) → number_of s ≡ then_some (eqb end (length s)) value
  unfolding Read
  number_whole {value} {end} e = go (number_of s) refl
    where
      said : SaidAt number_of s 0 value end
      said = number_read_at s 0 (Some (value, end)) (sym e)

      go : (o : Option ℕ) → number_of s ≡ o → o ≡ then_some (eqb end (length s)) value
      go (Some n) f =
          let q = some_pair_parts _ _ _ _ (sym (spelt n f) ∙ e) in
          rw (eq-eqb end (length s) (sym q.1), q.0)
      go None f = rw (ne_eqb end (length s) (λ k. none-some _ (sym f ∙ ap number_of (sym (between_last 0 s)) ∙ rw k at said.says)))
