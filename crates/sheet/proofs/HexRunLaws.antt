-- Laws of the hexadecimal digits from a place on. Assumes nothing.
use Prim.Native.Nat.{ℕ, suc, ◌+◌, ◌-◌, ◌*◌, ◌^◌, ◌<◌, ◌≤◌}
use mathlib.Core.Path.{◌≡◌, refl, sym, ap, ◌∙◌}
use mathlib.Core.Bool.{Bool, true, false, ◌&&◌, and-false, false≢true}
use mathlib.Core.List.{List, [], ◌∷◌}
use native.Mathlib.Omega.{arith}
use native.Mathlib.Decide.{dec_lt}
use native.Mathlib.Nat.{pow-zero, pow-suc}
use lib.ListN.{length, drop, get_or, length-drop}
use lib.Seq.{drop-drop}
use lib.Dec.{eqb, leb, ltb}
use borrow.Author.Tests.{eq-eqb, ne_eqb, le-leb, lt-leb, lt-ltb, le-ltb, ltb-true}
use Rattle.words.specs.Word.{when◌then◌else◌}
use Rattle.octets.specs.Split.{between}
use Rattle.sheet.specs.WordField.{is_hex_digit, hex_digit, all_hex_digits, hex_from, is_hex_count, hex_number, has0x, word_of}
use Rattle.sheet.specs.Places.{hex_digit_at, hex_run, hex_run_at, SaidAt, Read}
use Rattle.std.specs.Prelude.{Option, Some, None}
use Rattle.std.specs.Bool.{then_some}
use Rattle.std.proofs.lemmas.Option.{none-some, same_Some, some_pair_parts}
use Rattle.octets.proofs.RunLaws.{run_all, all_run, run_passes, run_take, run_le, run_here, run_end}
use Rattle.octets.proofs.SplitLaws.{between_last}
use Rattle.sheet.proofs.WordFieldLaws.{digit_small, hex_fits, hex_field}

-- ---- the digit at a place

pub record HexHere (s : List ℕ) (i d : ℕ) : Type 0 where
  pub inside : i < length s
  pub small : d < 16
  pub run : hex_run (drop i s) ≡ get_or s i 0 ∷ hex_run (drop (suc i) s)
  pub value : hex_digit (get_or s i 0) ≡ d

module _ (s : List ℕ) (i : ℕ) where
  pub hex_here : (d : ℕ) → Some d ≡ hex_digit_at s i → HexHere s i d
  unfolding hex_digit_at when◌then◌else◌
  hex_here d h = go (ltb i (length s)) refl (is_hex_digit (get_or s i 0)) refl h
    where
      go : (x : Bool) → ltb i (length s) ≡ x → (y : Bool) → is_hex_digit (get_or s i 0) ≡ y → Some d ≡ then_some (x && y) (hex_digit (get_or s i 0)) → HexHere s i d
      go true e true f h =
          let l = ltb-true i (length s) e in
          let v = sym (same_Some _ _ h) in
          record { inside = l; small = omega (arith, digit_small (get_or s i 0) f); run = run_here is_hex_digit s i l f; value = v }
      go true e false f h = absurd (none-some _ (sym h))
      go false e y f h = absurd (none-some _ (sym h))

  over : None ≡ hex_digit_at s i → hex_run (drop i s) ≡ []
  unfolding hex_digit_at
  over h = run_end is_hex_digit s i _ h

-- ---- the digits read so far

pub record Run (s : List ℕ) (at value i : ℕ) : Type 0 where
  pub from : at ≤ i
  pub few : i - at ≤ 8
  pub small : value < 16 ^ (i - at)
  pub says : hex_from 0 (hex_run (drop at s)) ≡ hex_from value (hex_run (drop i s))
  pub count : length (hex_run (drop at s)) ≡ (i - at) + length (hex_run (drop i s))

pub run_none : (s : List ℕ) (at : ℕ) → Run s at 0 at
run_none s at =
    let z : at - at ≡ 0 = omega arith in
    record { from = omega arith; few = omega arith; small = rw z (omega (arith, pow-zero 16)); says = refl; count = omega arith }

module _ {s : List ℕ} {at value i : ℕ} (r : Run s at value i) where
  module _ {d : ℕ} (h : Some d ≡ hex_digit_at s i) where
    -- one digit more fits a word
    pub run_fits : (i - at ≡ 8 → ⊥) → value * 16 + d < 4294967296
    run_fits n =
        let m : suc (i - at) ≤ 8 = omega (arith, r.few) in
        omega (arith, r.small, pow-suc 16 (i - at), hex_fits (suc (i - at)) m, (hex_here s i d h).small)

    pub run_more : (i - at ≡ 8 → ⊥) → Run s at (value * 16 + d) (suc i)
    unfolding hex_from
    run_more n =
        let w = hex_here s i d h in
        let k : suc i - at ≡ suc (i - at) = omega (arith, r.from) in
        record {
          from = omega (arith, r.from);
          few = omega (arith, r.few);
          small = rw k (omega (arith, r.small, w.small, pow-suc 16 (i - at)));
          says = r.says ∙ rw (w.run, ← w.value);
          count = omega (arith, r.count, ap length w.run, r.from);
        }

    pub run_nine : i - at ≡ 8 → hex_run_at s at ≡ None
    unfolding hex_run_at is_hex_count
    run_nine e =
        let n = length (hex_run (drop at s)) in
        let m : 8 < n = omega (arith, r.count, ap length (hex_here s i d h).run) in
        rw (le-leb 1 n (omega arith), lt-leb n 8 m)

  pub run_said : None ≡ hex_digit_at s i → hex_run_at s at ≡ then_some (ltb at i) (value, i)
  unfolding hex_run_at is_hex_count hex_from
  run_said h = go (dec_lt at i)
    where
      n : ℕ
      n = length (hex_run (drop at s))

      go : Dec (at < i) → then_some {T = ℕ × ℕ} (leb 1 n && leb n 8) (hex_from 0 (hex_run (drop at s)), at + n) ≡ then_some (ltb at i) (value, i)
      go (yes l) =
          let v : hex_from 0 (hex_run (drop at s)) ≡ value = r.says ∙ rw (over s i h) in
          let m : n ≡ i - at = omega (arith, r.count, ap length (over s i h)) in
          let p : at + n ≡ i = omega (arith, r.from) in
          rw (le-leb 1 n (omega arith), le-leb n 8 (omega (arith, r.few)), v, p, lt-ltb at i l)
      go (no l) =
          let m : n ≡ 0 = omega (arith, r.count, r.from, ap length (over s i h)) in
          rw (lt-leb 1 n (omega arith), le-ltb at i (omega arith))

-- ---- all digits of a field

module _ (s : List ℕ) where
  pub digits_none : hex_run_at s 0 ≡ None → hex_number s ≡ None
  unfolding hex_run_at hex_number when◌then◌else◌
  digits_none e = go (is_hex_count (length (hex_run s))) refl e (all_hex_digits s) refl
    where
      go : (t : Bool) → is_hex_count (length (hex_run s)) ≡ t → then_some {T = ℕ × ℕ} t (hex_from 0 (hex_run s), 0 + length (hex_run s)) ≡ None
          → (y : Bool) → all_hex_digits s ≡ y → then_some (is_hex_count (length s) && y) (hex_from 0 s) ≡ None
      go true f e y g = absurd (none-some _ (sym e))
      go false f e true g = rw (sym (ap (λ (l : List ℕ). is_hex_count (length l)) (run_all is_hex_digit s g)) ∙ f)
      go false f e false g = rw (and-false (is_hex_count (length s)))

  pub digits_said : {value end : ℕ} → hex_run_at s 0 ≡ Some (value, end) → hex_number s ≡ then_some (eqb end (length s)) value
  unfolding hex_run_at hex_number
  digits_said {value} {end} e = go (is_hex_count (length (hex_run s))) refl e (all_hex_digits s) refl
    where
      go : (t : Bool) → is_hex_count (length (hex_run s)) ≡ t → then_some {T = ℕ × ℕ} t (hex_from 0 (hex_run s), 0 + length (hex_run s)) ≡ Some (value, end)
          → (y : Bool) → all_hex_digits s ≡ y → then_some (is_hex_count (length s) && y) (hex_from 0 s) ≡ then_some (eqb end (length s)) value
      go true f e true g =
          let p = some_pair_parts _ _ _ _ e in
          let q = run_all is_hex_digit s g in
          rw (sym (ap (λ (l : List ℕ). is_hex_count (length l)) q) ∙ f, sym (ap (hex_from 0) q) ∙ p.0, eq-eqb end (length s) (omega (arith, p.1, ap length q)))
      go true f e false g =
          let p = (some_pair_parts _ _ _ _ e).1 in
          rw (and-false (is_hex_count (length s)), ne_eqb end (length s) (λ k. false≢true (sym g ∙ all_run is_hex_digit s (omega arith))))
      go false f e y g = absurd (none-some _ e)

-- ---- a word after 0x, where it stands

module _ (file : List ℕ) (at : ℕ) (x : has0x (between at (length file) file) ≡ true) where
  bytes : drop at file ≡ 48 ∷ 120 ∷ drop (at + 2) file
  bytes = hex_field (drop at file) (rw (between_last at file) at x) ∙ rw (drop-drop 2 at file)

  pub two_inside : at + 2 ≤ length file
  two_inside = omega (arith, ap length bytes, length-drop at file)

  word_said : is_hex_count (length (hex_run (drop (at + 2) file))) ≡ true
      → SaidAt word_of file at (hex_from 0 (hex_run (drop (at + 2) file))) (at + 2 + length (hex_run (drop (at + 2) file)))
  unfolding between word_of has0x hex_number when◌then◌else◌
  word_said f =
      let run = hex_run (drop (at + 2) file) in
      let n = length run in
      let k : at + 2 + n - at ≡ suc (suc n) = omega arith in
      let field : between at (at + 2 + n) file ≡ 48 ∷ 120 ∷ run = rw (k, bytes) (ap (λ (l : List ℕ). 48 ∷ 120 ∷ l) (run_take is_hex_digit (drop (at + 2) file))) in
      record {
        within = omega (arith, two_inside, run_le is_hex_digit (drop (at + 2) file), length-drop (at + 2) file);
        says = ap word_of field ∙ rw (f, run_passes is_hex_digit (drop (at + 2) file));
      }

  pub run_word : (r : Option (ℕ × ℕ)) → r ≡ hex_run_at file (at + 2) → Read word_of file at r
  unfolding Read hex_run_at when◌then◌else◌
  run_word r e = go (is_hex_count (length (hex_run (drop (at + 2) file)))) refl e
    where
      go : (t : Bool) → is_hex_count (length (hex_run (drop (at + 2) file))) ≡ t
          → r ≡ then_some {T = ℕ × ℕ} t (hex_from 0 (hex_run (drop (at + 2) file)), at + 2 + length (hex_run (drop (at + 2) file))) → Read word_of file at r
      go true f e = rw e (word_said f)
      go false f e = rw e tt
