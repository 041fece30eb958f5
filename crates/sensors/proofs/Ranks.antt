-- The sensors in order, by three comparisons: of readings that are numbers each is at most another or above it, and the order is transitive.
use Rattle.std.proofs.Common.{◌≡◌, ℕ, ◌+◌, Bool, true, false, not, T, ◌||◌, eqb, ap, refl, ◌∙◌, arith}
use Rattle.std.proofs.Math.Bool.{and-true, and-false, or-false}
use Rattle.std.proofs.lemmas.Float.{lt_irrefl, lt_of_not-le, lt_of_le_of_lt, lt_of_lt_of_le, le_trans, le_of_lt}
use Rattle.std.specs.Float.{Float, NotNan}
use Rattle.std.specs.Float.Ieee.{lt, le, eq}
use Rattle.words.specs.Word.{when◌then◌else◌}
use Rattle.sensors.specs.declared.Sensors.{Sensors}
use Rattle.sensors.specs.declared.Sensor.{Sensor}
use Rattle.sensors.specs.declared.Sensor.TheVariants.{First, Second, Third}
use Rattle.sensors.specs.Sensors.{reading, number, comes_before, is_smaller, counted, rank, of_rank, least, middle, greatest, fails, are_apart, AreTrusted}
use Rattle.sensors.proofs.Trust.{number_is}

-- ---- two readings

turned : (a b : Bool) → (T a → T b → ⊥) → (T (not a) → T b) → b ≡ not a
turned true true h k = absurd (h tt tt)
turned true false h k = refl
turned false true h k = refl
turned false false h k = absurd (k tt)

above_is : (x y : Float) → NotNan x → NotNan y → lt y x ≡ not (le x y)
above_is x y nx ny = turned (le x y) (lt y x) (λ a b. lt_irrefl x (lt_of_le_of_lt x y x a b)) (λ a. lt_of_not-le x y nx ny a)

smaller_before : (s : Sensors) (i j : Sensor) → comes_before i j ≡ true → is_smaller s i j ≡ le (reading s i) (reading s j)
unfolding is_smaller le
smaller_before s i j e = rw e (ap (λ (z : Bool). lt (reading s i) (reading s j) || z) (and-true (eq (reading s i) (reading s j))))

smaller_after : (s : Sensors) (i j : Sensor) → comes_before i j ≡ false → is_smaller s i j ≡ lt (reading s i) (reading s j)
unfolding is_smaller
smaller_after s i j e =
    rw e (ap (λ (z : Bool). lt (reading s i) (reading s j) || z) (and-false (eq (reading s i) (reading s j)))
    ∙ or-false (lt (reading s i) (reading s j)))

smaller_self : (s : Sensors) (i : Sensor) → comes_before i i ≡ false → is_smaller s i i ≡ false
smaller_self s i e = smaller_after s i i e ∙ grind (arith, lt_irrefl)

pub apart_is : (s : Sensors) (i j : Sensor) → comes_before i j ≡ true
    → are_apart s i j ≡ (when le (reading s i) (reading s j) then fails s j i else fails s i j)
unfolding are_apart
apart_is s i j e = rw (smaller_before s i j e) refl

-- ---- three readings, by whether 1 is at most 2, 1 at most 3, 2 at most 3

abbrev picked : ℕ → Bool → Bool → Bool → Sensor
unfolding when◌then◌else◌
picked k p q r = when eqb (counted false + counted (not p) + counted (not q)) k then First else when eqb (counted p + counted false + counted (not r)) k then Second else Third

rank_first : (s : Sensors) → AreTrusted s → rank s First ≡ counted false + counted (not (le s.first s.second)) + counted (not (le s.first s.third))
unfolding rank reading comes_before number
rank_first s h =
    let a = number_is s First h.first in
    rw (smaller_self s First refl, smaller_after s Second First refl ∙ above_is s.first s.second a (number_is s Second h.second), smaller_after s Third First refl ∙ above_is s.first s.third a (number_is s Third h.third)) refl

rank_second : (s : Sensors) → AreTrusted s → rank s Second ≡ counted (le s.first s.second) + counted false + counted (not (le s.second s.third))
unfolding rank reading comes_before number
rank_second s h =
    rw (smaller_before s First Second refl, smaller_self s Second refl, smaller_after s Third Second refl ∙ above_is s.second s.third (number_is s Second h.second) (number_is s Third h.third)) refl

picked_is : (s : Sensors) → AreTrusted s → (k : ℕ) → of_rank s k ≡ picked k (le s.first s.second) (le s.first s.third) (le s.second s.third)
unfolding of_rank when◌then◌else◌
picked_is s h k = rw (rank_first s h, rank_second s h) refl

-- 1 at most 2 and 2 at most 3: 1 at most 3. 2 below 1 and 1 at most 3: 2 at most 3.
abbrev chained : Bool → Bool → Bool → Type 0
chained p q r = (T p → T r → T q) × (T (not p) → T q → T r)

chained_is : (s : Sensors) → AreTrusted s → chained (le s.first s.second) (le s.first s.third) (le s.second s.third)
unfolding reading
chained_is s h = (
  λ a b. le_trans s.first s.second s.third a b,
  λ a b. le_of_lt s.second s.third (lt_of_lt_of_le s.second s.first s.third (lt_of_not-le s.first s.second (number_is s First h.first) (number_is s Second h.second) a) b),
)

-- one of six, as the code decides
abbrev pub decided : Bool → Bool → Bool → Sensor → Sensor → Sensor → Sensor → Sensor → Sensor → Sensor
unfolding when◌then◌else◌
decided p q r a b c d e f = when p then (when r then a else when q then b else c) else when q then d else when r then e else f

decided_by : (p q r : Bool) → chained p q r
    → (picked 0 p q r ≡ decided p q r First First Third Second Second Third)
    × ((picked 1 p q r ≡ decided p q r Second Third First First Third Second) × (picked 2 p q r ≡ decided p q r Third Second Second Third First First))
unfolding when◌then◌else◌ counted
decided_by true true true h = (refl, (refl, refl))
decided_by true true false h = (refl, (refl, refl))
decided_by true false true h = absurd (h.0 tt tt)
decided_by true false false h = (refl, (refl, refl))
decided_by false true true h = (refl, (refl, refl))
decided_by false true false h = absurd (h.1 tt tt)
decided_by false false true h = (refl, (refl, refl))
decided_by false false false h = (refl, (refl, refl))

pub least_is : (s : Sensors) → AreTrusted s → least s ≡ decided (le s.first s.second) (le s.first s.third) (le s.second s.third) First First Third Second Second Third
unfolding least
least_is s h = picked_is s h 0 ∙ (decided_by _ _ _ (chained_is s h)).0

pub middle_is : (s : Sensors) → AreTrusted s → middle s ≡ decided (le s.first s.second) (le s.first s.third) (le s.second s.third) Second Third First First Third Second
unfolding middle
middle_is s h = picked_is s h 1 ∙ (decided_by _ _ _ (chained_is s h)).1.0

pub greatest_is : (s : Sensors) → AreTrusted s → greatest s ≡ decided (le s.first s.second) (le s.first s.third) (le s.second s.third) Third Second Second Third First First
unfolding greatest
greatest_is s h = picked_is s h 2 ∙ (decided_by _ _ _ (chained_is s h)).1.1
