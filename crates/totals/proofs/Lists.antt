-- The totals of a table, taken motor by motor: those of the motors that have a word are taken. Assumes nothing.
use Prim.Native.Nat.{ℕ, zero, suc, ◌+◌, ◌<◌}
use mathlib.Core.Path.{◌≡◌, refl, sym, ap}
use mathlib.Core.List.{List, [], ◌∷◌}
use native.Mathlib.Nat.{not-suc-le-zero, le_of_suc-le-suc}
use native.Mathlib.Numerals.{add-one}
use lib.ListN.{length, get_or, set, take}
use Rattle.rules.specs.declared.Motor.{Motor}
use Rattle.totals.specs.declared.Totals.{Totals}
use Rattle.totals.specs.Running.{scan_totals, all_totals}

pub none_taken : (ts : List Totals) (ms : List Motor) (p : ℕ) → all_totals ts ms [] p ≡ ts
unfolding all_totals
none_taken [] ms p = refl
none_taken (t ∷ ts) [] p = refl
none_taken (t ∷ ts) (m ∷ ms) p = refl

pub length_totals : (ts : List Totals) (ms : List Motor) (ws : List ℕ) (p : ℕ) → length (all_totals ts ms ws p) ≡ length ts
unfolding all_totals
length_totals [] ms ws p = refl
length_totals (t ∷ ts) [] ws p = refl
length_totals (t ∷ ts) (m ∷ ms) [] p = refl
length_totals (t ∷ ts) (m ∷ ms) (w ∷ ws) p = ap suc (length_totals ts ms ws p)

-- those of motor j are not taken before its turn
totals_not_yet : (ts : List Totals) (ms : List Motor) (ws : List ℕ) (p j : ℕ) (d : Totals) → get_or (all_totals ts ms (take j ws) p) j d ≡ get_or ts j d
unfolding all_totals
totals_not_yet [] ms ws p j d = refl
totals_not_yet (t ∷ ts) ms ws p zero d = ap (λ (l : List Totals). get_or l zero d) (none_taken (t ∷ ts) ms p)
totals_not_yet (t ∷ ts) [] ws p (suc j) d = refl
totals_not_yet (t ∷ ts) (m ∷ ms) [] p (suc j) d = refl
totals_not_yet (t ∷ ts) (m ∷ ms) (w ∷ ws) p (suc j) d = totals_not_yet ts ms ws p j d

one_taken : (ts : List Totals) (ms : List Motor) (ws : List ℕ) (p j : ℕ) (d : Totals) (e : Motor) → j < length ts → j < length ms → j < length ws
    → set (all_totals ts ms (take j ws) p) j (scan_totals (get_or ts j d) (get_or ms j e) (get_or ws j 0) p) ≡ all_totals ts ms (take (suc j) ws) p
unfolding all_totals
one_taken [] ms ws p j d e l k n = absurd (not-suc-le-zero l)
one_taken (t ∷ ts) [] ws p j d e l k n = absurd (not-suc-le-zero k)
one_taken (t ∷ ts) (m ∷ ms) [] p j d e l k n = absurd (not-suc-le-zero n)
one_taken (t ∷ ts) (m ∷ ms) (w ∷ ws) p zero d e l k n = ap (λ (l : List Totals). scan_totals t m w p ∷ l) (sym (none_taken ts ms p))
one_taken (t ∷ ts) (m ∷ ms) (w ∷ ws) p (suc j) d e l k n =
    ap (λ (l : List Totals). scan_totals t m w p ∷ l) (one_taken ts ms ws p j d e (le_of_suc-le-suc l) (le_of_suc-le-suc k) (le_of_suc-le-suc n))

-- the motor whose turn it is
pub one_counted : (ts : List Totals) (ms : List Motor) (ws : List ℕ) (p i : ℕ) {counted : List Totals} (d : Totals) (e : Motor) → i < length ts → i < length ms → i < length ws
    → counted ≡ all_totals ts ms (take i ws) p → set counted i (scan_totals (get_or counted i d) (get_or ms i e) (get_or ws i 0) p) ≡ all_totals ts ms (take (i + 1) ws) p
one_counted ts ms ws p i d e l k n f = rw (f, totals_not_yet ts ms ws p i d, add-one i) (one_taken ts ms ws p i d e l k n)

-- the first n of them
pub totals_front : (ts : List Totals) (ms : List Motor) (ws : List ℕ) (p n : ℕ)
    → take n (all_totals ts ms (take n ws) p) ≡ all_totals (take n ts) (take n ms) (take n ws) p
unfolding all_totals
totals_front [] ms ws p zero = refl
totals_front [] ms ws p (suc n) = refl
totals_front (t ∷ ts) ms ws p zero = refl
totals_front (t ∷ ts) [] ws p (suc n) = refl
totals_front (t ∷ ts) (m ∷ ms) [] p (suc n) = refl
totals_front (t ∷ ts) (m ∷ ms) (w ∷ ws) p (suc n) = ap (λ (l : List Totals). scan_totals t m w p ∷ l) (totals_front ts ms ws p n)
