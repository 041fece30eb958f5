-- Totals of short histories, worked by hand, shown of the definitions by computing. Assumes nothing.
use Prim.Native.Nat.{ℕ}
use mathlib.Core.Path.{◌≡◌, refl}
use mathlib.Core.List.{List, [], ◌∷◌}
use Rattle.rules.specs.declared.Settings.{Settings}
use Rattle.rules.specs.Scans.{Input}
use Rattle.rules.specs.Opened.{opened as rules-opened}
use Rattle.book.specs.Log.{Log, none, ◌▸◌}
use Rattle.totals.specs.Totals.{issued_of, confirmed_of, displaced_of, overdue_of, under_way_of, on_of, best_of, worst_of}
use Rattle.totals.specs.Opened.{opened}

-- issued, confirmed, displaced, overdue, under way, on, best, worst
unfoldable numbers_of : Settings → Log Input → List ℕ
numbers_of s h =
    issued_of s h ∷ confirmed_of s h ∷ displaced_of s h ∷ overdue_of s h ∷ under_way_of s h ∷ on_of s h ∷ best_of s h ∷ worst_of s h ∷ []

-- OPS_1 193, U 300
abbrev wired : ℕ → ℕ → Settings
wired ops2 w = record { ops1 = 193; ops2 = ops2; w = w; u = 300 }

infixl 50 ◌▸◌for◌
abbrev ◌▸◌for◌ : Log Input → ℕ → ℕ → Log Input
◌▸◌for◌ h word period = h ▸ record { word = word; period = period }

-- sheets/first.txt: KO on is issued in scan 2, and confirmed in scan 3
first : numbers_of (wired 0 500) (none ▸ 32 for 100 ▸ 4128 for 100 ▸ 16 for 100) ≡ 1 ∷ 1 ∷ 0 ∷ 0 ∷ 0 ∷ 100 ∷ 100 ∷ 100 ∷ []
unfolding opened rules-opened numbers_of
first = refl

never_scanned : numbers_of (wired 0 500) none ≡ 0 ∷ 0 ∷ 0 ∷ 0 ∷ 0 ∷ 0 ∷ 0 ∷ 0 ∷ []
unfolding opened rules-opened numbers_of
never_scanned = refl

-- KO on after 150 + 70 ms, KO off after 40 ms; KO on once more is under way
two_confirmed : numbers_of (wired 0 500) (none ▸ 4128 for 100 ▸ 32 for 150 ▸ 16 for 70 ▸ 8208 for 30 ▸ 32 for 40 ▸ 4128 for 60)
    ≡ 3 ∷ 2 ∷ 0 ∷ 0 ∷ 1 ∷ 100 ∷ 40 ∷ 220 ∷ []
unfolding opened rules-opened numbers_of
two_confirmed = refl

-- KO on is displaced by LZ off
displaced : numbers_of (wired 0 500) (none ▸ 4128 for 100 ▸ 288 for 50 ▸ 32 for 30) ≡ 2 ∷ 1 ∷ 1 ∷ 0 ∷ 0 ∷ 0 ∷ 30 ∷ 30 ∷ []
unfolding opened rules-opened numbers_of
displaced = refl

-- KO on is overdue; LZ on is displaced by LZ off, which is confirmed after 60 ms
one_of_each : numbers_of (wired 0 200) (none ▸ 4128 for 100 ▸ 32 for 150 ▸ 32 for 70 ▸ 160 for 30 ▸ 288 for 40 ▸ 32 for 60)
    ≡ 3 ∷ 1 ∷ 1 ∷ 1 ∷ 0 ∷ 0 ∷ 60 ∷ 60 ∷ []
unfolding opened rules-opened numbers_of
one_of_each = refl

-- KO on is confirmed in the scan that issues KO off
in_one_scan : numbers_of (wired 0 500) (none ▸ 4128 for 100 ▸ 8208 for 20 ▸ 32 for 80) ≡ 2 ∷ 2 ∷ 0 ∷ 0 ∷ 0 ∷ 20 ∷ 20 ∷ 80 ∷ []
unfolding opened rules-opened numbers_of
in_one_scan = refl

-- OPS_2 28 shows On where the reading is unsure: only the scan of 70 ms counts
pretended : numbers_of (wired 28 500) (none ▸ 48 for 100 ▸ 16 for 70 ▸ 0 for 30 ▸ 8192 for 20 ▸ 48 for 50 ▸ 32 for 10)
    ≡ 1 ∷ 1 ∷ 0 ∷ 0 ∷ 0 ∷ 70 ∷ 60 ∷ 60 ∷ []
unfolding opened rules-opened numbers_of
pretended = refl
