-- The bounds of the claim are met: a chain of seven occurs, a bound with six for seven would be too little, and commands end in each of
-- the three ways. By computation. Assumes nothing.
use Prim.Native.Nat.{ℕ, zero, suc, ◌*◌, ◌+◌}
use mathlib.Core.Path.{◌≡◌, refl}
use mathlib.Core.Bool.{true}
use native.Mathlib.Omega.{arith}
use lib.Dec.{leb}
use Rattle.rules.specs.declared.Settings.{Settings}
use Rattle.rules.specs.Record.{end_confirmed, end_displaced, end_overdue}
use Rattle.rules.specs.Scans.{Input}
use Rattle.rules.specs.Opened.{opened}
use Rattle.book.specs.Log.{Log, none, ◌▸◌, ◌⧺◌, count}
use Rattle.book.specs.Book.{since, is_up, book1to6, book_scan, book_of}
use Rattle.book.specs.Claim.{chosen_in, fate, Chain, first, displaced, total, longest}

unfoldable pub book_opened : Type 0
unfolding opened ◌⧺◌ count since is_up book1to6 book_scan book_of chosen_in fate total longest
book_opened = Unit {0}

unfoldable pub wired : ℕ → Settings
wired w = record { ops1 = 193; ops2 = 0; w = w; u = 300 }

unfoldable pub at : ℕ → Input
at word = record { word = word; period = 100 }

-- KO on, then KO off, MU on, MU off, LZ on, LZ off and SMA displace one another; both switches stay open.
pub seven : Chain (wired 500) 7 (none ▸ at 4096) (none ▸ at 8192 ▸ at 6 ▸ at 10 ▸ at 128 ▸ at 256 ▸ at 1) 1 7 7
unfolding book_opened wired at
seven =
    displaced (at 1)
    (displaced (at 256)
    (displaced (at 128)
    (displaced (at 10) (displaced (at 6) (displaced (at 8192) (first (record { command = refl; issue = refl; some = λ x. omega arith })) refl) refl) refl)
    refl)
    refl)
    refl

-- The same chain, each command for as long as it may last: W is 43, each period 6.
unfoldable pub times : ℕ → ℕ → Log Input → Log Input
times zero word k = k
times (suc n) word k = times n word k ▸ record { word = word; period = 6 }

unfoldable pub later : Log Input
later = times 8 1 (times 7 256 (times 7 128 (times 7 10 (times 7 6 (times 7 8192 (times 6 4096 none))))))

-- Six times their sum has passed, and SMA, issued as the seventh in scan 43, is still under way.
pub six_is_too_few : (leb (6 * (43 + longest later)) (total later) ≡ true)
    × ((book_of (wired 43) (none ▸ record { word = 4096; period = 6 } ⧺ later)).status.command ≡ 1)
    × ((book_of (wired 43) (none ▸ record { word = 4096; period = 6 } ⧺ later)).issue ≡ 43)
unfolding book_opened wired times later
six_is_too_few = (refl, refl, refl)

-- KO on is issued by the second scan; the third confirms it, finds its time up, or displaces it.
pub three_ends : ((book_of (wired 500) (none ▸ at 32 ▸ at 4128 ▸ at 16)).status.end ≡ end_confirmed)
    × ((book_of (wired 100) (none ▸ at 32 ▸ at 4128 ▸ at 32)).status.end ≡ end_overdue)
    × ((book_of (wired 500) (none ▸ at 32 ▸ at 4128 ▸ at 288)).status.end ≡ end_displaced)
unfolding book_opened wired at
three_ends = (refl, refl, refl)
