-- What is claimed of the totals of a history. The contract of `none` makes it of the history of every motor that starts fresh, after any list
-- of entries (book/specs/History.antt).
use Rattle.std.specs.Prelude.{◌+◌, ◌-◌, ◌≤◌, ◌≡◌, ◌↔◌}
use Rattle.rules.specs.declared.Settings.{Settings}
use Rattle.rules.specs.Scans.{Input}
use Rattle.book.specs.Log.{Log}
use Rattle.book.specs.Claim.{longest}
use Rattle.totals.specs.Totals.{issued_of, confirmed_of, displaced_of, overdue_of, under_way_of, best_of, worst_of, totals_of}
use Rattle.totals.specs.Running.{all_capped, running_of}

pub record TotalsClaim (s : Settings) (h : Log Input) : Type 0 where
  -- every command issued was confirmed, displaced or overdue, or is under way
  pub balance : issued_of s h ≡ confirmed_of s h + displaced_of s h + overdue_of s h + under_way_of s h
  pub ordered : best_of s h ≤ worst_of s h
  -- Before the scan that confirms it a command has waited for less than W; that scan's period comes on top. With W = 0 it is all, as `-` stops
  -- at 0.
  pub soon : worst_of s h ≤ s.w - 1 + longest h
  -- a confirmation takes at least 1 ms, so 0 says that there was none
  pub none_best : best_of s h ≡ 0 ↔ confirmed_of s h ≡ 0
  pub none_worst : worst_of s h ≡ 0 ↔ confirmed_of s h ≡ 0
  -- what is kept scan by scan, from no totals on, is the totals, as far as 32-bit words go
  pub running : running_of s h ≡ all_capped (totals_of s h)
