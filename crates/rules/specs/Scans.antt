-- A motor taken through scans of its own; and what the code of the steps needs, which is no rule.
use Rattle.std.specs.Prelude.{ℕ, ◌<◌, ◌≤◌, List, [], ◌∷◌}
use Rattle.rules.specs.declared.Motor.{Motor}
use Rattle.rules.specs.Refusals.{most_time, most_period, one_after}

-- what a scan says to one motor
pub record Input : Type 0 where
  pub word : ℕ
  pub period : ℕ

unfoldable pub scans : Motor → List Input → Motor
scans m [] = m
scans m (i ∷ is) = scans (one_after m i.word i.period) is

-- what step 3 adds up fits a 32-bit word; it does in every accepted scan
pub record SumsFit (m : Motor) (period : ℕ) : Type 0 where
  pub sum : m.sum < most_time
  pub pulse : m.output.sum < most_time
  pub time : period ≤ most_period
