use Prim.Native.Nat.{◌+◌, ◌-◌}
use mathlib.Core.Path.{◌≡◌}
use lib.ListN.{drop}
use Rattle.octets.specs.Split.{LF, index_of}
use Rattle.octets.proofs.search.find_lf.Given as goal

-- no LF stands between `at` and i
abbrev pub invariant-loop-i : goal.invariant-loop-i
invariant-loop-i l = l.at + index_of LF (drop l.at l.file) ≡ l.i + index_of LF (drop l.i l.file)

abbrev pub decreases-loop-i : goal.decreases-loop-i
decreases-loop-i l = l.places - l.i
