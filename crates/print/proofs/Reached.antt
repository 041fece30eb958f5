-- The claim holds of a bench at any place that the lines of a file lead to: it is one that accepted requests lead to. Assumes nothing.
use Prim.Native.Nat.{ℕ}
use mathlib.Core.List.{List}
use Rattle.interpreter.proofs.Followed.{Reached, one_reached}
use Rattle.course.specs.Through.{Through}
use Rattle.course.specs.Through.Through.{none, accepted, refused, ended}
use Rattle.print.specs.Advance.{Place, print_lines}

pub reached : {file : List ℕ} {from p : Place} {piece : List ℕ} → Reached from.state → Through print_lines file from piece p → Reached p.state
reached a none = a
reached a (accepted {p = p} {r = r} t found h) = one_reached p.state r (reached a t) h
reached a (refused t found h) = reached a t
reached a (ended t within found) = reached a t
