-- Lines, and then more. Assumes nothing.
use Rattle.std.proofs.Common.{ℕ, List, ◌++◌, append-nil, append_assoc}
use Rattle.course.specs.Through.{Lines, Through}
use Rattle.course.specs.Through.Through.{none, accepted, refused, ended}

module _ {P : Type 0} {l : Lines P} {file : List ℕ} {from : P} where
  pub through_then : {mid to : P} {front back : List ℕ} → Through l file from front mid → Through l file mid back to → Through l file from (front ++ back) to
  through_then {front = front} c none = rw (append-nil front) c
  through_then {front = front} c (accepted {piece} {p} {r} d f h) = rw (← append_assoc front piece (l.answer p r)) (accepted (through_then c d) f h)
  through_then {front = front} c (refused {piece} {p} {r} d f h) = rw (← append_assoc front piece (l.stop p r)) (refused (through_then c d) f h)
  through_then {front = front} c (ended {piece} {p} d m f) = rw (← append_assoc front piece (l.end p)) (ended (through_then c d) m f)
