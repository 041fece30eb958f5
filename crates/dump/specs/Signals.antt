-- What the functions of src/signals.rt put and answer
use Rattle.std.specs.Prelude.{ℕ, Option, Some, None, List, [], ◌∷◌}
use Rattle.vcd.specs.Text.{timed}

-- A scan's changes, after its time if that is still to be put
unfoldable pub timed_by : Option ℕ → List ℕ → List ℕ
timed_by (Some time) changes = timed time changes
timed_by None changes = changes

-- The time that is still to be put after some lines: none if there were any, and else the one before
unfoldable pub due_after : Option ℕ → List ℕ → Option ℕ
due_after due [] = due
due_after due (b ∷ bs) = None
