-- The names of the wires of a motor's two outputs
use Rattle.std.specs.Prelude.{ℕ, List}
use Rattle.vcd.specs.Text.{on_name, off_name}
use Rattle.vcd.specs.declared.Output.{Output}
use Rattle.vcd.specs.declared.Output.TheVariants.{On, Off}

abbrev pub name_of : Output → ℕ → List ℕ
name_of On number = on_name number
name_of Off number = off_name number
