use Rattle.std.proofs.Common.{[], ◌∷◌}
use Rattle.octets.specs.Split.{joined}
use Rattle.report.proofs.PutLaws.{puts_then}
use Rattle.vcd.specs.Text.{on_name, off_name}
use Rattle.vcd.proofs.TextLaws.{wire_start, wire_parts}
use Rattle.vcd.proofs.put_wire.Goals as goal

pub returns-in-On : goal.returns-in-On
unfolding on_name wire_start joined
returns-in-On c =
    rw (c.in-On.is, wire_parts c.args.code c.args.number (111 ∷ 110 ∷ []))
    (puts_then (puts_then c.text.ensures (puts_then c.byte.ensures (puts_then c.text-2.ensures c.number.ensures))) c.text-in-On.ensures)

pub returns-in-Off : goal.returns-in-Off
unfolding off_name wire_start joined
returns-in-Off c =
    rw (c.in-Off.is, wire_parts c.args.code c.args.number (111 ∷ 102 ∷ 102 ∷ []))
    (puts_then (puts_then c.text.ensures (puts_then c.byte.ensures (puts_then c.text-2.ensures c.number.ensures))) c.text-in-Off.ensures)
