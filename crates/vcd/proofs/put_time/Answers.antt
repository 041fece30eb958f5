use Rattle.octets.specs.Split.{joined}
use Rattle.report.proofs.PutLaws.{puts_then}
use Rattle.vcd.specs.Text.{word_line, time_line}
use Rattle.vcd.proofs.put_time.Goals as goal

pub returns : goal.returns
unfolding time_line word_line joined
returns c = puts_then c.byte.ensures (puts_then c.number.ensures c.byte-2.ensures)
