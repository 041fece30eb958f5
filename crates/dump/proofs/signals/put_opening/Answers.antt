use Rattle.vcd.specs.Text.{header_of, opening_of}
use Rattle.report.proofs.PutLaws.{puts_then}
use Rattle.dump.specs.Dump.{opening}
use Rattle.dump.proofs.signals.put_opening.Goals as goal

pub returns-clause-put : goal.returns-clause-put
unfolding opening opening_of header_of
returns-clause-put c =
    puts_then (puts_then (puts_then (puts_then c.put_frame_start.ensures c.put_wires.ensures.put) c.put_frame_end.ensures) c.put_time.ensures) c.put_values.ensures
