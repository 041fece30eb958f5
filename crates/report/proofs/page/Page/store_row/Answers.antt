use Rattle.report.proofs.PutLaws.{puts_then}
use Rattle.report.proofs.PageLaws.{row_parts}
use Rattle.report.proofs.page.Page.store_row.Goals as goal

pub returns : goal.returns
returns c =
    rw (row_parts c.args.row) (puts_then c.store.ensures.puts (puts_then c.store_field.ensures.puts (puts_then c.store_field-2.ensures.puts
    (puts_then c.store_states.ensures.puts (puts_then c.store_field-3.ensures.puts c.store-2.ensures.puts)))))
