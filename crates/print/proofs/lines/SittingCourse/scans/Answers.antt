use Rattle.interpreter.proofs.ScanLaws.{refused_all}
use Rattle.course.proofs.Runs.{no_lines}
use Rattle.print.proofs.lines.SittingCourse.scans.Goals as goal

pub returns-else-is_ok : goal.returns-else-is_ok
returns-else-is_ok c = no_lines (λ room period next found. refused_all _ _ c.accept_scan.ensures c.is_ok.ensures.value c.if-is_ok.false period)
