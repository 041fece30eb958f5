use Rattle.std.proofs.Common.{sym, ◌∙◌}
use Rattle.sheet.specs.declared.Request.TheVariants.{Scan as S}
use Rattle.interpreter.proofs.ScanLaws.{refused_all}
use Rattle.course.proofs.Runs.{no_lines}
use Rattle.dump.proofs.AdvanceLaws.{same_refusal}
use Rattle.dump.proofs.lines.RecordingCourse.scans.Goals as goal

pub returns-else-is_ok : goal.returns-else-is_ok
returns-else-is_ok c =
    let s = c.args.self.now in
    no_lines (λ room period next found ok. refused_all _ _ c.accept_scan.ensures c.is_ok.ensures.value c.if-is_ok.false period (sym (same_refusal s.bench s.at s.time (S period)) ∙ ok))
