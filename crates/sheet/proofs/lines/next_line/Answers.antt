use mathlib.Core.Path.{◌∙◌, sym}
use native.Mathlib.Omega.{arith}
use Rattle.octets.specs.Split.{LF}
use Rattle.octets.proofs.SearchLaws.{found_place}
use Rattle.sheet.proofs.LineLaws.{line_end, line_open, line_whole, line_faulty}
use Rattle.sheet.proofs.lines.next_line.Goals as goal

pub returns-then-file-at : goal.returns-then-file-at
returns-then-file-at c = let a = c.args in sym (line_end a.file.now a.at c.if-file-at.true)

pub overflow_sub-end : goal.overflow_sub-end
overflow_sub-end c =
    let a = c.args in
    omega (arith, found_place a.file.now a.at LF c.in-Some.end (sym c.in-Some.ensures))

pub returns-in-Some : goal.returns-in-Some
returns-in-Some c =
    let a = c.args in
    sym (line_whole a.file.now a.at _ (sym c.in-Some.ensures) (sym c.is_well_sized.ensures ∙ c.if-is_well_sized.true))

pub returns-in_default : goal.returns-in_default
returns-in_default c =
    let a = c.args in
    sym (line_faulty a.file.now a.at _ (sym c.in-Some.ensures) (sym c.is_well_sized.ensures ∙ c.if-is_well_sized.false))

pub returns-in_default-2 : goal.returns-in_default-2
returns-in_default-2 c =
    let a = c.args in
    sym (line_open a.file.now a.at c.if-file-at.false (sym c.in_default.ensures))
