use mathlib.Core.Path.{◌∙◌, sym}
use native.Mathlib.Omega.{arith}
use Rattle.octets.specs.Split.{comma}
use Rattle.sheet.specs.Grammar.{letter_i}
use Rattle.sheet.specs.Places.{Read, NumberRead}
use Rattle.sheet.proofs.PlaceLaws.{byte_at, number_said, parted, begun_inside, ended_inside, input_next}
use Rattle.sheet.proofs.NumberRunLaws.{number_said_at}
use Rattle.sheet.proofs.quick.input_at.Goals as goal

pub overflow_add-at : goal.overflow_add-at
overflow_add-at c =
    omega (arith, begun_inside c.args.file.now c.args.at letter_i c.requires)

pub overflow_add-parting : goal.overflow_add-parting
overflow_add-parting c = omega (arith, byte_at _ _ comma (sym c.is_at.ensures ∙ c.if-not-is_at.false))

pub ends_line-requires : goal.ends_line-requires
unfolding Read
ends_line-requires c =
    omega (arith, (parted (number_said (number_said_at c.in_ok-number.ensures))).further, (parted c.in_ok-word.ensures).further)

pub overflow_add-result : goal.overflow_add-result
overflow_add-result c = omega (arith, ended_inside _ _ _ (sym c.ends_line.ensures ∙ c.if-not-ends_line.false))

pub returns : goal.returns
unfolding Read
returns c =
    let read : NumberRead c.args.file.now c.args.at c.in_ok-number.number c.in_ok-number.parting = record { begins = c.requires; number_said = (number_said_at c.in_ok-number.ensures); parted = sym c.is_at.ensures ∙ c.if-not-is_at.false } in
    input_next c.args.file.now c.args.at read c.in_ok-word.ensures (sym c.ends_line.ensures ∙ c.if-not-ends_line.false)
