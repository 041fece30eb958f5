use native.Mathlib.Omega.{arith}
use Rattle.sheet.proofs.PlaceLaws.{number_said, parted}
use Rattle.sheet.proofs.NumberRunLaws.{number_said_at}
use Rattle.sheet.proofs.quick.scan_at.Goals as goal

pub ends_line-requires : goal.ends_line-requires
ends_line-requires c = omega (arith, (parted (number_said (number_said_at c.in_ok-period.ensures))).further)
