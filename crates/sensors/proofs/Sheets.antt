-- The sheets are right, by computing each answer.
use Rattle.std.proofs.Common.{refl}
use Rattle.std.specs.Float.Numeral.{scan_numeral}
use Rattle.std.specs.Float.Parse.{read_float}
use Rattle.std.proofs.lemmas.Float.Parse.{parse_float_on_literals}
use Rattle.sensors.specs.Opened.{opened}
use Rattle.sensors.specs.Sheets.{AreRight, given_sheets, written, three, bits, gives, sheet}

pub are_right : AreRight given_sheets
unfolding opened scan_numeral read_float parse_float_on_literals given_sheets written three bits gives sheet
are_right = refl
