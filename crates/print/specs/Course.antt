-- The walk through the lines of a file that is the bench program.
use Rattle.std.specs.Prelude.{ℕ, ◌<◌, ◌≤◌, ◌≡◌, List, length}
use Rattle.std.proofs.Common.{arith, lt-ltb}
use Rattle.words.specs.Word.{when◌then◌else◌}
use Rattle.words.proofs.Laws.{either}
use Rattle.report.specs.Print.{refusal_of}
use Rattle.report.proofs.PrintLaws.{refusal_length}
use Rattle.interpreter.specs.State.{too_long}
use Rattle.course.specs.Walk.{Walk, Laws}
use Rattle.print.specs.Print.{print_of}
use Rattle.print.specs.Advance.{Place, place_of, print_lines, most_put, opening, Beginning}
use Rattle.print.specs.declared.Sitting.{Sitting}

abbrev pub print_walk : Walk Sitting
print_walk =
    record {
      Place = Place;
      lines = print_lines;
      place_of = place_of;
      begins = Beginning;
      text = print_of;
      opening = opening;
      refused = refusal_of 0 1;
      most_put = most_put;
    }

pub print_long : (file : List ℕ) → 65536 < length file → print_of file ≡ refusal_of 0 1
unfolding print_of too_long when◌then◌else◌
print_long file h = rw (lt-ltb 65536 (length file) h)

opening_short : (file : List ℕ) → length (opening file) ≤ most_put
unfolding opening
opening_short file = either (λ (l : List ℕ). length l ≤ most_put) _ (omega (arith, refusal_length 0 1)) (omega arith)

pub print_laws : Laws print_walk
print_laws = record { long = print_long; short = opening_short; room = omega arith }
