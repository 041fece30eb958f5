-- The line of a file that makes a request. The laws in proofs/WrittenBack.antt say that the reader takes it for that request.
use Rattle.std.specs.Prelude.{List, [], ◌∷◌, ℕ}
use Rattle.octets.specs.Split.{LF}
use Rattle.sheet.specs.Grammar.{letter_m, letter_i, letter_s}
use Rattle.sheet.specs.declared.Request.{Request}
use Rattle.sheet.specs.declared.Request.TheVariants.{Motor, Input, Scan, Refused}
use Rattle.report.specs.Print.{line_of}

-- An empty line is one of those that are refused
unfoldable pub written : Request → List ℕ
written (Motor number ops1 ops2 w u) = line_of letter_m (number ∷ ops1 ∷ ops2 ∷ w ∷ u ∷ [])
written (Input number word) = line_of letter_i (number ∷ word ∷ [])
written (Scan period) = line_of letter_s (period ∷ [])
written Refused = LF ∷ []
