-- Lines read ahead of what they do: runs of I lines, which change nothing but the words that the motors hold, and S lines.
use Rattle.std.specs.List.{list_all}
use Rattle.std.specs.Prelude.{ℕ, ◌-◌, ◌≡◌, true, false, List, set, take, Option, Some, None}
use Rattle.rules.specs.Refusals.{in_range, word_ok, period_ok}
use Rattle.sheet.specs.Grammar.{next_at}
use Rattle.sheet.specs.declared.Request.TheVariants.{Input as I, Scan as S}
use Rattle.interpreter.specs.State.{next_number, input_refusal, held_of}
use Rattle.interpreter.specs.declared.Bench.{Bench}
use Rattle.interpreter.specs.declared.lines.InputLine.{InputLine}
use Rattle.interpreter.specs.declared.lines.Inputs.{Inputs}

-- The line at a place is no I line that is accepted where so many motors are held.
abbrev pub NoInput : List ℕ → ℕ → ℕ → Type 0
NoInput file held at = (number word next : ℕ) → next_at file at ≡ Some (I number word, next) → input_refusal held number word ≡ 0 → ⊥

-- It is such a line, and this one.
abbrev pub Found : List ℕ → ℕ → ℕ → InputLine → Type 0
Found file held at l = (next_at file at ≡ Some (I l.number l.word, l.next)) × (input_refusal held l.number l.word ≡ 0)

-- I lines accepted one after another, from a place on: the words, the place and the line's number that they lead to
pub data InputLines (file : List ℕ) (held : ℕ) (words : List ℕ) (at line : ℕ) : List ℕ → ℕ → ℕ → Type 0 where
  none : InputLines file held words at line words at line
  one_more : {later : List ℕ} {here number word next k : ℕ} → InputLines file held words at line later here k → next_at file here ≡ Some (I number word, next)
      → input_refusal held number word ≡ 0 → InputLines file held words at line (set later (number - 1) word) next (next_number k)

-- All of them, up to the first line that is refused or of another kind
pub record InputRun (file : List ℕ) (held : ℕ) (from r : Inputs) : Type 0 where
  pub lines : InputLines file held from.words from.at from.line r.words r.at r.line
  pub over : NoInput file held r.at

-- The line at a place is an S line, and its period is one of a scan; after None it is not.
abbrev pub FoundScan : List ℕ → ℕ → Option (ℕ × ℕ) → Type 0
FoundScan file at (Some scan) = (next_at file at ≡ Some (S scan.0, scan.1)) × (period_ok scan.0 ≡ true)
FoundScan file at None = (period next : ℕ) → next_at file at ≡ Some (S period, next) → period_ok period ≡ false

-- What a scan of a bench needs besides its period: every record and every word in use is in its range.
pub record ReadyBench (b : Bench) : Type 0 where
  pub records : list_all in_range (take (held_of b) b.motors) ≡ true
  pub words : list_all word_ok (take (held_of b) b.words) ≡ true
