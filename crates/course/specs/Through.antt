-- The lines of a file taken one after another, whatever a program makes of a line.
use Rattle.std.specs.Prelude.{ℕ, ◌≤◌, ◌≡◌, List, [], ◌++◌, length, Some, None}
use Rattle.sheet.specs.Grammar.{next_at}
use Rattle.sheet.specs.declared.Request.{Request}

-- What a program goes by between two lines is a P: a place in the file, and all that the lines up to there have led to.
pub record Lines (P : Type 0) : Type 0 where
  -- A place past the file's end says that all is printed.
  pub at : P → ℕ
  -- An accepted line, up to the place `next`: what comes after it, and what is printed of it
  pub refusal : P → Request → ℕ
  pub after : ℕ → P → Request → P
  pub answer : P → Request → List ℕ
  -- A refused line is the last, and so is the end of the file: what is printed then, and where that leads
  pub stop : P → Request → List ℕ
  pub end : P → List ℕ
  pub past : List ℕ → P → P

-- Lines taken one after another, from a place on: what they print, and the place that they lead to
pub data Through {P : Type 0} (l : Lines P) (file : List ℕ) (from : P) : List ℕ → P → Type 0 where
  none : Through l file from [] from
  accepted : {piece : List ℕ} {p : P} {r : Request} {next : ℕ} → Through l file from piece p → next_at file (l.at p) ≡ Some (r, next)
      → l.refusal p r ≡ 0 → Through l file from (piece ++ l.answer p r) (l.after next p r)
  refused : {piece : List ℕ} {p : P} {r : Request} {next : ℕ} → Through l file from piece p → next_at file (l.at p) ≡ Some (r, next)
      → (l.refusal p r ≡ 0 → ⊥) → Through l file from (piece ++ l.stop p r) (l.past file p)
  ended : {piece : List ℕ} {p : P} → Through l file from piece p → l.at p ≤ length file → next_at file (l.at p) ≡ None
      → Through l file from (piece ++ l.end p) (l.past file p)
