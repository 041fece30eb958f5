-- What a program prints of a file, a lent buffer at a time.
use Rattle.std.specs.Prelude.{ℕ, ◌+◌, ◌-◌, ◌<◌, ◌≤◌, ◌≡◌, List, ◌++◌, length, Some}
use Rattle.sheet.specs.Grammar.{next_at}
use Rattle.sheet.specs.declared.Request.TheVariants.{Scan as S}
use Rattle.report.specs.Puts.{Puts}
use Rattle.report.specs.declared.page.Page.{Page}
use Rattle.course.specs.Through.{Lines, Through}

-- A value of type C stands between two lines.
pub record Walk (C : Type 0) : Type 1 where
  pub Place : Type 0
  pub lines : Lines Place
  pub place_of : C → Place
  -- the beginning of a file
  pub begins : List ℕ → C → Type 0
  -- all that is printed of a file, what of it comes before its lines, and the whole print of any file over 65,536 bytes
  pub text : List ℕ → List ℕ
  pub opening : List ℕ → List ℕ
  pub refused : List ℕ
  -- the most that a line prints, or the end
  pub most_put : ℕ

-- What holds of each
pub record Laws {C : Type 0} (w : Walk C) : Type 0 where
  pub long : (file : List ℕ) → 65536 < length file → w.text file ≡ w.refused
  pub short : (file : List ℕ) → length (w.opening file) ≤ w.most_put
  -- The buffer that a program lends has room for it.
  pub room : w.most_put ≤ 65536

module _ {C : Type 0} (w : Walk C) where
  abbrev pub place : C → ℕ
  place c = w.lines.at (w.place_of c)

  abbrev pub Leads : List ℕ → C → List ℕ → C → Type 0
  Leads file c piece d = Through w.lines file (w.place_of c) piece (w.place_of d)

  -- The line here is no S line that is accepted.
  abbrev pub NoScan : List ℕ → C → Type 0
  NoScan file c = (period next : ℕ) → next_at file (place c) ≡ Some (S period, next) → w.lines.refusal (w.place_of c) (S period) ≡ 0 → ⊥

  -- There is room for what a line may print.
  abbrev pub Room : Page → Type 0
  Room page = w.most_put ≤ length page.bytes.now - page.used

  -- What stands before the lines is put; lines from `c` up to the end print all the rest.
  pub record Begin (file : List ℕ) (c : C) (page after : Page) : Type 0 where
    pub put : Puts page (w.opening file) after
    pub begins : w.begins file c
    pub whole : {piece : List ℕ} {d : C} → Leads file c piece d → length file < place d → w.text file ≡ w.opening file ++ piece

  module _ (file : List ℕ) (c : C) (page : Page) (d : C) (after : Page) where
    -- One line, or the end of the file: what it prints is put, and is no more than that may print.
    pub record Advance : Type 0 where
      pub piece : List ℕ
      pub through : Leads file c piece d
      pub put : Puts page piece after
      pub short : length piece ≤ w.most_put
      pub further : place c < place d

    -- From within the file, where no accepted scan stands, that line or the end. Of any other place nothing is said.
    abbrev pub Line : Type 0
    Line = place c ≤ length file → NoScan file c → Advance

    -- Lines, and maybe the end: what they print is put, and found room.
    pub record Run : Type 0 where
      pub piece : List ℕ
      pub through : Leads file c piece d
      pub put : Puts page piece after
      pub fits : page.used ≤ length page.bytes.now → page.used + length piece ≤ length page.bytes.now
      pub onward : place c ≤ place d
      pub moved : page.used < after.used → place c < place d

    -- Accepted I and S lines alone, as long as there were such lines, and room
    pub record Scans : Type 0 where
      pub run : Run
      pub within : place c ≤ length file → place d ≤ length file
      pub over : Room after → NoScan file d

    -- At least one line, or the end, where there was room
    pub record Fill : Type 0 where
      pub run : Run
      pub further : Room page → place c ≤ length file → place c < place d
