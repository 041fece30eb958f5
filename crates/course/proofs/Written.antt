-- What was written of the print of a file, a buffer at a time. Assumes nothing.
use Rattle.std.proofs.Common.{ℕ, ◌<◌, List, [], ◌++◌, length, sym, subst, append-nil, append_assoc}
use Rattle.std.specs.Prelude.{Option}
use Rattle.std.specs.Io.KnownBytes.{Appends}
use Rattle.std.proofs.KnownBytes.{Appends-trans}
use Rattle.report.specs.declared.page.Page.{Page}
use Rattle.course.specs.Walk.{Walk, place, Leads, Begin}
use Rattle.course.specs.Through.Through.{none}
use Rattle.course.proofs.ThroughLaws.{through_then}

-- what stands before the lines, and what those from the beginning up to here print
pub record Written {C : Type 0} (w : Walk C) (file : List ℕ) (before after : Option (List ℕ)) (here : C) : Type 0 where
  pub start : C
  pub page : Page
  pub begun : Page
  pub begin : Begin w file start page begun
  pub done : List ℕ
  pub through : Leads w file start done here
  pub bytes : Appends before after (w.opening file ++ done)

module _ {C : Type 0} {w : Walk C} {file : List ℕ} {before after : Option (List ℕ)} {c : C} where
  pub opening_written : {page begun : Page} → Begin w file c page begun → Appends before after (w.opening file) → Written w file before after c
  opening_written {page} {begun} b bytes =
      record { start = c; page = page; begun = begun; begin = b; done = []; through = none; bytes = subst (Appends before after) (sym (append-nil (w.opening file))) bytes }

  pub more_written : {d : C} {piece : List ℕ} {later : Option (List ℕ)} → Written w file before after c → Leads w file c piece d → Appends after later piece
      → Written w file before later d
  more_written {piece = piece} {later = later} x through bytes =
      record {
        start = x.start;
        page = x.page;
        begun = x.begun;
        begin = x.begin;
        done = x.done ++ piece;
        through = through_then x.through through;
        bytes = subst (Appends before later) (append_assoc (w.opening file) x.done piece) (Appends-trans _ _ _ _ _ x.bytes bytes);
      }

  pub all_written : Written w file before after c → length file < place w c → Appends before after (w.text file)
  all_written x past = subst (Appends before after) (sym (x.begin.whole x.through past)) x.bytes
