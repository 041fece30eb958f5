-- Lines put on a page one after another. Assumes nothing.
use Rattle.std.proofs.Common.{ℕ, ◌-◌, ◌<◌, ◌≤◌, ◌≡◌, Bool, true, false, List, [], ◌++◌, length, length-append, append-nil, refl, ltb-true, ltb-false, arith}
use Rattle.std.specs.Prelude.{ltb}
use Rattle.report.specs.declared.page.Page.{Page}
use Rattle.report.proofs.PutLaws.{put_length, puts_none, puts_then}
use Rattle.course.specs.Walk.{Walk, place, Leads, NoScan, Room, Advance, Run, Scans}
use Rattle.course.specs.Through.Through.{none}
use Rattle.course.proofs.ThroughLaws.{through_then}

module _ {C : Type 0} {w : Walk C} {file : List ℕ} {c : C} {page : Page} where
  pub nothing_yet : Run w file c page c page
  nothing_yet = record { piece = []; through = none; put = puts_none; fits = λ l. omega arith; onward = omega arith; moved = λ l. absurd (omega arith) }

  -- no scan is taken
  pub no_lines : (Room w page → NoScan w file c) → Scans w file c page c page
  no_lines over = record { run = nothing_yet; within = λ l. l; over = over }

  module _ {d : C} {mid : Page} (run : Run w file c page d mid) where
    -- scans end where no room is left, or where no accepted S line stands
    pub no_room : (place w c ≤ length file → place w d ≤ length file) → length mid.bytes.now - mid.used < w.most_put → Scans w file c page d mid
    no_room within full = record { run = run; within = within; over = λ room. absurd (omega (arith, room)) }

    pub none_here : (place w c ≤ length file → place w d ≤ length file) → NoScan w file d → Scans w file c page d mid
    none_here within no_scan = record { run = run; within = within; over = λ room. no_scan }

    -- lines that print nothing
    pub run_quietly : {e : C} → Leads w file d [] e → place w d ≤ place w e → Run w file c page e mid
    run_quietly through onward =
        record {
          piece = run.piece;
          through = rw (← append-nil run.piece) (through_then run.through through);
          put = run.put;
          fits = run.fits;
          onward = omega (arith, run.onward);
          moved = λ l. omega (arith, run.moved l);
        }

    -- one line more
    pub run_and_line : {e : C} {later : Page} → Room w mid → Advance w file d mid e later → Run w file c page e later
    run_and_line room a =
        let far = a.further in
        record {
          piece = run.piece ++ a.piece;
          through = through_then run.through a.through;
          put = puts_then run.put a.put;
          fits = λ l. omega (arith, length-append run.piece a.piece, run.fits l, run.put.put.place, put_length run.put.put, a.short);
          onward = omega (arith, run.onward);
          moved = λ l. omega (arith, run.onward);
        }

    -- more lines
    pub run_on : {e : C} {later : Page} → Run w file d mid e later → Run w file c page e later
    run_on {e} {later} more =
        record {
          piece = run.piece ++ more.piece;
          through = through_then run.through more.through;
          put = puts_then run.put more.put;
          fits = λ l. omega (arith, length-append run.piece more.piece, run.fits l, run.put.put.place, put_length run.put.put, more.fits);
          onward = omega (arith, run.onward, more.onward);
          moved = λ l. go l (ltb page.used mid.used) refl;
        }
      where
        go : page.used < later.used → (z : Bool) → ltb page.used mid.used ≡ z → place w c < place w e
        go l true z = omega (arith, run.moved (ltb-true page.used mid.used z), more.onward)
        go l false z = omega (arith, run.onward, more.moved (omega (arith, ltb-false page.used mid.used z)))
