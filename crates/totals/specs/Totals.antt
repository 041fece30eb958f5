-- The totals of a motor, rule 8.3. Each is taken by itself from settings and history, and from the book of commands that is kept from these.
-- Times are milliseconds.
use Rattle.std.specs.Prelude.{ℕ, ◌+◌, min, max, Bool, not, ◌&&◌, List, [], ◌∷◌, eqb}
use Rattle.words.specs.Word.{when◌then◌else◌}
use Rattle.rules.specs.declared.Settings.{Settings}
use Rattle.rules.specs.declared.Status.{Status}
use Rattle.rules.specs.Record.{on, end_confirmed, end_displaced, end_overdue, idle}
use Rattle.rules.specs.Steps.{reading, position_read}
use Rattle.rules.specs.Scans.{Input}
use Rattle.book.specs.Log.{Log, none, ◌▸◌, count}
use Rattle.book.specs.Book.{since, book_of}
use Rattle.totals.specs.declared.Totals.{Totals}

-- `h ▸ x` is the history h and then the scan x. How many scans of a history pass a test, which is given the history up to and with the scan
unfoldable pub scans_with : (Log Input → Bool) → Log Input → ℕ
scans_with test none = 0
scans_with test (h ▸ x) = scans_with test h + (when test (h ▸ x) then 1 else 0)

-- The last scan issued a command: the book has one under way, entered with that scan's number.
unfoldable pub last_issued : Settings → Log Input → Bool
last_issued s h = not (idle (book_of s h).status) && eqb (book_of s h).issue (count h)

-- The last scan ended a command in this way: the book's end says so.
unfoldable pub last_ended : ℕ → Settings → Log Input → Bool
last_ended end s h = eqb (book_of s h).status.end end

-- Issued, confirmed, displaced and overdue commands
unfoldable pub issued_of : Settings → Log Input → ℕ
issued_of s h = scans_with (last_issued s) h

unfoldable pub confirmed_of : Settings → Log Input → ℕ
confirmed_of s h = scans_with (last_ended end_confirmed s) h

unfoldable pub displaced_of : Settings → Log Input → ℕ
displaced_of s h = scans_with (last_ended end_displaced s) h

unfoldable pub overdue_of : Settings → Log Input → ℕ
overdue_of s h = scans_with (last_ended end_overdue s) h

-- Under way: 1 if a command is, after the last scan, otherwise 0
unfoldable pub under_way_in : Status → ℕ
under_way_in v = when idle v then 0 else 1

unfoldable pub under_way_of : Settings → Log Input → ℕ
under_way_of s h = under_way_in (book_of s h).status

-- On: what the periods of the scans come to that read On. A pretended position does not count.
unfoldable pub on_of : Settings → Log Input → ℕ
on_of s none = 0
on_of s (h ▸ x) = on_of s h + (when eqb (position_read (reading s x.word)) on then x.period else 0)

-- The time from issue to confirmation of each command that was confirmed, the last of them first. Where the scan x confirms one, `book_of s h`
-- has it under way.
unfoldable pub times_of : Settings → Log Input → List ℕ
times_of s none = []
times_of s (h ▸ x) = when last_ended end_confirmed s (h ▸ x) then since (book_of s h).issue (h ▸ x) ∷ times_of s h else times_of s h

-- the least and the greatest of some numbers; 0 if there are none
unfoldable pub least : List ℕ → ℕ
least [] = 0
least (n ∷ []) = n
least (n ∷ m ∷ ns) = min n (least (m ∷ ns))

unfoldable pub greatest : List ℕ → ℕ
greatest [] = 0
greatest (n ∷ ns) = max n (greatest ns)

-- Best and worst of these times
unfoldable pub best_of : Settings → Log Input → ℕ
best_of s h = least (times_of s h)

unfoldable pub worst_of : Settings → Log Input → ℕ
worst_of s h = greatest (times_of s h)

-- All of a T line but its number and under way
unfoldable pub totals_of : Settings → Log Input → Totals
totals_of s h =
    record {
      issued = issued_of s h;
      confirmed = confirmed_of s h;
      displaced = displaced_of s h;
      overdue = overdue_of s h;
      on = on_of s h;
      best = best_of s h;
      worst = worst_of s h;
    }
