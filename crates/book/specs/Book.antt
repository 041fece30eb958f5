-- The book of commands: rules 5.3 and 5.4. Its time is added up from the periods of the history.
use Rattle.std.specs.Prelude.{ℕ, ◌+◌, Bool, eqb, leb, ltb}
use Rattle.words.specs.Word.{when◌then◌else◌}
use Rattle.rules.specs.declared.Settings.{Settings}
use Rattle.rules.specs.declared.Status.{Status}
use Rattle.rules.specs.Record.{no_command, fresh_status}
use Rattle.rules.specs.Steps.{chosen, issued, status1to6, status7to10}
use Rattle.rules.specs.Scans.{Input}
use Rattle.book.specs.Log.{Log, none, ◌▸◌, count}

-- A status, which has no sums and no output, and the number of the scan that issued the command under way
pub record Book : Type 0 where
  pub status : Status
  pub issue : ℕ

-- the periods of the scans after scan i, added up
unfoldable pub since : ℕ → Log Input → ℕ
since i none = 0
since i (h ▸ x) = since i h + (when ltb i (count (h ▸ x)) then x.period else 0)

-- the monitoring time of a command issued in scan i is up with the last scan of h
unfoldable pub is_up : Settings → ℕ → Log Input → Bool
is_up s i h = leb s.w (since i h)

-- Steps 1 and 2, the end of a command under way, steps 5 and 6; h is the history up to and with this scan, whose word is given.
unfoldable pub book1to6 : Settings → Book → Log Input → ℕ → Status
book1to6 s b h word = status1to6 s b.status word (is_up s b.issue h)

-- Steps 7 to 10: a command that is issued gets the number of this scan.
unfoldable pub book_scan : Settings → Book → Log Input → ℕ → Book
book_scan s b h word =
    let v = book1to6 s b h word in
    record {
      status = status7to10 s v word;
      issue = when eqb (issued v (chosen s v word)) no_command then b.issue else count h;
    }

-- From a fresh status on, scan by scan
unfoldable pub book_of : Settings → Log Input → Book
book_of s none = record { status = fresh_status; issue = 0 }
book_of s (h ▸ x) = book_scan s (book_of s h) (h ▸ x) x.word
