-- All definitions of the totals at once, with the book's that they rest on, for a proof that computes: `unfolding opened`.
use Rattle.words.specs.Word.{when◌then◌else◌}
use Rattle.book.specs.Log.{count}
use Rattle.book.specs.Book.{since, is_up, book1to6, book_scan, book_of}
use Rattle.totals.specs.Totals.{scans_with, last_issued, last_ended, issued_of, confirmed_of, displaced_of, overdue_of, under_way_in, under_way_of, on_of, times_of, least, greatest, best_of, worst_of, totals_of}

unfoldable pub opened : Type 0
unfolding when◌then◌else◌ count since is_up book1to6 book_scan book_of scans_with last_issued last_ended issued_of confirmed_of displaced_of overdue_of under_way_in under_way_of on_of times_of least greatest best_of worst_of totals_of
opened = Unit {0}
