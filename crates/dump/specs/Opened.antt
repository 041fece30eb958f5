-- All definitions of the dump of a file at once, for a proof that computes: `unfolding opened`, with those of the crates below.
use Rattle.words.specs.Word.{when◌then◌else◌}
use Rattle.dump.specs.Dump.{signals_of, time_after, sample_of, samples_from, is_scan, motors_before_scans, opening, requests_dump, dump_of}

unfoldable pub opened : Type 0
unfolding when◌then◌else◌ signals_of time_after sample_of samples_from is_scan motors_before_scans opening requests_dump dump_of
opened = Unit {0}
