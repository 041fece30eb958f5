-- All definitions of a dump's text at once, for a proof that computes: `unfolding opened`, with those of words, sheet and report.
use Rattle.words.specs.Word.{when◌then◌else◌}
use Rattle.octets.specs.Split.{joined}
use Rattle.vcd.specs.Text.{word_line, code_of, on_name, off_name, wire_line, wires_from, frame_start, frame_end, header_of, time_line, digit_of, value_line, values_from, differs, change_line, changes_from, timed, opening_of, samples_text, recording_text}

unfoldable pub opened : Type 0
unfolding when◌then◌else◌ joined word_line code_of on_name off_name wire_line wires_from frame_start frame_end header_of time_line digit_of value_line values_from differs change_line changes_from timed opening_of samples_text recording_text
opened = Unit {0}
