-- All definitions of lines, fields and requests at once, for a proof that computes: `unfolding opened`.
use Rattle.words.specs.Word.{when◌then◌else◌}
use Rattle.octets.specs.Split.{join_first, split, joined, index_of, found_byte, between, field_of, field_count}
use Rattle.sheet.specs.Lines.{well_sized, text_of, texts_of, lines_of, first_line, line_at}
use Rattle.octets.specs.Number.{is_digit, value_from, digits_number, leading_zero, number_of}
use Rattle.sheet.specs.WordField.{is_hex_digit, hex_digit, hex_from, is_hex_count, hex_number, has0x, word_of, hex_digit_of, hex_digits_of, hexadecimal}
use Rattle.sheet.specs.Grammar.{letter_of, is_kind, number_in, word_in, with_value, motor_from, input_from, scan_from, motor_of, input_of, scan_of, request_of, text_request, requests_of, taken_at, next_at, request_refusal, values_of}
use Rattle.sheet.specs.DecimalWords.{decimal_motor, decimal_input, decimal_scan, decimal_request, decimal_text, decimal_requests, line_has0x, text_has0x}

unfoldable pub opened : Type 0
unfolding when◌then◌else◌ join_first split joined index_of found_byte between field_of field_count well_sized text_of texts_of lines_of first_line line_at is_digit value_from digits_number leading_zero number_of is_hex_digit hex_digit hex_from is_hex_count hex_number has0x word_of hex_digit_of hex_digits_of hexadecimal letter_of is_kind number_in word_in with_value motor_from input_from scan_from motor_of input_of scan_of request_of text_request requests_of taken_at next_at request_refusal values_of decimal_motor decimal_input decimal_scan decimal_request decimal_text decimal_requests line_has0x text_has0x
opened = Unit {0}
