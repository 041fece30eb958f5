-- All definitions of a scan at once, for a proof that computes: `unfolding opened`.
use Rattle.words.specs.Word.{when◌then◌else◌, bit_of, is_set, without, without_bits, without_bit, with_bit}
use Rattle.rules.specs.Record.{ops₁, ops₂, local_mode, on_switch, off_switch, no_supply, forbid_on, forbid_off, reset, commands, direction, is_on, is_off, is_mu, is_ko, own_output, opposite_output, input_bit, flag, overdue_flag, risen, bit_risen, command_risen, idle, dropped, fresh_status, fresh, with_mode, with_positions, with_command, with_flags, with_previous, with_status}
use Rattle.rules.specs.Steps.{flags1, status1, read_on_switch, pair_read, read_switches, reading, position_read, is_sure, both_closed, flags2, pretended, status2, outputs_are_pulses, running, step3, confirms, confirmed, overdue, ended, end4, flags4, status4, time_up, pulse_over, drops, step4, faults_formed, supply_fault, switch_fault, closed_fault, put_flag, status5, modes_risen, mode_asked, reserve_allowed, mode_allowed, mode_changes, status6, acknowledges_off, acknowledges_on, flags7, status7, acknowledges, wrong_place, on_forbidden, off_forbidden, admitted, candidate, first_of, chosen, starts, displaces, issues, issued, flags9, turns_to_work, issue_status, status9, raises, raised, without_opposite, output9, issue, step9, status10, status1to6, status7to10, steps1to5, to_choice, half, close, step}
use Rattle.rules.specs.Refusals.{most_motors, settings_in_range, status_in_range, output_in_range, in_range, period_ok, word_ok, one_refusal, one_after, misfit, table_refusal, step_all, table_after, part_refusal, part_after}
use Rattle.rules.specs.Scans.{scans}

unfoldable pub opened : Type 0
unfolding when◌then◌else◌ bit_of is_set without without_bits without_bit with_bit ops₁ ops₂ local_mode on_switch off_switch no_supply forbid_on forbid_off reset commands direction is_on is_off is_mu is_ko own_output opposite_output input_bit flag overdue_flag risen bit_risen command_risen idle dropped fresh_status fresh with_mode with_positions with_command with_flags with_previous with_status flags1 status1 read_on_switch pair_read read_switches reading position_read is_sure both_closed flags2 pretended status2 outputs_are_pulses running step3 confirms confirmed overdue ended end4 flags4 status4 time_up pulse_over drops step4 faults_formed supply_fault switch_fault closed_fault put_flag status5 modes_risen mode_asked reserve_allowed mode_allowed mode_changes status6 acknowledges_off acknowledges_on flags7 status7 acknowledges wrong_place on_forbidden off_forbidden admitted candidate first_of chosen starts displaces issues issued flags9 turns_to_work issue_status status9 raises raised without_opposite output9 issue step9 status10 status1to6 status7to10 steps1to5 to_choice half close step most_motors settings_in_range status_in_range output_in_range in_range period_ok word_ok one_refusal one_after misfit table_refusal step_all table_after part_refusal part_after scans
opened = Unit {0}
