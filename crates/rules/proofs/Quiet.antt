-- Steps that leave everything as it is, so that code may pass them over: 6 to 9 where no bit of the word has risen, and 3 and 4 where no
-- command is under way and no pulse is running. Assumes nothing.
use Prim.Native.Nat.{ℕ}
use mathlib.Core.Path.{◌≡◌, refl, sym, ◌∙◌}
use mathlib.Core.Bool.{Bool, true, false, and-false}
use native.Mathlib.Nat.{zero-div}
use Rattle.words.specs.Word.{when◌then◌else◌, bit_of, is_set}
use Rattle.words.proofs.Laws.{either}
use Rattle.rules.specs.declared.Settings.{Settings}
use Rattle.rules.specs.declared.Status.{Status}
use Rattle.rules.specs.declared.Motor.{Motor}
use Rattle.rules.specs.Record.{no_command, commands, input_bit, risen, bit_risen, command_risen, idle, with_mode, with_positions, with_command, with_flags, with_status}
use Rattle.rules.specs.Resting.{idle_status}
use Rattle.rules.specs.Steps.{status1, reading, status2, step3, step4, status4, end4, flags4, ended, confirmed, overdue, drops, running, status5, modes_risen, mode_changes, status6, acknowledges_off, acknowledges_on, flags7, status7, candidate, first_of, chosen, starts, displaces, issues, issued, step9, status10, steps1to5, to_choice, half, close}

module _ (s : Settings) (v : Status) (word : ℕ) (none : risen v word ≡ 0) where
  no_bit : (k : ℕ) → bit_risen v word k ≡ false
  unfolding bit_risen is_set bit_of
  no_bit k = rw (none, zero-div) refl

  no_mode : status6 s v word ≡ v
  unfolding status6 mode_changes modes_risen with_mode when◌then◌else◌
  no_mode = simp (no_bit 9, no_bit 10, no_bit 11, and-false)

  no_acknowledgement : status7 s v word ≡ v
  unfolding status7 flags7 acknowledges_off acknowledges_on command_risen input_bit with_flags when◌then◌else◌
  no_acknowledgement = simp (no_bit 13, no_bit 12, and-false)

  no_choice : chosen s v word ≡ 0
  unfolding chosen first_of commands candidate command_risen input_bit when◌then◌else◌
  no_choice = simp (no_bit 0, no_bit 8, no_bit 7, no_bit 3, no_bit 2, no_bit 13, no_bit 12)

pub quiet : (m : Motor) (word period : ℕ) → risen m.status word ≡ 0
    → half m word period ≡ record { motor = steps1to5 m word period; chosen = no_command }
unfolding half to_choice with_status risen
quiet m word period none =
    let n = steps1to5 m word period in
    let e : n.status.previous ≡ m.status.previous = unfold steps1to5 with_status step4 step3 status5 status4 status2 status1 with_flags with_command with_positions in refl in
    let z : risen n.status word ≡ 0 = rw e none in
    rw (no_mode n.settings n.status word z, no_acknowledgement n.settings n.status word z, no_choice n.settings n.status word z) refl

-- With none chosen none is issued, and step 10 alone is left of the second half.
none_issued : (v : Status) → issued v no_command ≡ no_command
unfolding issued issues starts displaces when◌then◌else◌
none_issued v = either (λ (t : Bool). ◌≡◌ {A = ℕ} (when t then 0 else 0) 0) (idle v) refl refl

pub closed : (m : Motor) (word : ℕ) → close (record { motor = m; chosen = no_command }) word ≡ with_status m (status10 m.status word)
unfolding close step9 when◌then◌else◌
closed m word = rw (none_issued m.status) refl

-- Where no command is under way and no pulse runs, steps 3 and 4 leave everything as it is.
pub idle_first : (m : Motor) (word period : ℕ) → idle m.status ≡ true → running m.settings m.output ≡ false
    → steps1to5 m word period ≡ with_status m (idle_status m.settings m.status word (reading m.settings word))
unfolding idle_status steps1to5 step4 step3 running status4 end4 flags4 ended drops confirmed overdue with_command with_flags with_status status2 status1 with_positions idle when◌then◌else◌
idle_first m word period e f = rw (e, f) refl
