-- Laws of the lines of a dump. Assumes nothing.
use Prim.Native.Nat.{ℕ, zero, suc, ◌+◌, ◌*◌, ◌≤◌}
use mathlib.Core.Path.{◌≡◌, refl, ap}
use mathlib.Core.Bool.{Bool, true, false}
use Rattle.std.specs.Bool.{beq}
use mathlib.Core.List.{List, [], ◌∷◌, ◌++◌, append_assoc}
use native.Mathlib.Omega.{arith}
use lib.ListN.{length, length-append}
use Rattle.words.specs.Word.{when◌then◌else◌}
use Rattle.words.proofs.Laws.{either}
use Rattle.octets.specs.Split.{joined}
use Rattle.report.specs.Print.{decimal}
use Rattle.report.proofs.PrintLaws.{decimal_length}
use Rattle.vcd.specs.Text.{blank, word_line, word_one, word_var, word_wire, word_end, code_of, on_name, off_name, wire_line, wires_from, frame_start, frame_end, header_of, time_line, value_line, values_from, differs, change_line, changes_from, timed, opening_of}

-- ---- a wire's line in two parts

-- up to the number of its motor
unfoldable pub wire_start : ℕ → ℕ → List ℕ
wire_start code number = joined blank (word_var ∷ word_wire ∷ word_one ∷ (code ∷ []) ∷ (109 ∷ decimal number) ∷ [])

-- and from the end of its name on
pub wire_parts : (code number : ℕ) (end : List ℕ) → wire_line (code ∷ []) (109 ∷ decimal number ++ end) ≡ wire_start code number ++ (end ++ 32 ∷ word_end ++ 10 ∷ [])
unfolding wire_line wire_start word_line joined
wire_parts code number end = simp append_assoc

-- ---- changes, and a time before them

-- a signal that changed
pub changed_line : (code : List ℕ) (v w : Bool) → beq v w ≡ false → change_line code v w ≡ value_line code w
unfolding change_line differs when◌then◌else◌
changed_line code v w h = rw h refl

-- signals of which none changed
pub changes_same : (i : ℕ) (vs : List Bool) → changes_from i vs vs ≡ []
unfolding changes_from change_line differs when◌then◌else◌
changes_same i [] = refl
changes_same i (true ∷ vs) = changes_same (i + 1) vs
changes_same i (false ∷ vs) = changes_same (i + 1) vs

-- a line behind a time
pub line_timed : (time : ℕ) (code : List ℕ) (v : Bool) → timed time (value_line code v) ≡ time_line time ++ value_line code v
unfolding timed value_line word_line joined
line_timed time code v = refl

timed_some : (time : ℕ) (changes : List ℕ) → (changes ≡ [] → ⊥) → timed time changes ≡ time_line time ++ changes
unfolding timed
timed_some time [] h = absurd (h refl)
timed_some time (b ∷ bs) h = refl

pub timed_none : (time : ℕ) → timed time [] ≡ []
unfolding timed
timed_none time = refl

-- ---- lengths

pub time_length : (time : ℕ) → length (time_line time) ≤ 12
unfolding time_line word_line joined
time_length time = omega (arith, length-append (decimal time) (10 ∷ []), decimal_length time)

start_length : (i number : ℕ) → length (wire_start (33 + i) number) ≤ 25
unfolding wire_start joined
start_length i number = omega (arith, decimal_length number)

wires_length : (i number n : ℕ) → length (wires_from i number n) ≤ 67 * n
unfolding wires_from code_of on_name off_name
wires_length i number zero = omega arith
wires_length i number (suc n) =
    let on = wire_line ((33 + i) ∷ []) (on_name number) in
    let off = wire_line ((33 + (i + 1)) ∷ []) (off_name number) in
    let rest = wires_from (i + 2) (number + 1) n in
    let e : length (wires_from i number (suc n)) ≡ length ((on ++ off) ++ rest) = refl in
    omega (
      arith,
      e,
      length-append (on ++ off) rest,
      length-append on off,
      ap length (wire_parts (33 + i) number (111 ∷ 110 ∷ [])),
      ap length (wire_parts (33 + (i + 1)) number (111 ∷ 102 ∷ 102 ∷ [])),
      length-append (wire_start (33 + i) number) (111 ∷ 110 ∷ 32 ∷ 36 ∷ 101 ∷ 110 ∷ 100 ∷ 10 ∷ []),
      length-append (wire_start (33 + (i + 1)) number) (111 ∷ 102 ∷ 102 ∷ 32 ∷ 36 ∷ 101 ∷ 110 ∷ 100 ∷ 10 ∷ []),
      start_length i number,
      start_length (i + 1) number,
      wires_length (i + 2) (number + 1) n,
    )

value_length : (i : ℕ) (v : Bool) → length (value_line (code_of i) v) ≡ 3
unfolding value_line word_line joined code_of
value_length i v = refl

values_length : (i : ℕ) (vs : List Bool) → length (values_from i vs) ≡ 3 * length vs
unfolding values_from
values_length i [] = refl
values_length i (v ∷ vs) = omega (arith, length-append (value_line (code_of i) v) (values_from (i + 1) vs), value_length i v, values_length (i + 1) vs)

change_length : (i : ℕ) (v w : Bool) → length (change_line (code_of i) v w) ≤ 3
unfolding change_line
change_length i v w = either (λ (l : List ℕ). length l ≤ 3) (differs v w) (omega (arith, value_length i w)) (omega arith)

changes_length : (i : ℕ) (vs ws : List Bool) → length (changes_from i vs ws) ≤ 3 * length vs
unfolding changes_from
changes_length i [] ws = omega arith
changes_length i (v ∷ vs) [] = omega arith
changes_length i (v ∷ vs) (w ∷ ws) = omega (arith, length-append (change_line (code_of i) v w) (changes_from (i + 1) vs ws), change_length i v w, changes_length (i + 1) vs ws)

pub timed_length : (time : ℕ) (vs ws : List Bool) → length (timed time (changes_from 0 vs ws)) ≤ 12 + 3 * length vs
timed_length time vs ws = go (changes_from 0 vs ws) (changes_length 0 vs ws)
  where
    go : (l : List ℕ) → length l ≤ 3 * length vs → length (timed time l) ≤ 12 + 3 * length vs
    go [] h = rw (timed_none time) (omega arith)
    go (b ∷ bs) h =
        rw (timed_some time (b ∷ bs) (λ e. let z : ◌≡◌ {A = ℕ} 0 1 = cc in omega arith)) (omega (arith, length-append (time_line time) (b ∷ bs), time_length time))

pub opening_length : (motors : ℕ) (signals : List Bool) → length (opening_of motors signals) ≤ 93 + 67 * motors + 3 * length signals
unfolding opening_of header_of frame_start frame_end word_line joined
opening_length motors signals =
    let wires = wires_from 0 1 motors in
    let values = values_from 0 signals in
    omega (
      arith,
      length-append (header_of motors ++ time_line 0) values,
      length-append (header_of motors) (time_line 0),
      length-append (frame_start ++ wires) frame_end,
      length-append frame_start wires,
      wires_length 0 1 motors,
      time_length 0,
      values_length 0 signals,
    )
