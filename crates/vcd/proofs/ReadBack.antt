-- What is recorded is read back: the time scale, the wires of the motors, and at each time the signals that the last scan up to it left; of
-- no other code anything is said. Assumes nothing.
use Prim.Native.Nat.{ℕ, zero, suc, ◌+◌, ◌*◌, ◌<◌, ◌≤◌}
use mathlib.Core.Path.{◌≡◌, refl, ap, ◌∙◌}
use mathlib.Core.Bool.{Bool, true, false, not, ◌&&◌, and-false, and-true}
use mathlib.Core.List.{List, [], ◌∷◌, ◌++◌, append_assoc, append-nil, map}
use native.Mathlib.Omega.{arith}
use native.Mathlib.Decide.{dec_lt}
use lib.Dec.{eqb, leb}
use lib.ListN.{length, get_or, length-map}
use borrow.Author.Tests.{eq-eqb, ne_eqb, le-leb, lt-leb, leb-true, leb-false}
use Rattle.words.specs.Word.{when◌then◌else◌}
use Rattle.words.proofs.Laws.{either}
use Rattle.octets.specs.Number.{largest, value_from}
use Rattle.octets.proofs.NumberLaws.{number_spells}
use Rattle.std.proofs.lemmas.Bool.{or_parts}
use Rattle.report.specs.Print.{decimal}
use Rattle.report.proofs.ReadBack.{read_back}
use Rattle.vcd.specs.Text.{word_one, word_ms, word_var, word_wire, word_end, code_of, on_name, off_name, wires_from, frame_start, frame_end, header_of, time_line, digit_of, value_line, values_from, differs, change_line, changes_from, timed, opening_of, Sample, samples_text, recording_text}
use Rattle.vcd.specs.Reader.{end_word, parts_of, present, words_in, same, scale_in, Wire, wires_in, declared, changes_in, unknown, last_value, scale_of, wires_of, value_at}
use Rattle.vcd.specs.Expected.{wire_of, motor_wires, signals_at, bit}
use Rattle.vcd.proofs.Words.{frame_start_words, frame_end_words, motor_words, time_words, value_words}

-- times do not fall, from a time on, and are numbers of 32 bits
abbrev pub Rising : ℕ → List Sample → Type 0
Rising from [] = Unit {0}
Rising from (s ∷ ss) = (from ≤ s.time) × (s.time ≤ largest) × Rising s.time ss

-- each sample has n signals
abbrev pub SameWidth : ℕ → List Sample → Type 0
SameWidth n [] = Unit {0}
SameWidth n (s ∷ ss) = (length s.signals ≡ n) × SameWidth n ss

-- ---- the parts of a dump

-- all values are the changes from the opposite values
all_changes : (i : ℕ) (vs : List Bool) → values_from i vs ≡ changes_from i (map not vs) vs
unfolding values_from changes_from change_line differs when◌then◌else◌
all_changes i [] = refl
all_changes i (true ∷ vs) = rw (all_changes (i + 1) vs)
all_changes i (false ∷ vs) = rw (all_changes (i + 1) vs)

parts : (motors : ℕ) (first : List Bool) (samples : List Sample)
    → recording_text motors first samples
    ≡ frame_start ++ (wires_from 0 1 motors ++ (frame_end ++ (time_line 0 ++ (changes_from 0 (map not first) first ++ samples_text first samples))))
unfolding recording_text opening_of header_of
parts motors first samples = rw (all_changes 0 first, append_assoc, append_assoc, append_assoc, append_assoc)

-- a time before its changes, whether there are any or none
timed_lines : (P : List ℕ → Type 0) (time : ℕ) (changes rest : List ℕ) → (changes ≡ [] → P rest) → P (time_line time ++ (changes ++ rest))
    → P (timed time changes ++ rest)
unfolding timed
timed_lines P time [] rest p q = p refl
timed_lines P time (b ∷ bs) rest p q = rw (append_assoc (time_line time) (b ∷ bs) rest) q

-- ---- the time scale, and the wires

-- A dump gives its times in ms.
pub scale_back : (motors : ℕ) (first : List Bool) (samples : List Sample) → scale_of (recording_text motors first samples) ≡ word_one ∷ word_ms ∷ []
unfolding scale_of scale_in same when◌then◌else◌
scale_back motors first samples = rw (parts motors first samples, frame_start_words)

wires_declare : (i number n : ℕ) (rest : List ℕ) → wires_in (words_in (wires_from i number n ++ rest)) ≡ motor_wires i number n ++ wires_in (words_in rest)
unfolding wires_from motor_wires wire_of wires_in same when◌then◌else◌ code_of on_name off_name
wires_declare i number zero rest = refl
wires_declare i number (suc n) rest =
    rw (motor_words i number n rest, and-false (eqb (33 + i) 36), and-false (eqb (33 + (i + 1)) 36), wires_declare (i + 2) (number + 1) n rest)

-- nothing else declares one
value_silent : (i : ℕ) (value : Bool) (rest : List ℕ) → wires_in (words_in (value_line (code_of i) value ++ rest)) ≡ wires_in (words_in rest)
unfolding wires_in same digit_of when◌then◌else◌
value_silent i true rest = rw (value_words i true rest)
value_silent i false rest = rw (value_words i false rest)

changes_silent : (i : ℕ) (vs ws : List Bool) (rest : List ℕ) → wires_in (words_in (changes_from i vs ws ++ rest)) ≡ wires_in (words_in rest)
unfolding changes_from change_line
changes_silent i [] ws rest = refl
changes_silent i (v ∷ vs) [] rest = refl
changes_silent i (v ∷ vs) (w ∷ ws) rest =
    let others = changes_from (i + 1) vs ws ++ rest in
    rw append_assoc
    (either (λ (text : List ℕ). wires_in (words_in (text ++ others)) ≡ wires_in (words_in others)) (differs v w) (value_silent i w others) refl
    ∙ changes_silent (i + 1) vs ws rest)

time_silent : (time : ℕ) (rest : List ℕ) → wires_in (words_in (time_line time ++ rest)) ≡ wires_in (words_in rest)
unfolding wires_in same when◌then◌else◌
time_silent time rest = rw (time_words time rest)

samples_silent : (before : List Bool) (ss : List Sample) → wires_in (words_in (samples_text before ss)) ≡ []
unfolding samples_text words_in parts_of present wires_in
samples_silent before [] = refl
samples_silent before (s ∷ ss) =
    let changes = changes_from 0 before s.signals in
    let later = samples_text s.signals ss in
    let none = samples_silent s.signals ss in
    timed_lines (λ (text : List ℕ). wires_in (words_in text) ≡ []) s.time changes later (λ _. none)
    (time_silent s.time (changes ++ later) ∙ changes_silent 0 before s.signals later ∙ none)

-- A dump declares the wires of its motors, whatever is recorded in it.
pub wires_back : (motors : ℕ) (first : List Bool) (samples : List Sample) → wires_of (recording_text motors first samples) ≡ motor_wires 0 1 motors
unfolding wires_of wires_in same when◌then◌else◌
wires_back motors first samples =
    rw (parts motors first samples, frame_start_words, wires_declare 0 1 motors, frame_end_words, time_silent 0, changes_silent 0 (map not first) first, samples_silent first samples)
    (append-nil _)

-- ---- the value of a code at a time, line by line

same_code : (i : ℕ) → same (code_of i) (code_of i) ≡ true
unfolding same code_of
same_code i = rw (eq-eqb (33 + i) (33 + i) refl)

other_code : (i j : ℕ) → (i ≡ j → ⊥) → same (code_of i) (code_of j) ≡ false
unfolding same code_of
other_code i j n = rw (ne_eqb (33 + i) (33 + j) (λ e. n (omega arith)))

value_decimal : (n : ℕ) → n ≤ largest → value_from 0 (decimal n) ≡ n
value_decimal n h = (number_spells (decimal n) n (read_back n h)).0.value

-- a section goes on up to its end
section_goes : (time : ℕ) (w : List ℕ) (words : List (List ℕ)) → same w end_word ≡ false → changes_in true time (w ∷ words) ≡ changes_in true time words
unfolding changes_in
section_goes time w words e = ap (λ (b : Bool). changes_in (not b) time words) e

-- a declaration is no change
wire_skipped : (time i : ℕ) (name : List ℕ) (words : List (List ℕ))
    → changes_in false time (word_var ∷ word_wire ∷ word_one ∷ code_of i ∷ (109 ∷ name) ∷ word_end ∷ words) ≡ changes_in false time words
unfolding changes_in same when◌then◌else◌ code_of
wire_skipped time i name words = section_goes time (code_of i) ((109 ∷ name) ∷ word_end ∷ words) (and-false (eqb (33 + i) 36))

module _ (code : List ℕ) (at : ℕ) where
  -- what a reader makes of a text, with a value and a time so far
  unfoldable reads : ℕ → ℕ → List ℕ → ℕ
  reads v time text = last_value v (changes_in false time (words_in text)) code at

  wires_read : (v time i number n : ℕ) (rest : List ℕ) → reads v time (wires_from i number n ++ rest) ≡ reads v time rest
  unfolding wires_from on_name off_name reads
  wires_read v time i number zero rest = refl
  wires_read v time i number (suc n) rest =
      rw (motor_words i number n rest, wire_skipped time i, wire_skipped time (i + 1)) (wires_read v time (i + 2) (number + 1) n rest)

  start_read : (v time : ℕ) (rest : List ℕ) → reads v time (frame_start ++ rest) ≡ reads v time rest
  unfolding reads changes_in same when◌then◌else◌
  start_read v time rest = rw (frame_start_words rest)

  end_read : (v time : ℕ) (rest : List ℕ) → reads v time (frame_end ++ rest) ≡ reads v time rest
  unfolding reads changes_in same when◌then◌else◌
  end_read v time rest = rw (frame_end_words rest)

  time_read : (v time new : ℕ) (rest : List ℕ) → new ≤ largest → reads v time (time_line new ++ rest) ≡ reads v new rest
  unfolding reads changes_in when◌then◌else◌
  time_read v time new rest h = rw (time_words new rest, value_decimal new h)

  value_read : (v time i : ℕ) (w : Bool) (rest : List ℕ)
      → reads v time (value_line (code_of i) w ++ rest) ≡ reads (when same (code_of i) code && leb time at then bit w else v) time rest
  unfolding reads changes_in last_value digit_of bit when◌then◌else◌
  value_read v time i true rest = rw (value_words i true rest)
  value_read v time i false rest = rw (value_words i false rest)

  change_read : (v time i : ℕ) (changed w : Bool) (rest : List ℕ)
      → reads v time ((when changed then value_line (code_of i) w else []) ++ rest)
      ≡ reads (when changed && (same (code_of i) code && leb time at) then bit w else v) time rest
  unfolding when◌then◌else◌
  change_read v time i true w rest = value_read v time i w rest
  change_read v time i false w rest = refl

  -- changes of other signals, or after the time asked for
  changes_pass : (v time k : ℕ) (vs ws : List Bool) (rest : List ℕ) → ((i : ℕ) → k ≤ i → i < k + length vs → same (code_of i) code && leb time at ≡ false)
      → reads v time (changes_from k vs ws ++ rest) ≡ reads v time rest
  unfolding changes_from change_line when◌then◌else◌
  changes_pass v time k [] ws rest none = refl
  changes_pass v time k (x ∷ vs) [] rest none = refl
  changes_pass v time k (x ∷ vs) (y ∷ ws) rest none =
      rw (append_assoc, change_read v time k (differs x y) y, none k (omega arith) (omega arith), and-false (differs x y))
      (changes_pass v time (k + 1) vs ws rest (λ i h l. none i (omega arith) (omega arith)))

  -- a time is left out if nothing changes
  timed_read : (v w time new r : ℕ) (changes rest : List ℕ) → new ≤ largest → ((rest : List ℕ) → reads v new (changes ++ rest) ≡ reads w new rest)
      → ((time : ℕ) → reads w time rest ≡ r) → reads v time (timed new changes ++ rest) ≡ r
  unfolding reads words_in parts_of present changes_in last_value
  timed_read v w time new r changes rest h e later =
      timed_lines (λ (text : List ℕ). reads v time text ≡ r) new changes rest
      (λ none. let f : v ≡ w = rw none at (e []) in rw f (later time))
      (time_read v time new (changes ++ rest) h ∙ e rest ∙ later new)

-- ---- the samples

-- the changes of signal i, which is signal j of those from signal k on
changes_read : (i at v time k j : ℕ) (vs ws : List Bool) (rest : List ℕ) → i ≡ k + j → j < length vs → j < length ws → time ≤ at
    → reads (code_of i) at v time (changes_from k vs ws ++ rest)
    ≡ reads (code_of i) at (when differs (get_or vs j false) (get_or ws j false) then bit (get_or ws j false) else v) time rest
unfolding changes_from change_line when◌then◌else◌
changes_read i at v time k j [] ws rest e h g l = absurd (omega arith)
changes_read i at v time k j (x ∷ vs) [] rest e h g l = absurd (omega arith)
changes_read i at v time k zero (x ∷ vs) (y ∷ ws) rest e h g l =
    let this : k ≡ i = omega arith in
    rw (append_assoc, change_read (code_of i) at v time k (differs x y) y, this, same_code i, le-leb time at l, and-true (differs x y))
    (changes_pass (code_of i) at _ time (i + 1) vs ws rest (λ m b _. rw (other_code m i (λ q. omega arith))))
changes_read i at v time k (suc j) (x ∷ vs) (y ∷ ws) rest e h g l =
    rw (append_assoc, change_read (code_of i) at v time k (differs x y) y, other_code k i (λ q. omega arith), and-false (differs x y))
    (changes_read i at v time (k + 1) j vs ws rest (omega arith) (omega arith) (omega arith) l)

-- the value before is right if nothing changed
settled : (x y : Bool) → (when differs x y then bit y else bit x) ≡ bit y
unfolding differs when◌then◌else◌
settled true true = refl
settled true false = refl
settled false true = refl
settled false false = refl

-- what comes after a time is not seen at it
later_unread : (code : List ℕ) (at v time from : ℕ) (before : List Bool) (ss : List Sample) → at < from → Rising from ss
    → reads code at v time (samples_text before ss) ≡ v
unfolding samples_text reads words_in parts_of present changes_in last_value
later_unread code at v time from before [] h r = refl
later_unread code at v time from before (s ∷ ss) h r =
    let new : from ≤ s.time = r.0 in
    timed_read code at v v time s.time v (changes_from 0 before s.signals) (samples_text s.signals ss) r.1
    (λ rest. changes_pass code at v s.time 0 before s.signals rest (λ i _ _. rw (lt-leb s.time at (omega arith), and-false (same (code_of i) code))))
    (λ u. later_unread code at v u s.time s.signals ss (omega arith) r.2)

later_signals : (at from : ℕ) (before : List Bool) (ss : List Sample) → at < from → Rising from ss → signals_at before ss at ≡ before
unfolding signals_at when◌then◌else◌
later_signals at from before [] h r = refl
later_signals at from before (s ∷ ss) h r =
    let new : from ≤ s.time = r.0 in rw (lt-leb s.time at (omega arith)) (later_signals at s.time before ss (omega arith) r.2)

-- from the right value before the samples to the right value after them
samples_read : (i at v time from n : ℕ) (before : List Bool) (ss : List Sample) → Rising from ss → SameWidth n ss → length before ≡ n → i < n
    → v ≡ bit (get_or before i false) → reads (code_of i) at v time (samples_text before ss) ≡ bit (get_or (signals_at before ss at) i false)
unfolding samples_text signals_at when◌then◌else◌ reads words_in parts_of present changes_in last_value
samples_read i at v time from n before [] r l m h e = e
samples_read i at v time from n before (s ∷ ss) r l m h e =
    go (leb s.time at) refl (λ u. samples_read i at (bit (get_or s.signals i false)) u s.time n s.signals ss r.2 l.1 l.0 h refl)
  where
    later : List ℕ
    later = samples_text s.signals ss

    go : (b : Bool) → leb s.time at ≡ b
        → ((u : ℕ) → reads (code_of i) at (bit (get_or s.signals i false)) u later ≡ bit (get_or (signals_at s.signals ss at) i false))
        → reads (code_of i) at v time (timed s.time (changes_from 0 before s.signals) ++ later)
        ≡ bit (get_or (signals_at (when b then s.signals else before) ss at) i false)
    go true f ih =
        timed_read (code_of i) at v _ time s.time _ (changes_from 0 before s.signals) later r.1
        (λ rest. changes_read i at v s.time 0 i before s.signals rest (omega arith) (omega arith) (omega (arith, l.0)) (leb-true s.time at f)
        ∙ rw (e, settled (get_or before i false) (get_or s.signals i false)))
        ih
    go false f ih =
        let past = leb-false s.time at f in
        later_unread (code_of i) at v time s.time before (s ∷ ss) past (omega arith, r.1, r.2)
        ∙ rw (later_signals at s.time before ss past r.2) e

-- ---- the whole dump

-- at #0 each signal is given its value
opposite : (vs : List Bool) (i : ℕ) → i < length vs → differs (get_or (map not vs) i false) (get_or vs i false) ≡ true
unfolding differs
opposite [] i h = absurd (omega arith)
opposite (true ∷ vs) zero h = refl
opposite (false ∷ vs) zero h = refl
opposite (v ∷ vs) (suc i) h = opposite vs i (omega arith)

-- Each signal has at each time the value that was recorded for it.
pub values_back : (motors : ℕ) (first : List Bool) (samples : List Sample) → Rising 0 samples → SameWidth (length first) samples → (i time : ℕ)
    → i < length first → value_at (recording_text motors first samples) (code_of i) time ≡ bit (get_or (signals_at first samples time) i false)
unfolding value_at reads when◌then◌else◌
values_back motors first samples r l i time h =
    let all = map not first in
    let later = samples_text first samples in
    ap (reads (code_of i) time unknown 0) (parts motors first samples)
    ∙ start_read (code_of i) time unknown 0 _
    ∙ wires_read (code_of i) time unknown 0 0 1 motors _
    ∙ end_read (code_of i) time unknown 0 _
    ∙ time_read (code_of i) time unknown 0 0 _ (omega arith)
    ∙ changes_read i time unknown 0 0 i all first later (omega arith) (omega (arith, length-map first not)) h (omega arith)
    ∙ rw (opposite first i h) (samples_read i time _ 0 0 (length first) first samples r l refl h refl)

-- ---- all wires at once

pub signals_width : (before : List Bool) (ss : List Sample) (at n : ℕ) → length before ≡ n → SameWidth n ss → length (signals_at before ss at) ≡ n
unfolding signals_at
signals_width before [] at n h l = h
signals_width before (s ∷ ss) at n h l = signals_width (when leb s.time at then s.signals else before) ss at n (either (λ (vs : List Bool). length vs ≡ n) (leb s.time at) l.0 h) l.1

-- what each code has is what each wire has
wires_have : (f : List ℕ → ℕ) (i number n : ℕ) (vs : List Bool) → length vs ≡ 2 * n → ((j : ℕ) → j < length vs → f (code_of (i + j)) ≡ bit (get_or vs j false))
    → map (λ (w : Wire). f w.code) (motor_wires i number n) ≡ map bit vs
unfolding motor_wires wire_of
wires_have f i number zero [] h e = refl
wires_have f i number zero (x ∷ vs) h e = absurd (omega arith)
wires_have f i number (suc n) [] h e = absurd (omega arith)
wires_have f i number (suc n) (x ∷ []) h e = absurd (omega arith)
wires_have f i number (suc n) (x ∷ y ∷ vs) h e =
    let on : i + 0 ≡ i = omega arith in
    let a : f (code_of i) ≡ bit x = rw on at (e 0 (omega arith)) in
    let b : f (code_of (i + 1)) ≡ bit y = e 1 (omega arith) in
    rw (a, b, wires_have f (i + 2) (number + 1) n vs (omega arith) (λ j l. let k : i + 2 + j ≡ i + suc (suc j) = omega arith in rw k (e (suc (suc j)) (omega arith))))

-- the codes of the wires are those of the signals
not_declared : (code : List ℕ) (i number n : ℕ) → declared (motor_wires i number n) code ≡ false → (j : ℕ) → i ≤ j → j < i + 2 * n → same (code_of j) code ≡ false
unfolding motor_wires wire_of declared
not_declared code i number zero e j h l = absurd (omega arith)
not_declared code i number (suc n) e j h l =
    let on = or_parts (same (code_of i) code) _ e in
    let off = or_parts (same (code_of (i + 1)) code) _ on.1 in
    go (dec_lt j (i + 1)) (dec_lt j (i + 2)) (λ k. not_declared code (i + 2) (number + 1) n off.1 j k (omega arith)) on.0 off.0
  where
    go : Dec (j < i + 1) → Dec (j < i + 2) → (i + 2 ≤ j → same (code_of j) code ≡ false) → same (code_of i) code ≡ false → same (code_of (i + 1)) code ≡ false
        → same (code_of j) code ≡ false
    go (yes p) d k on off = let q : j ≡ i = omega arith in rw q on
    go (no p) (yes q) k on off = let q : j ≡ i + 1 = omega arith in rw q off
    go (no p) (no q) k on off = k (omega arith)

-- no sample says anything of it
others_unread : (code : List ℕ) (at v time from n : ℕ) (before : List Bool) (ss : List Sample) → Rising from ss → SameWidth n ss → length before ≡ n
    → ((i : ℕ) → i < n → same (code_of i) code ≡ false) → reads code at v time (samples_text before ss) ≡ v
unfolding samples_text reads words_in parts_of present changes_in last_value
others_unread code at v time from n before [] r l m other = refl
others_unread code at v time from n before (s ∷ ss) r l m other =
    timed_read code at v v time s.time v (changes_from 0 before s.signals) (samples_text s.signals ss) r.1
    (λ rest. changes_pass code at v s.time 0 before s.signals rest (λ i _ h. rw (other i (omega arith))))
    (λ u. others_unread code at v u s.time n s.signals ss r.2 l.1 l.0 other)

module _ (motors : ℕ) (first : List Bool) (samples : List Sample) (r : Rising 0 samples) (l : SameWidth (length first) samples) (both : length first ≡ 2 * motors) where
  -- Each wire has at each time the value that was recorded for it.
  pub all_back : (time : ℕ)
      → map (λ (w : Wire). value_at (recording_text motors first samples) w.code time) (wires_of (recording_text motors first samples))
      ≡ map bit (signals_at first samples time)
  all_back time =
      let width = signals_width first samples time (length first) refl l in
      rw (wires_back motors first samples)
      (wires_have (λ (code : List ℕ). value_at (recording_text motors first samples) code time) 0 1 motors (signals_at first samples time) (omega arith)
      (λ j h. let same_place : 0 + j ≡ j = omega arith in rw same_place (values_back motors first samples r l j time (omega arith))))

  -- Of a code that no wire has nothing is said.
  pub others_unknown : (code : List ℕ) (time : ℕ) → declared (wires_of (recording_text motors first samples)) code ≡ false
      → value_at (recording_text motors first samples) code time ≡ unknown
  unfolding value_at reads
  others_unknown code time e =
      let none : declared (motor_wires 0 1 motors) code ≡ false = rw (wires_back motors first samples) at e in
      let other : (i : ℕ) → i < length first → same (code_of i) code ≡ false = λ i h. not_declared code 0 1 motors none i (omega arith) (omega arith) in
      let later = samples_text first samples in
      ap (reads code time unknown 0) (parts motors first samples)
      ∙ start_read code time unknown 0 _
      ∙ wires_read code time unknown 0 0 1 motors _
      ∙ end_read code time unknown 0 _
      ∙ time_read code time unknown 0 0 _ (omega arith)
      ∙ changes_pass code time unknown 0 0 (map not first) first later (λ i _ h. rw (other i (omega (arith, length-map first not))))
      ∙ others_unread code time unknown 0 0 (length first) first samples r l refl other
