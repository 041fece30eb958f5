-- The record has what its book has: one invariant, kept by every scan. Assumes nothing.
use Prim.Native.Nat.{ℕ, suc, ◌+◌, ◌≤◌}
use mathlib.Core.Path.{◌≡◌, refl, sym, ap, ◌∙◌}
use mathlib.Core.Bool.{Bool, true, false}
use native.Mathlib.Omega.{arith}
use lib.Dec.{eqb, leb}
use borrow.Author.Tests.{lt-ltb, le-ltb}
use Rattle.words.specs.Word.{when◌then◌else◌}
use Rattle.words.proofs.Laws.{either, if_map}
use Rattle.rules.specs.declared.Settings.{Settings}
use Rattle.rules.specs.declared.Status.{Status}
use Rattle.rules.specs.declared.Reading.{Reading}
use Rattle.rules.specs.declared.Motor.{Motor}
use Rattle.rules.specs.Record.{end_displaced, idle, fresh, with_mode, with_positions, with_command, with_flags, with_previous, with_status}
use Rattle.rules.specs.Steps.{status1, reading, status2, overdue, ended, end4, flags4, status4, status5, status6, status7, status9, issue_status, status10, chosen, issues, issued, step3, time_up, step4, issue, step9, status1to6, status7to10, steps1to5, to_choice, half, close, step}
use Rattle.rules.specs.Scans.{Input}
use Rattle.rules.proofs.Flags.{step9_status}
use Rattle.book.specs.Log.{Log, none, ◌▸◌, count}
use Rattle.book.specs.History.{record_of}
use Rattle.book.specs.Book.{Book, since, is_up, book1to6, book_scan, book_of}

-- ---- the ten steps on the record, by its parts

-- whether the time is up, as the record has it
unfoldable up_of : Settings → Status → ℕ → ℕ → Bool
up_of s v sum p = leb s.w (when idle v then sum else sum + p)

-- the command that steps 8 and 9 issue
abbrev pub issued_by : Settings → Status → ℕ → ℕ
issued_by s v word = issued v (chosen s v word)

-- a command under way ends in step 4, and the end that this gives
unfoldable pub ends_in : Settings → Status → ℕ → Bool → Bool
ends_in s v word up = ended (status2 s (status1 v word) (reading s word)) (reading s word) up

unfoldable pub end_in : Settings → Status → ℕ → Bool → ℕ
end_in s v word up = end4 (status2 s (status1 v word) (reading s word)) (reading s word) up

step9_settings : (m : Motor) (c : ℕ) → (step9 m c).settings ≡ m.settings
unfolding step9 issue
step9_settings m c = either (λ (n : Motor). n.settings ≡ m.settings) _ refl refl

step9_sum : (m : Motor) (c : ℕ) → (step9 m c).sum ≡ (when eqb c 0 then m.sum else 0)
unfolding step9 issue
step9_sum m c = if_map (λ (n : Motor). n.sum) (eqb c 0) m (issue m c)

settings_step : (m : Motor) (word p : ℕ) → (step m word p).settings ≡ m.settings
unfolding step steps1to5 half to_choice close with_status step4 step3
settings_step m word p = step9_settings _ _

status_step : (m : Motor) (word p : ℕ) (s : Settings) (v : Status) → m.settings ≡ s → m.status ≡ v
    → (step m word p).status ≡ status7to10 s (status1to6 s v word (up_of s v m.sum p)) word
unfolding step steps1to5 half to_choice close with_status step4 step3 time_up status1to6 status7to10 up_of idle status2 status1 status7 issued issues with_flags with_positions with_command
status_step m word p s v e f = rw (← e, ← f) (ap (λ (v : Status). status10 v word) (step9_status _ _))

sum_step : (m : Motor) (word p : ℕ) (s : Settings) (v : Status) → m.settings ≡ s → m.status ≡ v
    → (step m word p).sum
    ≡ (when eqb (issued_by s (status1to6 s v word (up_of s v m.sum p)) word) 0
    then (when ends_in s v word (up_of s v m.sum p) then 0 else when idle v then m.sum else m.sum + p)
    else 0)
unfolding step steps1to5 half to_choice close with_status step4 step3 time_up status1to6 ends_in up_of idle status2 status1 status7 issued issues with_flags with_positions with_command
sum_step m word p s v e f = rw (← e, ← f) (step9_sum _ _)

-- ---- the book's status, by its parts

-- command and end after a scan
pub command_after : (s : Settings) (v : Status) (word : ℕ) (up : Bool)
    → (status7to10 s (status1to6 s v word up) word).command
    ≡ (when eqb (issued_by s (status1to6 s v word up) word) 0 then (when ends_in s v word up then 0 else v.command) else issued_by s (status1to6 s v word up) word)
unfolding status7to10 status10 status9 with_previous issue_status status7 with_flags with_mode with_command with_positions status1to6 status6 status5 status4 status2 status1 ends_in
command_after s v word up = if_map (λ (x : Status). x.command) _ _ _

pub end_after : (s : Settings) (v : Status) (word : ℕ) (up : Bool)
    → (status7to10 s (status1to6 s v word up) word).end
    ≡ (when eqb (issued_by s (status1to6 s v word up) word) 0 then end_in s v word up
    else when eqb (when ends_in s v word up then 0 else v.command) 0 then end_in s v word up else end_displaced)
unfolding status7to10 status10 status9 with_previous issue_status status7 with_flags with_mode with_command with_positions status1to6 status6 status5 status4 status2 status1 ends_in end_in ended end4 idle
end_after s v word up = if_map (λ (x : Status). x.end) _ _ _

-- with no command under way it does not matter whether the time is up
same4 : (v : Status) (r : Reading) (a b t : Bool) → idle v ≡ t → (t ≡ false → a ≡ b) → status4 v r a ≡ status4 v r b
unfolding status4 ended end4 flags4 overdue
same4 v r a b true e h = rw e
same4 v r a b false e h = ap (status4 v r) (h refl)

same_to6 : (s : Settings) (v : Status) (word : ℕ) (a b : Bool) → (idle v ≡ false → a ≡ b) → status1to6 s v word a ≡ status1to6 s v word b
unfolding status1to6 idle status2 status1 with_flags with_positions with_command
same_to6 s v word a b h =
    ap (λ (x : Status). status6 s (status5 s x word (reading s word)) word) (same4 (status2 s (status1 v word) (reading s word)) (reading s word) a b (idle v) refl h)

-- ---- the time since a scan

pub none_since : (i : ℕ) (h : Log Input) → count h ≤ i → since i h ≡ 0
unfolding since count when◌then◌else◌
none_since i none le = refl
none_since i (h ▸ x) le = rw (le-ltb i (suc (count h)) le) (omega (arith, none_since i h (omega arith)))

pub one_since : (i : ℕ) (h : Log Input) (x : Input) → i ≤ count h → since i (h ▸ x) ≡ since i h + x.period
unfolding since count when◌then◌else◌
one_since i h x le = rw (lt-ltb i (suc (count h)) (omega arith))

-- ---- record and book agree, and the sum of a command under way is the time since its issue

pub record Held (s : Settings) (h : Log Input) (m : Motor) (b : Book) : Type 0 where
  pub settings_is : m.settings ≡ s
  pub status_is : m.status ≡ b.status
  pub number : b.issue ≤ count h
  pub sum_is : idle b.status ≡ false → m.sum ≡ since b.issue h

module _ (s : Settings) (h : Log Input) (m : Motor) (b : Book) (x : Input) (k : Held s h m b) where
  up_m : Bool
  up_m = up_of s b.status m.sum x.period

  up_b : Bool
  up_b = is_up s b.issue (h ▸ x)

  up_same : idle b.status ≡ false → up_m ≡ up_b
  unfolding up_m up_b up_of is_up when◌then◌else◌
  up_same i = rw (i, one_since b.issue h x k.number, k.sum_is i)

  to6_same : status1to6 s b.status x.word up_m ≡ status1to6 s b.status x.word up_b
  to6_same = same_to6 s b.status x.word up_m up_b up_same

  status_held : (step m x.word x.period).status ≡ (book_scan s b (h ▸ x) x.word).status
  unfolding book_scan book1to6 up_m up_b
  status_held = status_step m x.word x.period s b.status k.settings_is k.status_is ∙ rw to6_same

  held_sum : (c : ℕ) (z t : Bool) → eqb (when z then (when t then 0 else b.status.command) else c) 0 ≡ false
      → (when z then (when t then 0 else when idle b.status then m.sum else m.sum + x.period) else 0)
      ≡ since (when z then b.issue else count (h ▸ x)) (h ▸ x)
  unfolding when◌then◌else◌ idle
  held_sum c false t i = sym (none_since (count (h ▸ x)) (h ▸ x) (omega arith))
  held_sum c true true i = cc
  held_sum c true false i = rw (i, one_since b.issue h x k.number, k.sum_is i)

  sum_held : idle (status7to10 s (status1to6 s b.status x.word up_b) x.word) ≡ false
      → (step m x.word x.period).sum
      ≡ since (when eqb (issued_by s (status1to6 s b.status x.word up_b) x.word) 0 then b.issue else count (h ▸ x)) (h ▸ x)
  unfolding idle up_m
  sum_held i =
      sum_step m x.word x.period s b.status k.settings_is k.status_is
      ∙ rw (← to6_same)
      (held_sum (issued_by s (status1to6 s b.status x.word up_m) x.word) _ _
      (rw (command_after s b.status x.word up_m) at (rw (← to6_same) at i)))

  pub held : Held s (h ▸ x) (step m x.word x.period) (book_scan s b (h ▸ x) x.word)
  unfolding book_scan book1to6 count up_b
  held =
      record {
        settings_is = settings_step m x.word x.period ∙ k.settings_is;
        status_is = status_held;
        number = either (λ (i : ℕ). i ≤ suc (count h)) _ (omega (arith, k.number)) (omega arith);
        sum_is = sum_held;
      }

pub book_held : (s : Settings) (h : Log Input) → Held s h (record_of s h) (book_of s h)
unfolding record_of book_of fresh count since
book_held s none = record { settings_is = refl; status_is = refl; number = omega arith; sum_is = λ i. refl }
book_held s (h ▸ x) = held s h (record_of s h) (book_of s h) x (book_held s h)
