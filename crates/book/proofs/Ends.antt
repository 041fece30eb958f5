-- What one scan does to the command under way, and so how it ends. Assumes nothing.
use Prim.Native.Nat.{ℕ, ◌+◌, ◌≤◌, ◌<◌}
use mathlib.Core.Path.{◌≡◌, refl, sym, ◌∙◌}
use mathlib.Core.Logic.{◌↔◌, ◌≢◌, inr}
use mathlib.Core.Bool.{Bool, true, false, not, ◌&&◌, ◌||◌, false≢true}
use native.Mathlib.Omega.{arith}
use native.Mathlib.Decide.{ℕ_discrete}
use lib.Dec.{eqb, ltb, lit<}
use borrow.Author.Tests.{eqb-true, eqb-false, ne_eqb, ltb-true}
use Rattle.words.specs.Word.{when◌then◌else◌, is_set}
use Rattle.words.proofs.Laws.{either, if_lt, set_has, and_true}
use Rattle.rules.specs.declared.Settings.{Settings}
use Rattle.rules.specs.declared.Status.{Status}
use Rattle.rules.specs.declared.Reading.{Reading}
use Rattle.rules.specs.Record.{no_command, no_end, end_displaced, end_overdue, flag, overdue_flag, idle, fresh_status, with_mode, with_positions, with_command, with_flags}
use Rattle.rules.specs.Steps.{reading, confirms, confirmed, overdue, ended, end4, flags4, status1, status2, status4, status5, status6, chosen, displaces, starts, issues, issued, status1to6, status7to10}
use Rattle.rules.specs.Scans.{Input}
use Rattle.rules.proofs.Range.{issued_fits}
use Rattle.rules.proofs.Flags.{keeps5, keeps7to10}
use Rattle.book.specs.Log.{Log, none, ◌▸◌, ◌⧺◌, count}
use Rattle.book.specs.Book.{is_up, book1to6, book_scan, book_of}
use Rattle.book.specs.Claim.{UnderWay, Issued, chosen_in, fate, Quiet, Ends}
use Rattle.book.proofs.Book.{book_held, issued_by, ends_in, end_in, command_after, end_after}

-- ---- one turn, by its numbers

-- From a command c issued in scan i to the command c' issued in scan i': its fate is f, e' the book's end, k the chosen command, n this
-- scan's number.
pub record Turn (c k i n f c' e' i' : ℕ) : Type 0 where
  pub end : e' ≡ f
  pub stay : f ≡ no_end → (c' ≡ c) × (i' ≡ i)
  pub gone : f ≢ no_end → c' ≢ no_command → i' ≡ n
  pub next : f ≡ end_displaced → (c' ≡ k) × (i' ≡ n) × (k ≢ no_command) × (k < c)

displaces_ne : (k c : ℕ) → displaces k c ≡ true → k ≢ 0
unfolding displaces
displaces_ne k c h e = false≢true (rw e at h)

displaces_lt : (k c : ℕ) → displaces k c ≡ true → k < c
unfolding displaces
displaces_lt k c h = ltb-true k c (and_true (not (eqb k 0)) (ltb k c) (and_true _ _ h).0).1

-- a command that is confirmed or overdue makes room for another
over : (c k q i n f : ℕ) (z : Bool) → f ≢ 0 → f ≢ 2 → Turn c k i n f (when z then 0 else q) (when z then f else f) (when z then i else n)
unfolding when◌then◌else◌
over c k q i n f true f0 f2 = record { end = refl; stay = λ p. absurd (f0 p); gone = λ p x. absurd (x refl); next = λ p. absurd (f2 p) }
over c k q i n f false f0 f2 = record { end = refl; stay = λ p. absurd (f0 p); gone = λ p x. refl; next = λ p. absurd (f2 p) }

-- one that is neither is displaced, or stays
free : (c k q i n : ℕ) (d : Bool) → displaces k c ≡ d → q ≡ (when d then k else 0) → eqb c 0 ≡ false
    → Turn c k i n (when d then 2 else 0) (when eqb q 0 then c else q) (when eqb q 0 then 0 else when eqb c 0 then 0 else 2) (when eqb q 0 then i else n)
unfolding when◌then◌else◌
free c k q i n true hd hq live =
    rw (hq, ne_eqb k 0 (displaces_ne k c hd), live)
    (record { end = refl; stay = λ p. absurd (omega arith); gone = λ p x. refl; next = λ p. (refl, refl, displaces_ne k c hd, displaces_lt k c hd) })
free c k q i n false hd hq live =
    rw hq (record { end = refl; stay = λ p. (refl, refl); gone = λ p x. absurd (p refl); next = λ p. absurd (omega arith) })

-- x: confirmed; up: the time is up; o: with no command under way, k is issued
turn : (c k q i n : ℕ) (x up o : Bool) → eqb c 0 ≡ false
    → q
    ≡ (when (when eqb (when x || not x && up then 0 else c) 0 then o else displaces k (when x || not x && up then 0 else c)) then k else 0)
    → Turn c k i n (when x then 1 else when up then 3 else when displaces k c then 2 else 0)
    (when eqb q 0 then (when x || not x && up then 0 else c) else q)
    (when eqb q 0 then (when x then 1 else when not x && up then 3 else 0)
    else when eqb (when x || not x && up then 0 else c) 0 then (when x then 1 else when not x && up then 3 else 0) else 2)
    (when eqb q 0 then i else n)
unfolding when◌then◌else◌
turn c k q i n true up o live hq = over c k q i n 1 (eqb q 0) (omega arith) (omega arith)
turn c k q i n false true o live hq = over c k q i n 3 (eqb q 0) (omega arith) (omega arith)
turn c k q i n false false o live hq = free c k q i n (displaces k c) refl (rw live at hq) live

-- ---- the flag of an overdue command

flag4 : (v : Status) (r : Reading) (up : Bool) → v.command < 8 → overdue v r up ≡ true
    → is_set (overdue_flag v.command) (status4 v r up).flags ≡ true
unfolding status4 flags4 with_flags with_command when◌then◌else◌ overdue_flag
flag4 v r up l late = rw late (set_has (6 + v.command) v.flags (omega arith))

flag_after : (s : Settings) (v : Status) (word : ℕ) (up : Bool) → v.command ≢ 0 → v.command < 8
    → overdue (status2 s (status1 v word) (reading s word)) (reading s word) up ≡ true
    → is_set (overdue_flag v.command) (status7to10 s (status1to6 s v word up) word).flags ≡ true
unfolding flag status1to6 status6 status2 status1 with_flags with_mode with_command with_positions overdue_flag
flag_after s v word up ne lt late =
    let k : ℕ = overdue_flag v.command in
    let r = reading s word in
    let v₂ = status2 s (status1 v word) r in
    keeps7to10 s (status1to6 s v word up) word k (inr (omega arith))
    ∙ keeps5 s (status4 v₂ r up) word r k (λ e. omega arith) (λ e. omega arith) (λ e. omega arith) ∙ flag4 v₂ r up lt late

-- ---- the book's numbers

pub command_lt : (s : Settings) (h : Log Input) → (book_of s h).status.command < 8
unfolding book_of book_scan book1to6 fresh_status
command_lt s none = lit< tt
command_lt s (h ▸ x) =
    let b = book_of s h in
    let up = is_up s b.issue (h ▸ x) in
    rw (command_after s b.status x.word up)
    (if_lt _ (if_lt _ (lit< tt) (command_lt s h)) (issued_fits s (status1to6 s b.status x.word up) (status1to6 s b.status x.word up) x.word))

pub three : (x up d : Bool) → ◌≡◌ {A = ℕ} (when x then 1 else when up then 3 else when d then 2 else 0) 3 → (x ≡ false) × (up ≡ true)
unfolding when◌then◌else◌
three true up d h = absurd (omega arith)
three false true d h = (refl, refl)
three false false true h = absurd (omega arith)
three false false false h = absurd (omega arith)

module _ (s : Settings) (v : Status) (word : ℕ) (up : Bool) (live : idle v ≡ false) where
  x : Bool
  x = confirms (reading s word) v.command

  ends_live : ends_in s v word up ≡ (x || not x && up)
  unfolding x ends_in ended status2 status1 with_flags with_positions with_command confirmed overdue idle
  ends_live = rw live

  end_live : end_in s v word up ≡ (when x then 1 else when not x && up then 3 else 0)
  unfolding x end_in end4 status2 status1 with_flags with_positions with_command confirmed overdue idle
  end_live = rw live

  issued_live : issued_by s (status1to6 s v word up) word
      ≡ (when (when eqb (when x || not x && up then 0 else v.command) 0 then starts (chosen s (status1to6 s v word up) word) (status1to6 s v word up).position
      else displaces (chosen s (status1to6 s v word up) word) (when x || not x && up then 0 else v.command))
      then chosen s (status1to6 s v word up) word else 0)
  unfolding x issued issues status1to6 status6 status5 status4 ended with_flags with_mode with_command with_positions status2 status1 confirmed overdue idle
  issued_live = rw live

  late_live : x ≡ false → up ≡ true → overdue (status2 s (status1 v word) (reading s word)) (reading s word) up ≡ true
  unfolding x overdue status2 status1 with_flags with_positions with_command idle
  late_live c u = rw (live, c, u)

module _ (s : Settings) (v : Status) (word : ℕ) (up : Bool) (none : idle v ≡ true) where
  ends_idle : ends_in s v word up ≡ false
  unfolding ends_in ended status2 status1 with_flags with_positions with_command confirmed overdue idle
  ends_idle = rw none

  end_idle : end_in s v word up ≡ no_end
  unfolding end_in end4 status2 status1 with_flags with_positions with_command confirmed overdue idle when◌then◌else◌
  end_idle = rw none

idle_go : (z t : Bool) (q i n k : ℕ) → k ≡ 0 → (when z then (when t then 0 else k) else q) ≢ 0 → (when z then i else n) ≡ n
unfolding when◌then◌else◌
idle_go true true q i n k k0 ne = absurd (ne refl)
idle_go true false q i n k k0 ne = absurd (ne k0)
idle_go false t q i n k k0 ne = refl

-- ---- the scan y after the history h

module _ (s : Settings) (h : Log Input) (y : Input) where
  turn_at : idle (book_of s h).status ≡ false
      → Turn (book_of s h).status.command (chosen_in s h y) (book_of s h).issue (count (h ▸ y))
      (fate s (book_of s h).status.command (book_of s h).issue h y) (book_of s (h ▸ y)).status.command (book_of s (h ▸ y)).status.end
      (book_of s (h ▸ y)).issue
  unfolding book_of book_scan book1to6 fate chosen_in idle x
  turn_at live =
      let b = book_of s h in
      let v = b.status in
      let up = is_up s b.issue (h ▸ y) in
      let w = status1to6 s v y.word up in
      rw (
        command_after s v y.word up,
        end_after s v y.word up,
        ends_live s v y.word up live,
        end_live s v y.word up live,
      )
      (turn v.command (chosen s w y.word) (issued_by s w y.word) b.issue (count (h ▸ y)) (confirms (reading s y.word) v.command) up
      (starts (chosen s w y.word) w.position) live (issued_live s v y.word up live))

  flag_at : idle (book_of s h).status ≡ false → fate s (book_of s h).status.command (book_of s h).issue h y ≡ end_overdue
      → is_set (overdue_flag (book_of s h).status.command) (book_of s (h ▸ y)).status.flags ≡ true
  unfolding book_of book_scan book1to6 fate idle x
  flag_at live f =
      let b = book_of s h in
      let up = is_up s b.issue (h ▸ y) in
      let t = three (confirms (reading s y.word) b.status.command) up _ f in
      flag_after s b.status y.word up (eqb-false _ 0 live) (command_lt s h) (late_live s b.status y.word up live t.0 t.1)

  -- where none was under way, one that is was issued by y, and none has ended
  pub idle_at : idle (book_of s h).status ≡ true → (book_of s (h ▸ y)).status.command ≢ 0 → (book_of s (h ▸ y)).issue ≡ count (h ▸ y)
  unfolding book_of book_scan book1to6 idle
  idle_at id ne =
      let b = book_of s h in
      let up = is_up s b.issue (h ▸ y) in
      let q = issued_by s (status1to6 s b.status y.word up) y.word in
      idle_go (eqb q 0) _ q b.issue (count (h ▸ y)) b.status.command (eqb-true _ 0 id) (rw (command_after s b.status y.word up) at ne)

  pub idle_end : idle (book_of s h).status ≡ true → (book_of s (h ▸ y)).status.end ≡ no_end
  unfolding book_of book_scan book1to6 idle when◌then◌else◌
  idle_end id =
      let b = book_of s h in
      let up = is_up s b.issue (h ▸ y) in
      rw (end_after s b.status y.word up, ends_idle s b.status y.word up id, end_idle s b.status y.word up id, id)
      (either (λ (n : ℕ). n ≡ no_end) (eqb (issued_by s (status1to6 s b.status y.word up) y.word) 0) refl refl)

  module _ (c i : ℕ) (u : UnderWay s c i h) where
    live_of : idle (book_of s h).status ≡ false
    unfolding idle
    live_of = ne_eqb _ 0 (λ e. u.some (sym u.command ∙ e))

    pub turn_of : Turn c (chosen_in s h y) i (count (h ▸ y)) (fate s c i h y) (book_of s (h ▸ y)).status.command (book_of s (h ▸ y)).status.end
        (book_of s (h ▸ y)).issue
    turn_of = rw (u.command, u.issue) at (turn_at live_of)

    flag_of : fate s c i h y ≡ end_overdue → is_set (overdue_flag c) (book_of s (h ▸ y)).status.flags ≡ true
    flag_of = rw (u.command, u.issue) at (flag_at live_of)

    pub goes_on : fate s c i h y ≡ no_end → UnderWay s c i (h ▸ y)
    goes_on f = record { command = (turn_of.stay f).0; issue = (turn_of.stay f).1; some = u.some }

    pub ends_of : Ends s c i (fate s c i h y) h y
    unfolding count
    ends_of =
        record {
          end = turn_of.end;
          flag = flag_of;
          next = λ f. record { command = (turn_of.next f).0; issue = (turn_of.next f).1; some = (turn_of.next f).2 };
          gone = λ f v. omega (arith, turn_of.gone f (λ e. u.some (sym v.command ∙ e)), v.issue, u.issue, (book_held s h).number);
        }

-- a command that was issued before the scan y and is under way after it was so before it, and nothing befell it
pub back : (s : Settings) (h : Log Input) (y : Input) (c i : ℕ) → i ≤ count h → UnderWay s c i (h ▸ y)
    → UnderWay s c i h × (fate s c i h y ≡ no_end)
unfolding count
back s h y c i l u = go (idle (book_of s h).status) refl
  where
    c0 : ℕ
    c0 = (book_of s h).status.command

    i0 : ℕ
    i0 = (book_of s h).issue

    ne : (book_of s (h ▸ y)).status.command ≢ 0
    ne e = u.some (sym u.command ∙ e)

    same : (c0 ≡ c) → (i0 ≡ i) → fate s c0 i0 h y ≡ no_end → UnderWay s c i h × (fate s c i h y ≡ no_end)
    same p q f = (record { command = p; issue = q; some = u.some }, rw (p, q) at f)

    decide : Turn c0 (chosen_in s h y) i0 (count (h ▸ y)) (fate s c0 i0 h y) (book_of s (h ▸ y)).status.command (book_of s (h ▸ y)).status.end
        (book_of s (h ▸ y)).issue
        → Dec (fate s c0 i0 h y ≡ no_end) → UnderWay s c i h × (fate s c i h y ≡ no_end)
    decide t (yes f) = same (sym (t.stay f).0 ∙ u.command) (sym (t.stay f).1 ∙ u.issue) f
    decide t (no n) = absurd (omega (arith, t.gone n ne, u.issue))

    go : (t : Bool) → idle (book_of s h).status ≡ t → UnderWay s c i h × (fate s c i h y ≡ no_end)
    go true id = absurd (omega (arith, idle_at s h y id ne, u.issue))
    go false live = decide (turn_at s h y live) (ℕ_discrete _ 0)

-- ---- over the scans k after h

pub count_le : (h k : Log Input) → count h ≤ count (h ⧺ k)
unfolding count ◌⧺◌
count_le h none = omega arith
count_le h (k ▸ y) = omega (arith, count_le h k)

under_quiet : (s : Settings) (h k : Log Input) (c : ℕ) → UnderWay s c (count h) (h ⧺ k) → Quiet s c h k
unfolding ◌⧺◌
under_quiet s h none c u = tt
under_quiet s h (k ▸ y) c u =
    let b = back s (h ⧺ k) y c (count h) (count_le h k) u in
    (under_quiet s h k c b.0, b.1)

quiet_under : (s : Settings) (h k : Log Input) (c : ℕ) → Issued s c h → Quiet s c h k → UnderWay s c (count h) (h ⧺ k)
unfolding ◌⧺◌
quiet_under s h none c u q = u
quiet_under s h (k ▸ y) c u q = goes_on s (h ⧺ k) y c (count h) (quiet_under s h k c u q.0) q.1

pub stays_is : (s : Settings) (h k : Log Input) (c : ℕ) → Issued s c h → UnderWay s c (count h) (h ⧺ k) ↔ Quiet s c h k
stays_is s h k c u = (under_quiet s h k c, quiet_under s h k c u)

pub ends_is : (s : Settings) (h k : Log Input) (y : Input) (c : ℕ) → Issued s c h → Quiet s c h k
    → Ends s c (count h) (fate s c (count h) (h ⧺ k) y) (h ⧺ k) y
ends_is s h k y c u q = ends_of s (h ⧺ k) y c (count h) (quiet_under s h k c u q)
