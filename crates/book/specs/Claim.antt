-- What is claimed of a motor that starts fresh and that nothing but the scans of a list writes: rules 2.6 and 5.5 to 6.5.
use Rattle.std.specs.Prelude.{ℕ, suc, ◌+◌, ◌*◌, ◌≤◌, max, ◌≡◌, ◌↔◌, ◌≢◌, ◌⊎◌, true, false, ◌&&◌}
use Rattle.words.specs.Word.{when◌then◌else◌, is_set}
use Rattle.rules.specs.declared.Settings.{Settings}
use Rattle.rules.specs.declared.Motor.{Motor}
use Rattle.rules.specs.Record.{no_command, no_end, end_confirmed, end_displaced, end_overdue, flag, overdue_flag, idle}
use Rattle.rules.specs.Steps.{reading, running, confirms, both_closed, chosen, displaces, step}
use Rattle.rules.specs.Scans.{Input}
use Rattle.book.specs.Log.{Log, none, ◌▸◌, ◌⧺◌, count}
use Rattle.book.specs.History.{Entry, input_of, counts, record_after, history, record_of}
use Rattle.book.specs.Book.{since, is_up, book1to6, book_of}

-- Rule 2.6, of a record: the time sum is 0 while no command is under way, and the pulse sum while no pulse runs, also that of a held output
-- and that of none.
pub record IdleSums (m : Motor) : Type 0 where
  pub time : idle m.status ≡ true → m.sum ≡ 0
  pub pulse : running m.settings m.output ≡ false → m.output.sum ≡ 0

-- After h the command c, issued in scan i, is under way: so the book has it.
pub record UnderWay (s : Settings) (c i : ℕ) (h : Log Input) : Type 0 where
  pub command : (book_of s h).status.command ≡ c
  pub issue : (book_of s h).issue ≡ i
  pub some : c ≢ no_command

-- the last scan of h issued c
abbrev pub Issued : Settings → ℕ → Log Input → Type 0
Issued s c h = UnderWay s c (count h) h

-- the command that step 8 chooses in the scan x after h
unfoldable pub chosen_in : Settings → Log Input → Input → ℕ
chosen_in s h x = chosen s (book1to6 s (book_of s h) (h ▸ x) x.word) x.word

-- What the scan x after h does to the command c issued in scan i: the end that it brings, or none (rule 6.1)
unfoldable pub fate : Settings → ℕ → ℕ → Log Input → Input → ℕ
fate s c i h x =
    when confirms (reading s x.word) c then end_confirmed
    else when is_up s i (h ▸ x) then end_overdue
    else when displaces (chosen_in s h x) c then end_displaced
    else no_end

-- none of the scans k after h did anything to the command c that the last scan of h issued
abbrev pub Quiet : Settings → ℕ → Log Input → Log Input → Type 0
Quiet s c h none = Unit {0}
Quiet s c h (k ▸ x) = Quiet s c h k × (fate s c (count h) (h ⧺ k) x ≡ no_end)

-- The scan x after h, and the command c issued in scan i, whose fate there is f: the book's end is f; the flag of an overdue command is
-- set; the command that displaces it is entered; and a command that has ended is under way no more.
pub record Ends (s : Settings) (c i f : ℕ) (h : Log Input) (x : Input) : Type 0 where
  pub end : (book_of s (h ▸ x)).status.end ≡ f
  pub flag : f ≡ end_overdue → is_set (overdue_flag c) (book_of s (h ▸ x)).status.flags ≡ true
  pub next : f ≡ end_displaced → Issued s (chosen_in s h x) (h ▸ x)
  pub gone : f ≢ no_end → ¬ (UnderWay s c i (h ▸ x))

-- A chain, rule 6.3: after the scans k that follow h, the one that began with c₀, issued by the last scan of h, has n commands, and its
-- last, c, issued in scan i, is under way.
pub data Chain (s : Settings) (c₀ : ℕ) (h : Log Input) : Log Input → ℕ → ℕ → ℕ → Type 0 where
  first : Issued s c₀ h → Chain s c₀ h none c₀ (count h) 1
  waits : {k : Log Input} {c i n : ℕ} (x : Input) → Chain s c₀ h k c i n → fate s c i (h ⧺ k) x ≡ no_end → Chain s c₀ h (k ▸ x) c i n
  displaced : {k : Log Input} {c i n : ℕ} (x : Input) → Chain s c₀ h k c i n → fate s c i (h ⧺ k) x ≡ end_displaced
      → Chain s c₀ h (k ▸ x) (chosen_in s (h ⧺ k) x) (count (h ⧺ (k ▸ x))) (suc n)

-- the periods of the scans k added up, and the longest of them
unfoldable pub total : Log Input → ℕ
total none = 0
total (k ▸ x) = total k + x.period

unfoldable pub longest : Log Input → ℕ
longest none = 0
longest (k ▸ x) = max (longest k) x.period

-- a chain has at most so many commands, and is over within so much time
abbrev pub most_in_chain : ℕ
most_in_chain = 7

abbrev pub bound : Settings → Log Input → ℕ
bound s k = most_in_chain * (s.w + longest k)

-- The chain is over, rule 6.4: one of the scans k after h ended its last command, as confirmed or as overdue (`ends` has its flag), and
-- the periods up to that scan come to n at most.
pub record Over (s : Settings) (c₀ : ℕ) (h k : Log Input) (n : ℕ) : Type 0 where
  pub early : Log Input
  pub at : Input
  pub later : Log Input
  pub split : k ≡ ((early ▸ at) ⧺ later)
  pub last : ℕ
  pub issue : ℕ
  pub length : ℕ
  pub chain : Chain s c₀ h early last issue length
  pub how : (fate s last issue (h ⧺ early) at ≡ end_confirmed) ⊎ (fate s last issue (h ⧺ early) at ≡ end_overdue)
  pub ends : Ends s last issue (fate s last issue (h ⧺ early) at) (h ⧺ early) at
  pub soon : total (early ▸ at) ≤ n

-- The claim, after the entries es, for any settings and any entries.
pub record MotorClaim (s : Settings) (es : Log Entry) : Type 0 where
  -- rule 5.5: the ten steps over the history make this very record, with its output and sums
  pub record_is : record_after s es ≡ record_of s (history s es)
  -- its status is the book's
  pub book_is : (record_after s es).status ≡ (book_of s (history s es)).status
  -- its time sum is what the periods since the issue come to, while a command is under way
  pub time_is : idle (record_after s es).status ≡ false
      → (record_after s es).sum ≡ since (book_of s (history s es)).issue (history s es)
  -- rule 2.6: a sum that is idle is 0
  pub idle_sums : IdleSums (record_after s es)
  -- rule 5.7: flag 14 stands beside flag 1 where the last scan read both switches closed, and nowhere else
  pub closed_flag : (h : Log Input) (x : Input) → history s es ≡ (h ▸ x)
      → flag (record_after s es).status 14 ≡ (flag (record_after s es).status 1 && both_closed (reading s x.word))
  -- rule 5.6: an accepted scan with this motor in it steps the record, and is one more of its history
  pub taken : (e : Entry) → counts (record_after s es) e ≡ true
      → (record_after s (es ▸ e) ≡ step (record_after s es) (input_of e).word (input_of e).period)
      × (history s (es ▸ e) ≡ (history s es ▸ input_of e))
  -- any other entry does neither
  pub refused : (e : Entry) → counts (record_after s es) e ≡ false
      → (record_after s (es ▸ e) ≡ record_after s es) × (history s (es ▸ e) ≡ history s es)
  -- rule 6.1: a command is under way for just as long as no scan after its issue did anything to it
  pub stays : (h k : Log Input) (c : ℕ) → history s es ≡ (h ⧺ k) → Issued s c h → UnderWay s c (count h) (h ⧺ k) ↔ Quiet s c h k
  -- rule 6.2: the first scan that does something to it ends it in that way
  pub ends : (h k : Log Input) (x : Input) (c : ℕ) → history s es ≡ (h ⧺ (k ▸ x)) → Issued s c h → Quiet s c h k
      → Ends s c (count h) (fate s c (count h) (h ⧺ k) x) (h ⧺ k) x
  -- rule 6.3: no chain is longer than seven, and its last command is the one under way
  pub chain : (h k : Log Input) (c₀ c i n : ℕ) → history s es ≡ (h ⧺ k) → Chain s c₀ h k c i n
      → (n ≤ most_in_chain) × UnderWay s c i (h ⧺ k)
  -- rule 6.4: where any scan comes after the one that issued its first command, a chain is over by its bound
  pub over : (h k : Log Input) (c₀ : ℕ) → history s es ≡ (h ⧺ k) → Issued s c₀ h → k ≢ none → bound s k ≤ total k
      → Over s c₀ h k (bound s k)
  -- rule 6.5: whatever else a list holds, one history leads to one record
  pub independent : (fs : Log Entry) → history s es ≡ history s fs → record_after s es ≡ record_after s fs
