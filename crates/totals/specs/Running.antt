-- Running totals, kept scan by scan in place of the history. They are no rule: proofs/Running.antt shows that they are the totals of
-- the history. They are 32-bit words and stop at the largest, which no file is long enough to reach (print/proofs/Histories.antt).
use Rattle.std.specs.Prelude.{ℕ, ◌+◌, min, max, Bool, not, ◌&&◌, ◌||◌, List, [], ◌∷◌, eqb}
use Rattle.words.specs.Word.{when◌then◌else◌}
use Rattle.rules.specs.declared.Settings.{Settings}
use Rattle.rules.specs.declared.Status.{Status}
use Rattle.rules.specs.declared.Motor.{Motor}
use Rattle.rules.specs.declared.Reading.{Reading}
use Rattle.rules.specs.Record.{on, no_command, no_end, end_confirmed, end_displaced, end_overdue, idle}
use Rattle.rules.specs.Steps.{reading, position_read, step}
use Rattle.rules.specs.Scans.{Input}
use Rattle.book.specs.Log.{Log, none, ◌▸◌}
use Rattle.book.specs.History.{record_of}
use Rattle.totals.specs.declared.Totals.{Totals}

unfoldable pub capped : ℕ → ℕ
capped n = min n 4294967295

abbrev pub no_totals : Totals
no_totals = record { issued = 0; confirmed = 0; displaced = 0; overdue = 0; on = 0; best = 0; worst = 0 }

-- one more, if it counts
unfoldable pub counted_if : ℕ → Bool → ℕ
counted_if n counts = when counts then capped (n + 1) else n

-- A scan with the status v after it issued a command: one is under way then, and none was before, or the one that was has ended.
unfoldable pub has_issued : ℕ → Status → Bool
has_issued before v = not (idle v) && (eqb before no_command || not (eqb v.end no_end))

-- the period counts if the reading is On
unfoldable pub on_after : ℕ → Reading → ℕ → ℕ
on_after time r period = when eqb (position_read r) on then capped (time + period) else time

-- the best time after one more confirmation, which took this time; `before` is how many there were
unfoldable pub best_after : ℕ → ℕ → ℕ → ℕ
best_after before best time = when eqb before 0 then time else min best time

-- A scan that reads r, from the record m to the status v
unfoldable pub totals_after : Totals → Motor → Status → Reading → ℕ → Totals
totals_after t m v r period =
    record {
      issued = counted_if t.issued (has_issued m.status.command v);
      confirmed = counted_if t.confirmed (eqb v.end end_confirmed);
      displaced = counted_if t.displaced (eqb v.end end_displaced);
      overdue = counted_if t.overdue (eqb v.end end_overdue);
      on = on_after t.on r period;
      best = when eqb v.end end_confirmed then best_after t.confirmed t.best (capped (m.sum + period)) else t.best;
      worst = when eqb v.end end_confirmed then max t.worst (capped (m.sum + period)) else t.worst;
    }

-- The scan of a record, by its word; and of a table's records, each by its own (those without a word stay)
unfoldable pub scan_totals : Totals → Motor → ℕ → ℕ → Totals
scan_totals t m word period = totals_after t m (step m word period).status (reading m.settings word) period

unfoldable pub all_totals : List Totals → List Motor → List ℕ → ℕ → List Totals
all_totals [] ms words period = []
all_totals (t ∷ ts) [] words period = t ∷ ts
all_totals (t ∷ ts) (m ∷ ms) [] period = t ∷ ts
all_totals (t ∷ ts) (m ∷ ms) (word ∷ words) period = scan_totals t m word period ∷ all_totals ts ms words period

-- The running totals of a history, from no totals on; and totals of which each number is capped
unfoldable pub running_of : Settings → Log Input → Totals
running_of s none = no_totals
running_of s (h ▸ x) = scan_totals (running_of s h) (record_of s h) x.word x.period

unfoldable pub all_capped : Totals → Totals
all_capped t =
    record {
      issued = capped t.issued;
      confirmed = capped t.confirmed;
      displaced = capped t.displaced;
      overdue = capped t.overdue;
      on = capped t.on;
      best = capped t.best;
      worst = capped t.worst;
    }
