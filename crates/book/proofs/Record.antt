-- The record over a list of entries is the record over its history. Assumes nothing.
use Prim.Native.Nat.{◌<◌}
use mathlib.Core.Path.{◌≡◌, refl, sym, ap, ◌∙◌}
use mathlib.Core.Bool.{Bool, true, false}
use mathlib.Core.List.{List, ◌∷◌, ◌++◌}
use native.Mathlib.Omega.{arith}
use lib.Dec.{eqb}
use lib.ListN.{length, get_or, length-append}
use lib.Seq.{get_or-append_seam}
use borrow.Author.Tests.{eqb-true, eqb-false}
use Rattle.words.specs.Word.{when◌then◌else◌}
use Rattle.rules.specs.declared.Settings.{Settings}
use Rattle.rules.specs.declared.Motor.{Motor}
use Rattle.rules.specs.Steps.{step}
use Rattle.rules.specs.Refusals.{table_refusal, table_after, one_after}
use Rattle.rules.proofs.Tables.{element, table_refused}
use Rattle.book.specs.Log.{Log, none, ◌▸◌}
use Rattle.book.specs.History.{Entry, table, single, other_table, other_single, result_of, after, input_of, takes_in, counts, record_after, history, record_of}

-- the motor's place is in the table
in_table : (b a : List Motor) (m : Motor) → length b < length (b ++ (m ∷ a))
in_table b a m = rw length-append (omega arith)

-- an entry that counts takes the ten steps, any other leaves the record
after_is : (m : Motor) (e : Entry) → after m e ≡ (when counts m e then step m (input_of e).word (input_of e).period else m)
unfolding after counts takes_in result_of input_of one_after when◌then◌else◌
after_is m (table b a ws p) = go (eqb (table_refusal (b ++ (m ∷ a)) ws p) 0) refl
  where
    l : List Motor
    l = b ++ (m ∷ a)

    go : (t : Bool) → eqb (table_refusal l ws p) 0 ≡ t
        → get_or (table_after l ws p) (length b) m ≡ (when t then step m (get_or ws (length b) 0) p else m)
    go true h = rw (get_or-append_seam b m a m) at (element l ws p (eqb-true _ _ h) (length b) m (in_table b a m))
    go false h = rw (table_refused l ws p (eqb-false _ _ h)) (get_or-append_seam b m a m)
after_is m (single w p) = refl
after_is m (other_table ms ws p) = refl
after_is m (other_single n w p) = refl

pub record_is : (s : Settings) (es : Log Entry) → record_after s es ≡ record_of s (history s es)
unfolding record_after record_of history when◌then◌else◌
record_is s none = refl
record_is s (es ▸ e) = after_is (record_after s es) e ∙ go (counts (record_after s es) e) (record_is s es)
  where
    go : (t : Bool) → record_after s es ≡ record_of s (history s es)
        → (when t then step (record_after s es) (input_of e).word (input_of e).period else record_after s es)
        ≡ record_of s (when t then history s es ▸ input_of e else history s es)
    go true ih = ap (λ (m : Motor). step m (input_of e).word (input_of e).period) ih
    go false ih = ih

pub taken_is : (s : Settings) (es : Log Entry) (e : Entry) → counts (record_after s es) e ≡ true
    → (record_after s (es ▸ e) ≡ step (record_after s es) (input_of e).word (input_of e).period) × (history s (es ▸ e) ≡ (history s es ▸ input_of e))
unfolding record_after history when◌then◌else◌
taken_is s es e h = (after_is (record_after s es) e ∙ rw h, rw h)

pub refused_is : (s : Settings) (es : Log Entry) (e : Entry) → counts (record_after s es) e ≡ false
    → (record_after s (es ▸ e) ≡ record_after s es) × (history s (es ▸ e) ≡ history s es)
unfolding record_after history when◌then◌else◌
refused_is s es e h = (after_is (record_after s es) e ∙ rw h, rw h)

pub independent_is : (s : Settings) (es fs : Log Entry) → history s es ≡ history s fs → record_after s es ≡ record_after s fs
independent_is s es fs h = record_is s es ∙ ap (record_of s) h ∙ sym (record_is s fs)
