use Rattle.std.proofs.Common.{◌≡◌, ◌∙◌, sym, ℕ, ◌<◌, ◌+◌, List, length, take, set, get_or, add-one, arith}
use lib.Seq.{take_all}
use Rattle.rules.specs.declared.Motor.{Motor}
use Rattle.rules.specs.Refusals.{one_refusal, one_after, table_refusal, step_all}
use Rattle.refusals.proofs.Numbers.{is_ok-from_zero}
use Rattle.rules.proofs.Tables.{accepted, each_accepted, none_stepped, not_yet, one_more, one_accepted}
use Rattle.table.proofs.Few.{words_enough}
use Rattle.table.proofs.step_all.Goals as goal

module _ (ms : List Motor) (ws : List ℕ) (p : ℕ) (ok : table_refusal ms ws p ≡ 0) (i : ℕ) (d : Motor) (l : i < length ms) where
  -- the record i is accepted at its turn, and stepped by it
  accepted_at : one_refusal (get_or (step_all ms (take i ws) p) i d) (get_or ws i 0) p ≡ 0
  accepted_at = rw (not_yet ms ws p i d) (each_accepted ms ws p ok i d l)

  stepped_at : set (step_all ms (take i ws) p) i (one_after (get_or (step_all ms (take i ws) p) i d) (get_or ws i 0) p) ≡ step_all ms (take (i + 1) ws) p
  stepped_at = rw (one_accepted _ _ _ accepted_at, not_yet ms ws p i d, add-one) (one_more ms ws p i d l (rw (accepted ms ws p ok).lengths at l))

pub loop-i-init : goal.loop-i-init
loop-i-init c = sym (none_stepped _ _)

pub bounds-words-i : goal.bounds-words-i
bounds-words-i c = omega (arith, c.loop-i-test.true, words_enough _ _ _ c.requires)

pub unwrap-requires : goal.unwrap-requires
unwrap-requires c =
    is_ok-from_zero _ (c.scan.ensures.code ∙ rw c.loop-i.invariant (accepted_at _ _ _ c.requires _ _ (omega (arith, c.loop-i-test.true))))

pub loop-i-preserved : goal.loop-i-preserved
loop-i-preserved c =
    rw (rw c.unwrap.ensures at c.scan.ensures.motor, c.loop-i.invariant)
    (stepped_at c.args.table.now c.args.words.now c.args.period c.requires c.loop-i.i _ (omega (arith, c.loop-i-test.true)))

pub returns : goal.returns
returns c =
    c.loop-i.invariant ∙ rw (take_all c.loop-i.i c.args.words.now (omega (arith, (accepted _ _ _ c.requires).lengths, c.loop-i-test.false)))
