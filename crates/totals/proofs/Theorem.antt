-- The claim on the totals, for all settings and all lists of entries. Assumes nothing.
use Rattle.rules.specs.declared.Settings.{Settings}
use Rattle.book.specs.Log.{Log}
use Rattle.book.specs.History.{Entry, history}
use Rattle.book.proofs.Periods.{timely}
use Rattle.totals.specs.Claim.{TotalsClaim}
use Rattle.totals.proofs.Running.{running_is}
use Rattle.totals.proofs.Laws.{balance, best_worst, worst_soon, best_none, worst_none}

pub claimed : (s : Settings) (es : Log Entry) → TotalsClaim s (history s es)
claimed s es =
    let h = history s es in
    record {
      balance = balance s h;
      ordered = best_worst s h;
      soon = worst_soon s h;
      none_best = best_none s h (timely s es);
      none_worst = worst_none s h (timely s es);
      running = running_is s h;
    }
