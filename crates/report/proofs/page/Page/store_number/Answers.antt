use Rattle.std.proofs.Common.{arith, ◌/◌}
use Rattle.report.proofs.PageLaws.{number_less, pair_less, pair_then, number_takes}
use Rattle.report.proofs.page.Page.store_number.Goals as goal

pub returns-then-n-lt10-clause-puts : goal.returns-then-n-lt10-clause-puts
returns-then-n-lt10-clause-puts c = number_less _ (omega arith) c.store_digit.ensures.puts

pub returns-then-n-lt100-clause-puts : goal.returns-then-n-lt100-clause-puts
returns-then-n-lt100-clause-puts c = pair_less _ (omega arith) (omega arith) c.store_pair.ensures.puts

pub returns-then-hundreds-lt10-clause-puts : goal.returns-then-hundreds-lt10-clause-puts
returns-then-hundreds-lt10-clause-puts c =
    pair_then c.args.n (omega arith) (omega arith) (number_less (c.args.n / 100) (omega arith) c.store_digit-then-hundreds-lt10.ensures.puts)
    c.store_pair-then-hundreds-lt10.ensures.puts

pub returns-then-hundreds-lt100-clause-puts : goal.returns-then-hundreds-lt100-clause-puts
returns-then-hundreds-lt100-clause-puts c =
    pair_then c.args.n (omega arith) (omega arith) (pair_less (c.args.n / 100) (omega arith) (omega arith) c.store_pair-then-hundreds-lt100.ensures.puts)
    c.store_pair-then-hundreds-lt100-2.ensures.puts

pub returns-then-hundreds-lt1000-clause-puts : goal.returns-then-hundreds-lt1000-clause-puts
returns-then-hundreds-lt1000-clause-puts c =
    let h = c.args.n / 100 in
    pair_then c.args.n (omega arith) (omega arith)
    (pair_then h (omega arith) (omega arith) (number_less (h / 100) (omega arith) c.store_digit-then-hundreds-lt1000.ensures.puts) c.store_pair-then-hundreds-lt1000.ensures.puts)
    c.store_pair-then-hundreds-lt1000-2.ensures.puts

pub returns-clause-room : goal.returns-clause-room
returns-clause-room c = number_takes _ c.number.ensures
