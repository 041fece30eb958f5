use Rattle.report.proofs.page.Page.+digits.Given as goal

-- the number falls from call to call
abbrev pub decreases-digits : goal.decreases-digits
decreases-digits l = l.n
