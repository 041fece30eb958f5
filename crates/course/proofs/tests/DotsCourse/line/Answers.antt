use Rattle.std.proofs.Common.{[], ◌∷◌, sym, ◌∙◌, arith, eqb-true}
use Rattle.std.proofs.lemmas.Bool.{eqb-false}
use Rattle.sheet.proofs.RequestLaws.{taken}
use Rattle.report.proofs.PutLaws.{puts_none}
use Rattle.course.specs.Through.Through.{none, accepted, refused, ended}
use Rattle.course.proofs.tests.DotsCourse.line.Goals as goal

pub returns-in_default : goal.returns-in_default
returns-in_default c here no_scan =
    record {
      piece = [];
      through = ended none here (sym c.next_request.ensures ∙ c.in_default.is);
      put = puts_none;
      short = omega arith;
      further = omega (arith, here);
    }

pub returns-then-is_dotted : goal.returns-then-is_dotted
returns-then-is_dotted c here no_scan =
    let found = sym c.next_request.ensures ∙ c.in-Some.is in
    record {
      piece = 46 ∷ [];
      through = accepted none found (eqb-true _ _ (sym c.is_dotted.ensures ∙ c.if-is_dotted.true));
      put = c.byte.ensures;
      short = omega arith;
      further = (taken _ _ _ _ found).further;
    }

pub returns-else-is_dotted : goal.returns-else-is_dotted
returns-else-is_dotted c here no_scan =
    let found = sym c.next_request.ensures ∙ c.in-Some.is in
    record {
      piece = 33 ∷ [];
      through = refused none found (eqb-false _ _ (sym c.is_dotted.ensures ∙ c.if-is_dotted.false));
      put = c.byte-else-is_dotted.ensures;
      short = omega arith;
      further = omega (arith, here);
    }
