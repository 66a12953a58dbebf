use Rattle.std.proofs.Common.{arith, subst, ◌+◌, Option, List, MatchOption}
use Rattle.frac128.specs.Fractions.{Fraction}
use Rattle.tableau.specs.Meanings.{price_number}
use Rattle.simplex_laws.specs.Wides.{HasWideNumber}
use Rattle.simplex_exact.specs.Answers.{AreNumbers}
use Rattle.simplex_exact.proofs.finals.best.Goals as goal

pub returns-in-Some : goal.returns-in-Some
returns-in-Some c =
    let T = c.args.tableau.now in (
      c.in_ok-point.ensures T (λ v h. c.requires.values v (omega arith)),
      subst (λ (o : Option (List Fraction)). MatchOption o (HasWideNumber T) (AreNumbers c.args.rows
          (λ k. price_number T (c.args.columns + k)))) c.in-Some.is c.in_ok-prices.ensures,
    )

pub returns-in-None : goal.returns-in-None
returns-in-None c =
    let T = c.args.tableau.now in
    subst (λ (o : Option (List Fraction)). MatchOption o (HasWideNumber T) (AreNumbers c.args.rows
    (λ k. price_number T (c.args.columns + k)))) c.in-None.is c.in_ok-prices.ensures
