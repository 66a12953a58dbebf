use Rattle.std.proofs.Common.{rules, ◌≡◌, ◌∙◌, ap, ◌*ℤ◌}
use Rattle.std.specs.Ordering.{int_cmp}
use Rattle.frac128.specs.Fractions.{IsFraction}
use Rattle.frac128.proofs.ComparisonLaws.{times-order}
use Rattle.frac128.proofs.comparison.comparison.Goals as goal

pub returns-then-a-c-clause-exact : goal.returns-then-a-c-clause-exact
returns-then-a-c-clause-exact c =
    let first : IsFraction c.args.a.num c.args.a.den = search rules in
    let same : c.args.a.den ≡ c.args.c.den = search rules in
    let is : c.cmp.result ≡ int_cmp c.args.a.num c.args.c.num = search rules in
    times-order c.args.a.num c.args.c.num c.args.a.den c.cmp.result first.positive is
    ∙ ap (λ d. int_cmp (c.args.a.num *ℤ d) (c.args.c.num *ℤ c.args.a.den)) same
