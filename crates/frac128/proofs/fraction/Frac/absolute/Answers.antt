use Rattle.std.proofs.Common.{rules, ◌≡◌, ◌∙◌, ap}
use Rattle.frac128.specs.Fractions.{IsFraction, absolute_of}
use Rattle.frac128.specs.Values.{value_of}
use Rattle.frac128.proofs.SignLaws.{absolute-value}
use Rattle.frac128.proofs.fraction.Frac.absolute.Goals as goal

pub returns-then-self-lt0-clause-value : goal.returns-then-self-lt0-clause-value
returns-then-self-lt0-clause-value c =
    let fraction : IsFraction c.args.self.num c.args.self.den = search rules in
    let is : c.negated.result ≡ absolute_of c.args.self = search rules in
    ap value_of is ∙ absolute-value c.args.self fraction

pub returns-else-self-lt0-clause-value : goal.returns-else-self-lt0-clause-value
returns-else-self-lt0-clause-value c =
    let fraction : IsFraction c.args.self.num c.args.self.den = search rules in
    let is : c.args.self ≡ absolute_of c.args.self = search rules in
    ap value_of is ∙ absolute-value c.args.self fraction
