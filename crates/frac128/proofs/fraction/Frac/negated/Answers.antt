use Rattle.std.proofs.Common.{rules, ◌≡◌, ◌∙◌, ap}
use Rattle.frac128.specs.Fractions.{negative_of}
use Rattle.frac128.specs.Values.{value_of}
use Rattle.frac128.proofs.FractionLaws.{negative-value}
use Rattle.frac128.proofs.fraction.Frac.negated.Goals as goal

pub returns-clause-value : goal.returns-clause-value
returns-clause-value c =
    let is : c.fraction_of.result ≡ negative_of c.args.self = search rules in
    ap value_of is ∙ negative-value c.args.self
