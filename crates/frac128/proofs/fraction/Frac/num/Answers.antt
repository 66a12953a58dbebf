use Rattle.std.proofs.Common.{rules, ◌≡◌, ◌∙◌, sym, to_z, of_z}
use Rattle.std.specs.Int.{w128}
use Rattle.frac128.specs.Fractions.{IsFraction}
use Rattle.frac128.proofs.SignLaws.{value_numerator}
use Rattle.frac128.proofs.fraction.Frac.num.Goals as goal

pub returns-clause-numerator : goal.returns-clause-numerator
returns-clause-numerator c =
    let fraction : IsFraction c.args.self.num c.args.self.den = search rules in
    let read : to_z w128 (of_z w128 c.self.inside.num) ≡ c.args.self.num = search rules in
    read ∙ sym (value_numerator c.args.self fraction)
