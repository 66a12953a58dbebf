use Rattle.std.proofs.Common.{rules}
use Rattle.frac128.specs.Fractions.{IsFraction}
use Rattle.frac128.proofs.FractionLaws.{IsFraction-turned}
use Rattle.frac128.proofs.products.reciprocal.Goals as goal

pub fraction_of-requires : goal.fraction_of-requires
fraction_of-requires c =
    let given : IsFraction c.args.c.num c.args.c.den = search rules in
    IsFraction-turned c.args.c.num c.args.c.den _ _ given (search rules) (search rules) (search rules)

pub fraction_of-requires-else-c-lt0 : goal.fraction_of-requires-else-c-lt0
fraction_of-requires-else-c-lt0 c =
    let given : IsFraction c.args.c.num c.args.c.den = search rules in
    IsFraction-turned c.args.c.num c.args.c.den _ _ given (search rules) (search rules) (search rules)
