use Rattle.std.proofs.Common.{rules, ◌≡◌, ◌∙◌, ap, None, Option, ℤ, sym}
use Rattle.frac128.specs.Rationals.{of, sub, mul}
use Rattle.frac128.specs.Values.{value_of}
use Rattle.tableau.specs.Numbers.{side_or_zero}
use Rattle.tableau.proofs.NumberLaws.{less_nothing}
use Rattle.tableau.proofs.numbers.less_nonbasic.Goals as goal

pub returns-in-None-clause-value : goal.returns-in-None-clause-value
returns-in-None-clause-value c =
    let none : c.args.nonbasic_value ≡ None = search rules in
    less_nothing (value_of c.args.x) (value_of c.args.entry)
    ∙ ap (λ (o : Option ℤ). sub (value_of c.args.x) (mul (value_of c.args.entry) (of (side_or_zero o)))) (sym none)
