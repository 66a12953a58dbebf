use Rattle.std.proofs.Common.{◌∙◌, sym}
use Rattle.tableau.proofs.ListLaws.{is_wide}
use Rattle.simplex_laws.specs.Wides.{wide_price}
use Rattle.simplex_exact.proofs.directions.cost_direction.Goals as goal

pub returns-in-Err-clause-wide : goal.returns-in-Err-clause-wide
returns-in-Err-clause-wide c = wide_price c.args.var c.requires (sym c.price.ensures.exact
    ∙ is_wide c.price.result c.in-Err.field-0 c.in-Err.is)
