use Rattle.std.proofs.Common.{◌∙◌, ◌+◌, ◌<◌, sym, arith, length}
use Rattle.tableau.proofs.ListLaws.{is_wide}
use Rattle.simplex_laws.specs.Wides.{wide_price}
use Rattle.simplex_exact.proofs.finals.prices.Goals as goal

pub returns-in-Err : goal.returns-in-Err
returns-in-Err c =
    let inside : c.args.columns + c.loop-k.k < length c.args.tableau.now.variables = omega arith in
    wide_price (c.args.columns + c.loop-k.k) inside (sym c.price.ensures.exact ∙ is_wide c.price.result c.in-Err.field-0 c.in-Err.is)
