use Rattle.std.proofs.Common.{◌∙◌, sym, ap, length, arith, ◌<◌, option_map}
use Rattle.tableau.specs.Nodes.{number}
use Rattle.simplex_laws.specs.Steps.{direction}
use Rattle.ip_model.proofs.StepLaws.{first_here}
use Rattle.simplex_exact.specs.Internal.Numbers.{turned}
use Rattle.simplex_exact.proofs.directions.row_entering.Goals as goal

pub returns-in-Some : goal.returns-in-Some
returns-in-Some c =
    let T = c.args.tableau.now in
    let v = c.loop-var.var in
    let inside : v < length T.variables = omega arith in
    sym (first_here (λ v. option_map (λ advance. v) (direction T (turned c.args.up (number T c.args.row v)) v)) (length T.variables) v v
    c.loop-var.invariant
    (ap (option_map (λ advance. v)) (sym c.row_direction.ensures ∙ c.in-Some.is)) inside)
