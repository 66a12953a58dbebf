use Rattle.std.proofs.Common.{◌∙◌, sym, length, arith, ◌<◌}
use Rattle.simplex_laws.specs.Steps.{infeasible}
use Rattle.ip_model.proofs.StepLaws.{first_here}
use Rattle.simplex_exact.proofs.numbers.first_infeasible.Goals as goal

pub returns-in-Some-clause-infeasible : goal.returns-in-Some-clause-infeasible
returns-in-Some-clause-infeasible c =
    let T = c.args.tableau.now in
    let inside : c.loop-v.v < length T.variables = omega arith in
    sym (first_here (infeasible T) (length T.variables) c.loop-v.v c.in-Some.found c.loop-v.invariant.none (sym c.infeasible.ensures
    ∙ c.in-Some.is) inside)
