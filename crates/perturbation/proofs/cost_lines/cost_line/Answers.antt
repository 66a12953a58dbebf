use Rattle.std.proofs.Common.{rules, ◌≡◌, Ok}
use Rattle.std.specs.Int.{w128}
use mir.Val.{SFits}
use Rattle.std.proofs.lemmas.Int.{to_z-of_z}
use Rattle.perturbation.specs.Lines.{columns_at as columns_at_of, first_large_cost, unless_large, without_constant}
use Rattle.perturbation.proofs.LineLaws.{cost_line_limits}
use Rattle.perturbation.proofs.cost_lines.cost_line.Goals as goal

pub columns_at-requires-clause-columns : goal.columns_at-requires-clause-columns
columns_at-requires-clause-columns c j column at =
    (c.parts-parts.ensures.limits.columns j column (rw (c.as_slice.ensures, c.parts-parts.ensures.parts) at at)).cost

pub made-requires : goal.made-requires
made-requires c =
    let m = c.args.model.now in
    let p_fits : SFits w128 c.args.p = search rules in
    let q_fits : SFits w128 c.args.q = search rules in
    let told : unless_large (first_large_cost (columns_at_of m.columns c.args.dir.now c.args.p c.args.q))
    (columns_at_of m.columns c.args.dir.now c.args.p c.args.q) ≡ Ok c.in-Ok.columns =
    rw (to_z-of_z w128 c.args.p p_fits, to_z-of_z w128 c.args.q q_fits, c.as_slice.ensures, c.parts-parts.ensures.parts)
    at c.in-Ok.ensures in
    let is : c.in_ok-without_constant.field-0 ≡ without_constant m c.in-Ok.columns =
    rw c.parts-parts.ensures.parts at c.in_ok-without_constant.ensures in
    cost_line_limits m c.args.dir.now c.args.p c.args.q c.in-Ok.columns c.in_ok-without_constant.field-0 c.parts-parts.ensures.limits
    told is
