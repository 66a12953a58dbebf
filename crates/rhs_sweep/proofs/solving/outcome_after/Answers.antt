use Rattle.std.specs.Prelude.{ℕ, ◌≤◌}
use Rattle.std.proofs.Common.{ap, sym, subst, ◌∙◌}
use Rattle.ip_defs.specs.declared.programs.Parts.{Parts}
use Rattle.ip_model.specs.Sizes.{allowance, first_crossed}
use Rattle.rhs_sweep.proofs.StepLaws.{le_through, step_allowance, step_uncrossed}
use Rattle.rhs_sweep.proofs.solving.outcome_after.Goals as goal

pub solve-requires-clause-most : goal.solve-requires-clause-most
solve-requires-clause-most g c =
    let m = c.args.course.now.model.now in
    let d = c.args.course.now.dir.now in
    let same = ap (λ (n : Parts). allowance n 1000000) c.in_ok-moved.ensures ∙ step_allowance m d c.args.t 1000000 in
    let most = c.requires.course.most in
    let few = c.requires.most in
    let le : c.args.nodes ≤ allowance m 1000000 = le_through c.args.nodes c.args.course.now.limits.nodes (allowance m 1000000) few most in
    subst (λ (k : ℕ). c.args.nodes ≤ k) (sym same) le

pub solve-requires-clause-uncrossed : goal.solve-requires-clause-uncrossed
solve-requires-clause-uncrossed g c =
    let m = c.args.course.now.model.now in
    let d = c.args.course.now.dir.now in
    ap first_crossed c.in_ok-moved.ensures ∙ step_uncrossed m d c.args.t c.requires.course.widening c.requires.course.uncrossed
