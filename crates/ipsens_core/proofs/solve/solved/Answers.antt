use Rattle.std.proofs.Common.{subst}
use Rattle.branching.specs.Outcomes.{IsRightOutcome}
use Rattle.branching.specs.Sizes.{AreAmple, IsAnswer}
use Rattle.ipsens_core.specs.Solve.{limits_for}
use Rattle.ipsens_core.proofs.SolveLaws.{has_outcome, limits_by, outcome_spelled, points_whole}
use Rattle.branching.proofs.AllowanceLaws.{allowance_fits}
use Rattle.ipsens_core.proofs.solve.solved.Goals as goal

pub searched-requires-clause-limits : goal.searched-requires-clause-limits
searched-requires-clause-limits c =
    let fits = allowance_fits c.args.model.now c.args.asked.nodes c.parts-parts.ensures.limits c.requires.limits.0 c.requires.limits.1 in
    rw c.allowance.ensures (fits.0, fits.1, c.requires.limits.2)

pub solve_text-requires-clause-points : goal.solve_text-requires-clause-points
solve_text-requires-clause-points c = points_whole _ _ c.in_ok-outcome.ensures.holds

pub saved_of-requires : goal.saved_of-requires
saved_of-requires c = outcome_spelled _ _ _ c.parts-parts.ensures.limits c.in_ok-outcome.ensures.right

pub returns : goal.returns
returns c =
    let m = c.args.model.now in
    let asked = c.args.asked in
    let o = c.in_ok-outcome.outcome in
    let right = subst (λ n. IsRightOutcome m (limits_by n asked) o) c.allowance.ensures c.in_ok-outcome.ensures.right in
    let ends = subst (λ n. AreAmple m (limits_by n asked) → IsAnswer o) c.allowance.ensures c.in_ok-outcome.ensures.ends in
    let has = has_outcome m (limits_for m asked.nodes asked.depth asked.pivots) c.args.tree.now o c.outcome_status.result
    c.in_ok-text.text.items _ c.parts-parts.ensures.limits right c.in_ok-outcome.ensures.holds ends
    c.in_ok-outcome.ensures.first c.outcome_status.ensures
    c.in_ok-text.ensures.text c.in_ok-saved.ensures in
    record { outcome = has }
