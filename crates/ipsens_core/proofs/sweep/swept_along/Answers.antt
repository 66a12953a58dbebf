use Rattle.std.specs.Prelude.{◌≡◌}
use Rattle.std.proofs.Common.{subst}
use Rattle.branching.proofs.AllowanceLaws.{allowance_fits}
use Rattle.rhs_sweep.specs.RowStops.{AreAmpleFor, IsRowStop}
use Rattle.rhs_sweep.specs.declared.stops.RowStop.TheVariants as Stops
use Rattle.tree_format.proofs.RowLimitLaws.{fits_within}
use Rattle.ipsens_core.specs.Solve.{limits_for}
use Rattle.ipsens_core.proofs.SolveLaws.{limits_by}
use Rattle.ipsens_core.proofs.SweepLaws.{most_fits, stop_answered, stop_within, sweep_answered}
use Rattle.ipsens_core.proofs.sweep.swept_along.Goals as goal

pub searched-requires-clause-limits : goal.searched-requires-clause-limits
searched-requires-clause-limits c =
    let fits = allowance_fits c.args.model.now c.args.asked.nodes c.parts-parts.ensures.limits c.requires.limits.0 c.requires.limits.1 in
    rw c.allowance.ensures (fits.0, fits.1, c.requires.limits.2)

pub answer_to_sweep-requires-clause-within : goal.answer_to_sweep-requires-clause-within
answer_to_sweep-requires-clause-within c =
    fits_within c.args.model.now c.in-Ok.sweep.pieces c.parts-parts.ensures.limits.column_count c.in-Ok.ensures.fits

pub answer_to_stop-requires : goal.answer_to_stop-requires
answer_to_stop-requires c =
    let m = c.args.model.now in
    let asked = c.args.asked in
    let course = c.args.course.now in
    let stop = c.in-Err.stop in
    let fits = allowance_fits m asked.nodes c.parts-parts.ensures.limits c.requires.limits.0 c.requires.limits.1 in
    let l = limits_for m asked.nodes asked.depth asked.pivots in
    let cause = subst (λ n. IsRowStop m course.dir course.steps (limits_by n asked) stop) c.allowance.ensures c.in-Err.ensures.stop in
    stop_within m course.dir course.steps l stop (most_fits m l fits.1) cause

pub returns-in-Ok : goal.returns-in-Ok
returns-in-Ok c =
    let m = c.args.model.now in
    let asked = c.args.asked in
    let course = c.args.course.now in
    let l = limits_for m asked.nodes asked.depth asked.pivots in
    sweep_answered m course.dir course.steps l c.args.proof.now c.in-Ok.sweep.pieces c.answer_to_sweep.result
    c.parts-parts.ensures.limits c.in-Ok.ensures.exact c.in-Ok.ensures.proved c.in-Ok.ensures.fits c.answer_to_sweep.ensures

pub returns-in-Err : goal.returns-in-Err
returns-in-Err c =
    let m = c.args.model.now in
    let asked = c.args.asked in
    let course = c.args.course.now in
    let stop = c.in-Err.stop in
    let l = limits_for m asked.nodes asked.depth asked.pivots in
    let cause = subst (λ n. IsRowStop m course.dir course.steps (limits_by n asked) stop) c.allowance.ensures c.in-Err.ensures.stop in
    let ends = subst (λ n. AreAmpleFor m course.steps (limits_by n asked) → stop ≡ Stops.Memory) c.allowance.ensures c.in-Err.ensures.ends in
    stop_answered m course.dir course.steps l c.args.proof.now stop c.answer_to_stop.result cause ends c.answer_to_stop.ensures.answer
    c.answer_to_stop.ensures.named
