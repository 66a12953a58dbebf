use Rattle.std.proofs.lemmas.Result.{IfOk-weaker}
use Rattle.branching.specs.Outcomes.{IsRightOutcome, IsTrueOutcome}
use Rattle.branching.specs.Sizes.{AreAmple, IsAnswer}
use Rattle.branching.specs.Counts.{AreCountsWithin}
use Rattle.branching.proofs.CountLaws.{counts_within}
use Rattle.branching.proofs.EndLaws.{searches_end}
use Rattle.branching.proofs.OutcomeLaws.{outcomes_are_true}
use Rattle.branching.proofs.search.solve.Goals as goal

pub returns-clause-holds : goal.returns-clause-holds
returns-clause-holds g c =
    let m = c.args.model.now in
    let l = c.args.limits in
    IfOk-weaker c.solve_with.result (IsRightOutcome m l) (IsTrueOutcome m) (outcomes_are_true m l) c.solve_with.ensures.right

pub returns-clause-ends : goal.returns-clause-ends
returns-clause-ends g c =
    let m = c.args.model.now in
    let l = c.args.limits in
    IfOk-weaker c.solve_with.result (IsRightOutcome m l) (λ o. AreAmple m l → IsAnswer o) (searches_end m l) c.solve_with.ensures.right

pub returns-clause-counts : goal.returns-clause-counts
returns-clause-counts g c =
    let m = c.args.model.now in
    let l = c.args.limits in
    IfOk-weaker c.solve_with.result (IsRightOutcome m l) (AreCountsWithin l) (counts_within m l) c.solve_with.ensures.right
