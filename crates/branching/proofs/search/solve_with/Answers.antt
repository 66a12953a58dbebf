use Rattle.std.proofs.lemmas.Result.{IfOk-weaker}
use Rattle.open_nodes.specs.OpenTrees.{plain_open}
use Rattle.branching.specs.BestFirst.{IsBestFirst}
use Rattle.branching.specs.Counts.{nodes_of, stopped_of, IsCounted}
use Rattle.branching.specs.Outcomes.{HasOneStuck, IsRightOutcome}
use Rattle.branching.specs.Internal.Growth.{IsEnded}
use Rattle.branching.specs.Internal.Search.{IsAnswerOf, point_of}
use Rattle.branching.proofs.LoopLaws.{ended_counted, ended_done, ended_first, ended_ready, ended_right}
use Rattle.branching.proofs.LoopLaws.{stopped_counted, stopped_first, stopped_once, stopped_right}
use Rattle.branching.proofs.SearchLaws.{answer_has_none}
use Rattle.branching.proofs.search.solve_with.Given as given
use Rattle.branching.proofs.search.solve_with.Goals as goal
use Rattle.branching.proofs.search.solve_with.Goals.{In_ok-stop}

-- how the search ended
ended : (g : given.Over) (c : goal.In_ok-stop g)
    → IsEnded c.args.model.now c.args.limits c.grow.new.search.found c.grow.new.search.open c.args.steps.now c.grow.new.steps
    c.in_ok-stop.stop
ended g c =
    let begun = c.args.steps.now in
    c.in_ok-stop.ensures.ended begun (c.in_ok-search.ensures.growing c.args.limits c.requires.nodes begun)

pub grow-requires-clause-growing : goal.grow-requires-clause-growing
grow-requires-clause-growing g c =
    let begun = c.args.steps.now in
    (begun, c.in_ok-search.ensures.growing c.args.limits c.requires.nodes begun)

pub assemble-requires : goal.assemble-requires
assemble-requires g c =
    let over = ended g (goal.at.assemble-requires g c).In_ok-stop in
    record { frontier = ended_ready c.args.model.now c.args.limits c.grow.new.search.found _ _ _ c.in_ok-stop.stop over }

pub answer-requires : goal.answer-requires
answer-requires g c =
    let over = rw c.in-None.is at (ended g (goal.at.answer-requires g c).In_ok-stop) in
    ended_done c.args.model.now c.args.limits c.grow.new.search.found _ _ c.in_ok-tree.ensures.tree _ _ over

pub returns-in-None-clause-right : goal.returns-in-None-clause-right
returns-in-None-clause-right g c =
    let over = rw c.in-None.is at (ended g (goal.at.returns-in-None-clause-right g c).In_ok-stop) in
    IfOk-weaker c.answer.result (IsAnswerOf (plain_open c.in_ok-tree.tree) (point_of c.grow.new.search.found))
    (IsRightOutcome c.args.model.now c.args.limits)
    (λ o made. ended_right c.args.model.now c.args.limits c.grow.new.search.found _ _ c.in_ok-tree.ensures.tree _ _ over o made
    c.in_ok-search.ensures.limits c.requires.most c.requires.depth)
    (rw c.best_point-best.ensures at c.answer.ensures)

pub returns-in-None-clause-first : goal.returns-in-None-clause-first
returns-in-None-clause-first g c =
    let over = rw c.in-None.is at (ended g (goal.at.returns-in-None-clause-first g c).In_ok-stop) in
    IfOk-weaker c.answer.result (IsAnswerOf (plain_open c.in_ok-tree.tree) (point_of c.grow.new.search.found))
    (IsBestFirst c.args.model.now)
    (λ o made. ended_first c.args.model.now c.args.limits c.grow.new.search.found _ _ c.in_ok-tree.ensures.tree _ _ over o made)
    (rw c.best_point-best.ensures at c.answer.ensures)

pub returns-in-None-clause-stuck : goal.returns-in-None-clause-stuck
returns-in-None-clause-stuck g c =
    let t = plain_open c.in_ok-tree.tree in
    IfOk-weaker c.answer.result (IsAnswerOf t c.best_point-best.result) HasOneStuck (answer_has_none t c.best_point-best.result)
    c.answer.ensures

pub returns-in-None-clause-counted : goal.returns-in-None-clause-counted
returns-in-None-clause-counted g c =
    let over = rw c.in-None.is at (ended g (goal.at.returns-in-None-clause-counted g c).In_ok-stop) in
    IfOk-weaker c.answer.result (IsAnswerOf (plain_open c.in_ok-tree.tree) (point_of c.grow.new.search.found))
    (λ o. IsCounted c.args.limits (stopped_of o) (nodes_of o) c.args.steps.now c.grow.new.steps)
    (λ o made. ended_counted c.args.model.now c.args.limits c.grow.new.search.found _ _ c.in_ok-tree.ensures.tree _ _ over o made)
    (rw c.best_point-best.ensures at c.answer.ensures)

pub returns-clause-right : goal.returns-clause-right
returns-clause-right g c =
    let over = rw c.in-Some.is at (ended g (goal.at.returns-clause-right g c).In_ok-stop) in
    rw c.best_point-best.ensures (stopped_right c.args.model.now c.args.limits c.grow.new.search.found _ _ c.in_ok-tree.ensures.tree _ _
    c.in-Some.what over)

pub returns-clause-first : goal.returns-clause-first
returns-clause-first g c =
    let over = rw c.in-Some.is at (ended g (goal.at.returns-clause-first g c).In_ok-stop) in
    rw c.best_point-best.ensures (stopped_first c.args.model.now c.args.limits c.grow.new.search.found _ _ c.in_ok-tree.ensures.tree _ _
    c.in-Some.what over)

pub returns-clause-stuck : goal.returns-clause-stuck
returns-clause-stuck g c =
    let over = rw c.in-Some.is at (ended g (goal.at.returns-clause-stuck g c).In_ok-stop) in
    stopped_once c.args.model.now c.args.limits c.grow.new.search.found _ _ c.in_ok-tree.ensures.tree _ _ c.in-Some.what over

pub returns-clause-counted : goal.returns-clause-counted
returns-clause-counted g c =
    let over = rw c.in-Some.is at (ended g (goal.at.returns-clause-counted g c).In_ok-stop) in
    stopped_counted c.args.model.now c.args.limits c.grow.new.search.found _ _ c.in_ok-tree.ensures.tree _ _ c.in-Some.what over
