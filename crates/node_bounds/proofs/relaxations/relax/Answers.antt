use Rattle.std.proofs.Common.{arith, rules, ◌-◌, ◌∙◌, ◌≤◌, sym}
use Rattle.node_bounds.specs.Reasons.{wide_run, long_prices, long_ray}
use Rattle.ip_defs.proofs.BoxLaws.{open_sides}
use Rattle.node_bounds.proofs.PriceLaws.{prices_bound}
use Rattle.node_bounds.proofs.StepLaws.{answered_least}
use Rattle.node_bounds.proofs.relaxations.relax.Goals as goal

pub solve_lp-requires-clause-proper : goal.solve_lp-requires-clause-proper
solve_lp-requires-clause-proper g c = open_sides c.args.task.now.area.now c.requires.open

pub bounded-requires-clause-bounds : goal.bounded-requires-clause-bounds
bounded-requires-clause-bounds g c =
    let best = rw c.in-Best.is at c.in_ok-point.ensures.answer in
    let meaning = rw c.in-Some-2.is at c.in_ok-cert-in-Best.ensures.meaning in
    let n = c.solve_lp.new.steps - c.args.steps.now in
    prices_bound c.args.task.now.model.now c.args.task.now.area.now n c.in-Best.point c.in-Best.prices c.in-Some-2.cert
    c.requires.task.area best meaning

pub returns-in-Best-clause-relaxed : goal.returns-in-Best-clause-relaxed
returns-in-Best-clause-relaxed g c =
    let best = rw c.in-Best.is at c.in_ok-point.ensures.answer in
    let n = c.solve_lp.new.steps - c.args.steps.now in
    long_prices n c.in-Best.point c.in-Best.prices (omega arith) best (sym c.in_ok-cert-in-Best.ensures.exact ∙ c.in-None.is)

pub returns-in-Empty-clause-relaxed : goal.returns-in-Empty-clause-relaxed
returns-in-Empty-clause-relaxed g c =
    let empty = rw c.in-Empty.is at c.in_ok-point.ensures.answer in
    let n = c.solve_lp.new.steps - c.args.steps.now in
    long_ray n c.in-Empty.ray (omega arith) empty (sym c.in_ok-cert-in-Empty.ensures.exact ∙ c.in-None-2.is)

pub returns-clause-relaxed : goal.returns-clause-relaxed
returns-clause-relaxed g c =
    wide_run (c.solve_lp.new.steps - c.args.steps.now) (omega arith) (rw c.in-Wide.is at c.in_ok-point.ensures.answer)

pub returns-in-Some-2-clause-least : goal.returns-in-Some-2-clause-least
returns-in-Some-2-clause-least g c =
    let rises : c.args.steps.now ≤ c.solve_lp.new.steps = search rules in
    answered_least c.bounded.result c.args.steps.now c.solve_lp.new.steps c.args.task.now.pivots c.bounded.ensures.answered rises
