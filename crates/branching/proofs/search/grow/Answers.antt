use Rattle.std.proofs.Common.{arith}
use Rattle.branching.proofs.search.grow.Goals as goal

pub round-requires-clause-growing : goal.round-requires-clause-growing
round-requires-clause-growing g c =
    let begun = c.requires.growing.0 in
    (begun, c.rounds.invariant.growing begun c.requires.growing.1)

pub rounds-smaller : goal.rounds-smaller
rounds-smaller g c =
    let begun = c.requires.growing.0 in
    let after = rw c.in-Went.is at (c.in_ok-step.ensures.after begun (c.rounds.invariant.growing begun c.requires.growing.1)) in
    after.1

pub rounds-preserved : goal.rounds-preserved
rounds-preserved g c = record {
  fits = c.in_ok-step.ensures.fits;
  growing = λ begun growing.
      let after = rw c.in-Went.is at (c.in_ok-step.ensures.after begun (c.rounds.invariant.growing begun growing)) in
      after.0;
  rises = (let first = c.rounds.invariant.rises in let more = c.in_ok-step.ensures.rises in omega arith);
}

pub returns-in-Ended-clause-ended : goal.returns-in-Ended-clause-ended
returns-in-Ended-clause-ended g c = λ begun growing.
    rw c.in-Ended.is at (c.in_ok-step.ensures.after begun (c.rounds.invariant.growing begun growing))
