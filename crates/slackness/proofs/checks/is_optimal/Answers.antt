use Rattle.slackness.proofs.OptimumLaws.{complementary_slackness}
use Rattle.slackness.proofs.checks.is_optimal.Goals as goal

pub returns-clause-optimal : goal.returns-clause-optimal
returns-clause-optimal c = λ t.
    let p = c.args.proposal.now in
    let right = rw (c.parts.ensures.parts, c.as_slice.ensures) at (c.is_right.ensures.0 t) in
    complementary_slackness c.args.model.now c.args.area.now p.denominator p.numerators p.cert c.requires.area.size right.tight
