use Rattle.std.proofs.Common.{refl, rules, arith, sym, ◌≡◌, to_z, of_z}
use Rattle.std.specs.Int.{w128}
use Rattle.lp_duality.specs.Relaxations.{numbers_of}
use Rattle.slackness.specs.Points.{point_of}
use Rattle.slackness.proofs.TightLaws.{numerators_small}
use Rattle.slackness.proofs.SameLaws.{optimal_same}
use Rattle.slackness.proofs.points.optimum.Goals as goal

pub fractions-requires-clause-small : goal.fractions-requires-clause-small
fractions-requires-clause-small c =
    let p = c.args.proposal.now in
    let right = c.if-not-is_optimal.ensures.exact.0 refl in
    rw c.as_slice.ensures (numerators_small c.args.model.now c.args.area.now p.denominator p.numerators p.cert c.requires.area
    right.denominator right.tight.size right.tight.columns)

pub returns-clause-optimal : goal.returns-clause-optimal
returns-clause-optimal c =
    let m = c.args.model.now in
    let p = c.args.proposal.now in
    let tight = (c.if-not-is_optimal.ensures.exact.0 refl).tight in
    let optimal = c.if-not-is_optimal.ensures.optimal refl in
    let same : to_z w128 (of_z w128 p.denominator) ≡ p.denominator = search rules in
    let values = rw (c.as_slice.ensures, same) at c.in_ok-point.ensures.values in
    optimal_same m c.args.area.now (point_of p.denominator p.numerators) (numbers_of c.in_ok-point.point) p.cert
    (λ j l. sym (values j (omega (arith, tight.size)))) optimal
