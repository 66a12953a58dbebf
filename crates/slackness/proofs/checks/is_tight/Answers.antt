use Rattle.std.proofs.Common.{arith, rules, refl, ◌≡◌, to_z, of_z}
use Rattle.std.specs.Int.{w64, w128}
use Rattle.std.proofs.lemmas.Int.{ints}
use Rattle.leaf_cert.proofs.Taken.{taken_whole}
use Rattle.slackness.proofs.TightLaws.{tight_from, tight_by, numerators_small}
use Rattle.slackness.proofs.checks.is_tight.Goals as goal

pub are_tight-requires-clause-taken_small : goal.are_tight-requires-clause-taken_small
are_tight-requires-clause-taken_small c = λ j l.
    let y = c.args.cert.now.y in
    let is = rw c.as_slice-y.ensures at (c.take_rows.ensures j l) in
    rw is (taken_whole c.args.parts.now y j c.requires.limits c.requires.cert.ordered c.requires.cert.multipliers)

pub returns-then-not-are_tight : goal.returns-then-not-are_tight
returns-then-not-are_tight c =
    let d : to_z w128 (of_z w128 c.args.denominator) ≡ c.args.denominator = omega (arith, ints) in
    let same : to_z w64 (of_z w64 c.args.cert.now.q) ≡ c.args.cert.now.q = search rules in
    let columns = rw (d, same) at c.if-not-are_tight.ensures in
    let taken = rw c.as_slice-y.ensures at c.take_rows.ensures in (
      λ t. absurd cc,
      λ t. columns.1 (tight_by c.args.parts.now c.args.area.now c.args.denominator c.args.point.now c.args.cert.now
          c.take_rows.new.taken c.requires.area.size (λ j l. taken j (omega (arith, c.requires.area.size, c.requires.taken))) t.columns),
    )

pub are_within_and_paid-requires-clause-point_small : goal.are_within_and_paid-requires-clause-point_small
are_within_and_paid-requires-clause-point_small c =
    let d : to_z w128 (of_z w128 c.args.denominator) ≡ c.args.denominator = omega (arith, ints) in
    let same : to_z w64 (of_z w64 c.args.cert.now.q) ≡ c.args.cert.now.q = search rules in
    numerators_small c.args.parts.now c.args.area.now c.args.denominator c.args.point.now c.args.cert.now c.requires.area
    c.requires.denominator c.requires.point (tight_from c.args.parts.now c.args.area.now c.args.denominator c.args.point.now
    c.args.cert.now c.take_rows.new.taken c.requires.area.size
    (λ j l. (rw c.as_slice-y.ensures at c.take_rows.ensures) j (omega (arith, c.requires.area.size, c.requires.taken)))
    ((rw (d, same) at c.if-not-are_tight.ensures).0 refl))

pub returns : goal.returns
returns c =
    let d : to_z w128 (of_z w128 c.args.denominator) ≡ c.args.denominator = omega (arith, ints) in
    let same : to_z w64 (of_z w64 c.args.cert.now.q) ≡ c.args.cert.now.q = search rules in
    let rows = rw (d, c.as_slice-y.ensures) at c.are_within_and_paid.ensures in (
      λ t. record {
        size = c.requires.point;
        positive = c.requires.denominator.positive;
        divisor = rw same at (c.if-not-is_positive.ensures.0 refl);
        columns = tight_from c.args.parts.now c.args.area.now c.args.denominator c.args.point.now c.args.cert.now
            c.take_rows.new.taken c.requires.area.size
            (λ j l. (rw c.as_slice-y.ensures at c.take_rows.ensures) j (omega (arith, c.requires.area.size, c.requires.taken)))
            ((rw (d, same) at c.if-not-are_tight.ensures).0 refl);
        rows = (rows.0 t).0;
        paid = (rows.0 t).1;
      },
      λ t. rows.1 (t.rows, t.paid),
    )
