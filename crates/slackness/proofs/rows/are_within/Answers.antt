use Rattle.std.proofs.Common.{refl, arith, ap, ◌≡◌, length, Some, to_z, of_z, subst, below_more}
use Rattle.std.specs.Prelude.{slice_get}
use Rattle.std.specs.Int.{w128}
use Rattle.std.proofs.lemmas.Int.{ints}
use Rattle.std.proofs.lemmas.Option.{slice_get_within}
use Rattle.ip_defs.specs.Program.{row_sum}
use Rattle.ip_defs.specs.declared.programs.Row.{Row}
use Rattle.ip_model.proofs.PlaceLaws.{read_at}
use Rattle.slackness.specs.Tight.{IsWithinSides}
use Rattle.slackness.proofs.rows.are_within.Goals as goal

pub row_value-value-requires-clause-coefs_small : goal.row_value-value-requires-clause-coefs_small
row_value-value-requires-clause-coefs_small c =
    let m = c.args.parts.now in
    let i = c.loop-row.row-index in
    let row = c.row-item.result in
    let found : slice_get m.rows i ≡ Some row = read_at m.rows c.as_slice-row-items.result.now i row c.as_slice-row-items.ensures
    c.loop-row-test.true c.row-item.is in
    rw c.as_slice.ensures (c.requires.limits.rows i row found).coefs

pub returns-then-not-is_within : goal.returns-then-not-is_within
returns-then-not-is_within c =
    let m = c.args.parts.now in
    let i = c.loop-row.row-index in
    let row = c.row-item.result in
    let found : slice_get m.rows i ≡ Some row = read_at m.rows c.as_slice-row-items.result.now i row c.as_slice-row-items.ensures
    c.loop-row-test.true c.row-item.is in
    let d : to_z w128 (of_z w128 c.args.denominator) ≡ c.args.denominator = omega (arith, ints) in
    let back : to_z w128 (of_z w128 c.row_value-value.result) ≡ c.row_value-value.result = omega (arith, ints) in
    let value = rw c.as_slice.ensures at c.row_value-value.ensures in
    let here = rw (d, back, value) at c.if-not-is_within.ensures in
    (λ t. absurd cc, λ all. here.1 (all i row found))

pub loop-row-preserved : goal.loop-row-preserved
loop-row-preserved c =
    let m = c.args.parts.now in
    let i = c.loop-row.row-index in
    let row = c.row-item.result in
    let found : slice_get m.rows i ≡ Some row = read_at m.rows c.as_slice-row-items.result.now i row c.as_slice-row-items.ensures
    c.loop-row-test.true c.row-item.is in
    let back : to_z w128 (of_z w128 c.row_value-value.result) ≡ c.row_value-value.result = omega (arith, ints) in
    let value = rw c.as_slice.ensures at c.row_value-value.ensures in
    let here = rw (back, value) at c.if-not-is_within.ensures in
    below_more _ _ c.loop-row.invariant (λ r e.
    let same : row ≡ r = cc in
    subst (λ (r : Row). IsWithinSides (to_z w128 (of_z w128 c.args.denominator)) r.low r.high (row_sum r.coefs c.args.point.now)) same
    (here.0 refl))

pub returns : goal.returns
returns c = (
  λ t k r e.
      let m = c.args.parts.now in
      let within = slice_get_within m.rows k r e in
      let same = ap length c.as_slice-row-items.ensures in
      let end = c.loop-row-test.false in
      let d : to_z w128 (of_z w128 c.args.denominator) ≡ c.args.denominator = omega (arith, ints) in
      subst (λ z. IsWithinSides z r.low r.high (row_sum r.coefs c.args.point.now)) d (c.loop-row.invariant k (omega arith) r e),
  λ t. refl,
)
