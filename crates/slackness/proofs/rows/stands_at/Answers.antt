use Rattle.std.proofs.Common.{arith, ◌≡◌, Some, subst, Option, to_z, of_z, sym}
use Rattle.std.specs.Prelude.{slice_get}
use Rattle.std.specs.Int.{w64, w128}
use Rattle.std.proofs.lemmas.Int.{ints}
use Rattle.ip_defs.specs.Program.{row_sum}
use Rattle.ip_defs.specs.Certificates.{coefs_of}
use Rattle.ip_defs.specs.declared.programs.Row.{Row}
use Rattle.ip_model.proofs.PlaceLaws.{read_at}
use Rattle.slackness.specs.Tight.{StandsAt}
use Rattle.slackness.proofs.rows.stands_at.Goals as goal

pub row_value-value-requires-clause-coefs_small : goal.row_value-value-requires-clause-coefs_small
row_value-value-requires-clause-coefs_small c =
    let rows = c.args.parts.now.rows in
    let found = read_at rows c.as_slice-rows.result.now c.args.row c.index-rows-row.result c.as_slice-rows.ensures
    (rw c.as_slice-rows.ensures c.requires.within) c.index-rows-row.is in
    rw c.as_slice.ensures (c.requires.limits.rows c.args.row c.index-rows-row.result found).coefs

pub returns : goal.returns
returns c =
    let d : to_z w128 (of_z w128 c.args.denominator) ≡ c.args.denominator = omega (arith, ints) in
    let y : to_z w64 (of_z w64 c.args.multiplier) ≡ c.args.multiplier = omega (arith, ints) in
    let back : to_z w128 (of_z w128 c.row_value-value.result) ≡ c.row_value-value.result = omega (arith, ints) in
    let value = rw c.as_slice.ensures at c.row_value-value.ensures in
    let here = rw (d, y, back, value) at c.stands.ensures in
    let found : slice_get c.args.parts.now.rows c.args.row ≡ Some c.index-rows-row.result =
    read_at c.args.parts.now.rows c.as_slice-rows.result.now c.args.row c.index-rows-row.result c.as_slice-rows.ensures
    (rw c.as_slice-rows.ensures c.requires.within) c.index-rows-row.is in
    let Stands : Option Row → Type 0 = λ o. StandsAt c.args.denominator c.args.multiplier o (row_sum (coefs_of o) c.args.point.now) in
    (λ t. subst Stands (sym found) (here.0 t), λ t. here.1 (subst Stands found t))
