use Rattle.std.proofs.Common.{arith, ◌≡◌, ◌∙◌, ◌^◌, ap, sym, subst, to_z, of_z, Some, Option, List, ℕ, ℤ}
use Rattle.std.specs.Prelude.{slice_get}
use Rattle.std.specs.Int.{w128}
use Rattle.std.proofs.lemmas.Int.{ints}
use Rattle.ip_defs.specs.Certificates.{coefs_of}
use Rattle.ip_defs.specs.Limits.{AreSmall}
use Rattle.ip_defs.specs.Program.{row_sum}
use Rattle.ip_defs.specs.declared.programs.Row.{Row}
use Rattle.ip_model.proofs.PlaceLaws.{read_at}
use Rattle.range_finder.proofs.points.value_of.Goals as goal

pub row_value-requires-clause-small : goal.row_value-requires-clause-small
row_value-requires-clause-small c =
    let m = c.args.parts.now in
    let row = c.index-as_slice-row.result in
    let found : slice_get m.rows c.args.row ≡ Some row = read_at m.rows c.as_slice.result.now c.args.row row c.as_slice.ensures
    (rw c.as_slice.ensures c.requires.row) c.index-as_slice-row.is in
    let same : c.as_slice-2.result.now ≡ row.coefs = c.as_slice-2.ensures in
    subst (λ (ps : List (ℕ × ℤ)). AreSmall (2 ^ 40) ps) (sym same) (c.requires.limits.rows c.args.row row found).coefs

pub returns-clause-value : goal.returns-clause-value
returns-clause-value c =
    let m = c.args.parts.now in
    let x = c.args.point.now in
    let row = c.index-as_slice-row.result in
    let found : slice_get m.rows c.args.row ≡ Some row = read_at m.rows c.as_slice.result.now c.args.row row c.as_slice.ensures
    (rw c.as_slice.ensures c.requires.row) c.index-as_slice-row.is in
    let same : c.as_slice-2.result.now ≡ row.coefs = c.as_slice-2.ensures in
    let back : to_z w128 (of_z w128 c.row_value.result) ≡ c.row_value.result = omega (arith, ints) in
    back ∙ c.row_value.ensures.value ∙ ap (λ (ps : List (ℕ × ℤ)). row_sum ps x) same
    ∙ ap (λ (o : Option Row). row_sum (coefs_of o) x) (sym found)
