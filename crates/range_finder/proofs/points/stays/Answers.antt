use Rattle.std.proofs.Common.{rules, arith, ◌≡◌, ◌∙◌, ◌↔◌, ◌+ℤ◌, ◌^◌, IsTrue, ap, sym, subst, to_z, of_z, Some}
use Rattle.std.specs.Int.{w64, w128}
use Rattle.std.specs.Int.Signed.{le_z}
use mir.Val.{SFits}
use Rattle.std.proofs.lemmas.Int.{ints, to_z-of_z}
use Rattle.ip_defs.specs.Program.{at}
use Rattle.ip_model.specs.declared.places.Place.{Place}
use Rattle.ip_model.specs.declared.places.Place.TheVariants.{High, Upper}
use Rattle.ip_model.specs.Places.{number_of, limit_of}
use Rattle.leaf_cert.proofs.ChangedSums.{change_small, number_small}
use Rattle.range_finder.specs.Internal.Points.{Stays, value_of}
use Rattle.range_finder.proofs.PointLaws.{at_most}
use Rattle.range_finder.proofs.StepLaws.{limit_small}
use Rattle.range_finder.proofs.points.stays.Goals as goal

pub keeps_row-requires-clause-by : goal.keeps_row-requires-clause-by
keeps_row-requires-clause-by c =
    let small = change_small c.args.parts.now (Some (c.args.place, c.args.by)) c.requires.limits (c.requires.exists, c.requires.within) in
    let limit : limit_of c.args.place ≡ 2 ^ 40 = ap limit_of c.in-Coef.is in
    omega (arith, ints)

pub returns-in-Upper : goal.returns-in-Upper
returns-in-Upper c =
    let m = c.args.parts.now in
    let x = c.args.point.now in
    let j = c.in-Upper.j in
    let fits : SFits w64 (at x j) = search rules in
    let read = rw (to_z-of_z w64 (at x j) fits) at c.from-in-Upper.ensures in
    let coordinate : to_z w128 (of_z w128 c.from-in-Upper.result) ≡ at x j = omega (arith, ints) in
    let small = number_small m c.args.place c.requires.limits c.requires.exists in
    let within = c.requires.within in
    let most = limit_small c.args.place in
    let is = c.number_at.ensures in
    let wide = c.from.ensures in
    let total = c.total_of-number.ensures in
    let number : to_z w128 (of_z w128 c.total_of-number.result) ≡ number_of m c.args.place +ℤ c.args.by = omega (arith, ints) in
    let same : number_of m c.args.place +ℤ c.args.by ≡ number_of m (Upper c.in-Upper.j) +ℤ c.args.by =
    ap (λ (p : Place). number_of m p +ℤ c.args.by) c.in-Upper.is in
    subst (λ (p : Place). IsTrue (le_z (to_z w128 (of_z w128 c.from-in-Upper.result)) (to_z w128 (of_z w128 c.total_of-number.result))) ↔
    Stays m p c.args.by x) (sym c.in-Upper.is)
    (at_most (to_z w128 (of_z w128 c.from-in-Upper.result)) (to_z w128 (of_z w128 c.total_of-number.result)) (at x j)
    (number_of m (Upper c.in-Upper.j) +ℤ c.args.by) coordinate (number ∙ same))

pub returns-in-High : goal.returns-in-High
returns-in-High c =
    let m = c.args.parts.now in
    let x = c.args.point.now in
    let size = c.value_of-in-High.ensures.small in
    let read = c.value_of-in-High.ensures.value in
    let value : to_z w128 (of_z w128 c.value_of-in-High.result) ≡ value_of m c.in-High.i x = omega (arith, ints) in
    let small = number_small m c.args.place c.requires.limits c.requires.exists in
    let within = c.requires.within in
    let most = limit_small c.args.place in
    let is = c.number_at.ensures in
    let wide = c.from.ensures in
    let total = c.total_of-number.ensures in
    let number : to_z w128 (of_z w128 c.total_of-number.result) ≡ number_of m c.args.place +ℤ c.args.by = omega (arith, ints) in
    let same : number_of m c.args.place +ℤ c.args.by ≡ number_of m (High c.in-High.i) +ℤ c.args.by =
    ap (λ (p : Place). number_of m p +ℤ c.args.by) c.in-High.is in
    subst (λ (p : Place). IsTrue (le_z (to_z w128 (of_z w128 c.value_of-in-High.result)) (to_z w128 (of_z w128 c.total_of-number.result))) ↔
    Stays m p c.args.by x) (sym c.in-High.is)
    (at_most (to_z w128 (of_z w128 c.value_of-in-High.result)) (to_z w128 (of_z w128 c.total_of-number.result)) (value_of m c.in-High.i x)
    (number_of m (High c.in-High.i) +ℤ c.args.by) value (number ∙ same))

pub returns-in-Coef : goal.returns-in-Coef
returns-in-Coef c =
    let m = c.args.parts.now in
    let x = c.args.point.now in
    let here = rw (to_z-of_z w128 c.args.by c.ranges.by) at c.keeps_row.ensures in
    subst (λ (p : Place). IsTrue c.keeps_row.result ↔ Stays m p c.args.by x) (sym c.in-Coef.is) here
