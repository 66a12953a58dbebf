use Rattle.std.proofs.Common.{rules, arith, ◌≡◌, ◌∙◌, ◌<◌, ◌+ℤ◌, ◌*ℤ◌, ◌^◌, ap, sym, length, to_z, of_z, Some}
use Rattle.std.specs.Int.{w64, w128}
use mir.Val.{SFits}
use Rattle.std.proofs.lemmas.Int.{ints, to_z-of_z}
use Rattle.ip_defs.specs.Program.{at, cost}
use Rattle.ip_model.specs.declared.places.Place.{Place}
use Rattle.ip_model.specs.Places.{limit_of, raised}
use Rattle.leaf_cert.proofs.ChangedSums.{change_small}
use Rattle.range_finder.proofs.PointLaws.{cost_is_small, cost_raised, kept_cost}
use Rattle.range_finder.proofs.points.cost_after.Goals as goal

pub weighed-requires : goal.weighed-requires
weighed-requires c =
    let small = change_small c.args.model.now (Some (c.args.place, c.args.by)) c.parts-parts.ensures.limits
    (c.requires.exists, c.requires.within) in
    let limit : limit_of c.args.place ≡ 2 ^ 40 = ap limit_of c.in-Cost.is in
    omega (arith, ints)

pub total_of-requires : goal.total_of-requires
total_of-requires c =
    let before = c.cost-before.ensures in
    let small = cost_is_small c.args.model.now c.args.point.now c.parts-parts.ensures.limits c.requires.feasible in
    let more = c.weighed.ensures.small in
    omega (arith, ints)

pub returns-in-Cost : goal.returns-in-Cost
returns-in-Cost c =
    let m = c.args.model.now in
    let x = c.args.point.now in
    let j = c.in-Cost.j in
    let there : j < length m.columns = rw c.in-Cost.is at c.requires.exists in
    let fits : SFits w64 (at x j) = search rules in
    let more : c.weighed.result ≡ c.args.by *ℤ at x j = rw (
      to_z-of_z w128 c.args.by c.ranges.by,
      c.as_slice.ensures,
      to_z-of_z w64 (at x j) fits,
    ) at c.weighed.ensures.value in
    let before = c.cost-before.ensures in
    let small = cost_is_small m x c.parts-parts.ensures.limits c.requires.feasible in
    let size = c.weighed.ensures.small in
    let total = c.total_of.ensures in
    let sum : to_z w128 (of_z w128 c.total_of.result) ≡ cost m x +ℤ c.args.by *ℤ at x j = omega (arith, ints) in
    sum ∙ sym (cost_raised m j c.args.by x there) ∙ ap (λ (p : Place). cost (raised m p c.args.by) x) (sym c.in-Cost.is)

pub returns-in-Low : goal.returns-in-Low
returns-in-Low c =
    let back : to_z w128 (of_z w128 c.cost-before.result) ≡ c.cost-before.result = omega (arith, ints) in
    back ∙ c.cost-before.ensures ∙ sym (kept_cost c.args.model.now c.args.place c.args.by c.args.point.now c.in-Low.is)
