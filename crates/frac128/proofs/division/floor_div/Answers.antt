use Rattle.std.proofs.Common.{rules, ◌≡◌, ◌*ℤ◌, ◌+ℤ◌, ◌≤ℤ◌, ◌<ℤ◌, pos, subst, sym, ℤ, to_z, of_z}
use Rattle.std.specs.Int.{w128}
use Rattle.frac128.specs.Division.{floor_of}
use Rattle.frac128.proofs.DivisionLaws.{floor-at_most, floor-greatest}
use Rattle.frac128.proofs.division.floor_div.Goals as goal

pub returns-clause-at_most : goal.returns-clause-at_most
returns-clause-at_most c =
    let is : to_z w128 (of_z w128 c.div_euclid.result) ≡ floor_of c.args.a c.args.b = search rules in
    subst (λ (z : ℤ). (z *ℤ c.args.b) ≤ℤ c.args.a) (sym is) (floor-at_most c.args.a c.args.b c.requires)

pub returns-clause-greatest : goal.returns-clause-greatest
returns-clause-greatest c =
    let is : to_z w128 (of_z w128 c.div_euclid.result) ≡ floor_of c.args.a c.args.b = search rules in
    subst (λ (z : ℤ). c.args.a <ℤ ((z +ℤ pos 1) *ℤ c.args.b)) (sym is) (floor-greatest c.args.a c.args.b c.requires)
