use Rattle.std.proofs.Common.{rules, arith, ◌≡◌, sym, subst, to_z, of_z}
use Rattle.std.specs.Prelude.{◌+ℤ◌, ◌^◌, ◌≤◌, ℤ, pos}
use Rattle.std.specs.Int.RustNames.{unsigned_abs}
use Rattle.std.specs.Int.{w64, w128}
use Rattle.std.proofs.lemmas.Int.{ints}
use Rattle.frac128.specs.Rationals.{of, AtMost}
use Rattle.frac128.specs.Values.{value_of}
use Rattle.node_bounds.proofs.WholeLaws.{floor_is, IsFloor}
use Rattle.node_bounds.proofs.relaxations.floor_of.Goals as goal

-- the floor of a small number
found : (c : goal.After-floor-floor) → IsFloor (value_of c.args.number) c.floor-floor.result
found c =
    floor_is c.args.number c.floor-floor.result (search rules) c.floor-floor.ensures.at_most c.floor-floor.ensures.greatest
    c.requires.broken c.requires.small

-- it fits
back : (z : ℤ) → unsigned_abs z ≤ 2 ^ 24 → to_z w64 (of_z w64 (to_z w128 (of_z w128 z))) ≡ z
back z small = omega (arith, ints)

pub overflow_cast-result : goal.overflow_cast-result
overflow_cast-result c = let small = (found c).small in omega (arith, ints)

pub returns-clause-least : goal.returns-clause-least
returns-clause-least c =
    let is = found c in
    subst (λ (w : ℤ). AtMost (of w) (value_of c.args.number)) (sym (back c.floor-floor.result is.small)) is.least

pub returns-clause-most : goal.returns-clause-most
returns-clause-most c =
    let is = found c in
    subst (λ (w : ℤ). AtMost (value_of c.args.number) (of (w +ℤ pos 1))) (sym (back c.floor-floor.result is.small)) is.most
