use Rattle.std.proofs.Common.{rules, arith, ◌≡◌, ◌≤◌, ◌^◌, ◌*◌, ◌*ℤ◌}
use Rattle.std.specs.Int.{w64, w128}
use Rattle.std.specs.Int.RustNames.{unsigned_abs}
use mir.Val.{SFits}
use Rattle.std.proofs.Math.Nat.{mul-le-mul}
use Rattle.std.proofs.lemmas.Int.{to_z-of_z, unsigned_abs-mul}
use Rattle.perturbation.proofs.cost_lines.part.Goals as goal

pub returns-clause-small : goal.returns-clause-small
returns-clause-small c =
    let size : unsigned_abs (c.args.factor *ℤ c.args.cost) ≤ 2 ^ 80 * 2 ^ 40 =
    omega (arith, unsigned_abs-mul c.args.factor c.args.cost, mul-le-mul c.requires.factor c.requires.cost) in
    let wide : SFits w128 c.args.factor = search rules in
    let plain : SFits w64 c.args.cost = search rules in
    let fits : SFits w128 c.from.result = search rules in
    let range : SFits w128 c.product.result = search rules in
    let value : c.product.result ≡ c.args.factor *ℤ c.args.cost =
    rw (to_z-of_z w128 c.args.factor wide, to_z-of_z w128 c.from.result fits, c.from.ensures, to_z-of_z w64 c.args.cost plain)
    at c.product.ensures in
    rw (to_z-of_z w128 c.product.result range, value) (omega arith)
