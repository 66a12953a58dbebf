use Rattle.std.proofs.Common.{rules, ◌≡◌, ◌*ℤ◌, ◌-ℤ◌, ◌<ℤ◌, pos, subst, sym, ℤ, int_div, to_z, of_z}
use Rattle.std.specs.Int.{w128}
use Rattle.frac128.specs.Division.{ceiling_of}
use Rattle.frac128.proofs.DivisionLaws.{ceiling-least}
use Rattle.frac128.proofs.division.ceil_div.Goals as goal

pub returns-else-a-gt0-clause-least : goal.returns-else-a-gt0-clause-least
returns-else-a-gt0-clause-least c =
    let is : to_z w128 (of_z w128 (int_div (to_z w128 (of_z w128 c.args.a)) (to_z w128 (of_z w128 c.args.b))))
    ≡ ceiling_of c.args.a c.args.b = search rules in
    subst (λ (z : ℤ). ((z -ℤ pos 1) *ℤ c.args.b) <ℤ c.args.a) (sym is) (ceiling-least c.args.a c.args.b c.requires)
