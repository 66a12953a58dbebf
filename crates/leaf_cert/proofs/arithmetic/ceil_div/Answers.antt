use Rattle.std.proofs.Common.{arith, ◌≡◌, ◌∙◌, to_z, of_z}
use Rattle.std.specs.Int.{w128}
use Rattle.std.proofs.lemmas.Int.{ints, to_z-of_z}
use Rattle.leaf_cert.proofs.Ceilings.{ceiling_up, ceiling_down}
use Rattle.leaf_cert.proofs.arithmetic.ceil_div.Goals as goal

pub returns-then-a-gt0 : goal.returns-then-a-gt0
returns-then-a-gt0 c =
    let back : to_z w128 (of_z w128 c.total_of.result) ≡ c.total_of.result = omega (arith, ints) in
    let a = to_z-of_z w128 c.args.a c.ranges.a in
    let b = to_z-of_z w128 c.args.b c.ranges.b in
    let q : to_z w128 (of_z w128 c.quotient.result) ≡ c.quotient.result = omega (arith, ints) in
    let d : to_z w128 (of_z w128 c.difference.result) ≡ c.difference.result = omega (arith, ints) in
    let less = rw a at c.difference.ensures in
    let quotient = rw (d, b, less) at c.quotient.ensures in
    let sum = rw (q, quotient) at c.total_of.ensures in
    back ∙ sum ∙ ceiling_up c.args.a c.args.b (omega (arith, ints)) c.requires

pub returns-else-a-gt0 : goal.returns-else-a-gt0
returns-else-a-gt0 c =
    let back : to_z w128 (of_z w128 c.quotient-else-a-gt0.result) ≡ c.quotient-else-a-gt0.result = omega (arith, ints) in
    let a = to_z-of_z w128 c.args.a c.ranges.a in
    let b = to_z-of_z w128 c.args.b c.ranges.b in
    back ∙ (rw (a, b) at c.quotient-else-a-gt0.ensures) ∙ ceiling_down c.args.a c.args.b (omega (arith, ints)) c.requires
