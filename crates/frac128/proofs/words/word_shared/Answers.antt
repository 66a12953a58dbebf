use Rattle.std.proofs.Common.{arith, rules, sym, ◌≡◌, pos}
use Rattle.std.proofs.lemmas.Int.{ints, to_z-of_z}
use Rattle.std.specs.Int.{w64}
use Rattle.frac128.proofs.SharedLaws.{shared-is, shared-one}
use Rattle.frac128.proofs.words.word_shared.Goals as goal

pub overflow_cast-result : goal.overflow_cast-result
overflow_cast-result c =
    let is = shared-is c.args.a c.args.b _ _ _ c.requires (rw (to_z-of_z w64 c.args.a c.ranges.a) at c.unsigned_abs.ensures.value)
    (rw (to_z-of_z w64 c.args.b c.ranges.b) at c.unsigned_abs-2.ensures.value) c.word_gcd.ensures in
    omega (arith, ints, is.2)

pub returns-clause-value : goal.returns-clause-value
returns-clause-value c =
    let is = shared-is c.args.a c.args.b _ _ _ c.requires (rw (to_z-of_z w64 c.args.a c.ranges.a) at c.unsigned_abs.ensures.value)
    (rw (to_z-of_z w64 c.args.b c.ranges.b) at c.unsigned_abs-2.ensures.value) c.word_gcd.ensures in
    omega (arith, ints, is.0, is.2)

pub returns-clause-positive : goal.returns-clause-positive
returns-clause-positive c =
    let is = shared-is c.args.a c.args.b _ _ _ c.requires (rw (to_z-of_z w64 c.args.a c.ranges.a) at c.unsigned_abs.ensures.value)
    (rw (to_z-of_z w64 c.args.b c.ranges.b) at c.unsigned_abs-2.ensures.value) c.word_gcd.ensures in
    omega (arith, ints, is.1, is.2)

pub returns-then-b-eq1-clause-value : goal.returns-then-b-eq1-clause-value
returns-then-b-eq1-clause-value c =
    let one : c.args.b ≡ pos 1 = search rules in
    sym (shared-one c.args.a c.args.b one)
