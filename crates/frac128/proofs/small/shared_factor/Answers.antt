use Rattle.std.proofs.Common.{rules, ◌≡◌, ◌∙◌, sym, pos, int_rem, to_z, of_z}
use Rattle.std.specs.Int.{w64}
use Rattle.frac128.specs.Fractions.{shared}
use Rattle.frac128.proofs.SharedLaws.{shared-one, shared-rest_of}
use Rattle.frac128.proofs.small.shared_factor.Goals as goal

pub returns-then-b-eq1-clause-value : goal.returns-then-b-eq1-clause-value
returns-then-b-eq1-clause-value c =
    let one : c.args.b ≡ pos 1 = search rules in
    sym (shared-one c.args.a c.args.b one)

pub returns-else-b-eq1-clause-value : goal.returns-else-b-eq1-clause-value
returns-else-b-eq1-clause-value c =
    let is : to_z w64 (of_z w64 c.word_shared.result) ≡ shared (int_rem c.args.a c.args.b) c.args.b = search rules in
    is ∙ shared-rest_of c.args.a c.args.b c.requires
