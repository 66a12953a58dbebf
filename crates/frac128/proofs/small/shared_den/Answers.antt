use Rattle.std.proofs.Common.{rules, ◌≡◌, ◌∙◌, to_z, of_z}
use Rattle.std.specs.Int.{w64}
use Rattle.frac128.proofs.SharedLaws.{shared-same}
use Rattle.frac128.proofs.small.shared_den.Goals as goal

pub returns-then-a-b-clause-value : goal.returns-then-a-b-clause-value
returns-then-a-b-clause-value c =
    let same : c.args.a ≡ c.args.b = search rules in
    let read : to_z w64 (of_z w64 c.args.b) ≡ c.args.b = search rules in
    read ∙ shared-same c.args.a c.args.b c.requires same
