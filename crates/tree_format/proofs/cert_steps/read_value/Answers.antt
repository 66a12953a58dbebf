use Rattle.std.proofs.Common.{◌≡◌, ◌∙◌, pos, ap, sym, rules, to_z, of_z}
use Rattle.std.specs.Int.{w64}
use Rattle.tree_format.proofs.CertStepLaws.{value_fails}
use Rattle.tree_format.proofs.cert_steps.read_value.Goals as goal

pub returns-in-Err-clause-fault : goal.returns-in-Err-clause-fault
returns-in-Err-clause-fault c = λ row next. c.in-Err.ensures.fault _

pub returns-then-value-eq0-clause-fault : goal.returns-then-value-eq0-clause-fault
returns-then-value-eq0-clause-fault c =
    let z = c.in-Ok.value in
    let back : to_z w64 (of_z w64 z) ≡ z = search rules in
    let zero : z ≡ pos 0 = sym back ∙ ap (to_z w64) c.if-value-eq0.true in
    λ row. value_fails c.args.bytes.now c.args.at.now c.read_signed.new.at row z zero c.in-Ok.ensures.on.1
