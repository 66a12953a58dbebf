use Rattle.std.proofs.Common.{◌≡◌, ℤ, pos, arith, sym, subst, to_z}
use Rattle.std.specs.Int.{w64}
use Rattle.std.proofs.lemmas.Int.{ints}
use Rattle.ip_defs.specs.Limits.{IsCert}
use Rattle.tree_format.proofs.GrammarLaws.{cert_within}
use Rattle.tree_format.proofs.CertStepLaws.{count_fails, multipliers_fail}
use Rattle.tree_format.proofs.cert_steps.read_cert.Goals as goal

pub returns-in-Err-clause-fault : goal.returns-in-Err-clause-fault
returns-in-Err-clause-fault c = λ next. c.in-Err.ensures.fault _

pub returns-in-Err-read_number-clause-fault : goal.returns-in-Err-read_number-clause-fault
returns-in-Err-read_number-clause-fault c =
    count_fails c.args.bytes.now c.args.at.now c.read_number.new.at c.in-Ok.q c.in-Err-read_number.fault c.in-Ok.ensures.on.0
    c.in-Ok.ensures.on.1 c.in-Err-read_number.ensures.fault

pub returns-in-Ok-read_multipliers-clause-within : goal.returns-in-Ok-read_multipliers-clause-within
returns-in-Ok-read_multipliers-clause-within c =
    let q = c.in-Ok.q in
    let y = c.in-Ok-read_multipliers.y in
    let small = c.in-Ok.ensures.on.0 in
    let is : to_z w64 q ≡ pos q = omega (arith, ints) in
    let within = c.in-Ok-read_multipliers.ensures.within in
    subst (λ (z : ℤ). IsCert 1024 (record { q = z; y = y })) (sym is) (cert_within q y small within.rising within.each)

pub returns-in-Err-read_multipliers-clause-fault : goal.returns-in-Err-read_multipliers-clause-fault
returns-in-Err-read_multipliers-clause-fault c =
    multipliers_fail c.args.bytes.now c.args.at.now c.read_number.new.at c.read_number-2.new.at c.in-Ok.q c.in-Ok-read_number.count
    c.in-Err-read_multipliers.fault c.in-Ok.ensures.on.0 c.in-Ok.ensures.on.1 c.in-Ok-read_number.ensures.on.0
    c.in-Ok-read_number.ensures.on.1 c.in-Err-read_multipliers.ensures.fault
