use Rattle.std.proofs.Common.{◌∙◌, ◌+◌, List, ℕ, ℤ, sym, subst}
use Rattle.tree_format.proofs.CertStepLaws.{MultipliersRead, no_multiplier, multiplier_read, next_fails}
use Rattle.tree_format.proofs.cert_steps.read_multipliers.Goals as goal

pub loop-init : goal.loop-init
loop-init c =
    subst (λ (y : List (ℕ × ℤ)). MultipliersRead c.args.bytes.now c.args.at.now c.args.at.now 0 0 c.args.count y)
    (sym (c.from_vec-y.ensures ∙ c.new.ensures.items)) (no_multiplier c.args.bytes.now c.args.at.now c.args.count c.requires.within)

pub returns-in-Err-clause-fault : goal.returns-in-Err-clause-fault
returns-in-Err-clause-fault c =
    next_fails c.args.bytes.now c.args.at.now c.loop.at c.loop.least c.loop.counter c.args.count c.loop.y c.in-Err.fault
    c.loop-test.true c.loop.invariant c.in-Err.ensures.fault

pub loop-preserved : goal.loop-preserved
loop-preserved c =
    let p = c.in-Ok.pair in
    subst (λ (y : List (ℕ × ℤ)). MultipliersRead c.args.bytes.now c.args.at.now c.read_multiplier.new.at (p.0 + 1) (c.loop.counter + 1)
    c.args.count y)
    (sym c.in_ok-push-in-Ok.ensures.ok)
    (multiplier_read c.args.bytes.now c.args.at.now c.loop.at c.loop.least c.loop.counter c.args.count c.read_multiplier.new.at c.loop.y p
    c.loop-test.true c.loop.invariant c.in-Ok.ensures.row c.in-Ok.ensures.value c.in-Ok.ensures.on)
