use Rattle.std.proofs.Common.{arith, ◌≡◌, ◌+◌, subst, ℕ}
use Rattle.range_finder.specs.Internal.Asked.{IsGood, steps_by}
use Rattle.range_finder.proofs.ends.last_good.Goals as goal

pub returns-clause-next : goal.returns-clause-next
returns-clause-next c =
    let inv = c.loop-bad.invariant in
    let next : c.loop-bad.bad ≡ c.loop-bad.good + 1 = omega (arith, inv.apart, c.loop-bad-test.false) in
    subst (λ (k : ℕ). ¬ IsGood c.args.asked.now (steps_by c.args.up k)) next inv.bad
