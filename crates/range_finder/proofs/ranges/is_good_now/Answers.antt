use Rattle.std.proofs.Common.{Bool, true, false, refl, subst}
use Rattle.range_finder.specs.Internal.Asked.{IsGood, steps_by}
use Rattle.range_finder.proofs.EndLaws.{good_between}
use Rattle.range_finder.proofs.ranges.is_good_now.Goals as goal

pub returns-then-up-clause-now : goal.returns-then-up-clause-now
returns-then-up-clause-now c =
    let a = c.args.asked.now in
    let first : IsGood a (steps_by false c.args.down.steps) =
    subst (λ (u : Bool). IsGood a (steps_by u c.args.down.steps)) c.requires.falls (c.requires.down.tried.0 c.if-down.true) in
    let last : IsGood a (steps_by true c.args.up.steps) =
    subst (λ (u : Bool). IsGood a (steps_by u c.args.up.steps)) c.requires.rises (c.requires.up.tried.0 c.if-up.true) in
    (λ t. good_between a c.args.down.steps c.args.up.steps first last, λ g. refl)
