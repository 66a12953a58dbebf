use Rattle.std.proofs.Common.{arith, ◌≡◌, ◌∙◌, ◌+◌, Bool, subst, to_z, of_z}
use Rattle.std.specs.Int.{w128}
use Rattle.std.proofs.lemmas.Int.{ints}
use Rattle.ip_defs.specs.declared.programs.Parts.{Parts}
use Rattle.range_laws.specs.Ranges.{HasPoint}
use Rattle.range_finder.specs.Aims.{plain_aim}
use Rattle.range_finder.specs.Internal.Asked.{IsGood, steps_by}
use Rattle.range_finder.proofs.EndLaws.{last_steps}
use Rattle.range_finder.proofs.PointLaws.{raised_none}
use Rattle.range_finder.proofs.ranges.range_of.Goals as goal

pub returns-then-not-is_met-clause-range : goal.returns-then-not-is_met-clause-range
returns-then-not-is_met-clause-range c =
    let a = c.args.asked.now in
    λ good.
    let met = subst (λ (m : Parts). HasPoint (plain_aim a.aim) m) (raised_none a.model.now a.place c.parts-parts.ensures.limits)
    good.point in
    let true_is = c.is_met.ensures.1 met in
    let false_is = c.if-not-is_met.true in
    absurd cc

pub returns-clause-range : goal.returns-clause-range
returns-clause-range c =
    let a = c.args.asked.now in
    let low = c.good_steps-down.result in
    let high = c.good_steps-up.result in
    let falls = c.first_try-first_down.ensures.up in
    let rises = c.first_try-first_up.ensures.up in
    let from : to_z w128 (of_z w128 c.change_of.result) ≡ c.change_of.result = omega (arith, ints) in
    let to : to_z w128 (of_z w128 c.change_of-2.result) ≡ c.change_of-2.result = omega (arith, ints) in
    last_steps a low high (to_z w128 (of_z w128 c.change_of.result)) (to_z w128 (of_z w128 c.change_of-2.result)) (from ∙ c.change_of.ensures)
    (to ∙ c.change_of-2.ensures) (subst (λ (u : Bool). IsGood a (steps_by u low)) falls c.good_steps-down.ensures.good)
    (subst (λ (u : Bool). ¬ IsGood a (steps_by u (low + 1))) falls c.good_steps-down.ensures.next)
    (subst (λ (u : Bool). IsGood a (steps_by u high)) rises c.good_steps-up.ensures.good)
    (subst (λ (u : Bool). ¬ IsGood a (steps_by u (high + 1))) rises c.good_steps-up.ensures.next)
