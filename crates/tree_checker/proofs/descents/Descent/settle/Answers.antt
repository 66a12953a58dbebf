use Rattle.std.proofs.Common.{rules, ◌≡◌, subst, sym, ◌∙◌}
use Rattle.tree_checker.specs.Internal.Descents.{IsDescent, in_right, restored}
use Rattle.tree_checker.specs.declared.descents.Descent.{Descent}
use Rattle.tree_checker.proofs.DescentLaws.{settles_on, next_sound, next_right_sound}
use Rattle.tree_checker.proofs.descents.Descent.settle.Goals as goal

pub returns-then-not-cut-clause-sound : goal.returns-then-not-cut-clause-sound
returns-then-not-cut-clause-sound c =
    let b = c.loop-cut.self.area in
    let same : record { area = c.raise.new.area; cuts = c.push.new.self } ≡ in_right b c.in-Some.cut c.pop.new.self = search rules in
    subst (λ (d : Descent). IsDescent c.args.columns d) (sym same)
    (next_right_sound c.args.columns b c.loop-cut.self.cuts c.in-Some.cut c.pop.new.self c.in-Some.ensures.some c.loop-cut.invariant.sound)

pub loop-cut-preserved : goal.loop-cut-preserved
loop-cut-preserved c =
    let b = c.loop-cut.self.area in
    let same : c.set.new.self ≡ restored b c.in-Some.cut = search rules in
    record {
      sound = rw same (next_sound c.args.columns b c.loop-cut.self.cuts c.in-Some.cut c.pop.new.self c.in-Some.ensures.some
          c.loop-cut.invariant.sound);
      settled = rw same (settles_on b c.loop-cut.self.cuts c.in-Some.cut c.pop.new.self c.in-Some.ensures.some (search rules))
          ∙ c.loop-cut.invariant.settled;
    }
