use Rattle.std.proofs.Common.{rules, subst, sym}
use Rattle.tree_checker.specs.Internal.Descents.{IsDescent}
use Rattle.tree_checker.specs.declared.descents.Descent.{Descent}
use Rattle.tree_checker.proofs.DescentLaws.{entered_sound}
use Rattle.tree_checker.proofs.descents.Descent.enter.Goals as goal

pub returns-clause-sound : goal.returns-clause-sound
returns-clause-sound c =
    subst (λ (d : Descent). IsDescent c.args.columns d) (sym (search rules))
    (entered_sound c.args.columns c.args.self.now c.args.col c.args.at c.requires.sound c.requires.within)
