use Rattle.std.proofs.Common.{subst, sym}
use Rattle.tableau.specs.Nodes.{StandsFor, HasItsPoints}
use Rattle.tableau.proofs.TableLaws.{flip_stands, flip_points}
use Rattle.tableau.proofs.tables.Tableau.flip.Goals as goal

pub returns-clause-stands : goal.returns-clause-stands
returns-clause-stands g c = λ m b s.
    subst (StandsFor m b) (sym c.move_across.ensures.flipped)
    (flip_stands c.args.self.now c.args.var c.requires.position c.requires.low c.requires.high c.requires.variable
    c.move_across.ensures.size m b s)

pub returns-clause-points : goal.returns-clause-points
returns-clause-points g c = λ m has.
    subst (HasItsPoints m) (sym c.move_across.ensures.flipped)
    (flip_points c.args.self.now c.args.var c.requires.position c.requires.low c.requires.high m has)
