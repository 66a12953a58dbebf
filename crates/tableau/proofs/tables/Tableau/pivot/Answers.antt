use Rattle.tableau.proofs.TableLaws.{pivot_stands, pivot_points}
use Rattle.tableau.proofs.tables.Tableau.pivot.Goals as goal

pub returns-clause-stands : goal.returns-clause-stands
returns-clause-stands g c =
    let made = c.exchange-pivoted in
    pivot_stands c.args.self.now c.args.row c.args.var c.args.leaving made.ensures.table c.requires.row c.requires.variable
    c.requires.pivot made.result made.new.self made.ensures.pivoted made.ensures.kept c.requires.enters c.requires.leaves

pub returns-clause-points : goal.returns-clause-points
returns-clause-points g c =
    let made = c.exchange-pivoted in
    pivot_points c.args.self.now c.args.row c.args.var c.args.leaving made.ensures.table c.requires.row c.requires.variable
    c.requires.pivot made.result made.new.self made.ensures.pivoted made.ensures.kept
