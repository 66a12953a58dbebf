use Rattle.std.proofs.Common.{◌≡◌, ◌∙◌, sym, subst}
use Rattle.node_bounds.specs.Internal.Leaves.{BreaksRow}
use Rattle.node_bounds.proofs.RowLaws.{breach_in}
use Rattle.node_bounds.proofs.leaves.broken_row.Goals as goal

pub unreachable-requires : goal.unreachable-requires
unreachable-requires c =
    let found = breach_in c.args.model.now c.args.point.now c.in-Some-Column.field-0 c.requires
    (sym c.first_breach.ensures.breach ∙ c.in-Some-Column.is) in
    let row = found.1 in
    let column = c.in-Some-Column.field-0-is in
    absurd cc

pub returns-in-Some-Row-clause-some : goal.returns-in-Some-Row-clause-some
returns-in-Some-Row-clause-some c =
    let found = breach_in c.args.model.now c.args.point.now c.in-Some-Row.field-0 c.requires
    (sym c.first_breach.ensures.breach ∙ c.in-Some-Row.is) in
    let row = found.1 in
    let own = c.in-Some-Row.field-0-is in
    let same : found.0 ≡ c.in-Some-Row.row = cc in
    subst (BreaksRow c.args.model.now c.args.point.now) same found.2
