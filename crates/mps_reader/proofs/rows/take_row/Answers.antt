use Rattle.std.proofs.Common.{◌∙◌, sym, subst}
use Rattle.mps_reader.specs.Internal.Progress.{RowsStand, IsWithRow}
use Rattle.mps_reader.proofs.RowLaws.{found_as, twice_row, marker_row, row_stands}
use Rattle.mps_reader.proofs.rows.take_row.Goals as goal

pub returns-then-is_some : goal.returns-then-is_some
returns-then-is_some c before d is h there last =
    let found = found_as before c.args.table.now c.args.name.now _ _ (subst (RowsStand before) is h.rows)
    c.get_index_of.ensures.index c.is_some.ensures ∙ c.if-is_some.true in
    twice_row before c.args.line c.in-Some.kind c.args.kind.now c.args.name.now c.in-Some.ensures there found

pub returns-then-eq : goal.returns-then-eq
returns-then-eq c before d is h there last =
    let found = found_as before c.args.table.now c.args.name.now _ _ (subst (RowsStand before) is h.rows)
    c.get_index_of.ensures.index c.is_some.ensures ∙ c.if-is_some.false in
    marker_row before c.args.line c.in-Some.kind c.args.kind.now c.args.name.now c.in-Some.ensures there found
    (sym c.eq.ensures ∙ c.if-eq.true)

pub returns : goal.returns
returns c before d is h there last =
    let found = found_as before c.args.table.now c.args.name.now _ _ (subst (RowsStand before) is h.rows)
    c.get_index_of.ensures.index c.is_some.ensures ∙ c.if-is_some.false in
    row_stands before d c.add_row.new.table c.args.line c.in-Some.kind c.args.kind.now c.args.name.now h there last c.in-Some.ensures found
    (sym c.eq.ensures ∙ c.if-eq.false)
    (subst (λ t. IsWithRow t c.add_row.new.table c.in-Some.kind c.args.name.now) (sym is) c.in_ok-add_row.ensures)
