use Rattle.std.proofs.Common.{ap, sym, subst, inr}
use Rattle.ip_defs.specs.Lists.{first_of, when}
use Rattle.mps_defs.specs.declared.reading.MpsError.TheVariants as Out
use Rattle.mps_reader.specs.Internal.Taking.{IsColumnAdded, IsColumnOpen}
use Rattle.mps_reader.proofs.ColumnLaws.{column_item}
use Rattle.mps_reader.proofs.OpenLaws.{split_or_not, went_on, begun_faultless, begun, opened_at}
use Rattle.mps_reader.proofs.PlaceLaws.{placed}
use Rattle.mps_reader.proofs.columns.open_column.Goals as goal

pub returns-then-is_at : goal.returns-then-is_at
returns-then-is_at c before fields h bounds none plain named =
    let table = c.args.columns.now in
    let number = c.in-Some.number in
    let at = placed table.names.keys c.args.name.now _ _ named c.in-Some.ensures.index in
    let is_open = sym c.if-is_at.ensures in (
      ap (λ b. when b (Out.SplitColumn c.args.line))
          (split_or_not before table c.args.line fields number _ h at is_open),
      went_on before table c.args.line fields number plain h bounds at
          (opened_at table.open number is_open),
    )

pub returns-else-is_at : goal.returns-else-is_at
returns-else-is_at c before fields h bounds none plain named =
    let table = c.args.columns.now in
    let number = c.in-Some.number in
    let at = placed table.names.keys c.args.name.now _ _ named c.in-Some.ensures.index in
    inr (ap (λ b. first_of (when b (Out.SplitColumn c.args.line)))
    (split_or_not before table c.args.line fields number _ h at (sym c.if-is_at.ensures)))

pub returns-in_ok-add_column-in-None : goal.returns-in_ok-add_column-in-None
returns-in_ok-add_column-in-None c before fields h bounds none plain named =
    let table = c.args.columns.now in
    let new = c.add_column.new.columns in
    let at = placed table.names.keys c.args.name.now _ _ named c.in-None.ensures.index in
    let added = subst (λ name. IsColumnAdded name table new) (sym named) c.in_ok-add_column-in-None.ensures.added in (
      ap (λ b. when b (Out.SplitColumn c.args.line)) (begun_faultless before table c.args.line fields h at),
      subst (λ j. IsColumnOpen before (column_item c.args.line fields) j new) (sym c.in_ok-add_column-in-None.ensures.number)
          (begun before table new c.args.line fields plain h bounds none at added),
    )
