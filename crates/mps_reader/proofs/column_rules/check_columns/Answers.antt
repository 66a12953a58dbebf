-- The faults of the columns from a number on are those of its column and of the later ones.
use Rattle.std.proofs.Common.{sym, ap, ◌∙◌, get_or, subst}
use Rattle.std.specs.Prelude.{false, None}
use Rattle.ip_defs.specs.Lists.{first_of}
use Rattle.mps_defs.specs.Faults.{IsFirst}
use Rattle.mps_reader.specs.declared.draft.ColumnDraft.{ColumnDraft}
use Rattle.mps_reader.specs.Internal.Drafted.{asked}
use Rattle.mps_reader.proofs.FaultLaws.{column_clean, column_faulty}
use Rattle.mps_reader.proofs.column_rules.check_columns.Goals as goal

abbrev no_column : ColumnDraft
no_column = record { is_integer = false; lower = None; upper = None }

pub loop-j-preserved : goal.loop-j-preserved
loop-j-preserved c =
    let rule = asked c.args.rule c.args.how in
    let column = get_or c.args.columns.now c.loop-j.j no_column in
    c.loop-j.invariant
    ∙ column_clean rule c.args.names.now c.args.columns.now c.loop-j.j c.index-names-j.result no_column c.requires.names
    c.loop-j-test.true c.index-names-j.is (ap (λ n. first_of (rule n column)) (sym c.as_str.ensures.value) ∙ c.in-Ok.ensures)

pub returns-in-Err : goal.returns-in-Err
returns-in-Err c =
    let rule = asked c.args.rule c.args.how in
    let column = get_or c.args.columns.now c.loop-j.j no_column in
    subst (λ o. IsFirst o c.in-Err.error) (sym c.loop-j.invariant)
    (column_faulty rule c.args.names.now c.args.columns.now c.loop-j.j c.index-names-j.result no_column c.in-Err.error c.requires.names
    c.loop-j-test.true c.index-names-j.is
    (subst (λ n. IsFirst (first_of (rule n column)) c.in-Err.error) c.as_str.ensures.value c.in-Err.ensures))
