use Rattle.std.proofs.Common.{arith, sym, ◌∙◌, ◌≡◌, length, subst}
use Rattle.std.specs.Prelude.{string_bytes}
use Rattle.ip_defs.specs.Limits.{IsWellShaped}
use Rattle.mps_reader.specs.Internal.Drafted.{drafted_model, drafted_decimals, drafted_column_names}
use Rattle.mps_reader.proofs.LimitedLaws.{count_columns, many_columns, limited_is}
use Rattle.mps_reader.proofs.models.model_within.Goals as goal
use Rattle.std.proofs.lemmas.List.{length-map}

pub returns-then-len-gt-MOST_COLUMNS : goal.returns-then-len-gt-MOST_COLUMNS
returns-then-len-gt-MOST_COLUMNS c name r named at =
    let d = c.args.draft.now in
    let m = drafted_model d c.args.how name r in
    let names : length (drafted_column_names d) ≡ length d.columns.columns.items =
    length-map d.columns.names.keys string_bytes ∙ c.requires.counts.columns in
    let count : length m.columns ≡ length d.columns.columns.items =
    count_columns c.args.how (drafted_decimals c.args.how r) 0 r.entries.items (drafted_column_names d) d.columns.columns.items names in
    let many = c.if-len-gt-MOST_COLUMNS.true in
    let size = c.len.ensures in
    many_columns m (omega arith)

pub limited-requires : goal.limited-requires
limited-requires c =
    let witness = c.requires.shaped in
    subst IsWellShaped (sym (c.in-Ok.ensures witness.0 witness.1 witness.2 witness.3)) witness.4

pub returns-in-Ok : goal.returns-in-Ok
returns-in-Ok c name r named at =
    let witness = c.requires.shaped in
    let shaped = subst IsWellShaped (sym (c.in-Ok.ensures witness.0 witness.1 witness.2 witness.3)) witness.4 in
    limited_is (drafted_model c.args.draft.now c.args.how name r) c.in-Ok.parts c.limited.result
    (c.in-Ok.ensures name r named at) shaped c.limited.ensures
