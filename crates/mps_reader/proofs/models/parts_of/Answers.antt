use Rattle.std.proofs.Common.{arith, ap, ◌∙◌, ◌≡◌, List, map, to_z, of_z, ℕ, ℤ, length, ◌<◌}
use Rattle.std.specs.Int.{w64}
use Rattle.std.specs.Prelude.{string_bytes, neg_ℤ, unwrap_or, slice_get}
use Rattle.std.proofs.lemmas.Int.{ints}
use Rattle.std.proofs.lemmas.Option.{get_or_from_slice_get}
use Rattle.mps_defs.specs.TextModels.{units, no_number}
use Rattle.ip_defs.specs.declared.programs.Parts.{Parts}
use Rattle.ip_defs.specs.declared.programs.Column.{Column}
use Rattle.ip_defs.specs.declared.programs.Row.{Row}
use Rattle.mps_reader.specs.declared.draft.RowDraft.{RowDraft}
use Rattle.mps_reader.specs.Internal.Clamps.{clamped, clamped_column, clamped_row}
use Rattle.mps_reader.specs.Internal.Drafted.{drafted_columns, drafted_rows, drafted_decimals, drafted_row_names, drafted_column_names}
use Rattle.mps_reader.proofs.ModelListLaws.{mapped_at}
use Rattle.mps_reader.proofs.models.parts_of.Goals as goal

pub returns : goal.returns
returns c name r named at =
    let d = c.args.draft.now in
    let how = c.args.how in
    let row = c.index-row.result.now in
    let keys = c.as_slice-names.result.now in
    let same : row ≡ r = c.index-row.ensures ∙ get_or_from_slice_get d.rows.rows.items c.args.objective r row at in
    let within : c.args.objective < length keys =
    let counts =
    c.requires.counts.rows in let inside = c.requires.objective in let size = ap length c.as_slice-names.ensures.keys in omega arith in
    let title : string_bytes c.index-names-objective.result ≡ name =
    mapped_at string_bytes keys c.args.objective c.index-names-objective.result name within c.index-names-objective.is
    (ap (λ ks. slice_get (map string_bytes ks) c.args.objective) c.as_slice-names.ensures.keys ∙ named) in
    let n = c.decimals_of-decimals.result in
    let k : n ≡ drafted_decimals how r = c.decimals_of-decimals.ensures ∙ ap (drafted_decimals how) same in
    let objective : c.in_ok-name_of.field-0 ≡ name = c.in_ok-name_of.ensures ∙ c.as_str.ensures.value ∙ title in
    let back : to_z w64 (of_z w64 c.constant_of.result) ≡ c.constant_of.result = omega (arith, ints) in
    let constant =
    back
    ∙ c.constant_of.ensures
    ∙ ap (λ (x : RowDraft). clamped (neg_ℤ (units n (unwrap_or x.right_side no_number)))) same
    ∙ ap (λ i. clamped (neg_ℤ (units i (unwrap_or r.right_side no_number)))) k in
    let columns : c.from_vec.result ≡ map clamped_column
    (drafted_columns how (drafted_decimals how r) 0 r.entries.items (drafted_column_names d) d.columns.columns.items) =
    c.from_vec.ensures ∙ c.in_ok-columns.ensures
    ∙ ap (λ es. map clamped_column (drafted_columns how n 0 es (map string_bytes c.as_slice.result.now) c.as_slice-2.result.now))
    (c.as_slice-3.ensures.value ∙ ap (λ (x : RowDraft). x.entries.items) same)
    ∙ ap (λ ks. map clamped_column
    (drafted_columns how n 0 r.entries.items (map string_bytes ks) c.as_slice-2.result.now)) c.as_slice.ensures.keys
    ∙ ap (λ cs. map clamped_column (drafted_columns how n 0 r.entries.items (drafted_column_names d) cs)) c.as_slice-2.ensures.value
    ∙ ap (λ i. map clamped_column (drafted_columns how i 0 r.entries.items (drafted_column_names d) d.columns.columns.items)) k in
    let rows : c.from_vec-2.result ≡ map clamped_row (drafted_rows how (drafted_row_names d) d.rows.rows.items) =
    c.from_vec-2.ensures ∙ c.in_ok-rows.ensures
    ∙ ap (λ ks. map clamped_row (drafted_rows how (map string_bytes ks) c.as_slice-4.result.now)) c.as_slice-names.ensures.keys
    ∙ ap (λ rs. map clamped_row (drafted_rows how (drafted_row_names d) rs)) c.as_slice-4.ensures.value in
    ap (λ o. made o n (to_z w64 (of_z w64 c.constant_of.result)) c.from_vec.result c.from_vec-2.result) objective
    ∙ ap (λ i. made name i (to_z w64 (of_z w64 c.constant_of.result)) c.from_vec.result c.from_vec-2.result) k
    ∙ ap (λ z. made name (drafted_decimals how r) z c.from_vec.result c.from_vec-2.result) constant
    ∙ ap (λ l. made name (drafted_decimals how r)
    (clamped (neg_ℤ (units (drafted_decimals how r) (unwrap_or r.right_side no_number)))) l c.from_vec-2.result) columns
    ∙ ap (λ l. made name (drafted_decimals how r) (clamped (neg_ℤ (units (drafted_decimals how r) (unwrap_or r.right_side no_number))))
    (map clamped_column (drafted_columns how (drafted_decimals how r) 0 r.entries.items
    (drafted_column_names d) d.columns.columns.items)) l) rows
  where
    made : List ℕ → ℕ → ℤ → List Column → List Row → Parts
    made o n z cs rs = record { objective = o; cost_decimals = n; constant = z; columns = cs; rows = rs }
