use Rattle.std.proofs.Common.{arith, sym, ap, ◌∙◌, ◌≡◌, ◌++◌, ℕ, suc, ◌+◌, List, [], drop, get_or, ◌∷◌, map}
use Rattle.std.specs.Prelude.{string_bytes, false, None}
use Rattle.std.specs.Option.{is_some}
use Rattle.mps_defs.specs.declared.reading.Number.{Number}
use Rattle.ip_defs.specs.declared.programs.Column.{Column}
use Rattle.mps_reader.specs.declared.draft.ColumnDraft.{ColumnDraft}
use Rattle.mps_reader.specs.Internal.Clamps.{clamped_column}
use Rattle.mps_reader.specs.Internal.Drafted.{drafted_column, drafted_columns, cost_rest, cost_head}
use Rattle.mps_reader.proofs.ModelListLaws.{columns_more, cost_taken, cost_left, drop_at, drop_mapped}
use Rattle.mps_reader.proofs.column_list.column_list.Goals as goal
use Rattle.mps_reader.proofs.column_list.column_list.Goals.{then-is_some, else-is_some}

pub loop-j-preserved : goal.loop-j-preserved
loop-j-preserved c =
    let how = c.args.how in
    let k = c.args.decimals in
    let j = c.loop-j.j in
    let names = map string_bytes c.args.names.now in
    let columns = c.args.columns.now in
    let costs = c.args.costs.now in
    let left = drop c.loop-j.next costs in
    let none : ColumnDraft = record { is_integer = false; lower = None; upper = None } in
    let column = get_or columns j none in
    let named =
    drop_mapped string_bytes c.args.names.now j c.index-names-j.result
    (let same = c.requires.names in let inside = c.loop-j-test.true in omega arith) c.index-names-j.is in
    let listed = drop_at columns j none c.loop-j-test.true in
    let made =
    c.in_ok-column_of.ensures
    ∙ ap (λ n. clamped_column (drafted_column how k n c.cost_at-cost.result column)) c.as_str.ensures.value
    ∙ ap (λ o. clamped_column (drafted_column how k (string_bytes c.index-names-j.result) o column)) c.cost_at-cost.ensures.cost in
    let more =
    columns_more how k j left (drop j names) (drop (j + 1) names) (drop j columns) (drop (j + 1) columns)
    (string_bytes c.index-names-j.result) column c.loop-j.list.items c.in_ok-column_of.field-0 named listed made in
    let next : suc j ≡ j + 1 = omega arith in
    let rest : List (ℕ × Number) → List Column =
    λ ps. map clamped_column (drafted_columns how k (j + 1) ps (drop (j + 1) names) (drop (j + 1) columns)) in
    let counted : (c.loop-j.list.items ++ c.in_ok-column_of.field-0 ∷ []) ++ rest
    (cost_rest j left) ≡ c.loop-j.list.items ++ map clamped_column (drafted_columns how k j left (drop j names) (drop j columns)) =
    ap (λ i. (c.loop-j.list.items ++ c.in_ok-column_of.field-0 ∷ []) ++ map clamped_column
    (drafted_columns how k i (cost_rest j left) (drop (j + 1) names) (drop (j + 1) columns))) (sym next)
    ∙ more in
    let pushed : c.push.new.self.items ≡ c.loop-j.list.items ++ c.in_ok-column_of.field-0 ∷ [] = c.in_ok-push.ensures.items in
    let tell : is_some (cost_head j left) ≡ c.is_some.result = ap is_some (sym c.cost_at-cost.ensures.cost) ∙ sym c.is_some.ensures in
    elim c.if-is_some.branch [
      | then-is_some w ↦
          let taken = cost_taken j costs c.loop-j.next (tell ∙ w.if-is_some.true) in
          record {
            same = ap (λ l. l ++ rest (drop c.if-is_some.next costs)) pushed
                ∙ ap (λ i. (c.loop-j.list.items ++ c.in_ok-column_of.field-0 ∷ []) ++ rest (drop i costs)) w.next-is
                ∙ ap (λ ps. (c.loop-j.list.items ++ c.in_ok-column_of.field-0 ∷ []) ++ rest ps) (sym taken.0)
                ∙ counted ∙ c.loop-j.invariant.same;
            within = let is = w.next-is in let inside = taken.1 in omega arith;
          }
      | else-is_some w ↦
          let kept = cost_left j left (tell ∙ w.if-is_some.false) in
          record {
            same = ap (λ l. l ++ rest (drop c.if-is_some.next costs)) pushed
                ∙ ap (λ i. (c.loop-j.list.items ++ c.in_ok-column_of.field-0 ∷ []) ++ rest (drop i costs)) w.next-is
                ∙ ap (λ ps. (c.loop-j.list.items ++ c.in_ok-column_of.field-0 ∷ []) ++ rest ps) (sym kept)
                ∙ counted ∙ c.loop-j.invariant.same;
            within = let is = w.next-is in let inside = c.loop-j.invariant.within in omega arith;
          }
    ]
