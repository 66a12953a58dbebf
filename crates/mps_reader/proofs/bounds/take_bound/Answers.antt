use Rattle.std.specs.Prelude.{◌++◌, ◌∷◌, [], Some, option_map, unwrap_or, bytes_eq, codes, refl}
use Rattle.std.specs.Option.{is_some, is_none}
use Rattle.std.proofs.Common.{◌∙◌, ap, sym, subst}
use Rattle.ip_defs.specs.Lists.{first_of, when}
use Rattle.mps_defs.specs.Records.{bound_column, bound_set, column_names, items_of}
use Rattle.mps_defs.specs.declared.reading.MpsError.TheVariants.{Number}
use Rattle.mps_reader.specs.Internal.Progress.{Stands}
use Rattle.mps_reader.proofs.BoundLaws.{bound_item, bound_stands, column_found, columns_kept, columns_noted, found_faults, has_column_where}
use Rattle.mps_reader.proofs.BoundLaws.{kept_set_more, line_says, noted_count, number_counts, of_kept_set, unknown_column}
use Rattle.mps_reader.proofs.bounds.take_bound.Goals.{then-branch, else-branch}
use Rattle.mps_reader.proofs.bounds.take_bound.Goals as goal

pub returns-in-None : goal.returns-in-None
returns-in-None c before fields h rows there bound =
    let l = bound_item c.args.line fields in
    let found =
    column_found before c.args.draft.now.columns
    (bound_column l) c.args.bound.column.now c.get_index_of.result h.columns bound.column_is c.get_index_of.ensures.index in
    unknown_column before c.args.line fields c.args.kind rows bound.kind_is bound.count
    (has_column_where before (bound_column l) c.get_index_of.result found ∙ ap is_some c.in-None.is)

pub returns-in-None-number_in : goal.returns-in-None-number_in
returns-in-None-number_in c before fields h rows there bound =
    ap first_of (found_faults before c.args.line fields c.args.kind _ _ _ c.args.draft.now.columns c.in-Some.column c.number_in.result
    h.columns rows bound c.in-Some.ensures.index c.number_in.ensures.none c.number_in.ensures.some)
    ∙ ap (λ o. first_of (when (is_none o) (Number c.args.line))) c.in-None-number_in.is

pub returns : goal.returns
returns c before fields h rows there bound =
    let l = bound_item c.args.line fields in
    let found =
    column_found before c.args.draft.now.columns (bound_column l) c.args.bound.column.now
    (Some c.in-Some.column) h.columns bound.column_is c.in-Some.ensures.index in
    let right_line =
    found_faults before c.args.line fields c.args.kind _ _ _ c.args.draft.now.columns c.in-Some.column c.number_in.result h.columns rows
    bound c.in-Some.ensures.index c.number_in.ensures.none c.number_in.ensures.some in
    let no_faults = right_line ∙ ap (λ o. when (is_none o) (Number c.args.line)) c.in-Some-number_in.is in
    let d = c.args.draft.now in
    let items = items_of (codes "BOUNDS") before in
    let kept = c.in_ok-keep_set.ensures.kept
    ∙ ap (λ o. Some (unwrap_or o c.args.bound.set.now)) h.sets.bounds
    ∙ ap (λ w. Some (unwrap_or (option_map bound_set (first_of items)) w)) (sym bound.set_is)
    ∙ kept_set_more items l in
    let same = c.in_ok-keep_set.ensures.same
    ∙ ap (λ o. bytes_eq (unwrap_or o c.args.bound.set.now) c.args.bound.set.now) h.sets.bounds
    ∙ ap (λ w. bytes_eq (unwrap_or (option_map bound_set (first_of items)) w) w) (sym bound.set_is)
    ∙ of_kept_set items l in
    elim c.if-branch.branch [
      | then-branch w ↦
          (let says = line_says l c.args.kind c.in-Some-number_in.number w.said_by.result bound.kind_is
          (number_counts l c.args.kind c.args.bound.text.now c.number_in.result c.in-Some-number_in.number bound.kind_is bound.text_is
          c.number_in.ensures.none c.in-Some-number_in.is) w.said_by.ensures in
          subst (Stands (before ++ l ∷ [])) (sym w.draft-is)
          (bound_stands before d _ c.args.line fields h no_faults there refl refl refl refl refl refl refl
          (noted_count d.columns.columns.items w.note_bound.new.columns.items (column_names before)
          (bound_column l) c.in-Some.column w.said_by.result h.columns.count found w.note_bound.ensures)
          (columns_noted before c.args.line fields d.columns.columns.items w.note_bound.new.columns.items c.in-Some.column w.said_by.result
          (sym same
          ∙ w.if-branch.true) h.columns.count h.columns.apart found says w.note_bound.ensures h.bounds)
          kept))
      | else-branch w ↦
          subst (Stands (before ++ l ∷ [])) (sym w.draft-is)
          (bound_stands before d _ c.args.line fields h no_faults there refl refl refl refl refl refl refl refl
          (columns_kept before c.args.line fields d.columns.columns.items (sym same ∙ w.if-branch.false) h.bounds)
          kept)
    ]
