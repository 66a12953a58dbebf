use Rattle.std.proofs.Common.{◌≡◌, ◌<◌, ◌∙◌, ◌++◌, add-one, ap, arith, get_or, length, refl, rules, sym, take, to_z, of_z, pos}
use Rattle.std.specs.Prelude.{[], ◌∷◌, List, Some, flat_map, slice_get, string_bytes, ℕ}
use Rattle.std.specs.Int.{w64, w128}
use Rattle.std.specs.Option.{option_map_or}
use Rattle.std.proofs.lemmas.Int.{ints, to_z-of_z}
use Rattle.std.proofs.lemmas.Option.{slice_get-get_or, slice_get_read}
use mir.Val.{SFits}
use Rattle.mps_defs.specs.Numbers.{decimal_text}
use Rattle.mps_defs.specs.CanonicalText.{triple, written_text}
use Rattle.mps_printer.specs.Internal.Entries.{entry_line}
use Rattle.mps_printer.specs.Internal.Sections.{lines_text}
use Rattle.mps_printer.proofs.LineLaws.{one_line, text_more}
use Rattle.mps_printer.proofs.columns.push_entries.Goals as goal

pub loop-i-preserved : goal.loop-i-preserved
loop-i-preserved c =
    let name = c.args.name.now in
    let rows = c.args.rows.now in
    let entries = c.args.entries.now in
    let k = c.loop-i.i-index in
    let e = get_or entries k (0, pos 0) in
    let row = c.index-rows-i.result in
    let below : e.0 < length rows = c.requires k c.loop-i-test.true in
    let found : slice_get rows e.0 ≡ Some row = slice_get_read rows (length rows) e.0 row refl below c.index-rows-i.is in
    let read : slice_get entries k ≡ Some e = slice_get-get_or entries k (0, pos 0) c.loop-i-test.true in
    let fits : SFits w64 e.1 = search rules in
    let units = c.from-units.result in
    let is : units ≡ e.1 = c.from-units.ensures ∙ to_z-of_z w64 e.1 fits in
    let wide : to_z w128 (of_z w128 units) ≡ e.1 = omega (arith, ints) in
    let before = string_bytes c.args.text.now ++ lines_text (flat_map (entry_line name rows) (take k entries)) in
    let line = triple name row.name (decimal_text e.1 row.decimals) in
    let listed : entry_line name rows e ≡ line ∷ [] =
    ap (λ o. option_map_or (λ r. triple name r.name (decimal_text e.1 r.decimals) ∷ []) o []) found in
    rw add-one (
    c.in_ok-push_amount.ensures
    ∙ ap (λ bs. bs ++ written_text
    (triple name c.as_str.result.now (decimal_text (to_z w128 (of_z w128 units)) row.decimals))) c.loop-i.invariant
    ∙ ap (λ (n : List ℕ). before ++ written_text (triple name n (decimal_text (to_z w128 (of_z w128 units)) row.decimals))) c.as_str.ensures
    ∙ ap (λ u. before ++ written_text (triple name row.name (decimal_text u row.decimals))) wide
    ∙ one_line before line
    ∙ ap (λ ls. before ++ lines_text ls) (sym listed)
    ∙ text_more (entry_line name rows) (string_bytes c.args.text.now) entries k e read)
