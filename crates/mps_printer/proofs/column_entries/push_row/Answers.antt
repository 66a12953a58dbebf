use Rattle.std.proofs.Common.{◌≡◌, ◌<◌, ◌∙◌, ◌++◌, ◌∷◌, [], add-one, ap, append_assoc, arith, get_or, length, refl, rules, set, sym, take}
use Rattle.std.proofs.Common.{pos, to_z, of_z}
use Rattle.std.specs.Prelude.{Some, slice_get}
use Rattle.std.specs.Int.{w64}
use Rattle.std.proofs.lemmas.Int.{to_z-of_z}
use Rattle.std.proofs.lemmas.List.{length-set}
use Rattle.std.proofs.lemmas.Option.{get_or_from_slice_get, slice_get-get_or, slice_get_read}
use mir.Val.{SFits}
use Rattle.mps_printer.specs.Internal.Entries.{listed_for}
use Rattle.mps_printer.proofs.EntryLaws.{added, listed_more, pushed}
use Rattle.mps_printer.proofs.column_entries.push_row.Goals as goal

pub loop-column-preserved : goal.loop-column-preserved
loop-column-preserved c =
    let old = c.args.lists.now.items in
    let lists = c.loop-column.lists.items in
    let coefs = c.args.coefs.now in
    let k = c.loop-column.column-index in
    let row = c.args.row in
    let p = get_or coefs k (0, pos 0) in
    let size : length lists ≡ length old = c.loop-column.invariant.size in
    let below : p.0 < length old = c.requires.within k c.loop-column-test.true in
    let within : p.0 < length lists = omega arith in
    let found : slice_get coefs k ≡ Some p = slice_get-get_or coefs k (0, pos 0) c.loop-column-test.true in
    let fits : SFits w64 p.1 = search rules in
    let back : to_z w64 (of_z w64 p.1) ≡ p.1 = to_z-of_z w64 p.1 fits in
    let was = c.index_mut.result.now in
    let here : slice_get lists p.0 ≡ Some was = slice_get_read lists (length lists) p.0 was refl within c.index_mut.ensures.value in
    let read : get_or lists p.0 [] ≡ was = get_or_from_slice_get lists p.0 was [] here in
    let grown : c.push.new.self ≡ get_or lists p.0 [] ++ (row, p.1) ∷ [] =
    c.in_ok-push.ensures.ok ∙ ap (λ z. was ++ (row, z) ∷ []) back ∙ ap (λ l. l ++ (row, p.1) ∷ []) (sym read) in
    record {
      size = length-set lists p.0 c.push.new.self ∙ size;
      lists = λ j l. rw add-one
          (ap (λ v. get_or (set lists p.0 v) j []) grown
          ∙ pushed lists row p j within
          ∙ ap (λ es. es ++ added j row p) (c.loop-column.invariant.lists j l)
          ∙ append_assoc (get_or old j []) (listed_for j row (take k coefs)) (added j row p)
          ∙ ap (λ es. get_or old j [] ++ es) (sym (listed_more j row coefs k p found)));
    }
