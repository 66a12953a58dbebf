use Rattle.std.proofs.Common.{◌∙◌, ◌∷◌, [], List, ap, sym, subst, rules, to_z, of_z, ◌≡◌}
use Rattle.std.specs.Int.{w64}
use Rattle.std.specs.List.{flat_map}
use Rattle.std.proofs.lemmas.List.{flat_map_more}
use Rattle.tree_format.specs.Spellings.{coordinate_part}
use Rattle.tree_format.specs.Orders.{IsInOrder, a_coordinate}
use Rattle.tree_format.specs.Internal.Stretches.{ReadsOn}
use Rattle.tree_format.specs.declared.tokens.Token.{Token}
use Rattle.tree_format.proofs.StretchLaws.{both_read}
use Rattle.tree_format.proofs.decoding.point.Goals as goal

pub loop-part-preserved : goal.loop-part-preserved
loop-part-preserved c =
    let i = c.loop-part.invariant in
    let bytes = c.args.bytes.now in
    let on = c.in-Ok.ensures.on in
    let z = c.in-Coordinate.coordinate in
    let back : to_z w64 (of_z w64 z) ≡ z = search rules in
    let pushed = rw back at c.in_ok-push-in-Coordinate.ensures.ok in
    let one = subst (λ (p : Token). ReadsOn bytes c.loop-part.reader c.loop-part.at c.next_part.new.reader c.next_part.new.at (p ∷ []))
    c.in-Coordinate.is on in
    record {
      on = subst (λ (ps : List Token). ReadsOn bytes c.args.reader.now c.args.at.now c.next_part.new.reader c.next_part.new.at ps)
          (flat_map_more coordinate_part [] c.loop-part.point z ∙ ap (flat_map coordinate_part) (sym pushed))
          (both_read bytes c.args.reader.now c.loop-part.reader c.next_part.new.reader c.args.at.now c.loop-part.at c.next_part.new.at
          (flat_map coordinate_part c.loop-part.point) (coordinate_part z) i.on one);
      order = subst (IsInOrder a_coordinate) one.left i.order;
    }
