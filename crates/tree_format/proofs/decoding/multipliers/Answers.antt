use Rattle.std.proofs.Common.{◌∙◌, ◌∷◌, [], List, ap, sym, subst, arith, length-append}
use Rattle.std.specs.List.{flat_map}
use Rattle.std.proofs.lemmas.List.{flat_map_more}
use Rattle.tree_format.specs.Spellings.{multiplier_part}
use Rattle.tree_format.specs.Internal.Stretches.{ReadsOn}
use Rattle.tree_format.specs.declared.tokens.Token.{Token}
use Rattle.tree_format.proofs.OrderLaws.{after_one}
use Rattle.tree_format.proofs.StretchLaws.{both_read}
use Rattle.tree_format.proofs.decoding.multipliers.Goals as goal

pub loop-preserved : goal.loop-preserved
loop-preserved c =
    let i = c.loop.invariant in
    let bytes = c.args.bytes.now in
    let pushed = c.in_ok-push-in-Ok.ensures.ok in
    let size = i.size in
    let more = length-append c.loop.y (c.in-Ok.pair ∷ []) in
    let on = c.in-Ok.ensures.on in
    let left = i.order.2 in
    let order = after_one i.order.0 i.order.1 c.in-Ok.pair _ _ (omega arith) i.order.3 on.left in
    let next = order.1 in
    record {
      on = subst (λ (ps : List Token). ReadsOn bytes c.args.reader.now c.args.at.now c.multiplier.new.reader c.multiplier.new.at ps)
          (flat_map_more multiplier_part [] c.loop.y c.in-Ok.pair ∙ ap (flat_map multiplier_part) (sym pushed))
          (both_read bytes c.args.reader.now c.loop.reader c.multiplier.new.reader c.args.at.now c.loop.at c.multiplier.new.at
          (flat_map multiplier_part c.loop.y) (multiplier_part c.in-Ok.pair) i.on on);
      size = rw pushed (omega arith);
      order = (order.0, i.order.1, omega arith, order.2);
    }
