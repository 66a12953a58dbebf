use Rattle.std.proofs.Common.{◌∙◌, ◌++◌, ◌∷◌, [], ap, sym, refl, append_assoc, suc, List, ℕ, ◌/◌, ◌%◌, ◌+◌}
use Rattle.tree_format.specs.Numbers.{number_bytes}
use Rattle.tree_format.proofs.NumberLaws.{longer, last_byte}
use Rattle.tree_format.proofs.numbers.push_number.Goals as goal

pub loop-left-init : goal.loop-left-init
loop-left-init c = (5, c.requires, refl)

pub loop-left-preserved : goal.loop-left-preserved
loop-left-preserved c =
    let i = c.loop-left.invariant in
    let out = c.loop-left.out.items in
    let left = c.loop-left.left in
    let on = longer i.0 left c.loop-left-test.true i.1 in
    let others = number_bytes (suc on.less) (left / 128) in (
      on.less,
      on.small,
      ap (λ (bs : List ℕ). bs ++ others) c.in_ok-push.ensures.items ∙ append_assoc out ((128 + left % 128) ∷ []) others
          ∙ ap (λ (bs : List ℕ). out ++ bs) (sym on.bytes) ∙ i.2,
    )

pub returns : goal.returns
returns c =
    let i = c.loop-left.invariant in
    let out = c.loop-left.out.items in
    c.in_ok-push-2.ensures.items ∙ ap (λ (bs : List ℕ). out ++ bs) (sym (last_byte i.0 c.loop-left.left c.loop-left-test.false)) ∙ i.2
