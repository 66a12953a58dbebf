use Rattle.std.proofs.Common.{arith, ◌≡◌, ◌∙◌, ◌+ℤ◌, to_z, of_z, sym, ap, Some, get_or, pos, drop, ◌+◌}
use Rattle.std.specs.Prelude.{option_map}
use Rattle.std.specs.Int.{w128, w64}
use mir.Val.{SFits}
use Rattle.std.proofs.lemmas.Int.{ints, to_z-of_z}
use Rattle.ip_defs.specs.Certificates.{pay, payment}
use Rattle.ip_defs.specs.Limits.{value_at}
use Rattle.ip_model.proofs.WalkLaws.{place_below, small_fits}
use Rattle.leaf_cert.proofs.Rows.{length_below}
use Rattle.leaf_cert.proofs.PaymentLaws.{pay_next, so_far, onto}
use Rattle.leaf_cert.proofs.payments.paid.Goals as goal

pub total_of-total-requires : goal.total_of-total-requires
total_of-total-requires c =
    let y = c.args.y.now in
    let i = c.loop-row.row-index in
    let place = place_below y i c.requires.ordered.rising c.loop-row-test.true in
    let row = c.requires.ordered.within i c.loop-row-test.true in
    let few = c.requires.limits.row_count in
    let small = c.in-Some.ensures.small in
    let total = c.loop-row.total-is in
    let so = c.loop-row.invariant.small in
    omega (arith, ints)

pub loop-row-preserved : goal.loop-row-preserved
loop-row-preserved c =
    let rows = c.args.parts.now.rows in
    let y = c.args.y.now in
    let i = c.loop-row.row-index in
    let total = c.loop-row.total in
    let one = c.in-Some.one in
    let rest = pay rows (drop (i + 1) y) in
    let fits : SFits w64 (value_at y i) = small_fits (value_at y i) (let small = (c.requires.multipliers i c.loop-row-test.true) in
    omega (arith, ints)) in
    let read = to_z-of_z w64 (value_at y i) fits in
    let back : to_z w128 (of_z w128 c.total_of-total.result) ≡ c.total_of-total.result = omega (arith, ints) in
    let back' : to_z w128 (of_z w128 one) ≡ one = omega (arith, ints) in
    let is : payment rows (get_or y i (0, pos 0)) ≡ Some one = sym (rw read at c.payment_of.ensures.value) ∙ c.in-Some.is in
    let sum : total +ℤ one ≡ to_z w128 (of_z w128 c.total_of-total.result) = sym (back
    ∙ (rw (c.loop-row.total-is, back') at c.total_of-total.ensures)) in
    let before : pay rows y ≡ option_map (λ r. total +ℤ r) (pay rows (drop i y)) = rw c.loop-row.total-is at c.loop-row.invariant.paid in
    let small = c.in-Some.ensures.small in
    let so = c.loop-row.invariant.small in
    record {
      paid = before ∙ ap (option_map (λ r. total +ℤ r)) (pay_next rows y i c.loop-row-test.true)
          ∙ ap (λ o. option_map (λ r. total +ℤ r) (onto o rest)) is ∙ so_far total one rest ∙ ap (λ z. option_map (λ r. z +ℤ r) rest) sum;
      small = omega (arith, ints);
    }

pub returns-clause-small : goal.returns-clause-small
returns-clause-small c =
    let y = c.args.y.now in
    let i = c.loop-row.row-index in
    let few = length_below y c.args.parts.now.rows c.requires.ordered.rising c.requires.ordered.within in
    let most = c.requires.limits.row_count in
    let end = c.loop-row.auto.row-index-end in
    let so = c.loop-row.invariant.small in
    omega (arith, ints)
