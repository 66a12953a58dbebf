use Rattle.std.proofs.Common.{arith, ◌≡◌, ◌∙◌, ◌^◌, to_z, of_z, sym, Some}
use Rattle.std.specs.Int.{w128, w64}
use Rattle.std.proofs.lemmas.Int.{ints}
use Rattle.ip_defs.specs.Certificates.{side_for}
use Rattle.ip_model.proofs.PlaceLaws.{read_at}
use Rattle.leaf_cert.proofs.Steps.{size_of_product}
use Rattle.leaf_cert.proofs.PaymentLaws.{no_payment, side_small}
use Rattle.leaf_cert.proofs.payments.payment_of.Goals as goal

pub returns-in-Some-clause-small : goal.returns-in-Some-clause-small
returns-in-Some-clause-small c =
    let row = c.index-rows-row.result in
    let same : to_z w64 (of_z w64 c.args.multiplier) ≡ c.args.multiplier = omega (arith, ints) in
    let has : side_for c.args.multiplier row ≡ Some c.in-Some.side = sym (rw same at c.side_of.ensures) ∙ c.in-Some.is in
    let found = read_at c.args.parts.now.rows c.as_slice-rows.result.now c.args.row row c.as_slice-rows.ensures
    (rw c.as_slice-rows.ensures c.requires.within) c.index-rows-row.is in
    let small = side_small row c.args.multiplier c.in-Some.side (c.requires.limits.rows c.args.row row found) has in
    let first : to_z w128 (of_z w128 c.from.result) ≡ c.args.multiplier = omega (arith, ints) in
    let second : to_z w128 (of_z w128 c.from-in-Some.result) ≡ c.in-Some.side = omega (arith, ints) in
    let is = rw (first, second) at c.product.ensures in
    let back : to_z w128 (of_z w128 c.product.result) ≡ c.product.result = omega (arith, ints) in
    rw (back, is) (size_of_product c.args.multiplier c.in-Some.side (2 ^ 36) (2 ^ 62) c.requires.small small)

pub returns-in-None-clause-value : goal.returns-in-None-clause-value
returns-in-None-clause-value c =
    let same : to_z w64 (of_z w64 c.args.multiplier) ≡ c.args.multiplier = omega (arith, ints) in
    sym (no_payment c.args.parts.now.rows (c.args.row, c.args.multiplier) c.index-rows-row.result
    (read_at c.args.parts.now.rows c.as_slice-rows.result.now c.args.row c.index-rows-row.result c.as_slice-rows.ensures
    (rw c.as_slice-rows.ensures c.requires.within) c.index-rows-row.is) (sym (rw same at c.side_of.ensures) ∙ c.in-None.is))
