use Rattle.std.proofs.Common.{rules, arith, ◌*ℤ◌, ◌≡◌, ◌∙◌, ◌+ℤ◌, to_z, of_z, ap, sym, Some}
use Rattle.std.specs.Prelude.{option_map}
use Rattle.std.specs.Int.{w128, w64}
use Rattle.std.proofs.lemmas.Int.{ints}
use Rattle.ip_defs.specs.Certificates.{column_part, pay}
use Rattle.ip_defs.specs.declared.programs.Parts.{Parts}
use Rattle.leaf_cert.specs.Changes.{changed_by}
use Rattle.leaf_cert.proofs.ChangedSums.{constant_changed}
use Rattle.leaf_cert.proofs.leaf.dual_value_of.Goals as goal

pub total_of-requires-in-Some : goal.total_of-requires-in-Some
total_of-requires-in-Some c =
    let paid = c.in-Some.ensures.small in
    omega (arith, ints)

pub returns-in-Some-clause-value : goal.returns-in-Some-clause-value
returns-in-Some-clause-value c =
    let m = c.args.parts.now in
    let n : Parts = changed_by m c.args.change in
    let b = c.args.area.now in
    let q = c.args.cert.now.q in
    let y = c.args.cert.now.y in
    let paid = c.in-Some.paid in
    let has : pay n.rows y ≡ Some paid = sym (rw c.as_slice-y.ensures at c.changed_pay.ensures.paid) ∙ c.in-Some.is in
    let small = c.in-Some.ensures.small in
    let same : to_z w64 (of_z w64 q) ≡ q = search rules in
    let same' : to_z w64 (of_z w64 m.constant) ≡ m.constant = search rules in
    let whole = rw (same, same') at c.weighed-whole.ensures.value in
    let constant = ap (λ z. q *ℤ z) (constant_changed m c.args.change) in
    let sum = rw (c.as_slice-y.ensures, same) at c.changed_sum-columns.ensures.sum in
    let back : to_z w128 (of_z w128 c.total_of-in-Some.result)
    ≡ (paid +ℤ (q *ℤ n.constant)) +ℤ column_part n b q y = omega (arith, ints) in
    ap Some back ∙ ap (option_map (λ paid. (paid +ℤ (q *ℤ n.constant)) +ℤ column_part n b q y)) (sym has)
