use Rattle.std.proofs.Common.{rules, arith, ◌≡◌, ◌^◌, ◌≤◌, ◌+ℤ◌, ◌-ℤ◌, ◌*ℤ◌, sym, ap, ◌∙◌, length}
use Rattle.std.specs.Int.{w64, w128}
use Rattle.std.specs.Int.RustNames.{unsigned_abs}
use Rattle.std.proofs.lemmas.Int.{to_z-of_z}
use Rattle.ip_defs.specs.Program.{at, costs_of}
use Rattle.ip_defs.specs.Certificates.{column_part, reduced}
use Rattle.leaf_cert.proofs.Taken.{taken_whole, columns_same, cost_small}
use Rattle.leaf_cert.proofs.ChangedSums.{change_small, risen_small, rise_within, sum_moved, sum_unmoved, part_of}
use Rattle.leaf_cert.proofs.changes.changed_sum.Goals as goal

pub column_sum-total-requires-clause-taken_small : goal.column_sum-total-requires-clause-taken_small
column_sum-total-requires-clause-taken_small c = λ j l.
    rw (c.requires.taken j l) (taken_whole c.args.parts.now c.args.y.now j c.requires.limits c.requires.ordered c.requires.multipliers)

pub rise_of-requires-clause-by : goal.rise_of-requires-clause-by
rise_of-requires-clause-by c = change_small c.args.parts.now c.args.change c.requires.limits c.requires.change

pub reduced_at-requires-clause-taken_small : goal.reduced_at-requires-clause-taken_small
reduced_at-requires-clause-taken_small c = λ j l.
    rw (c.requires.taken j l) (taken_whole c.args.parts.now c.args.y.now j c.requires.limits c.requires.ordered c.requires.multipliers)

pub moved_sum-requires-clause-risen : goal.moved_sum-requires-clause-risen
moved_sum-requires-clause-risen c =
    let m = c.args.parts.now in
    let y = c.args.y.now in
    let j = c.in-Some.j in
    let moved = rw (to_z-of_z w64 c.args.q (search rules)) at (sym (c.in-Some.ensures.value (length m.rows) c.requires.ordered)) in
    let within = rise_within m c.args.change c.args.q y j c.in-Some.more c.requires.change moved in
    let taken : unsigned_abs (at c.args.taken.now j) ≤ 2 ^ 86 = rw (c.requires.taken j (omega (arith, c.requires.size)))
    (taken_whole m y j c.requires.limits c.requires.ordered c.requires.multipliers) in
    rw (to_z-of_z w128 c.reduced_at.result (search rules), to_z-of_z w128 c.in-Some.more (search rules))
    (risen_small c.args.q (at (costs_of m) j) (at c.args.taken.now j) c.in-Some.more c.reduced_at.result c.requires.q_small
    (cost_small m j c.requires.limits within) taken c.in-Some.ensures.small
    (rw (to_z-of_z w64 c.args.q (search rules)) at c.reduced_at.ensures.value))

pub returns-in-Some-clause-sum : goal.returns-in-Some-clause-sum
returns-in-Some-clause-sum c =
    let m = c.args.parts.now in
    let b = c.args.area.now in
    let y = c.args.y.now in
    let j = c.in-Some.j in
    let more = c.in-Some.more in
    let moved = rw (to_z-of_z w64 c.args.q (search rules)) at (sym (c.in-Some.ensures.value (length m.rows) c.requires.ordered)) in
    let within = rise_within m c.args.change c.args.q y j more c.requires.change moved in
    let q = to_z-of_z w64 c.args.q (search rules) in
    let red : c.reduced_at.result ≡ reduced m c.args.q y j =
    (rw q at c.reduced_at.ensures.value)
    ∙ ap (λ z. c.args.q *ℤ at (costs_of m) j -ℤ z) (c.requires.taken j (omega (arith, c.requires.size))) in
    let total : c.column_sum-total.result ≡ column_part m b c.args.q y =
    (rw q at c.column_sum-total.ensures.sum)
    ∙ columns_same m b c.args.q y c.args.taken.now (λ k h. c.requires.taken k (omega (arith, c.requires.size, c.requires.sides.size))) in
    let back = to_z-of_z w128 c.moved_sum.result (search rules) in
    let value = rw (
      to_z-of_z w128 c.column_sum-total.result (search rules),
      to_z-of_z w128 c.reduced_at.result (search rules),
      to_z-of_z w128 more (search rules),
    ) at c.moved_sum.ensures.value in
    back ∙ value
    ∙ ap (λ z. z -ℤ part_of b j c.reduced_at.result +ℤ part_of b j (c.reduced_at.result +ℤ more)) total
    ∙ ap (λ z. column_part m b c.args.q y -ℤ part_of b j z +ℤ part_of b j (z +ℤ more)) red
    ∙ sym (sum_moved m c.args.change c.args.q y b j more c.requires.change moved (omega (arith, within, c.requires.sides.size)))

pub returns-in-None-clause-sum : goal.returns-in-None-clause-sum
returns-in-None-clause-sum c =
    let m = c.args.parts.now in
    let b = c.args.area.now in
    let y = c.args.y.now in
    let none = rw (to_z-of_z w64 c.args.q (search rules)) at (sym (c.in-None.ensures.value (length m.rows) c.requires.ordered)) in
    to_z-of_z w128 c.column_sum-total.result (search rules)
    ∙ (rw (to_z-of_z w64 c.args.q (search rules)) at c.column_sum-total.ensures.sum)
    ∙ columns_same m b c.args.q y c.args.taken.now (λ k h. c.requires.taken k (omega (arith, c.requires.size, c.requires.sides.size)))
    ∙ sym (sum_unmoved m c.args.change c.args.q y b c.requires.change none)
