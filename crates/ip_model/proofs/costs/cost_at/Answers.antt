use Rattle.std.proofs.Common.{arith, rules, ap, sym, ◌∙◌, ◌≡◌, ◌+ℤ◌, ◌*ℤ◌, ◌+◌, add-one, refl, length, Some, ℕ, ℤ, to_z, of_z}
use Rattle.std.specs.Prelude.{slice_get}
use Rattle.std.specs.Int.{w64, w128}
use mir.Val.{SFits}
use Rattle.std.proofs.lemmas.Int.{ints, to_z-of_z}
use Rattle.ip_defs.specs.Sums.{sum_below}
use Rattle.ip_defs.specs.Program.{at, costs_of}
use Rattle.ip_model.proofs.PlaceLaws.{read_at, cost_of_column}
use Rattle.ip_model.proofs.costs.cost_at.Goals as goal

pub term-requires : goal.term-requires
term-requires c =
    let m = c.args.parts.now in
    let found : slice_get m.columns c.loop-j.j ≡ Some c.column-item.result =
    read_at m.columns c.as_slice-column-items.result.now c.loop-j.j c.column-item.result c.as_slice-column-items.ensures
    c.loop-j-test.true c.column-item.is in
    let small = (c.requires.limits.columns c.loop-j.j c.column-item.result found).cost in
    omega (arith, ints)

pub total_of-total-requires : goal.total_of-total-requires
total_of-total-requires c =
    let few = c.requires.limits.column_count in
    let same = ap length c.as_slice-column-items.ensures in
    let so = c.loop-j.invariant.small in
    let e = c.term.ensures.small in
    let is = c.loop-j.total-is in
    let l = c.loop-j-test.true in
    omega (arith, ints)

pub loop-j-preserved : goal.loop-j-preserved
loop-j-preserved c =
    let m = c.args.parts.now in
    let x = c.args.point.now in
    let j = c.loop-j.j in
    let column = c.column-item.result in
    let f : ℕ → ℤ = λ k. at (costs_of m) k *ℤ at x k in
    let found : slice_get m.columns j ≡ Some column = read_at m.columns c.as_slice-column-items.result.now j column
    c.as_slice-column-items.ensures c.loop-j-test.true c.column-item.is in
    let small_cost = (c.requires.limits.columns j column found).cost in
    let back_cost : to_z w64 (of_z w64 column.cost) ≡ column.cost = omega (arith, ints) in
    let fits : SFits w64 (at x j) = search rules in
    let value : c.term.result ≡ column.cost *ℤ at x j = rw (back_cost, to_z-of_z w64 (at x j) fits) at c.term.ensures.value in
    let term_is : c.term.result ≡ f j = value ∙ ap (λ z. z *ℤ at x j) (sym (cost_of_column m j column found)) in
    let before : to_z w128 c.loop-j.total-bits ≡ m.constant +ℤ sum_below f j = c.loop-j.invariant.sum in
    let next : sum_below f (j + 1) ≡ sum_below f j +ℤ f j = rw add-one refl in
    let small = c.loop-j.invariant.small in
    let term_small = c.term.ensures.small in
    let is = c.total_of-total.ensures in
    let back : to_z w128 (of_z w128 c.total_of-total.result) ≡ c.total_of-total.result = omega (arith, ints) in
    let back' : to_z w128 (of_z w128 c.term.result) ≡ c.term.result = omega (arith, ints) in
    record { sum = omega (arith, ints); small = omega (arith, ints) }

pub returns : goal.returns
returns c =
    let m = c.args.parts.now in
    let x = c.args.point.now in
    let f : ℕ → ℤ = λ k. at (costs_of m) k *ℤ at x k in
    let same = ap length c.as_slice-column-items.ensures in
    let size = c.requires.size in
    let end = c.loop-j-test.false in
    let near = c.loop-j.auto.j-end in
    let all : c.loop-j.j ≡ length x = omega arith in
    let sum : to_z w128 c.loop-j.total-bits ≡ m.constant +ℤ sum_below f c.loop-j.j = c.loop-j.invariant.sum in
    sum ∙ ap (λ (n : ℕ). m.constant +ℤ sum_below f n) all
