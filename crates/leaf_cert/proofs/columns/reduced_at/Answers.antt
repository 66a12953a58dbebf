use Rattle.std.proofs.Common.{arith, rules, ◌≡◌, ◌∙◌, to_z, of_z, Some, sym}
use Rattle.std.specs.Prelude.{slice_get}
use Rattle.std.specs.Int.{w128, w64}
use mir.Val.{SFits}
use Rattle.std.proofs.lemmas.Int.{ints, to_z-of_z}
use Rattle.ip_model.proofs.PlaceLaws.{read_at, cost_of_column}
use Rattle.ip_defs.specs.Program.{at}
use Rattle.leaf_cert.proofs.columns.reduced_at.Goals as goal

pub reduced_cost-requires-clause-cost_small : goal.reduced_cost-requires-clause-cost_small
reduced_cost-requires-clause-cost_small c =
    let m = c.args.parts.now in
    let column = c.index-columns-j.result in
    let found : slice_get m.columns c.args.j ≡ Some column = read_at m.columns c.as_slice-columns.result.now c.args.j column
    c.as_slice-columns.ensures (rw c.as_slice-columns.ensures c.requires.within) c.index-columns-j.is in
    let small = (c.requires.limits.columns c.args.j column found).cost in
    rw (← c.index-columns-j.is) (omega (arith, ints))

pub returns-clause-value : goal.returns-clause-value
returns-clause-value c =
    let m = c.args.parts.now in
    let d = c.args.taken.now in
    let j = c.args.j in
    let column = c.index-columns-j.result in
    let fits_cost : SFits w64 column.cost = search rules in
    let fits_d : SFits w128 (at d j) = search rules in
    let cost = sym (cost_of_column m j column (read_at m.columns c.as_slice-columns.result.now j column c.as_slice-columns.ensures
    (rw c.as_slice-columns.ensures c.requires.within) c.index-columns-j.is)) in
    let read_q : to_z w64 (of_z w64 c.args.q) ≡ c.args.q = omega (arith, ints) in
    let back : to_z w128 (of_z w128 c.reduced_cost.result) ≡ c.reduced_cost.result = omega (arith, ints) in
    back ∙ rw (← c.index-columns-j.is, to_z-of_z w64 column.cost fits_cost, to_z-of_z w128 (at d j) fits_d, read_q, cost)
    at c.reduced_cost.ensures.value
