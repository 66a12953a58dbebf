use Rattle.std.specs.Prelude.{◌≡◌, ℕ, ◌+◌, ℤ, ◌+ℤ◌, ◌*ℤ◌}
use Rattle.std.specs.Int.{w64, w128}
use mir.Val.{SFits}
use Rattle.std.proofs.Common.{arith, rules, add-one, refl, to_z, of_z}
use Rattle.std.proofs.lemmas.Int.{ints, to_z-of_z}
use Rattle.ip_defs.specs.Program.{at}
use Rattle.ip_defs.specs.Sums.{sum_below}
use Rattle.sweep_proof.proofs.slopes.slope_of.Goals as goal

pub loop-j-preserved : goal.loop-j-preserved
loop-j-preserved c =
    let d = c.args.dir.now in
    let x = c.args.point.now in
    let j = c.loop-j.j in
    let f : ℕ → ℤ = λ k. at d k *ℤ at x k in
    let step : SFits w64 (at d j) = search rules in
    let coordinate : SFits w64 (at x j) = search rules in
    let value : c.slope_term.result ≡ f j =
    rw (to_z-of_z w64 (at d j) step, to_z-of_z w64 (at x j) coordinate) at c.slope_term.ensures.value in
    let before : to_z w128 c.loop-j.total-bits ≡ sum_below f j = c.loop-j.invariant.sum in
    let next : sum_below f (j + 1) ≡ sum_below f j +ℤ f j = rw add-one refl in
    let small = c.loop-j.invariant.small in
    let term_small = c.slope_term.ensures.small in
    let is = c.total_of-total.ensures in
    let back : to_z w128 (of_z w128 c.total_of-total.result) ≡ c.total_of-total.result = omega (arith, ints) in
    let back' : to_z w128 (of_z w128 c.slope_term.result) ≡ c.slope_term.result = omega (arith, ints) in
    record { sum = omega (arith, ints); small = omega (arith, ints) }
