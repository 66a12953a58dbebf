use Rattle.std.proofs.Common.{arith, ◌≡◌, ap, to_z}
use Rattle.std.specs.Int.{w128}
use Rattle.std.proofs.lemmas.Int.{ints}
use Rattle.ip_model.specs.Places.{number_of, limit_of}
use Rattle.leaf_cert.proofs.ChangedSums.{number_small}
use Rattle.range_finder.proofs.StepLaws.{steps_left, limit_small, left_fits, left_within, left_beyond}
use Rattle.range_finder.proofs.steps.steps_to_limit.Goals as goal
use Rattle.range_finder.proofs.steps.steps_to_limit.Goals.{then-up, else-up}

left_is : (c : goal.Joined-up)
    → to_z w128 c.if-up.left-bits ≡ steps_left (number_of c.args.parts.now c.args.place) (limit_of c.args.place) c.args.up
left_is c =
    let n = number_of c.args.parts.now c.args.place in
    let l = limit_of c.args.place in
    let small = number_small c.args.parts.now c.args.place c.requires.limits c.requires.exists in
    let most = limit_small c.args.place in
    let read = c.number_at.ensures in
    let wide = c.from-number.ensures in
    elim c.if-up.branch [
      | then-up w ↦ (
          let up = ap (steps_left n l) w.if-up.true in
          let limit = w.limit.ensures in
          let left = w.left-is in
          omega (arith, ints)
          )
      | else-up w ↦ (
          let up = ap (steps_left n l) w.if-up.false in
          let limit = w.limit-else-up.ensures in
          let left = w.left-is in
          omega (arith, ints)
          )
    ]

pub overflow_cast-result : goal.overflow_cast-result
overflow_cast-result c =
    let n = number_of c.args.parts.now c.args.place in
    let small = number_small c.args.parts.now c.args.place c.requires.limits c.requires.exists in
    let fits = left_fits (to_z w128 c.if-up.left-bits) n (limit_of c.args.place) c.args.up (left_is c) small (limit_small c.args.place) in
    let low = fits.0 in
    let high = fits.1 in
    (omega (arith, ints), omega (arith, ints))

pub returns-clause-within : goal.returns-clause-within
returns-clause-within c =
    let n = number_of c.args.parts.now c.args.place in
    let small = number_small c.args.parts.now c.args.place c.requires.limits c.requires.exists in
    λ k l. left_within (to_z w128 c.if-up.left-bits) n (limit_of c.args.place) k c.args.up (left_is c) small l

pub returns-clause-beyond : goal.returns-clause-beyond
returns-clause-beyond c =
    let n = number_of c.args.parts.now c.args.place in
    let small = number_small c.args.parts.now c.args.place c.requires.limits c.requires.exists in
    left_beyond (to_z w128 c.if-up.left-bits) n (limit_of c.args.place) c.args.up (left_is c) small
