use Rattle.std.proofs.Common.{rules, ◌≡◌, ◌+ℤ◌, ◌*ℤ◌, false, sym, pos}
use Rattle.std.specs.Int.{w64, w128}
use mir.Val.{SFits}
use Rattle.std.proofs.lemmas.Int.{to_z-of_z}
use Rattle.ip_defs.specs.Limits.{exceeds}
use Rattle.ip_model.specs.Places.{changed, limit_of, number_of}
use Rattle.perturbation.proofs.SideLaws.{side_moved_is}
use Rattle.perturbation.proofs.row_lines.moved.Goals as goal

pub returns : goal.returns
returns c =
    let m = c.args.parts in
    let place = c.args.place in
    let z = c.side_at-value.result in
    let wide : SFits w128 z = search rules in
    let back = to_z-of_z w128 z wide in
    let step : SFits w64 c.args.step = search rules in
    let old : SFits w64 c.number_at.result = search rules in
    let value : z ≡ number_of m place +ℤ pos c.args.t *ℤ c.args.step =
    rw (to_z-of_z w64 c.args.step step, to_z-of_z w64 c.number_at.result old, c.number_at.ensures) at c.side_at-value.ensures in
    let few : exceeds (limit_of place) z ≡ false = sym (rw back at c.if-exceeds_limit.ensures) in
    let narrow_fits : SFits w64 c.narrowed.result = search rules in
    let narrow : c.narrowed.result ≡ z = rw back at c.narrowed.ensures in
    let is : c.in_ok-replaced.field-0 ≡ changed m place (λ old. z) =
    rw (to_z-of_z w64 c.narrowed.result narrow_fits, narrow) at c.in_ok-replaced.ensures in
    side_moved_is m place c.args.step c.args.t z c.in_ok-replaced.field-0 c.requires.limits value few is
