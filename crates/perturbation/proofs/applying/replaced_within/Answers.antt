use Rattle.std.proofs.Common.{rules, ◌≡◌, false, sym}
use Rattle.std.specs.Int.{w64, w128}
use mir.Val.{SFits}
use Rattle.std.proofs.lemmas.Int.{to_z-of_z}
use Rattle.ip_model.specs.Places.{changed, limit_of}
use Rattle.ip_defs.specs.Limits.{exceeds}
use Rattle.perturbation.proofs.EditLaws.{limit_fits, is_within}
use Rattle.perturbation.proofs.applying.replaced_within.Goals as goal

pub returns : goal.returns
returns c =
    let wide : SFits w128 c.args.number = search rules in
    let back = to_z-of_z w128 c.args.number wide in
    let few : exceeds (limit_of c.args.place) c.args.number ≡ false = sym (rw back at c.if-exceeds_limit.ensures) in
    let size = limit_fits c.args.place c.args.number few in
    let fits : SFits w64 c.narrowed.result = search rules in
    let cast = to_z-of_z w64 c.narrowed.result fits in
    let narrow : c.narrowed.result ≡ c.args.number = rw back at c.narrowed.ensures in
    let is : c.in_ok-parts.parts ≡ changed c.args.parts c.args.place (λ old. c.args.number) =
    rw (cast, narrow) at c.in_ok-parts.ensures in
    is_within c.args.parts c.args.edit c.args.place c.args.number c.in_ok-parts.parts few is
    (sym (rw c.as_slice.ensures at c.if-has_many_entries.ensures))

pub narrowed-requires : goal.narrowed-requires
narrowed-requires c =
    let wide : SFits w128 c.args.number = search rules in
    let back = to_z-of_z w128 c.args.number wide in
    let few : exceeds (limit_of c.args.place) c.args.number ≡ false = sym (rw back at c.if-exceeds_limit.ensures) in
    rw back (limit_fits c.args.place c.args.number few)
