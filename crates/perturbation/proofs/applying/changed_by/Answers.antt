use Rattle.std.proofs.Common.{rules, arith, ◌≡◌, ◌≤◌, ◌^◌, sym, ◌∙◌, subst, Some, ℤ}
use Rattle.std.specs.Int.{w64, w128}
use Rattle.std.specs.Int.RustNames.{unsigned_abs}
use mir.Val.{SFits}
use Rattle.std.proofs.lemmas.Int.{ints, to_z-of_z}
use Rattle.mps_defs.specs.Numbers.{exact_units}
use Rattle.perturbation.specs.Edits.{Answers, changed_within, decimals_at, new_number, written}
use Rattle.ip_model.specs.Places.{number_of}
use Rattle.perturbation.proofs.EditLaws.{decimals_few, exact_small, by_number_is}
use Rattle.perturbation.proofs.applying.changed_by.Goals as goal

pub scaled-requires-clause-decimals : goal.scaled-requires-clause-decimals
scaled-requires-clause-decimals c = rw c.decimals_at.ensures (decimals_few c.args.parts c.args.place c.requires.limits)

pub new_number-value-requires : goal.new_number-value-requires
new_number-value-requires c =
    let z = c.in-Some.units in
    let fits : SFits w128 z = search rules in
    let back = to_z-of_z w128 z fits in
    let told = sym c.scaled.ensures ∙ c.in-Some.is in
    let units : exact_units (written c.args.change) (decimals_at c.args.parts c.args.place) ≡ Some z =
    rw (c.written-number.ensures, c.decimals_at.ensures) at told in
    let few = decimals_few c.args.parts c.args.place c.requires.limits in
    let range : SFits w128 c.in_default.field-0 = search rules in
    rw back (exact_small (written c.args.change) (decimals_at c.args.parts c.args.place) z c.requires.below few (λ units decimals is.
    let same : c.in_default.field-0 ≡ units = cc in
    subst (λ (y : ℤ). unsigned_abs y ≤ 2 ^ 127) same (omega (arith, ints))) units)

pub returns : goal.returns
returns c =
    let z = c.in-Some.units in
    let fits : SFits w128 z = search rules in
    let back = to_z-of_z w128 z fits in
    let old_fits : SFits w64 c.number_at.result = search rules in
    let old_back = to_z-of_z w64 c.number_at.result old_fits in
    let value_fits : SFits w128 c.new_number-value.result = search rules in
    let value_back = to_z-of_z w128 c.new_number-value.result value_fits in
    let told = sym c.scaled.ensures ∙ c.in-Some.is in
    let units : exact_units (written c.args.change) (decimals_at c.args.parts c.args.place) ≡ Some z =
    rw (c.written-number.ensures, c.decimals_at.ensures) at told in
    let value : c.new_number-value.result ≡ new_number c.args.change z (number_of c.args.parts c.args.place) =
    rw (back, old_back, c.number_at.ensures) at c.new_number-value.ensures in
    let due = by_number_is c.args.parts c.args.edit c.args.place c.args.change (written c.args.change) z c.requires.limits units in
    let answer : Answers
    (changed_within c.args.parts c.args.edit c.args.place (λ old. new_number c.args.change z (number_of c.args.parts c.args.place)))
    c.replaced_within.result =
    rw (value_back, value) at c.replaced_within.ensures in
    subst (λ r. Answers r c.replaced_within.result) (sym due) answer
