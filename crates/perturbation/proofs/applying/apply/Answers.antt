use Rattle.std.proofs.Common.{arith, ◌≡◌, length, ◌∙◌, refl, Some}
use Rattle.std.proofs.lemmas.Option.{slice_get_read}
use Rattle.ip_defs.proofs.ListLaws.{each_get}
use Rattle.decimals.specs.Decimals.{IsBelowLarge}
use Rattle.perturbation.specs.declared.edits.Edit.{Edit}
use Rattle.perturbation.specs.Edits.{written}
use Rattle.perturbation.proofs.ApplyLaws.{none_made, one_made, one_refused, all_made}
use Rattle.perturbation.proofs.applying.apply.Goals as goal

pub loop-edit-init : goal.loop-edit-init
loop-edit-init c =
    let same : c.in_ok-parts.parts ≡ c.args.model.now = c.in_ok-parts.ensures ∙ c.parts.ensures.parts in
    rw same (none_made c.args.model.now c.args.edits.now c.parts.ensures.limits)

pub overflow_add-number : goal.overflow_add-number
overflow_add-number c =
    let counted = c.loop-edit.invariant.counted in
    let within = c.loop-edit-test.true in
    let few = c.requires.count in
    omega arith

pub edited-requires-clause-limits : goal.edited-requires-clause-limits
edited-requires-clause-limits c = c.loop-edit.invariant.limits

pub edited-requires-clause-below : goal.edited-requires-clause-below
edited-requires-clause-below c =
    let edits = c.args.edits.now in
    let at = slice_get_read edits (length edits) c.loop-edit.edit-index c.edit-item.result refl c.loop-edit-test.true c.edit-item.is in
    each_get (λ (e : Edit). IsBelowLarge (written e.change)) edits c.loop-edit.edit-index c.edit-item.result c.requires.below at

pub returns-in-Err : goal.returns-in-Err
returns-in-Err c =
    let edits = c.args.edits.now in
    let at = slice_get_read edits (length edits) c.loop-edit.edit-index c.edit-item.result refl c.loop-edit-test.true c.edit-item.is in
    one_refused c.in-Err.error c.loop-edit.invariant at c.in-Err.ensures

pub loop-edit-preserved : goal.loop-edit-preserved
loop-edit-preserved c =
    let edits = c.args.edits.now in
    let at = slice_get_read edits (length edits) c.loop-edit.edit-index c.edit-item.result refl c.loop-edit-test.true c.edit-item.is in
    one_made c.loop-edit.invariant at c.in-Ok.ensures

pub made-requires : goal.made-requires
made-requires c = c.loop-edit.invariant.limits

pub returns-in-Some : goal.returns-in-Some
returns-in-Some c =
    let told : Some c.in-Some.model ≡ Some c.loop-edit.parts = c.in-Some.ensures in
    let same : c.in-Some.model ≡ c.loop-edit.parts = cc in
    rw same (all_made c.args.model.now c.args.edits.now c.loop-edit.edit-index c.loop-edit.number c.loop-edit.parts c.loop-edit.invariant
    c.loop-edit-test.false)
