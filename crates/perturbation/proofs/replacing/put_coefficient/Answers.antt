use Rattle.std.proofs.Common.{rules, sym, ap, ◌∙◌, to_z, of_z}
use Rattle.std.specs.Int.{w64}
use mir.Val.{SFits}
use Rattle.std.proofs.lemmas.Int.{to_z-of_z}
use Rattle.perturbation.proofs.CoefLaws.{put_removed, put_over, put_nothing, put_inserted}
use Rattle.perturbation.proofs.replacing.put_coefficient.Goals as goal

pub returns-in-Ok-true : goal.returns-in-Ok-true
returns-in-Ok-true c =
    let fits : SFits w64 c.args.value = search rules in
    c.remove.ensures.items ∙ sym (put_removed c.args.column c.args.value c.args.coefs.now.items c.in-Ok-true.k
    (sym (rw c.as_slice.ensures.value at c.in-Ok-true.ensures.place))
    (sym (to_z-of_z w64 c.args.value fits) ∙ ap (to_z w64) c.in-Ok-true.is-1))

pub returns-in-Ok-false : goal.returns-in-Ok-false
returns-in-Ok-false c =
    let fits : SFits w64 c.args.value = search rules in
    rw (to_z-of_z w64 c.args.value fits) (sym (put_over c.args.column c.args.value c.args.coefs.now.items c.in-Ok-false.k
    (sym (rw c.as_slice.ensures.value at c.in-Ok-false.ensures.place)) (λ e. c.in-Ok-false.is-1 (ap (of_z w64) e))))

pub returns-in-Err-true : goal.returns-in-Err-true
returns-in-Err-true c =
    let fits : SFits w64 c.args.value = search rules in
    sym (put_nothing c.args.column c.args.value c.args.coefs.now.items c.in-Err-true.field-0-0
    (sym (rw c.as_slice.ensures.value at c.in-Err-true.ensures.place))
    (sym (to_z-of_z w64 c.args.value fits) ∙ ap (to_z w64) c.in-Err-true.is-1))

pub returns-in_ok-insert-in-Err-false : goal.returns-in_ok-insert-in-Err-false
returns-in_ok-insert-in-Err-false c =
    let fits : SFits w64 c.args.value = search rules in
    (rw (to_z-of_z w64 c.args.value fits) at c.in_ok-insert-in-Err-false.ensures.items)
    ∙ sym (put_inserted c.args.column c.args.value c.args.coefs.now.items c.in-Err-false.k
    (sym (rw c.as_slice.ensures.value at c.in-Err-false.ensures.place)) (λ e. c.in-Err-false.is-1 (ap (of_z w64) e)))
