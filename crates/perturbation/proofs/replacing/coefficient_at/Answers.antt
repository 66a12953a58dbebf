use Rattle.std.proofs.Common.{rules, sym, ◌∙◌, get_or, pos}
use Rattle.std.specs.Int.{w64}
use mir.Val.{SFits}
use Rattle.std.proofs.lemmas.Int.{to_z-of_z}
use Rattle.std.proofs.lemmas.Option.{slice_get-get_or}
use Rattle.perturbation.proofs.CoefLaws.{number_listed, number_unlisted}
use Rattle.perturbation.proofs.replacing.coefficient_at.Goals as goal

pub returns-in-Ok : goal.returns-in-Ok
returns-in-Ok c n o =
    let coefs = c.args.coefs.now in
    let entry = get_or coefs c.in-Ok.k (0, pos 0) in
    let fits : SFits w64 entry.1 = search rules in
    to_z-of_z w64 entry.1 fits ∙ sym (number_listed n c.args.column coefs c.in-Ok.k entry o (sym c.in-Ok.ensures.place)
    (slice_get-get_or coefs c.in-Ok.k (0, pos 0) c.in-Ok.ensures.listed))

pub returns-in-Err : goal.returns-in-Err
returns-in-Err c n o = sym (number_unlisted n c.args.column c.args.coefs.now c.in-Err.field-0 o (sym c.in-Err.ensures.place))
