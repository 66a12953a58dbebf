use Rattle.std.proofs.Common.{◌≡◌, sym, ap, ◌∙◌, Some, None}
use Rattle.ip_defs.specs.Lists.{first_of}
use Rattle.ip_model.proofs.NoLimitLaws.{no_limits}
use Rattle.perturbation.proofs.copies.made.Goals as goal

pub returns : goal.returns
returns c =
    let told = c.in-Err.ensures.first in
    let none : None ≡ Some c.in-Err.field-0.1 = sym (ap first_of (no_limits c.args.parts c.requires)) ∙ told in
    absurd cc
