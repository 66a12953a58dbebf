use Rattle.std.proofs.Common.{refl, subst}
use Rattle.ipsens_core.specs.Internal.SweepFiles.{IsSweepText}
use Rattle.ipsens_core.proofs.SweepFileLaws.{sweep_read, sweep_unread}
use Rattle.ipsens_core.proofs.sweep_files.read_course.Goals as goal

pub returns-in-Ok-clause-file : goal.returns-in-Ok-clause-file
returns-in-Ok-clause-file g c =
    let text = subst (λ bs. IsSweepText c.args.model.now bs c.understand.result) c.as_slice.ensures c.understand.ensures.course in
    sweep_read c.args.model.now c.args.name.now c.in-Ok.text _ _ c.understand.result c.in-Ok.ensures.file text

pub returns-in-Err-clause-file : goal.returns-in-Err-clause-file
returns-in-Err-clause-file g c = sweep_unread c.args.model.now c.args.name.now _ _ _ c.in-Err.unread refl c.in-Err.ensures.file
