use Rattle.std.proofs.Common.{refl, subst}
use Rattle.ipsens_core.specs.Internal.ModelFiles.{IsModelText}
use Rattle.ipsens_core.proofs.ModelLaws.{model_unread, text_read}
use Rattle.ipsens_core.proofs.models.read_model.Goals as goal

pub returns-in-Ok-clause-file : goal.returns-in-Ok-clause-file
returns-in-Ok-clause-file g c =
    let text = subst (λ bs. IsModelText bs c.args.how c.understand.result) c.as_slice.ensures c.understand.ensures.text in
    text_read c.args.name.now c.in-Ok.bytes c.args.how _ _ c.understand.result c.in-Ok.ensures.file text

pub returns-in-Err-clause-file : goal.returns-in-Err-clause-file
returns-in-Err-clause-file g c = model_unread c.args.name.now _ c.args.how _ _ c.in-Err.unread refl c.in-Err.ensures.file
