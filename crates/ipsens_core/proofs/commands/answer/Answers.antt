use Rattle.ipsens_core.specs.Runs.{AnswersModel}
use Rattle.ipsens_core.proofs.RequestLaws.{how_ready, model_begun, request_begun, request_prepared}
use Rattle.ipsens_core.proofs.ModelLaws.{prepared_more}
use Rattle.ipsens_core.proofs.commands.answer.Goals as goal

pub read_model-requires : goal.read_model-requires
read_model-requires g c = how_ready _ _ _ c.requires c.model_file-file.ensures

pub returns-in-Ok-clause-prepared : goal.returns-in-Ok-clause-prepared
returns-in-Ok-clause-prepared g c =
    let q = c.args.request.now in
    let file = c.model_file-file.result in
    request_prepared q file.name.now file.how _ _ _ _ _ _ _ c.model_file-file.ensures
    (prepared_more file.name.now file.how (AnswersModel q) _ _ _ _ _ _ _ _ _ c.in-Ok.model _ c.in-Ok.ensures.file c.in-Ok.ensures.keeps
    (c.in-Ok.ensures.no_fault (λ e. cc e)) c.in-Ok.ensures.saves c.answer_to.ensures.prepared)

pub returns-in-Ok-clause-names : goal.returns-in-Ok-clause-names
returns-in-Ok-clause-names g c = request_begun _ _ _ _ _ _ c.model_file-file.ensures c.in-Ok.ensures.names c.answer_to.ensures.names

pub returns-in-Err-clause-names : goal.returns-in-Err-clause-names
returns-in-Err-clause-names g c = model_begun _ _ _ _ _ c.model_file-file.ensures c.in-Err.ensures.names
