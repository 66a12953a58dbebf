use Rattle.ipsens_core.proofs.AcceptedLaws.{accepted_answered}
use Rattle.ipsens_core.proofs.commands.ask_at.Goals as goal

pub returns-clause-complete : goal.returns-clause-complete
returns-clause-complete g c =
    let run = c.carry_out.ensures.run in
    λ files. accepted_answered c.args.request.now _ c.carry_out.result run.answer run.no_usage files
