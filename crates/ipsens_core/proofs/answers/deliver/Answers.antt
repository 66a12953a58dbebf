use Rattle.std.proofs.Common.{subst}
use Rattle.ipsens_core.specs.Internal.Writes.{Writes}
use Rattle.ipsens_core.proofs.SendLaws.{delivered, not_saved, write_failed, write_held, written_ends}
use Rattle.ipsens_core.proofs.answers.deliver.Goals as goal

pub returns-in-Ok-clause-delivers : goal.returns-in-Ok-clause-delivers
returns-in-Ok-clause-delivers g c =
    let writes = subst (λ text. Writes (g.K.Sink.taken c.args.out.now) (g.K.Sink.taken c.finish.new.out) (g.K.Sink.faults c.args.out.now)
    (g.K.Sink.faults c.finish.new.out) c.args.made.now.status text c.finish.result) c.as_slice.ensures.value c.finish.ensures.writes in
    delivered _ _ _ _ _ _ _ _ c.in-Ok.ensures.saved writes

pub returns-in-Ok-clause-ends : goal.returns-in-Ok-clause-ends
returns-in-Ok-clause-ends g c = written_ends _ _ _ _ _ _ _ c.requires c.finish.ensures.writes

pub returns-in-Ok-clause-write_fault : goal.returns-in-Ok-clause-write_fault
returns-in-Ok-clause-write_fault g c = write_failed _ _ _ _ _ _ _ _ _ c.requires c.in-Ok.ensures.cause.stands c.finish.ensures.writes

pub returns-in-Ok-clause-no_write_fault : goal.returns-in-Ok-clause-no_write_fault
returns-in-Ok-clause-no_write_fault g c = write_held _ _ _ _ _ _ _ _ _ c.in-Ok.ensures.cause.stands c.finish.ensures.writes

pub returns-in-Err-clause-delivers : goal.returns-in-Err-clause-delivers
returns-in-Err-clause-delivers g c = not_saved _ _ _ _ c.in-Err.ensures.others
