use Rattle.std.specs.Prelude.{◌≡◌}
use Rattle.std.proofs.Common.{ap, sym, ◌∙◌, subst, Err}
use Rattle.std.specs.Prelude.{map, string_bytes}
use Rattle.ipsens_core.specs.Accepted.{AsksAccepted}
use Rattle.ipsens_core.proofs.AcceptedLaws.{accepted_answered}
use Rattle.ipsens_core.proofs.RequestLaws.{asked_begun, request_ready}
use Rattle.ipsens_core.proofs.RunLaws.{asked_meets, usage_meets}
use Rattle.ipsens_core.proofs.command_lines.run.Goals as goal

pub returns-in-Err-Usage-clause-answer : goal.returns-in-Err-Usage-clause-answer
returns-in-Err-Usage-clause-answer g c =
    usage_meets (map string_bytes c.args.words.now) (g.S.Shelf.files c.args.shelf.now) (g.K.Sink.taken c.args.out.now)
    (g.K.Sink.taken c.finish.new.out) (g.K.Sink.faults c.args.out.now) (g.K.Sink.faults c.finish.new.out) c.finish.result
    (c.in-Err-Usage.ensures.usage (ap Err c.in-Err-Usage.field-0-is)) c.finish.ensures.writes

pub carry_out-requires : goal.carry_out-requires
carry_out-requires g c = request_ready _ c.in-Ok.ensures.ranges c.in-Ok.ensures.built

pub returns-clause-answer : goal.returns-clause-answer
returns-clause-answer g c = asked_meets _ _ _ _ c.in-Ok.ensures.request c.carry_out.ensures.run.answer

pub returns-clause-usage : goal.returns-clause-usage
returns-clause-usage g c = λ is. absurd (c.carry_out.ensures.run.no_usage is)

pub returns-clause-causes : goal.returns-clause-causes
returns-clause-causes g c = c.carry_out.ensures.run.causes

pub returns-clause-unsaved : goal.returns-clause-unsaved
returns-clause-unsaved g c = c.carry_out.ensures.run.unsaved

pub returns-clause-begun : goal.returns-clause-begun
returns-clause-begun g c = asked_begun _ _ _ _ c.in-Ok.ensures.request c.carry_out.ensures.run.begun

pub returns-in-Err-Usage-clause-complete : goal.returns-in-Err-Usage-clause-complete
returns-in-Err-Usage-clause-complete g c = λ q is files.
    absurd (cc (sym is ∙ c.in-Err-Usage.ensures.usage (ap Err c.in-Err-Usage.field-0-is)))

pub returns-clause-complete : goal.returns-clause-complete
returns-clause-complete g c = λ q is files.
    let run = c.carry_out.ensures.run in
    let both = sym c.in-Ok.ensures.request ∙ is in
    let same : c.in-Ok.request ≡ q = cc both in
    accepted_answered c.in-Ok.request _ c.carry_out.result run.answer run.no_usage
    (subst (λ p. AsksAccepted (g.S.Shelf.files c.args.shelf.now) p) (sym same) files)
