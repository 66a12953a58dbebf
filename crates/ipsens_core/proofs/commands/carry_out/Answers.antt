use Rattle.std.proofs.Common.{sym, ◌∙◌}
use Rattle.ipsens_core.proofs.RunLaws.{made_written, sent_causes, sent_meets}
use Rattle.ipsens_core.proofs.commands.carry_out.Goals as goal

pub send-requires : goal.send-requires
send-requires g c = made_written _ _ _ _ _ _ _ _ c.answer-made.ensures.prepared

pub returns : goal.returns
returns g c = record {
  run = record {
    answer = sent_meets _ _ _ _ _ _ _ _ _ _ _ _ c.answer-made.ensures.prepared c.send.ensures.sent;
    causes = sent_causes _ _ _ _ _ _ _ _ _ _ _ _ _ c.answer-made.ensures.prepared c.send.ensures.read_fault
        c.send.ensures.no_read_fault c.send.ensures.write_fault c.send.ensures.no_write_fault c.send.ensures.faults;
    unsaved = λ not. c.send.ensures.unsaved (λ same. not (same ∙ c.answer-made.ensures.prepared.saves));
    begun = (c.answer-made.ensures.names.0, λ now is. c.answer-made.ensures.names.1 now (sym c.send.ensures.names ∙ is));
    no_usage = c.send.ensures.no_usage;
  };
}
