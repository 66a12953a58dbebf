use Rattle.std.proofs.Common.{ap, sym, ◌∙◌}
use Rattle.ip_defs.specs.declared.programs.Parts.{Parts}
use Rattle.tree_checker.specs.declared.streams.Streaming.{Streaming}
use Rattle.tree_checker.proofs.StreamLaws.{sure_fault, failed_fault, ended, columns_are, misfit_found, verdict_found}
use Rattle.tree_checker.proofs.streams.StreamCheck.end.Goals as goal

pub returns-in-Some-clause-answer : goal.returns-in-Some-clause-answer
returns-in-Some-clause-answer c = λ m bytes h.
    let f = ap (λ (v : Parts × Streaming). v.1.fault) (sym c.self.view_is) ∙ c.in-Some.is in
    sure_fault _ c.in-Some.fault (failed_fault m c.args.self.1 c.in-Some.fault bytes f h.1)

pub returns-in-Some-misfit_of-clause-answer : goal.returns-in-Some-misfit_of-clause-answer
returns-in-Some-misfit_of-clause-answer c = λ m bytes h.
    let end = ended m bytes _ c.self.inside.streaming _ _ c.self.view_is c.in_default.is h (c.in-Ok.ensures.fault bytes)
    (c.claims_point-claims_point.ensures bytes) in
    let columns = columns_are _ _ _ m c.as_slice-columns.ensures c.parts.ensures.parts end.same in (
      end.whole.c,
      end.whole.t,
      end.whole.spells,
      misfit_found m bytes _ c.claims_point-claims_point.result _ _ end.whole end.claims columns c.in-Some-misfit_of.ensures,
    )

pub returns-clause-answer : goal.returns-clause-answer
returns-clause-answer c = λ m bytes h.
    let end = ended m bytes _ c.self.inside.streaming _ _ c.self.view_is c.in_default.is h (c.in-Ok.ensures.fault bytes)
    (c.claims_point-claims_point.ensures bytes) in
    let columns = columns_are _ _ _ m c.as_slice-columns.ensures c.parts.ensures.parts end.same in
    let clean = misfit_found m bytes _ c.claims_point-claims_point.result _ _ end.whole end.claims columns c.in-None.ensures in
    let verdict = rw (c.claim_of-claim.ensures, end.same) at c.judge.ensures in (
      end.whole.c,
      end.whole.t,
      end.whole.spells,
      clean,
      verdict_found m bytes _ c.claims_point-claims_point.result _ end.whole end.claims clean verdict,
    )
