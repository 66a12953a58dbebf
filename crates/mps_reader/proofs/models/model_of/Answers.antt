use Rattle.std.specs.Prelude.{Err}
use Rattle.mps_reader.proofs.DraftModelLaws.{unended_is, aimless_is, drafted_faulty, drafted_is, ended_as, finished_there, objective_shaped}
use Rattle.mps_reader.proofs.DraftModelLaws.{rows_below}
use Rattle.mps_reader.proofs.models.model_of.Goals as goal

pub returns-then-not-has_section : goal.returns-then-not-has_section
returns-then-not-has_section c ls s =
    unended_is ls c.args.draft.now c.args.how s
    (ended_as c.as_slice.ensures.value c.has_section.ensures c.if-not-has_section.true)

pub model_within-requires-clause-below : goal.model_within-requires-clause-below
model_within-requires-clause-below c few = rows_below c.requires.stands.0 c.args.draft.now c.requires.stands.1 few

pub model_within-requires-clause-shaped : goal.model_within-requires-clause-shaped
model_within-requires-clause-shaped c =
    objective_shaped c.requires.stands.0 c.args.draft.now c.args.how c.in-Some.objective c.requires.stands.1 c.requires.how.digits
    c.in-Some.is

pub returns-in-Ok : goal.returns-in-Ok
returns-in-Ok c ls s =
    finished_there ls c.args.draft.now c.args.how c.in-Some.objective c.model_within.result s
    (ended_as c.as_slice.ensures.value c.has_section.ensures c.if-not-has_section.false) c.in-Some.is
    (λ name r named at. drafted_is c.args.draft.now c.args.how name r c.model_within.result c.in-Ok.ensures
    (c.model_within.ensures name r named at))

pub returns-in-Err : goal.returns-in-Err
returns-in-Err c ls s =
    finished_there ls c.args.draft.now c.args.how c.in-Some.objective (Err c.in-Err.error) s
    (ended_as c.as_slice.ensures.value c.has_section.ensures c.if-not-has_section.false) c.in-Some.is
    (λ name r named at. drafted_faulty c.args.draft.now c.args.how name r c.in-Err.error c.in-Err.ensures)

pub returns-in-None : goal.returns-in-None
returns-in-None c ls s =
    aimless_is ls c.args.draft.now c.args.how s
    (ended_as c.as_slice.ensures.value c.has_section.ensures c.if-not-has_section.false) c.in-None.is
