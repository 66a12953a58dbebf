use Rattle.std.proofs.lemmas.Result.{IfErr-weaker}
use Rattle.rhs_sweep.proofs.CountLaws.{stops_for_memory}
use Rattle.rhs_sweep.proofs.ResultLaws.{ok_of_both}
use Rattle.sweep_proof.proofs.LineLaws.{line_within}
use Rattle.sweep_proof.proofs.RuleLaws.{row_rules_are_true}
use Rattle.rhs_sweep.proofs.sweeps.sweep_rows.Goals as goal

pub swept-requires : goal.swept-requires
swept-requires g c = record {
  course = record {
    sides = c.requires.sides;
    small = c.requires.small;
    within = line_within c.args.model.now c.args.dir.now c.args.steps_to c.parts-parts.ensures.limits c.requires.sides c.requires.within;
    widening = c.requires.widening;
    last = c.requires.last;
    most = c.requires.most;
    depth = c.requires.depth;
    uncrossed = c.requires.uncrossed;
  };
}

pub returns-clause-exact : goal.returns-clause-exact
returns-clause-exact g c =
    ok_of_both c.swept.result _ _ _
    (λ s proved fits. row_rules_are_true c.args.model.now c.args.dir.now c.args.steps_to s.pieces c.requires.widening fits proved)
    c.swept.ensures.proved c.swept.ensures.fits

pub returns-clause-ends : goal.returns-clause-ends
returns-clause-ends g c = λ ample.
    IfErr-weaker c.swept.result _ _
    (λ stop is. stops_for_memory c.args.model.now c.args.dir.now c.args.steps_to c.args.limits stop c.requires.widening ample is)
    c.swept.ensures.stop
