use Rattle.std.proofs.Common.{subst}
use Rattle.tree_format.specs.Internal.Remaining.{IsStep}
use Rattle.tree_format.specs.declared.progress.Progress.{Progress}
use Rattle.tree_format.proofs.readers.TreeReader.take.Goals as goal

step_is : (c : goal.After-step) → IsStep c.self.inside.progress c.step.new.self c.args.byte c.step.result
step_is c = record {
  left = c.step.ensures.left;
  sound = c.step.ensures.sound;
  fault = c.step.ensures.fault;
  claim = c.step.ensures.claim;
}

pub returns-clause-step : goal.returns-clause-step
returns-clause-step c = subst (λ (s : Progress). IsStep s c.step.new.self c.args.byte c.step.result) c.self.view_is (step_is c)
