use Rattle.std.specs.Prelude.{◌≡◌, None, length}
use Rattle.ip_defs.specs.Lists.{first}
use Rattle.proof_tree.specs.Scratches.{FitsWalk}
use Rattle.sweep_proof.specs.CostRules.{break_fault}
use Rattle.sweep_proof.proofs.cost_checks.first_break_fault.Given as goal

abbrev pub invariant-loop-k : goal.invariant-loop-k
invariant-loop-k l = record {
  none : first (break_fault l.model l.dir l.sweep) l.k ≡ None;
  scratch : FitsWalk (length l.model.columns) l.scratch;
}
