use Rattle.std.specs.Prelude.{◌≡◌, None, drop, length}
use Rattle.proof_tree.specs.Scratches.{FitsWalk}
use Rattle.sweep_proof.specs.RowRules.{first_fault}
use Rattle.sweep_proof.proofs.checks.first_fault.Given as goal

abbrev pub invariant-loop-k : goal.invariant-loop-k
invariant-loop-k l = record {
  left : first_fault l.model l.dir 0 None l.pieces ≡ first_fault l.model l.dir l.k l.before (drop l.k l.pieces);
  scratch : FitsWalk (length l.model.columns) l.scratch;
}
