use Rattle.std.specs.Prelude.{◌≡◌, ◌≤◌, drop}
use Rattle.sweep_proof.specs.RowRules.{first_gap}
use Rattle.sweep_proof.proofs.steps.first_gap.Given as goal

abbrev pub invariant-loop-k : goal.invariant-loop-k
invariant-loop-k l = record {
  left : first_gap l.steps 0 0 l.pieces ≡ first_gap l.steps l.next l.k (drop l.k l.pieces);
  small : l.next ≤ 1000001;
}
