use Rattle.std.proofs.Common.{◌≡◌, length}
use Rattle.tree_checker.specs.Internal.Leaves.{AreBlank}
use Rattle.tree_checker.proofs.blanks.Blanks.new.Given as goal

abbrev pub invariant-loop-n : goal.invariant-loop-n
invariant-loop-n l = record {
  size : length l.certs.items ≡ l.n;
  blank : AreBlank l.certs.items;
}
