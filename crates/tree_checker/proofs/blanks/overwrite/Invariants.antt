use Rattle.std.proofs.Common.{◌≡◌, length, take}
use Rattle.tree_checker.proofs.blanks.overwrite.Given as goal

abbrev pub invariant-loop-i : goal.invariant-loop-i
invariant-loop-i l = record {
  size : length l.list ≡ length l.by;
  taken : take l.i l.list ≡ take l.i l.by;
}
