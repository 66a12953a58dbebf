use Rattle.std.proofs.Common.{◌≡◌, ◌++◌, take}
use Rattle.std.specs.List.{flat_map}
use Rattle.tree_format.specs.Spellings.{multiplier_bytes}
use Rattle.tree_format.proofs.encoding.push_multipliers.Given as goal

abbrev pub invariant-loop-row : goal.invariant-loop-row
invariant-loop-row l = l.out.items ≡ l.fn.out.items ++ flat_map multiplier_bytes (take l.row-index l.y)
