use Rattle.std.proofs.Common.{◌≡◌, ℕ, suc, ◌^◌, ◌<◌, ◌++◌}
use Rattle.tree_format.specs.Numbers.{number_bytes}
use Rattle.tree_format.specs.Spellings.{number}
use Rattle.tree_format.proofs.numbers.push_number.Given as goal

abbrev pub invariant-loop-left : goal.invariant-loop-left
invariant-loop-left l = (j : ℕ) × (l.left < 128 ^ suc j) × (l.out.items ++ number_bytes (suc j) l.left ≡ l.fn.out.items ++ number l.value)

abbrev pub decreases-loop-left : goal.decreases-loop-left
decreases-loop-left l = l.left
