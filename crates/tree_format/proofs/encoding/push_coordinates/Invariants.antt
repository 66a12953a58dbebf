use Rattle.std.proofs.Common.{◌≡◌, ◌++◌, take}
use Rattle.std.specs.List.{flat_map}
use Rattle.tree_format.specs.Spellings.{signed_number}
use Rattle.tree_format.proofs.encoding.push_coordinates.Given as goal

abbrev pub invariant-loop-coordinate : goal.invariant-loop-coordinate
invariant-loop-coordinate l = l.out.items ≡ l.fn.out.items ++ flat_map signed_number (take l.coordinate-index l.point)
