-- Scratches for the walk through a tree.
use Rattle.std.specs.Prelude.{◌≡◌, ℕ, length}
use Rattle.leaf_cert.specs.declared.workspaces.Scratch.{Scratch}
use Rattle.leaf_cert.specs.Scratches.{column_count_of}

-- a scratch fits the walk through a tree of a program with n columns: it has a pair of bounds and a number for each
pub record FitsWalk (n : ℕ) (s : Scratch) : Type 0 where
  pub area : length s.area ≡ n
  pub taken : column_count_of s ≡ n
