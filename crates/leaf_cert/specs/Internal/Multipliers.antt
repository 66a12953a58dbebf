-- One multiplier of a list in order.
use Rattle.std.specs.Prelude.{◌≢◌, ℕ, ◌^◌, ◌<◌, ◌≤◌, ℤ, pos}
use Rattle.std.specs.Int.RustNames.{unsigned_abs}

-- a multiplier may come next: its row is free and is one of the rows, and the multiplier is not 0 and within the limit
pub record IsNext (least row : ℕ) (multiplier : ℤ) (rows : ℕ) : Type 0 where
  pub free : least ≤ row
  pub within : row < rows
  pub present : multiplier ≢ pos 0
  pub small : unsigned_abs multiplier ≤ 2 ^ 36
