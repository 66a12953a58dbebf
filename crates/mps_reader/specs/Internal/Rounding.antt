-- Rounding up and down.
use Rattle.std.specs.Prelude.{Bool, true, false, ℤ, pos}
use Rattle.std.specs.Int.Signed.{lt_z}
use Rattle.mps_defs.specs.TextModels.{rounded_down, rounded_up}
use Rattle.mps_defs.specs.declared.reading.Number.{Number}
use Rattle.mps_reader.specs.declared.rounding.Direction.{Direction}
use Rattle.mps_reader.specs.declared.rounding.Direction.TheVariants.{Up, Down}

abbrev pub rounded_by : Direction → Number → ℤ
rounded_by Up n = rounded_up n
rounded_by Down n = rounded_down n

-- a number goes away from 0, and else towards it
abbrev pub is_away : Direction → ℤ → Bool
is_away Up u = lt_z (pos 0) u
is_away Down u = lt_z u (pos 0)

abbrev pub is_down : Direction → Bool
is_down Up = false
is_down Down = true
