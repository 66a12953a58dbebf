-- Aims as plain data.
use Rattle.std.specs.Prelude.{◌≡◌, ℕ, length}
use Rattle.range_laws.specs.Ranges.{PlainAim, keep, stay_best}
use Rattle.range_finder.specs.declared.aims.Aim.{Aim}
use Rattle.range_finder.specs.declared.aims.Aim.TheVariants.{StayBest, Keep}

-- an aim without references
abbrev pub plain_aim : Aim → PlainAim
plain_aim (StayBest point) = stay_best point.now
plain_aim (Keep w) = keep w

-- the point of an aim has n coordinates
abbrev pub HasCoordinates : ℕ → PlainAim → Type 0
HasCoordinates n (keep w) = Unit {0}
HasCoordinates n (stay_best x) = length x ≡ n
