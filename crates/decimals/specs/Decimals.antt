-- How large a number of a text can be, and the parts of a decimal text.
use Rattle.std.specs.Prelude.{ℕ, ◌+◌, ◌^◌, ◌<◌, ◌==◌, if◌then◌else◌, List, [], ◌∷◌, ℤ, pos, negsuc}
use Rattle.std.specs.Int.RustNames.{unsigned_abs}
use Rattle.mps_defs.specs.Numbers.{places}
use Rattle.mps_defs.specs.declared.reading.Number.{Number}
use Rattle.mps_defs.specs.declared.reading.Number.TheVariants.{Dec, Large}

-- a number that is not Large has an absolute value below 10^20
abbrev pub IsBelowLarge : Number → Type 0
IsBelowLarge (Dec units decimals) = unsigned_abs units < 10 ^ (20 + decimals)
IsBelowLarge (Large negative) = Unit {0}

-- the sign that is written
abbrev pub sign_text : ℤ → List ℕ
sign_text (pos n) = []
sign_text (negsuc n) = 45 ∷ []

-- the point and the digits of a remainder in k places
abbrev pub fraction_text : ℕ → ℕ → List ℕ
fraction_text k remainder = if remainder == 0 then [] else 46 ∷ places k remainder
