-- Amounts that may not exist, as they are printed.
use Rattle.std.specs.Prelude.{ℕ, List, codes, Option, Some, None, ℤ}
use Rattle.ip_defs.specs.declared.certificates.Bound.{Bound}
use Rattle.ip_defs.specs.declared.certificates.Bound.TheVariants.{At, Infinite}
use Rattle.mps_defs.specs.Numbers.{decimal_text}

-- an amount in units with decimals, or that there is none
abbrev pub amount_text : Option ℤ → ℕ → List ℕ
amount_text (Some v) decimals = decimal_text v decimals
amount_text None decimals = codes "empty"

abbrev pub bound_text : Bound → ℕ → List ℕ
bound_text (At v) decimals = amount_text (Some v) decimals
bound_text Infinite decimals = amount_text None decimals
