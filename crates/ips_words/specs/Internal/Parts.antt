-- The numbers that plain options have.
use Rattle.std.specs.Prelude.{◌≡◌, ℕ, true, Option, codes}
use Rattle.std.specs.Option.{ForSome}
use Rattle.ips_words.specs.Commands.{Word, is_number_from}

-- the value of an option, where it is given, is a number from low to high
abbrev pub HasNumber : Word → ℕ → ℕ → (Word → Option Word) → Type 0
HasNumber o low high value = ForSome (value o) (λ v. is_number_from low high v ≡ true)

-- the options of a search have numbers, and so have those of reading
pub record HasLimits (value : Word → Option Word) : Type 0 where
  pub nodes : HasNumber (codes "--nodes") 1 1000000 value
  pub depth : HasNumber (codes "--depth") 0 800 value
  pub pivots : HasNumber (codes "--pivots") 0 100000 value

pub record HasReading (value : Word → Option Word) : Type 0 where
  pub digits : HasNumber (codes "--digits") 0 9 value
  pub box_side : HasNumber (codes "--box") 0 16777216 value
