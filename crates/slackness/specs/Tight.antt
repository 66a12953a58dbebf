-- Complementary slackness in whole numbers, for a point whose numbers stand over one positive denominator d: a column or a row lies
-- within its sides, and stands at one of them where the certificate pays it.
use Rattle.std.specs.Prelude.{◌≡◌, ℕ, ◌<◌, List, length, Option, Some, IfSome, slice_get, option_map, option_and_then, ℤ, pos, ◌*ℤ◌, ◌≤ℤ◌}
use Rattle.std.specs.Prelude.{◌<ℤ◌}
use Rattle.ip_defs.specs.Program.{at, low_at, high_at, row_sum}
use Rattle.ip_defs.specs.Certificates.{side_for, coefs_of, reduced}
use Rattle.ip_defs.specs.Limits.{index_at, value_at}
use Rattle.ip_defs.specs.declared.certificates.Cert.{Cert}
use Rattle.ip_defs.specs.declared.programs.Parts.{Parts}
use Rattle.ip_defs.specs.declared.programs.Row.{Row}

-- a number between two others
pub record IsBetween (least number greatest : ℤ) : Type 0 where
  pub at_least : least ≤ℤ number
  pub at_most : number ≤ℤ greatest

-- with a positive reduced cost a number is the least one, with a negative one the greatest
pub record IsPaid (least number greatest reduced_cost : ℤ) : Type 0 where
  pub rises : pos 0 <ℤ reduced_cost → number ≡ least
  pub falls : reduced_cost <ℤ pos 0 → number ≡ greatest

-- the number n / d of a column lies between its sides, and is the side that its reduced cost pays
pub record IsTightColumn (d low high n reduced_cost : ℤ) : Type 0 where
  pub between : IsBetween (d *ℤ low) n (d *ℤ high)
  pub paid : IsPaid (d *ℤ low) n (d *ℤ high) reduced_cost

-- the value s / d of a row lies between its sides, where it has them
pub record IsWithinSides (d : ℤ) (low high : Option ℤ) (s : ℤ) : Type 0 where
  pub at_least : IfSome low (λ side. (d *ℤ side) ≤ℤ s)
  pub at_most : IfSome high (λ side. s ≤ℤ (d *ℤ side))

-- a row has the side that a multiplier pays, and the value s / d is that side
abbrev pub StandsAt : ℤ → ℤ → Option Row → ℤ → Type 0
StandsAt d y row s = option_map (λ side. d *ℤ side) (option_and_then (side_for y) row) ≡ Some s

-- the value, d times, of a row by its number at a point n / d
abbrev pub activity : List Row → List ℤ → ℕ → ℤ
activity rows n k = row_sum (coefs_of (slice_get rows k)) n

-- each column lies within its sides, and is the one that its reduced cost pays
abbrev pub AreTightColumns : Parts → List (ℤ × ℤ) → ℤ → List ℤ → Cert → Type 0
AreTightColumns m b d n c =
    (j : ℕ) → j < length m.columns → IsTightColumn d (low_at b j) (high_at b j) (at n j) (reduced m c.q c.y j)

-- the value of each row lies within its sides
abbrev pub AreWithinSides : Parts → ℤ → List ℤ → Type 0
AreWithinSides m d n = (k : ℕ) (r : Row) → slice_get m.rows k ≡ Some r → IsWithinSides d r.low r.high (row_sum r.coefs n)

-- each row with a multiplier is at the side that it pays
abbrev pub ArePaidRows : Parts → ℤ → List ℤ → List (ℕ × ℤ) → Type 0
ArePaidRows m d n y =
    (i : ℕ) → i < length y → StandsAt d (value_at y i) (slice_get m.rows (index_at y i)) (activity m.rows n (index_at y i))

-- a point n / d of the relaxation, and a certificate of which each multiplier and each reduced cost pays a side where the point is
pub record IsTight (m : Parts) (b : List (ℤ × ℤ)) (d : ℤ) (n : List ℤ) (c : Cert) : Type 0 where
  pub size : length n ≡ length m.columns
  pub positive : pos 0 <ℤ d
  pub divisor : pos 0 <ℤ c.q
  pub columns : AreTightColumns m b d n c
  pub rows : AreWithinSides m d n
  pub paid : ArePaidRows m d n c.y
