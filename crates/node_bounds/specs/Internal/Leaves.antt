-- Boxes of one point that breaks a row.
use Rattle.std.specs.Prelude.{◌≡◌, ℕ, List, [], ◌∷◌, slice_get, Some, ℤ, pos}
use Rattle.ip_defs.specs.declared.certificates.Cert.{Cert}
use Rattle.ip_defs.specs.declared.programs.Breach.TheVariants as Broken
use Rattle.ip_defs.specs.declared.programs.Parts.{Parts}
use Rattle.ip_defs.specs.Breaches.{row_breach}

-- the first row that a point breaks
abbrev pub BreaksRow : Parts → List ℤ → ℕ → Type 0
BreaksRow m x i = row_breach x i (slice_get m.rows i) ≡ Some (Broken.Row i)

-- the ray of one row
abbrev pub ray_on : ℕ → ℤ → Cert
ray_on row multiplier = record { q = pos 0; y = (row, multiplier) ∷ [] }
