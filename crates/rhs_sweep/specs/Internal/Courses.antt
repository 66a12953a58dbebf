-- Directions along which a row sweep can be made.
use Rattle.std.specs.Prelude.{◌≡◌, ℕ, ◌^◌, ◌≤◌, List, None, ℤ}
use Rattle.std.specs.Int.RustNames.{unsigned_abs}
use Rattle.branching.specs.declared.budgets.Limits.{Limits}
use Rattle.ip_defs.specs.Lists.{Each}
use Rattle.ip_defs.specs.declared.programs.Parts.{Parts}
use Rattle.ip_model.specs.Sizes.{allowance, first_crossed}
use Rattle.ip_model.specs.declared.places.Place.{Place}
use Rattle.perturbation.specs.Lines.{IsSide}
use Rattle.sweep_proof.specs.Internal.Lines.{AreWithin}
use Rattle.sweep_proof.specs.RowSweeps.{IsWidening}

-- the steps of a direction up to the last one can be solved within the limits
pub record IsCourse (m : Parts) (d : List (Place × ℤ)) (l : Limits) (steps : ℕ) : Type 0 where
  pub sides : Each (λ s. IsSide m s.0) d
  pub small : Each (λ s. unsigned_abs s.1 ≤ 2 ^ 62) d
  pub within : AreWithin m d steps
  pub widening : IsWidening d
  pub last : steps ≤ 10 ^ 6
  pub most : l.nodes ≤ allowance m 1000000
  pub depth : l.depth ≤ 800
  pub uncrossed : first_crossed m ≡ None
