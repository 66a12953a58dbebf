-- What lies between two solves.
use Rattle.std.specs.Prelude.{◌≡◌, ◌≢◌, ℕ, ◌+◌, ◌/◌}
use Rattle.ip_defs.specs.declared.programs.Parts.{Parts}
use Rattle.rhs_sweep.specs.declared.gaps.Gap.{Gap}
use Rattle.rhs_sweep.specs.declared.gaps.Gap.TheVariants.{Same, Next, Wide}
use Rattle.sweep_pieces.specs.Runs.{step_of}
use Rattle.sweep_proof.specs.RowRules.{claimed_cost}
use Rattle.sweep_solves.specs.declared.made_solves.Made.{Made}

-- two values differ, and no step lies between
pub record IsNextTo (m : Parts) (s r : Made) : Type 0 where
  pub differ : claimed_cost m s.proof.claim ≢ claimed_cost m r.proof.claim
  pub next : step_of r ≡ step_of s + 1

-- two values differ, and t is half-way
pub record IsWideGap (m : Parts) (s r : Made) (t : ℕ) : Type 0 where
  pub differ : claimed_cost m s.proof.claim ≢ claimed_cost m r.proof.claim
  pub apart : step_of r ≢ step_of s + 1
  pub middle : t ≡ (step_of s + step_of r) / 2

abbrev pub IsGap : Parts → Made → Made → Gap → Type 0
IsGap m s r Same = claimed_cost m s.proof.claim ≡ claimed_cost m r.proof.claim
IsGap m s r Next = IsNextTo m s r
IsGap m s r (Wide t) = IsWideGap m s r t
