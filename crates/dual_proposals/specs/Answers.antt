-- What is known of a proposal before it is checked: the length of its point.
use Rattle.std.specs.Prelude.{◌≡◌, ℕ, length}
use Rattle.dual_proposals.specs.declared.proposers.Proposed.{Proposed}
use Rattle.dual_proposals.specs.declared.proposers.Proposed.TheVariants.{Best, Cut, Empty, GaveUp}

-- a proposed point has a number for each column
abbrev pub HasPointFor : ℕ → Proposed → Type 0
HasPointFor columns (Best p) = length p.numerators ≡ columns
HasPointFor columns (Cut c) = Unit {0}
HasPointFor columns (Empty c) = Unit {0}
HasPointFor columns GaveUp = Unit {0}
