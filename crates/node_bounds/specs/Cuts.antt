-- The cost at which a search cuts: that of the best point so far, where it has one.
use Rattle.std.specs.Prelude.{◌≡◌, Option, Some, None, ℤ, ◌<ℤ◌}
use Rattle.ip_defs.specs.declared.certificates.Bound.{Bound}
use Rattle.ip_defs.specs.declared.certificates.Bound.TheVariants.{At, Infinite}
use Rattle.proof_tree.specs.Verdicts.{IsAtLeast}

-- a bound is at least the cost at which a search cuts, and infinite where it cuts nowhere
abbrev pub Closes : Option ℤ → Bound → Type 0
Closes None v = v ≡ Infinite
Closes (Some w) v = IsAtLeast v w

-- a bound is below that cost
abbrev pub IsBelow : Bound → Option ℤ → Type 0
IsBelow Infinite cut = ⊥
IsBelow (At v) None = Unit {0}
IsBelow (At v) (Some w) = v <ℤ w
