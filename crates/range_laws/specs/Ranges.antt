-- Allowable ranges: the good changes of a number for a tree and an aim, and the longest run of them around 0.
use Rattle.std.specs.Prelude.{List, Option, Some, None, ℤ, pos, ◌+ℤ◌, ◌-ℤ◌, ◌≤ℤ◌}
use Rattle.ip_defs.specs.Program.{IsFeasible, cost}
use Rattle.ip_defs.specs.declared.programs.Parts.{Parts}
use Rattle.ip_model.specs.declared.places.Place.{Place}
use Rattle.ip_model.specs.Places.{raised}
use Rattle.leaf_cert.specs.Changes.{IsWithinLimit}
use Rattle.proof_tree.specs.Trees.{PlainTree, tree_bound}
use Rattle.proof_tree.specs.Verdicts.{IsAtLeast}

-- what is to hold in each changed program: the bound of the tree is at least a number, or a point stays optimal
pub data PlainAim : Type 0 where
  keep : ℤ → PlainAim
  stay_best : List ℤ → PlainAim

-- the point of an aim is feasible
abbrev pub HasPoint : PlainAim → Parts → Type 0
HasPoint (keep w) m = Unit {0}
HasPoint (stay_best x) m = IsFeasible m x

-- the number that the bound is to reach: the one to keep, or the cost of the point
abbrev pub due : PlainAim → Parts → ℤ
due (keep w) m = w
due (stay_best x) m = cost m x

-- a change by e is good: the changed number is within its limit, and the aim holds in the changed program. The limit on the count of
-- coefficients is not asked for
pub record IsGoodChange (m : Parts) (t : PlainTree) (place : Place) (aim : PlainAim) (e : ℤ) : Type 0 where
  pub within : IsWithinLimit m place e
  pub point : HasPoint aim (raised m place e)
  pub bound : IsAtLeast (tree_bound (raised m place e) t) (due aim (raised m place e))

-- the longest run of good changes around 0
pub record IsRun (m : Parts) (t : PlainTree) (place : Place) (aim : PlainAim) (from to : ℤ) : Type 0 where
  pub from_low : from ≤ℤ pos 0
  pub to_high : pos 0 ≤ℤ to
  pub good : (e : ℤ) → from ≤ℤ e → e ≤ℤ to → IsGoodChange m t place aim e
  pub before : ¬ IsGoodChange m t place aim (from -ℤ pos 1)
  pub after : ¬ IsGoodChange m t place aim (to +ℤ pos 1)

-- the allowable range: none where the program itself does not meet the aim, else that run
abbrev pub IsRange : Parts → PlainTree → Place → PlainAim → Option (ℤ × ℤ) → Type 0
IsRange m t place aim None = ¬ IsGoodChange m t place aim (pos 0)
IsRange m t place aim (Some run) = IsRun m t place aim run.0 run.1
