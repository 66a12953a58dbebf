-- The laws of allowable ranges and of wider programs.
use Rattle.std.specs.Prelude.{◌≡◌, List, Option, Some, ℤ, pos, ◌+ℤ◌, ◌-ℤ◌, ◌≤ℤ◌, length}
use Rattle.ip_defs.specs.Program.{IsFeasible, IsLeast, cost}
use Rattle.ip_defs.specs.declared.programs.Parts.{Parts}
use Rattle.ip_model.specs.declared.places.Place.{Place}
use Rattle.ip_model.specs.Places.{raised}
use Rattle.proof_tree.specs.Trees.{PlainTree, FitsColumns, tree_bound}
use Rattle.proof_tree.specs.Verdicts.{IsAtLeast}
use Rattle.range_laws.specs.Ranges.{PlainAim, keep, stay_best, IsGoodChange, IsRange}
use Rattle.range_laws.specs.Widening.{IsWider}

-- between two good changes each one is good
abbrev pub GoodChangesAreRuns : Type 0
GoodChangesAreRuns = (m : Parts) (t : PlainTree) (place : Place) (aim : PlainAim) (a b c : ℤ) → a ≤ℤ b → b ≤ℤ c
    → IsGoodChange m t place aim a → IsGoodChange m t place aim c → IsGoodChange m t place aim b

-- seen from a good change, none is good beyond one that is not
abbrev pub NoneIsGoodBeyond : Type 0
NoneIsGoodBeyond = (m : Parts) (t : PlainTree) (place : Place) (aim : PlainAim) (a b c : ℤ)
    → IsGoodChange m t place aim a → ¬ IsGoodChange m t place aim b
    → (a ≤ℤ b → b ≤ℤ c → ¬ IsGoodChange m t place aim c) × (c ≤ℤ b → b ≤ℤ a → ¬ IsGoodChange m t place aim c)

-- two good changes around 0 whose outer neighbours are not good are the range
abbrev pub EndsAreRanges : Type 0
EndsAreRanges = (m : Parts) (t : PlainTree) (place : Place) (aim : PlainAim) (from to : ℤ) → from ≤ℤ pos 0 → pos 0 ≤ℤ to
    → IsGoodChange m t place aim from → IsGoodChange m t place aim to
    → ¬ IsGoodChange m t place aim (from -ℤ pos 1) → ¬ IsGoodChange m t place aim (to +ℤ pos 1)
    → IsRange m t place aim (Some (from, to))

-- there is one range
abbrev pub RangesAreUnique : Type 0
RangesAreUnique = (m : Parts) (t : PlainTree) (place : Place) (aim : PlainAim) (u v : Option (ℤ × ℤ))
    → IsRange m t place aim u → IsRange m t place aim v → u ≡ v

-- what an aim says of the feasible points of a program
abbrev pub Holds : PlainAim → Parts → Type 0
Holds (keep w) m = (y : List ℤ) → IsFeasible m y → w ≤ℤ cost m y
Holds (stay_best x) m = IsLeast m x

-- after a good change the point is optimal, or no feasible point costs less than the number that is kept
abbrev pub GoodChangesHold : Type 0
GoodChangesHold = (m : Parts) (t : PlainTree) (place : Place) (aim : PlainAim) (e : ℤ) → FitsColumns (length m.columns) t
    → IsGoodChange m t place aim e → Holds aim (raised m place e)

-- what the bound of a tree reaches in a wider program it reaches in the narrower one
abbrev pub WideningLowersBounds : Type 0
WideningLowersBounds = (m n : Parts) (t : PlainTree) (w : ℤ) → IsWider m n → IsAtLeast (tree_bound n t) w → IsAtLeast (tree_bound m t) w

-- a feasible point of a program is one of each wider program
abbrev pub WideningKeepsPoints : Type 0
WideningKeepsPoints = (m n : Parts) (x : List ℤ) → IsWider m n → IsFeasible m x → IsFeasible n x
