-- Ranges at work: the least 2x - y over x and y from 0 to 4, with a tree of one leaf. The cost of x may fall by 2, or rise to its limit;
-- the cost of y may rise to its limit, but not fall, where the bound is to stay at -6, and has no range where it is to be -3.
use Rattle.std.specs.Prelude.{◌≡◌, ℕ, zero, suc, ◌<◌, List, [], ◌∷◌, Some, None, codes, ℤ, pos, negsuc, ◌≤ℤ◌}
use Rattle.std.proofs.Common.{arith, refl}
use Rattle.std.proofs.lemmas.Int.{ints}
use Rattle.ip_defs.specs.Program.{at, low_at, high_at, IsFeasible}
use Rattle.ip_defs.specs.declared.programs.Column.{Column}
use Rattle.ip_defs.specs.declared.programs.Parts.{Parts}
use Rattle.proof_tree.specs.LabelledTrees.{leaf}
use Rattle.proof_tree.specs.Trees.{PlainTree}
use Rattle.ip_model.specs.declared.places.Place.TheVariants.{Cost}
use Rattle.ip_model.specs.Places.{raised}
use Rattle.leaf_cert.proofs.RaisedNumbers.{raised_coefs}
use Rattle.range_laws.specs.Ranges.{keep, stay_best, IsGoodChange, IsRange}
use Rattle.range_laws.proofs.RangeLaws.{ends_are_ranges}

abbrev column : List ℕ → ℤ → Column
column name' cost' = record { name = name'; cost = cost'; lo = pos 0; hi = pos 4 }

abbrev program : Parts
program = record {
  objective = codes "cost";
  cost_decimals = 0;
  constant = pos 0;
  columns = column (codes "x") (pos 2) ∷ column
      (codes "y") (negsuc 0) ∷ [];
  rows = [];
}

abbrev tree : PlainTree
tree = leaf (record { q = pos 1; y = [] })

abbrev point : List ℤ
point = pos 0 ∷ pos 4 ∷ []

low : (j : ℕ) → j < 2 → low_at ((pos 0, pos 4) ∷ (pos 0, pos 4) ∷ []) j ≤ℤ at point j
low zero l = omega (arith, ints)
low (suc zero) l = omega (arith, ints)
low (suc (suc j)) l = absurd (omega arith)

high : (j : ℕ) → j < 2 → at point j ≤ℤ high_at ((pos 0, pos 4) ∷ (pos 0, pos 4) ∷ []) j
high zero l = omega (arith, ints)
high (suc zero) l = omega (arith, ints)
high (suc (suc j)) l = absurd (omega arith)

feasible : (e : ℤ) → IsFeasible (raised program (Cost 0) e) point
feasible e = record { within = record { size = refl; low = low; high = high }; rows = λ k d l. absurd (omega arith) }

good_low : IsGoodChange program tree (Cost 0) (stay_best point) (negsuc 1)
good_low = record { within = omega (arith, ints); point = feasible (negsuc 1); bound = omega (arith, ints) }

good_high : IsGoodChange program tree (Cost 0) (stay_best point) (pos 1099511627774)
good_high = record { within = omega (arith, ints); point = feasible (pos 1099511627774); bound = omega (arith, ints) }

bad_low : ¬ IsGoodChange program tree (Cost 0) (stay_best point) (negsuc 2)
bad_low good =
    let bound = good.bound in
    absurd (omega (arith, ints))

bad_high : ¬ IsGoodChange program tree (Cost 0) (stay_best point) (pos 1099511627775)
bad_high good =
    let within = good.within in
    absurd (omega (arith, ints))

-- 2 - 2 is 0, at which the point still costs least; 2 + 1099511627774 is 2^40, the limit of costs
pub cost_range : IsRange program tree (Cost 0) (stay_best point) (Some (negsuc 1, pos 1099511627774))
cost_range = ends_are_ranges program tree (Cost 0) (stay_best point) (negsuc 1) (pos 1099511627774) (omega (arith, ints))
    (omega (arith, ints)) good_low good_high bad_low bad_high

keeps_here : IsGoodChange program tree (Cost 1) (keep (negsuc 5)) (pos 0)
keeps_here = record { within = omega (arith, ints); point = tt; bound = omega (arith, ints) }

keeps_high : IsGoodChange program tree (Cost 1) (keep (negsuc 5)) (pos 1099511627777)
keeps_high = record { within = omega (arith, ints); point = tt; bound = omega (arith, ints) }

falls_below : ¬ IsGoodChange program tree (Cost 1) (keep (negsuc 5)) (negsuc 0)
falls_below good =
    let bound = good.bound in
    absurd (omega (arith, ints))

beyond_limit : ¬ IsGoodChange program tree (Cost 1) (keep (negsuc 5)) (pos 1099511627778)
beyond_limit good =
    let within = good.within in
    absurd (omega (arith, ints))

-- -1 + 1099511627777 is 2^40
pub kept_range : IsRange program tree (Cost 1) (keep (negsuc 5)) (Some (pos 0, pos 1099511627777))
kept_range = ends_are_ranges program tree (Cost 1) (keep (negsuc 5)) (pos 0) (pos 1099511627777) (omega (arith, ints)) (omega (arith, ints))
    keeps_here keeps_high falls_below beyond_limit

-- the bound is -4
pub no_range : IsRange program tree (Cost 1) (keep (negsuc 2)) None
no_range good =
    let bound = good.bound in
    absurd (omega (arith, ints))

-- a coefficient is raised in its place, is listed in order where it was not, and leaves the list at 0
pub raised_in_place : raised_coefs 2 (pos 5) ((0, pos 1) ∷ (2, pos 3) ∷ []) ≡ (0, pos 1) ∷ (2, pos 8) ∷ []
raised_in_place = refl

pub raised_between : raised_coefs 1 (pos 5) ((0, pos 1) ∷ (2, pos 3) ∷ []) ≡ (0, pos 1) ∷ (1, pos 5) ∷ (2, pos 3) ∷ []
raised_between = refl

pub raised_to_zero : raised_coefs 2 (negsuc 2) ((0, pos 1) ∷ (2, pos 3) ∷ []) ≡ (0, pos 1) ∷ []
raised_to_zero = refl

pub not_raised : raised_coefs 1 (pos 0) ((0, pos 1) ∷ (2, pos 3) ∷ []) ≡ (0, pos 1) ∷ (2, pos 3) ∷ []
not_raised = refl
