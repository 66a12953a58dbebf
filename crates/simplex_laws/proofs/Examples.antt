-- The definitions at work: a program with an optimum at a fraction, one without a point, and one with a flip.
use Rattle.std.specs.Prelude.{◌≡◌, ℕ, ◌^◌, [], ◌∷◌, List, false, Some, None, Ok, ℤ, pos, negsuc, refl}
use Rattle.std.proofs.Common.{arith}
use Rattle.frac128.specs.Gcd.{gcd}
use Rattle.frac128.specs.Fractions.{lowest_of, sum_of, product_of, whole}
use Rattle.frac128.specs.Rationals.{S, over, both, of, add, sub, mul, neg, inverse, rational}
use Rattle.ip_defs.specs.declared.programs.Parts.{Parts}
use Rattle.lp_duality.specs.Duals.{dual}
use Rattle.lp_duality.specs.Relaxations.{total_cost}
use Rattle.tableau.specs.declared.positions.Rest.{Rest}
use Rattle.tableau.specs.declared.positions.Rest.TheVariants.{Basic, Low, High}
use Rattle.tableau.specs.Tables.{Table}
use Rattle.tableau.specs.Nodes.{start_of}
use Rattle.tableau.specs.Pivots.{after_flip}
use Rattle.tableau.proofs.Examples.{program, column, row, variable, fraction}
use Rattle.simplex_laws.specs.declared.next.Next.TheVariants.{Pivot, Flip, FinalRow, FinalPoint}
use Rattle.simplex_laws.specs.Steps.{next}
use Rattle.simplex_laws.specs.Runs.{after, IsNotFinal}
use Rattle.simplex_laws.specs.Wides.{HasWideNumber, wide_value}
use Rattle.simplex_laws.specs.Finals.{point_of, slack_prices, slack_ray}

-- ---- least -x with 2x <= 3 and x from 0 to 2
abbrev pub half : Parts
half = program (pos 0) (column (negsuc 0) (pos 0) (pos 2) ∷ []) (row ((0, pos 2) ∷ []) None (Some (pos 3)) ∷ [])

abbrev half_box : List (ℤ × ℤ)
half_box = (pos 0, pos 2) ∷ []

abbrev half_last : Table
half_last = record {
  rows = (whole (pos 1) ∷ fraction (negsuc 0) (pos 2) ∷ []) ∷ [];
  basics = 0 ∷ [];
  positions = Basic ∷ High ∷ [];
  variables = variable (Some (pos 0)) (Some (pos 2)) (negsuc 0) ∷ variable None (Some (pos 3)) (pos 0) ∷ [];
}

pub half_pivots : next (start_of half half_box) ≡ Pivot 0 0 High
unfolding next over of add sub mul neg S both inverse rational gcd
half_pivots = refl

pub half_after : after half half_box 1 ≡ Ok half_last
unfolding after next over of add sub mul neg S both inverse rational gcd lowest_of sum_of product_of
half_after = refl

pub half_is_final : next half_last ≡ FinalPoint
unfolding next over of add sub mul neg S both inverse rational gcd
half_is_final = refl

pub half_point : point_of half_last 0 ≡ rational (pos 3) (pos 2)
unfolding over of add sub mul neg S both inverse rational gcd
half_point = refl

pub half_price : slack_prices half half_last 0 ≡ rational (negsuc 0) (pos 2)
unfolding over of add sub mul neg S both inverse rational gcd
half_price = refl

pub half_dual : dual half half_box (of (pos 1)) (slack_prices half half_last) ≡ Some (rational (negsuc 2) (pos 2))
unfolding over of add sub mul neg S both inverse rational gcd
half_dual = refl

pub half_cost : total_cost half (point_of half_last) ≡ rational (negsuc 2) (pos 2)
unfolding over of add sub mul neg S both inverse rational gcd
half_cost = refl

pub half_unfinished : IsNotFinal half half_box 0
unfolding after next over of add sub mul neg S both inverse rational gcd
half_unfinished = record { tableau = start_of half half_box; after = refl; unfinished = refl }

pub half_stays : after half half_box 4 ≡ Ok half_last
unfolding after next over of add sub mul neg S both inverse rational gcd lowest_of sum_of product_of
half_stays = refl

-- ---- x + y >= 3 with x and y from 0 to 1: x enters in the row and is then too great, then y enters, and nothing can enter for y
abbrev pub far : Parts
far = program (pos 7) (column (pos 0) (pos 0) (pos 1) ∷ column (pos 0) (pos 0) (pos 1) ∷ [])
    (row ((0, pos 1) ∷ (1, pos 1) ∷ []) (Some (pos 3)) None ∷ [])

abbrev far_box : List (ℤ × ℤ)
far_box = (pos 0, pos 1) ∷ (pos 0, pos 1) ∷ []

-- the positions of x, y and the slack, and which of them is basic
abbrev far_at : Rest → Rest → Rest → ℕ → Table
far_at x y slack basic = record {
  rows = (whole (pos 1) ∷ whole (pos 1) ∷ whole (negsuc 0) ∷ []) ∷ [];
  basics = basic ∷ [];
  positions = x ∷ y ∷ slack ∷ [];
  variables = variable (Some (pos 0)) (Some (pos 1)) (pos 0) ∷ variable (Some (pos 0)) (Some (pos 1)) (pos 0)
      ∷ variable (Some (pos 3)) None (pos 0) ∷ [];
}

pub far_first : next (start_of far far_box) ≡ Pivot 0 0 Low
unfolding next over of add sub mul neg S both inverse rational gcd
far_first = refl

pub far_second : next (far_at Basic Low Low 0) ≡ Pivot 0 1 High
unfolding next over of add sub mul neg S both inverse rational gcd
far_second = refl

pub far_last : next (far_at High Basic Low 1) ≡ FinalRow 0 false
unfolding next over of add sub mul neg S both inverse rational gcd
far_last = refl

pub far_after : after far far_box 2 ≡ Ok (far_at High Basic Low 1)
unfolding after next over of add sub mul neg S both inverse rational gcd lowest_of sum_of product_of
far_after = refl

-- the row says that x + y is at most 2, which is less than 3 by 1
pub far_gains : dual far far_box (of (pos 0)) (slack_ray far (far_at High Basic Low 1) 0 false) ≡ Some (of (pos 1))
unfolding over of add sub mul neg S both inverse rational gcd
far_gains = refl

-- ---- least -x with x from 0 to 1 and x <= n: x moves to its other side, also where the row blocks it there as well
abbrev pub one_step : ℤ → Parts
one_step n = program (pos 0) (column (negsuc 0) (pos 0) (pos 1) ∷ []) (row ((0, pos 1) ∷ []) None (Some n) ∷ [])

pub flips : next (start_of (one_step (pos 5)) ((pos 0, pos 1) ∷ [])) ≡ Flip 0
unfolding next over of add sub mul neg S both inverse rational gcd
flips = refl

pub flips_at_a_tie : next (start_of (one_step (pos 1)) ((pos 0, pos 1) ∷ [])) ≡ Flip 0
unfolding next over of add sub mul neg S both inverse rational gcd
flips_at_a_tie = refl

pub pivots_at_zero : next (start_of (one_step (pos 0)) ((pos 0, pos 1) ∷ [])) ≡ Pivot 0 0 High
unfolding next over of add sub mul neg S both inverse rational gcd
pivots_at_zero = refl

pub flip_is_final : next (after_flip (start_of (one_step (pos 5)) ((pos 0, pos 1) ∷ [])) 0) ≡ FinalPoint
unfolding next over of add sub mul neg S both inverse rational gcd
flip_is_final = refl

-- a column with one number in its box cannot move
pub fixed_is_final : next (start_of (one_step (pos 5)) ((pos 1, pos 1) ∷ [])) ≡ FinalPoint
unfolding next over of add sub mul neg S both inverse rational gcd
fixed_is_final = refl

-- ---- the first variable with a fitting price enters, and not the one with the least price
abbrev pub two_costs : Parts
two_costs = program (pos 0) (column (negsuc 0) (pos 0) (pos 9) ∷ column (negsuc 4) (pos 0) (pos 9) ∷ [])
    (row ((0, pos 1) ∷ (1, pos 1) ∷ []) None (Some (pos 4)) ∷ [])

pub first_enters : next (start_of two_costs ((pos 0, pos 9) ∷ (pos 0, pos 9) ∷ [])) ≡ Pivot 0 0 High
unfolding next over of add sub mul neg S both inverse rational gcd
first_enters = refl

-- ---- a value of 2^200 is wide
abbrev great : Table
great = record {
  rows = (whole (pos (2 ^ 100)) ∷ whole (pos 1) ∷ []) ∷ [];
  basics = 1 ∷ [];
  positions = Low ∷ Basic ∷ [];
  variables = variable (Some (pos (2 ^ 100))) None (pos 0) ∷ variable None None (pos 0) ∷ [];
}

pub great_is_wide : HasWideNumber great
unfolding lowest_of sum_of product_of gcd
great_is_wide = wide_value 0 (omega arith) refl
