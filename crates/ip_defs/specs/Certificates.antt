-- Certificates: the dual value of multipliers over a box, the bound of a leaf, and weak duality.
use Rattle.std.specs.Prelude.{◌≡◌, ℕ, zero, suc, ◌+◌, ◌-◌, ◌/◌, Bool, if◌then◌else◌, List, [], ◌∷◌, length, Option, Some, None}
use Rattle.std.specs.Prelude.{slice_get, option_map, option_and_then, ℤ, pos, negsuc, neg_ℤ, ◌+ℤ◌, ◌-ℤ◌, ◌*ℤ◌, ◌≤ℤ◌}
use Rattle.std.specs.Int.{int_min}
use Rattle.std.specs.Int.Signed.{lt_z}
use Rattle.std.specs.List.{list_any}
use Rattle.ip_defs.specs.Sums.{sum_below, sum_over}
use Rattle.ip_defs.specs.Program.{at, coefficient, costs_of, low_at, high_at, IsIn, IsFeasible, cost}
use Rattle.ip_defs.specs.declared.programs.Row.{Row}
use Rattle.ip_defs.specs.declared.programs.Parts.{Parts}
use Rattle.ip_defs.specs.declared.certificates.Bound.{Bound}
use Rattle.ip_defs.specs.declared.certificates.Bound.TheVariants.{At, Infinite}
use Rattle.ip_defs.specs.declared.certificates.Cert.{Cert}

-- the side of a row that a multiplier is paid for: the low side for a positive multiplier, the high side for a negative one
abbrev pub side_for : ℤ → Row → Option ℤ
side_for (pos zero) r = Some (pos 0)
side_for (pos (suc n)) r = r.low
side_for (negsuc n) r = r.high

-- the payment of a multiplier: multiplier times side, none where the row or the side does not exist; no multiplier of a certificate
-- is 0
abbrev pub payment : List Row → ℕ × ℤ → Option ℤ
payment rows p = option_map (λ side. p.1 *ℤ side) (option_and_then (side_for p.1) (slice_get rows p.0))

-- the sum of all payments, none where one of them is none
abbrev pub pay : List Row → List (ℕ × ℤ) → Option ℤ
pay rows [] = Some (pos 0)
pay rows (p ∷ ps) = option_and_then (λ one. option_map (λ rest. one +ℤ rest) (pay rows ps)) (payment rows p)

-- the coefficients of a row, the empty list where there is no such row
abbrev pub coefs_of : Option Row → List (ℕ × ℤ)
coefs_of None = []
coefs_of (Some r) = r.coefs

-- the coefficient in row i of column j, 0 where there is no such row
abbrev pub coefficient_of : List Row → ℕ → ℕ → ℤ
coefficient_of rows i j = coefficient (coefs_of (slice_get rows i)) j

-- the reduced cost of a column, times q: q times its cost, less the sum over the rows of multiplier times coefficient
abbrev pub reduced : Parts → ℤ → List (ℕ × ℤ) → ℕ → ℤ
reduced m q y j = q *ℤ at (costs_of m) j -ℤ sum_over (λ p. p.1 *ℤ coefficient_of m.rows p.0 j) y

-- the least value of the reduced costs over a box: for each column the lesser of reduced cost times lower bound and times upper
-- bound
abbrev pub column_part : Parts → List (ℤ × ℤ) → ℤ → List (ℕ × ℤ) → ℤ
column_part m b q y = sum_below (λ j. int_min (reduced m q y j *ℤ low_at b j) (reduced m q y j *ℤ high_at b j)) (length b)

-- the dual value of a divisor and multipliers over a box, none where a payment is none
abbrev pub dual_value : Parts → List (ℤ × ℤ) → ℤ → List (ℕ × ℤ) → Option ℤ
dual_value m b q y = option_map (λ paid. paid +ℤ (q *ℤ m.constant) +ℤ column_part m b q y) (pay m.rows y)

-- the sum of a box, the least cost over it: the dual value of q = 1 with no multipliers
abbrev pub box_sum : Parts → List (ℤ × ℤ) → ℤ
box_sum m b = m.constant +ℤ column_part m b (pos 1) []

-- z / n, rounded up, for a positive n
abbrev pub ceiling : ℤ → ℕ → ℤ
ceiling (pos a) n = pos ((a + n - 1) / n)
ceiling (negsuc a) n = neg_ℤ (pos (suc a / n))

-- a column is empty: its lower bound is above its upper bound
abbrev pub is_empty_side : ℤ × ℤ → Bool
is_empty_side s = lt_z s.1 s.0

-- the bound by a dual value: for q > 0 the dual value over q, rounded up; for q = 0 infinite where the dual value is positive; in all
-- other cases the sum of the box, passed as `otherwise`
abbrev pub bound_by : ℤ → ℤ → Option ℤ → Bound
bound_by (pos (suc n)) otherwise (Some g) = At (ceiling g (suc n))
bound_by (pos zero) otherwise (Some g) = if lt_z (pos 0) g then Infinite else At otherwise
bound_by (negsuc n) otherwise (Some g) = At otherwise
bound_by q otherwise None = At otherwise

-- the bound of a leaf: infinite where a column of its box is empty, else the bound by its dual value
abbrev pub leaf_bound : Parts → List (ℤ × ℤ) → Cert → Bound
leaf_bound m b c = if list_any is_empty_side b then Infinite else bound_by c.q (box_sum m b) (dual_value m b c.q c.y)

-- a bound is at most a cost
abbrev pub IsAtMost : Bound → ℤ → Type 0
IsAtMost (At v) w = v ≤ℤ w
IsAtMost Infinite w = ⊥

-- weak duality over boxes: every feasible point in a box costs at least the leaf bound of any certificate there
abbrev pub WeakDuality : Type 0
WeakDuality = (m : Parts) (b : List (ℤ × ℤ)) (c : Cert) (x : List ℤ) →
    length b ≡ length m.columns → IsFeasible m x → IsIn b x →
    IsAtMost (leaf_bound m b c) (cost m x)
