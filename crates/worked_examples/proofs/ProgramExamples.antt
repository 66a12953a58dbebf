-- Small programs: feasible points, costs, breaches, least points, bounds of certificates.
use Rattle.std.specs.Prelude.{◌≡◌, ℕ, List, [], ◌∷◌, codes, refl, Option, None, Some, ℤ, pos, negsuc}
use Rattle.std.proofs.Common.{arith}
use Rattle.std.proofs.lemmas.Int.{ints}
use Rattle.ip_defs.specs.Program.{IsFeasible, cost, box_of}
use Rattle.ip_defs.specs.Breaches.{first_breach}
use Rattle.ip_defs.specs.Certificates.{leaf_bound}
use Rattle.ip_defs.specs.Limits.{limits_of}
use Rattle.ip_defs.specs.declared.programs.Parts.{Parts}
use Rattle.ip_defs.specs.declared.programs.Column.{Column}
use Rattle.ip_defs.specs.declared.programs.Row.{Row}
use Rattle.ip_defs.specs.declared.programs.Breach.TheVariants as Broken
use Rattle.ip_defs.specs.declared.certificates.Bound.TheVariants.{At, Infinite}

abbrev column : List ℕ → ℤ → ℤ → ℤ → Column
column name' cost' lo' hi' = record { name = name'; cost = cost'; lo = lo'; hi = hi' }

abbrev row : List (ℕ × ℤ) → Option ℤ → Option ℤ → Row
row coefs' low' high' = record { name = codes "r"; decimals = 0; coefs = coefs'; low = low'; high = high' }

abbrev program : List Column → List Row → Parts
program columns' rows' = record { objective = codes "cost"; cost_decimals = 0; constant = pos 0; columns = columns'; rows = rows' }

-- least -5a - 4b - 3c under three rows
abbrev three_rows : Parts
three_rows = program
    (column (codes "a") (negsuc 4) (pos 0) (pos 10) ∷ column (codes "b") (negsuc 3) (pos 0) (pos 10) ∷
    column (codes "c") (negsuc 2) (pos 0) (pos 10) ∷ [])
    (row ((0, pos 2) ∷ (1, pos 3) ∷ (2, pos 1) ∷ []) None (Some (pos 5)) ∷ row ((0, pos 4) ∷ (1, pos 1) ∷ (2, pos 2) ∷
    []) None (Some (pos 11)) ∷ row ((0, pos 3) ∷ (1, pos 4) ∷ (2, pos 2) ∷ []) None (Some (pos 8)) ∷ [])

abbrev best : List ℤ
best = pos 2 ∷ pos 0 ∷ pos 1 ∷ []

pub best_costs : cost three_rows best ≡ negsuc 12
best_costs = refl

pub best_is_feasible : first_breach three_rows best ≡ None
best_is_feasible = refl

pub first_row_breaks : first_breach three_rows (pos 2 ∷ pos 1 ∷ pos 1 ∷ []) ≡ Some (Broken.Row 0)
first_row_breaks = refl

pub column_breaks_first : first_breach three_rows (pos 2 ∷ pos 11 ∷ negsuc 0 ∷ []) ≡ Some (Broken.Column 1)
column_breaks_first = refl

-- multipliers -1 on the first and the third row prove that no point costs less than -13
pub its_certificate : leaf_bound three_rows (box_of three_rows) (record { q = pos 1; y = (0, negsuc 0) ∷ (2, negsuc 0) ∷ [] })
    ≡ At (negsuc 12)
its_certificate = refl

-- a multiplier on a side that is not there leaves the sum of the box
pub absent_side : leaf_bound three_rows (box_of three_rows) (record { q = pos 1; y = (0, pos 1) ∷ [] }) ≡ At (negsuc 119)
absent_side = refl

pub within_limits : limits_of three_rows ≡ []
within_limits = refl

-- 2x - 2y = 1 has no point in whole numbers: each point of its box breaks the row
abbrev odd : Parts
odd = program (column (codes "x") (pos 0) (pos 0) (pos 1) ∷ column (codes "y") (pos 0) (pos 0) (pos 1) ∷ []) (row ((0, pos 2) ∷
    (1, negsuc 1) ∷ []) (Some (pos 1)) (Some (pos 1)) ∷ [])

pub odd_breaks : (first_breach odd (pos 0 ∷ pos 0 ∷ []) ≡ Some (Broken.Row 0)) × (first_breach odd (pos 1 ∷ pos 0 ∷ [])
    ≡ Some (Broken.Row 0)) × (first_breach odd (pos 0 ∷ pos 1 ∷ []) ≡ Some (Broken.Row 0)) × (first_breach odd (pos 1 ∷ pos 1 ∷ [])
    ≡ Some (Broken.Row 0))
odd_breaks = (refl, refl, refl, refl)

-- a ray that proves it where x and y are 0
pub odd_ray : leaf_bound odd ((pos 0, pos 0) ∷ (pos 0, pos 0) ∷ []) (record { q = pos 0; y = (0, pos 1) ∷ [] }) ≡ Infinite
odd_ray = refl

-- and proves nothing over the whole box
pub odd_box : leaf_bound odd (box_of odd) (record { q = pos 0; y = (0, pos 1) ∷ [] }) ≡ At (pos 0)
odd_box = refl

-- a row with its low side above its high side is met by no point
pub crossed_row : first_breach (program (column (codes "x") (pos 0) (pos 0) (pos 9) ∷ []) (row ((0, pos 1) ∷
    []) (Some (pos 3)) (Some (pos 2)) ∷ [])) (pos 3 ∷ []) ≡ Some (Broken.Row 0)
crossed_row = refl

-- a column with its lower side above its upper side: no point lies in the box, and any certificate says so
abbrev empty_column : Parts
empty_column = program (column (codes "x") (pos 1) (pos 5) (pos 3) ∷ []) []

pub no_point : (x : List ℤ) → IsFeasible empty_column x → ⊥
no_point x ok = let low = ok.within.low 0 (omega arith) in let high = ok.within.high 0 (omega arith) in omega (arith, ints)

pub empty_bound : leaf_bound empty_column (box_of empty_column) (record { q = pos 1; y = [] }) ≡ Infinite
empty_bound = refl

-- a dual value over q is rounded up: -3/2 gives -1
pub rounded_up : leaf_bound (program (column (codes "x") (negsuc 0) (pos 0) (pos 5) ∷ []) (row ((0, pos 2) ∷ []) None (Some (pos 3)) ∷
    [])) ((pos 0, pos 5) ∷ []) (record { q = pos 2; y = (0, negsuc 0) ∷ [] }) ≡ At (negsuc 0)
rounded_up = refl
