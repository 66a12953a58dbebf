-- Lines of models: the costs along a direction at a parameter p/q, and the sides of rows after a number of steps.
use Rattle.std.specs.Prelude.{◌≡◌, ℕ, ◌^◌, if◌then◌else◌, List, [], ◌∷◌, Option, Some, None, position, Result, Ok, Err, ℤ, pos, ◌+ℤ◌}
use Rattle.std.specs.Prelude.{◌*ℤ◌}
use Rattle.ip_defs.specs.Limits.{exceeds}
use Rattle.ip_defs.specs.declared.programs.Column.{Column}
use Rattle.ip_defs.specs.declared.programs.Parts.{Parts}
use Rattle.ip_model.specs.declared.places.Place.{Place}
use Rattle.ip_model.specs.declared.places.Place.TheVariants.{Cost, Low, High, Coef, Lower, Upper}
use Rattle.ip_model.specs.Places.{with_cost, raised, Exists, number_of, limit_of}
use Rattle.perturbation.specs.declared.edits.LineError.{LineError}
use Rattle.perturbation.specs.declared.edits.LineError.TheVariants.{Limit, Memory}

-- ---- costs along a direction

-- the cost q * c + p * d in place of c; a direction that is too short goes on with 0
abbrev pub columns_at : List Column → List ℤ → ℤ → ℤ → List Column
columns_at [] ds p q = []
columns_at (c ∷ cs) [] p q = with_cost (λ z. q *ℤ z) c ∷ columns_at cs [] p q
columns_at (c ∷ cs) (d ∷ ds) p q = with_cost (λ z. q *ℤ z +ℤ p *ℤ d) c ∷ columns_at cs ds p q

-- the program with other columns and the constant 0
abbrev pub without_constant : Parts → List Column → Parts
without_constant m cs =
    record { objective = m.objective; cost_decimals = m.cost_decimals; constant = pos 0; columns = cs; rows = m.rows }

-- the program with the costs along a direction and the constant 0: its costs are q times those at the parameter p/q
abbrev pub program_at : Parts → List ℤ → ℤ → ℤ → Parts
program_at m ds p q = without_constant m (columns_at m.columns ds p q)

-- the first column whose cost exceeds its limit
abbrev pub first_large_cost : List Column → Option ℕ
first_large_cost cs = position (λ c. exceeds (2 ^ 40) c.cost) cs

-- a program, unless a column exceeds the limit
abbrev pub unless_large : {A : Type 0} → Option ℕ → A → Result A LineError
unless_large None x = Ok x
unless_large (Some j) x = Err (Limit j)

-- the model at p/q, or its first column whose cost exceeds the limit
abbrev pub cost_line_of : Parts → List ℤ → ℤ → ℤ → Result Parts LineError
cost_line_of m ds p q = unless_large (first_large_cost (columns_at m.columns ds p q)) (program_at m ds p q)

-- ---- sides after a number of steps

-- the program after t steps: each named side is moved by t times its own number
abbrev pub row_at : Parts → List (Place × ℤ) → ℕ → Parts
row_at m [] t = m
row_at m (d ∷ ds) t = row_at (raised m d.0 (pos t *ℤ d.1)) ds t

-- the number of the row of a place; of the places that name no row it is that of the column
abbrev pub index_of : Place → ℕ
index_of (Low i) = i
index_of (High i) = i
index_of (Coef i j) = i
index_of (Cost j) = j
index_of (Lower j) = j
index_of (Upper j) = j

-- one side moved by t steps, unless it exceeds its limit
abbrev pub side_moved : Parts → Place → ℤ → ℕ → Result Parts LineError
side_moved m place step t =
    if exceeds (limit_of place) (number_of m place +ℤ pos t *ℤ step) then Err (Limit (index_of place))
    else Ok (raised m place (pos t *ℤ step))

-- what an answer is followed by, unless it is a refusal
abbrev pub unless_stopped : Result Parts LineError → (Parts → Result Parts LineError) → Result Parts LineError
unless_stopped (Err e) next = Err e
unless_stopped (Ok m) next = next m

-- the model after t steps, each side of the direction moved in turn, or the row of the first side that exceeds its limit
abbrev pub row_line_of : Parts → List (Place × ℤ) → ℕ → Result Parts LineError
row_line_of m [] t = Ok m
row_line_of m (d ∷ ds) t = unless_stopped (side_moved m d.0 d.1 t) (λ n. row_line_of n ds t)

-- a place is a side that a row of the program has
abbrev pub IsSide : Parts → Place → Type 0
IsSide m (Low i) = Exists m (Low i)
IsSide m (High i) = Exists m (High i)
IsSide m (Cost j) = ⊥
IsSide m (Coef i j) = ⊥
IsSide m (Lower j) = ⊥
IsSide m (Upper j) = ⊥

-- an answer is the one that is due, unless memory ran out
abbrev pub IsLineAnswer : {A : Type 0} → Result A LineError → Result A LineError → Type 0
IsLineAnswer due (Ok x) = due ≡ Ok x
IsLineAnswer due (Err (Limit j)) = due ≡ Err (Limit j)
IsLineAnswer due (Err Memory) = Unit {0}
