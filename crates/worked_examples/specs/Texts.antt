-- What examples say of a text, and the parts of their models.
use Rattle.std.specs.Prelude.{◌≡◌, ℕ, List, [], ◌∷◌, ◌++◌, codes, map, Option, None, Some, ℤ, pos}
use Rattle.ip_defs.specs.declared.programs.Column.{Column}
use Rattle.ip_defs.specs.declared.programs.Row.{Row}
use Rattle.ip_defs.specs.declared.programs.Parts.{Parts}
use Rattle.mps_defs.specs.Faults.{mps_fault, model_of}
use Rattle.mps_defs.specs.Numbers.{number_of, decimal_text}
use Rattle.mps_defs.specs.declared.reading.How.{How}
use Rattle.mps_defs.specs.declared.reading.MpsError.{MpsError}
use Rattle.mps_defs.specs.declared.reading.MpsError.TheVariants.{Limit}
use Rattle.ip_defs.specs.declared.limits.What.{What}
use Rattle.mps_defs.specs.declared.reading.Number.{Number}

-- nothing is asked for
abbrev pub plain : How
plain = record { digits = 0; box_side = None }

abbrev pub with_digits : ℕ → How
with_digits n = record { digits = n; box_side = None }

abbrev pub boxed : ℤ → How
boxed side = record { digits = 0; box_side = Some side }

abbrev pub column : List ℕ → ℤ → ℤ → ℤ → Column
column name' cost' lo' hi' = record { name = name'; cost = cost'; lo = lo'; hi = hi' }

abbrev pub row : List ℕ → ℕ → List (ℕ × ℤ) → Option ℤ → Option ℤ → Row
row name' decimals' coefs' low' high' = record { name = name'; decimals = decimals'; coefs = coefs'; low = low'; high = high' }

abbrev pub model : List ℕ → ℕ → ℤ → List Column → List Row → Parts
model objective' decimals' constant' columns' rows' =
    record { objective = objective'; cost_decimals = decimals'; constant = constant'; columns = columns'; rows = rows' }

-- the model of an objective c, an integer column x and a row r
abbrev pub small : ℕ → ℤ → Column → Row → Parts
small decimals constant x r = model (codes "c") decimals constant (x ∷ []) (r ∷ [])

abbrev pub x_costing : ℤ → Column
x_costing cost = column (codes "x") cost (pos 0) (pos 3)

-- most small models have cost 1, coefficient 2, an upper bound of 3 and a high side of 0, and differ in one of these alone
abbrev pub with_bounds : ℤ → ℤ → Parts
with_bounds low high = small 0 (pos 0) (column (codes "x") (pos 1) low high) (row (codes "r") 0 ((0, pos 2) ∷ []) None (Some (pos 0)))

abbrev pub with_sides : Option ℤ → Option ℤ → Parts
with_sides low high = small 0 (pos 0) (x_costing (pos 1)) (row (codes "r") 0 ((0, pos 2) ∷ []) low high)

abbrev pub with_coefs : List (ℕ × ℤ) → Parts
with_coefs coefs = small 0 (pos 0) (x_costing (pos 1)) (row (codes "r") 0 coefs None (Some (pos 0)))

-- the text of rows and of integer columns, and what comes after them
abbrev pub text_of : List ℕ → List ℕ → List ℕ → List ℕ
text_of rows columns rest = codes "ROWS\n" ++ rows ++ codes "COLUMNS\n M 'MARKER' 'INTORG'\n" ++ columns ++ rest

-- a text as it stands
abbrev pub whole : List ℕ → List ℕ
whole text = text

-- most texts are this one but for a part of it
abbrev pub with_rows : List ℕ → List ℕ
with_rows rows = text_of rows (codes " x c 1 r 2\n") (codes "BOUNDS\n UP B x 3\nENDATA\n")

abbrev pub with_columns : List ℕ → List ℕ
with_columns columns = text_of (codes " N c\n L r\n") columns (codes "BOUNDS\n UP B x 3\nENDATA\n")

abbrev pub with_rest : List ℕ → List ℕ
with_rest rest = text_of (codes " N c\n L r\n") (codes " x c 1 r 2\n") rest

-- a text without a fault, and its model
abbrev pub Reads : List ℕ → How → Parts → Type 0
Reads text how m = (mps_fault text how ≡ None) × (model_of text how ≡ m)

-- the same for each of several texts
abbrev pub ReadsEach : List (List ℕ × How × Parts) → Type 0
ReadsEach cases =
    (map (λ c. mps_fault c.0 c.1) cases ≡ map (λ c. None) cases) × (map (λ c. model_of c.0 c.1) cases ≡ map (λ c. c.2) cases)

-- the fault of what exceeds a limit, at place 0
abbrev pub limit_of : What → MpsError
limit_of what' = Limit (record { what = what'; index = 0 })

-- the first faults of texts
abbrev pub RefusesEach : List (List ℕ × How × MpsError) → Type 0
RefusesEach cases = map (λ c. mps_fault c.0 c.1) cases ≡ map (λ c. Some c.2) cases

-- the same for texts that are each made of the part that is wrong, where nothing is asked for
abbrev pub RefusesIn : List ((List ℕ → List ℕ) × List ℕ × MpsError) → Type 0
RefusesIn cases = map (λ c. mps_fault (c.0 c.1) plain) cases ≡ map (λ c. Some c.2) cases

-- the numbers that texts are
abbrev pub ReadsNumbers : List (List ℕ × Option Number) → Type 0
ReadsNumbers cases = map (λ c. number_of c.0) cases ≡ map (λ c. c.1) cases

-- numbers of units and their decimals, with their decimal texts
abbrev pub WritesDecimals : List (ℤ × ℕ × List ℕ) → Type 0
WritesDecimals cases = map (λ c. decimal_text c.0 c.1) cases ≡ map (λ c. c.2) cases

-- an equation with a negative range, and the canonical text of its model: a row with two sides
abbrev pub negative_range_text : List ℕ
negative_range_text =
    codes "NAME\nROWS\n N cost\n E e\nCOLUMNS\n M 'MARKER' 'INTORG'\n x cost 1 e 1\n y cost 2.5 e 1\n"
    ++ codes "RHS\n RHS e 10\nRANGES\n RNG e -4\nBOUNDS\n UP BND x 9\n UP BND y 9\nENDATA\n"

abbrev pub range_text : List ℕ
range_text =
    codes "NAME\nROWS\n N cost\n L e\nCOLUMNS\n M 'MARKER' 'INTORG'\n x cost 1\n x e 1\n y cost 2.5\n y e 1\n"
    ++ codes " M 'MARKER' 'INTEND'\nRHS\n RHS e 10\nRANGES\n RNG e 4\nBOUNDS\n LO BND x 0\n UP BND x 9\n LO BND y 0\n UP BND y 9\nENDATA\n"
