-- The canonical MPS text of a model, and the models that it can be read back for.
use Rattle.std.specs.Prelude.{ℕ, ◌==◌, Bool, true, false, ◌&&◌, ◌||◌, not, if◌then◌else◌, List, [], ◌∷◌, ◌++◌, length, map, flat_map, find}
use Rattle.std.specs.Prelude.{Option, bytes_eq, codes, ℤ, pos, neg_ℤ, ◌-ℤ◌}
use Rattle.std.specs.Fmt.{signed_decimal}
use Rattle.std.specs.List.{enumerate_from, list_any, list_all, concat}
use Rattle.std.specs.Option.{option_map_or, is_none, is_some}
use Rattle.std.specs.Ordering.{int_eq}
use Rattle.ip_defs.specs.Lists.{when}
use Rattle.mps_defs.specs.Numbers.{decimal_text}
use Rattle.ip_defs.specs.declared.programs.Column.{Column}
use Rattle.ip_defs.specs.declared.programs.Row.{Row}
use Rattle.ip_defs.specs.declared.programs.Parts.{Parts}
use Rattle.ip_defs.specs.Program.{is_crossed}

abbrev pub newline : List ℕ
newline = 10 ∷ []

-- an amount in units of the costs, as it is printed
abbrev pub value_text : Parts → ℤ → List ℕ
value_text m v = decimal_text v m.cost_decimals

abbrev pub is_equation : Row → Bool
is_equation r = option_map_or (λ low. option_map_or (int_eq low) r.high false) r.low false

abbrev pub is_from_below : Row → Bool
is_from_below r = is_some r.low && is_none r.high

abbrev pub kind_text : Row → List ℕ
kind_text r = if is_equation r then codes "E" else (if is_from_below r then codes "G" else codes "L")

-- a written line: whether it is a data line, and its fields
abbrev pub Written : Type 0
Written = Bool × List (List ℕ)

abbrev pub head : List ℕ → Written
head word = (false, word ∷ [])

abbrev pub pair : List ℕ → List ℕ → Written
pair a b = (true, a ∷ b ∷ [])

abbrev pub triple : List ℕ → List ℕ → List ℕ → Written
triple a b c = (true, a ∷ b ∷ c ∷ [])

abbrev pub bound_line : List ℕ → List ℕ → ℤ → Written
bound_line kind name n = (true, kind ∷ codes "BND" ∷ name ∷ signed_decimal n ∷ [])

-- the line of a column in a row, where a coefficient stands
abbrev pub coef_line : ℕ → List ℕ → Row → List Written
coef_line j name r =
    option_map_or (λ p. triple name r.name (decimal_text p.1 r.decimals) ∷ []) (find (λ p. p.0 == j) r.coefs) []

abbrev pub column_block : Parts → ℕ × Column → List Written
column_block m p = triple p.1.name m.objective (value_text m p.1.cost) ∷ flat_map (coef_line p.0 p.1.name) m.rows

abbrev pub columns_block : Parts → List Written
columns_block m =
    if length m.columns == 0 then []
    else triple (codes "M") (codes "'MARKER'") (codes "'INTORG'") ∷ flat_map (column_block m) (enumerate_from 0 m.columns)
    ++ triple (codes "M") (codes "'MARKER'") (codes "'INTEND'") ∷ []

-- the right side of a row: the lower side of G, else the upper side
abbrev pub right_side : Row → Option ℤ
right_side r = if is_from_below r then r.low else r.high

-- its line: nothing for 0, and 1e30 for a row without sides
abbrev pub side_line : Row → ℤ → List Written
side_line r b = when (not (int_eq b (pos 0))) (triple (codes "RHS") r.name (decimal_text b r.decimals))

abbrev pub rhs_line : Row → List Written
rhs_line r = option_map_or (side_line r) (right_side r) (triple (codes "RHS") r.name (codes "1e30") ∷ [])

abbrev pub constant_line : Parts → List Written
constant_line m =
    when (not (int_eq m.constant (pos 0))) (triple (codes "RHS") m.objective (value_text m (neg_ℤ m.constant)))

-- the line of a range: nothing where it is 0
abbrev pub width_line : Row → ℤ → ℤ → List Written
width_line r low high = when (not (int_eq low high)) (triple (codes "RNG") r.name (decimal_text (high -ℤ low) r.decimals))

abbrev pub range_line : Row → List Written
range_line r = option_map_or (λ low. option_map_or (width_line r low) r.high []) r.low []

abbrev pub canonical_lines : Parts → List Written
canonical_lines m =
    head (codes "NAME") ∷ head (codes "ROWS") ∷ pair (codes "N") m.objective ∷ map (λ r. pair (kind_text r) r.name) m.rows
    ++ head (codes "COLUMNS") ∷ columns_block m
    ++ head (codes "RHS") ∷ constant_line m ++ flat_map rhs_line m.rows
    ++ head (codes "RANGES") ∷ flat_map range_line m.rows
    ++ head (codes "BOUNDS") ∷ flat_map (λ c. bound_line (codes "LO") c.name c.lo ∷ bound_line (codes "UP") c.name c.hi ∷ []) m.columns
    ++ head (codes "ENDATA") ∷ []

-- one blank before each field of a data line
abbrev pub written_text : Written → List ℕ
written_text w = (if w.0 then flat_map (λ f. 32 ∷ f) w.1 else concat w.1) ++ newline

abbrev pub canonical_text : Parts → List ℕ
canonical_text m = flat_map written_text (canonical_lines m)

-- a blank, a tab, a carriage return or a line feed
abbrev pub is_separator : ℕ → Bool
is_separator b = (b == 32) || (b == 9) || (b == 13) || (b == 10)

abbrev pub is_printable_name : List ℕ → Bool
is_printable_name name =
    not (length name == 0) && not (bytes_eq name (codes "'MARKER'")) && not (list_any is_separator name)

abbrev pub is_printable : Parts → Bool
is_printable m =
    not (list_any is_crossed m.rows) && is_printable_name m.objective
    && list_all (λ c. is_printable_name c.name) m.columns && list_all (λ r. is_printable_name r.name) m.rows
