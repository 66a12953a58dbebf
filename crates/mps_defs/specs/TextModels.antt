-- The model of a text: each number is looked up in the whole list of what the text writes.
use Rattle.std.specs.Prelude.{◌≤◌, ◌≤ℤ◌, ℕ, ◌+◌, ◌-◌, ◌^◌, ◌==◌, max, Bool, ◌&&◌, ◌||◌, not, if◌then◌else◌, List, [], ◌∷◌, ◌++◌, map}
use Rattle.std.specs.Prelude.{filter, filter_map, find, fold, Option, None, Some, option_map, unwrap_or, bytes_eq, codes, ℤ, pos, neg_ℤ}
use Rattle.std.specs.Prelude.{◌+ℤ◌, ◌-ℤ◌, ◌*ℤ◌}
use Rattle.std.specs.List.{enumerate_from, list_any}
use Rattle.std.specs.Option.{option_map_or, ForSome}
use Rattle.std.specs.Int.{int_div_euclid}
use Rattle.std.specs.Int.RustNames.{unsigned_abs}
use Rattle.std.specs.Int.Signed.{lt_z}
use Rattle.mps_defs.specs.Lists.{where_true, last_of, is_among}
use Rattle.mps_defs.specs.Numbers.{number_of, decimals_of, is_large, signed}
use Rattle.ip_defs.specs.Certificates.{ceiling}
use Rattle.mps_defs.specs.Records.{Line, Entry, objective, kept_entries, column_names, first_lines, column_name, in_force, row_lines}
use Rattle.mps_defs.specs.Records.{row_kind, row_name, is_free, bounds_on, bound_kind, bound_text, takes_number}
use Rattle.mps_defs.specs.declared.reading.Number.{Number}
use Rattle.mps_defs.specs.declared.reading.Number.TheVariants.{Dec, Large}
use Rattle.mps_defs.specs.declared.reading.How.{How}
use Rattle.ip_defs.specs.declared.programs.Column.{Column}
use Rattle.ip_defs.specs.declared.programs.Row.{Row}
use Rattle.ip_defs.specs.declared.programs.Parts.{Parts}

abbrev pub no_number : Number
no_number = Dec (pos 0) 0

-- the number in a field, and 0 where the field is no number
abbrev pub number_or_zero : List ℕ → Number
number_or_zero text = unwrap_or (number_of text) no_number

abbrev pub is_negative_number : Number → Bool
is_negative_number (Dec units decimals) = lt_z units (pos 0)
is_negative_number (Large negative) = negative

-- the number in units of 10^-k; a Large one counts as 10^20 of the written units with its sign, which exceeds each limit
abbrev pub units : ℕ → Number → ℤ
units k (Dec u d) = u *ℤ pos (10 ^ (k - d))
units k (Large negative) = signed negative (10 ^ (20 + k))

abbrev pub rounded_up : Number → ℤ
rounded_up (Dec u d) = ceiling u (10 ^ d)
rounded_up (Large negative) = signed negative (10 ^ 20)

abbrev pub rounded_down : Number → ℤ
rounded_down (Dec u d) = int_div_euclid u (pos (10 ^ d))
rounded_down (Large negative) = signed negative (10 ^ 20)

-- bounds

abbrev pub kind_is : List (List ℕ) → Line → Bool
kind_is kinds l = is_among (bound_kind l) kinds

abbrev pub sets_lower : Line → Bool
sets_lower l = kind_is (codes "LO" ∷ codes "LI" ∷ codes "FX" ∷ codes "FR" ∷ codes "MI" ∷ codes "BV" ∷ []) l

abbrev pub sets_upper : Line → Bool
sets_upper l = kind_is (codes "UP" ∷ codes "UI" ∷ codes "FX" ∷ codes "FR" ∷ codes "PL" ∷ codes "BV" ∷ []) l

-- the bound that a line gives: BV gives 0 and 1, FR, MI and PL none, the others their number, rounded inwards, but none where it
-- is Large towards that side
abbrev pub lower_by : Line → Option ℤ
lower_by l =
    let n = number_or_zero (bound_text l) in
    if kind_is (codes "BV" ∷ []) l then Some (pos 0)
    else (where_true (takes_number l && not (is_large n && is_negative_number n)) (rounded_up n))

abbrev pub upper_by : Line → Option ℤ
upper_by l =
    let n = number_or_zero (bound_text l) in
    if kind_is (codes "BV" ∷ []) l then Some (pos 1)
    else (where_true (takes_number l && not (is_large n && not (is_negative_number n))) (rounded_down n))

-- the last line for a bound counts; without one the lower bound is 0 and the upper one is absent
abbrev pub lower_entry : List Line → List ℕ → Option Line
lower_entry ls name = last_of (filter sets_lower (bounds_on ls name))

abbrev pub upper_entry : List Line → List ℕ → Option Line
upper_entry ls name = last_of (filter sets_upper (bounds_on ls name))

abbrev pub lower_side : List Line → List ℕ → Option ℤ
lower_side ls name = option_map_or lower_by (lower_entry ls name) (Some (pos 0))

abbrev pub upper_side : List Line → List ℕ → Option ℤ
upper_side ls name = option_map_or upper_by (upper_entry ls name) None

-- what a caller may ask for: at most nine decimals, and a box side between 0 and 2^24 where one is given
pub record IsHow (how : How) : Type 0 where
  pub digits : how.digits ≤ 9
  pub box_side : ForSome how.box_side (λ b. (pos 0 ≤ℤ b) × (b ≤ℤ pos (2 ^ 24)))

abbrev pub box_low : How → ℤ
box_low how = option_map_or neg_ℤ how.box_side (pos 0)

abbrev pub box_high : How → ℤ
box_high how = unwrap_or how.box_side (pos 0)

-- its first line stands between markers, or a BV, LI or UI bound names it
abbrev pub is_integer : List Line → List ℕ → Bool
is_integer ls name =
    list_any (λ p. bytes_eq (column_name p.1) name && in_force p.0) (first_lines ls)
    || list_any (kind_is (codes "BV" ∷ codes "LI" ∷ codes "UI" ∷ [])) (bounds_on ls name)

-- coefficients, right sides, ranges and units

-- what is written for a row, and for a column in it
abbrev pub written_for : List Entry → List ℕ → Option Number
written_for es row = option_map (λ e. number_or_zero e.text) (find (λ e. bytes_eq e.row row) es)

abbrev pub written_at : List Entry → List ℕ → List ℕ → Option Number
written_at es row column = option_map (λ e. number_or_zero e.text) (find (λ e. bytes_eq e.row row && bytes_eq e.owner column) es)

abbrev pub largest : ℕ → List ℕ → ℕ
largest n ns = fold max n ns

abbrev pub decimals_in : List Entry → List ℕ → List ℕ
decimals_in es row = map (λ e. decimals_of (number_or_zero e.text)) (filter (λ e. bytes_eq e.row row) es)

-- the decimals of a row or of the costs
abbrev pub row_decimals : List Line → How → List ℕ → ℕ
row_decimals ls how row =
    largest how.digits
    (decimals_in (kept_entries (codes "COLUMNS") ls ++ kept_entries (codes "RHS") ls ++ kept_entries (codes "RANGES") ls) row)

-- the table of row sides: v is the right side, r the range and s its absolute value, in units; finite: the range is not Large
abbrev pub range_sides : List ℕ → ℤ → Bool → ℤ → ℕ → Option ℤ × Option ℤ
range_sides kind v finite r s =
    let low = where_true finite (v -ℤ pos s) in
    let high = where_true finite (v +ℤ pos s) in
    if bytes_eq kind (codes "L") then (low, Some v)
    else (if bytes_eq kind (codes "G") then (Some v, high)
    else (if lt_z (pos 0) r then (Some v, high)
    else (if lt_z r (pos 0) then (low, Some v) else (Some v, Some v))))

abbrev pub plain_sides : List ℕ → ℤ → Option ℤ × Option ℤ
plain_sides kind v =
    if bytes_eq kind (codes "L") then (None, Some v)
    else (if bytes_eq kind (codes "G") then (Some v, None) else (Some v, Some v))

-- a Large right side on the free side of its row leaves the row without sides
abbrev pub is_open : List ℕ → Number → Bool
is_open kind b =
    is_large b && ((bytes_eq kind (codes "L") && not (is_negative_number b)) || (bytes_eq kind (codes "G") && is_negative_number b))

abbrev pub row_sides : List ℕ → ℕ → Number → Option Number → Option ℤ × Option ℤ
row_sides kind k b None =
    if is_open kind b then (None, None)
    else (if is_large b then (Some (units k b), Some (units k b)) else plain_sides kind (units k b))
row_sides kind k b (Some r) =
    if is_large b then (Some (units k b), Some (units k b))
    else range_sides kind (units k b) (not (is_large r)) (units k r) (unsigned_abs (units k r))

-- what is written for a row in a numbered column
abbrev pub placed : List Entry → List ℕ → ℕ × List ℕ → Option (ℕ × Number)
placed es row p = option_map (λ n. (p.0, n)) (written_at es row p.1)

-- the written entries of a row, by column number
abbrev pub written_in : List Entry → List (List ℕ) → List ℕ → List (ℕ × Number)
written_in es columns row = filter_map (placed es row) (enumerate_from 0 columns)

-- those that are not 0, in units
abbrev pub coefs_in : List Entry → List (List ℕ) → List ℕ → ℕ → List (ℕ × ℤ)
coefs_in es columns row k = filter (λ p. not (unsigned_abs p.1 == 0)) (map (λ p. (p.0, units k p.1)) (written_in es columns row))

abbrev pub row_from : List Line → How → List ℕ → List ℕ → Row
row_from ls how kind name =
    let k = row_decimals ls how name in
    let right = unwrap_or (written_for (kept_entries (codes "RHS") ls) name) no_number in
    let sides = row_sides kind k right (written_for (kept_entries (codes "RANGES") ls) name) in
    record {
      name = name;
      decimals = k;
      coefs = coefs_in (kept_entries (codes "COLUMNS") ls) (column_names ls) name k;
      low = sides.0;
      high = sides.1;
    }

abbrev pub column_from : List Line → How → List ℕ → ℕ → List ℕ → Column
column_from ls how cost_row k name = record {
  name = name;
  cost = units k (unwrap_or (written_at (kept_entries (codes "COLUMNS") ls) cost_row name) no_number);
  lo = unwrap_or (lower_side ls name) (box_low how);
  hi = unwrap_or (upper_side ls name) (box_high how);
}

-- the model of the lines
abbrev pub model_from : List Line → How → Parts
model_from ls how =
    let cost_row = unwrap_or (objective ls) [] in
    let k = row_decimals ls how cost_row in
    record {
      objective = cost_row;
      cost_decimals = k;
      constant = neg_ℤ (units k (unwrap_or (written_for (kept_entries (codes "RHS") ls) cost_row) no_number));
      columns = map (column_from ls how cost_row k) (column_names ls);
      rows = map (λ l. row_from ls how (row_kind l) (row_name l)) (filter (λ l. not (is_free l)) (row_lines ls));
    }
