-- Texts with their models, computed.
use Rattle.std.specs.Prelude.{ℕ, ℤ, List, [], ◌∷◌, ◌++◌, codes, refl, None, Some, pos, negsuc}
use Rattle.std.specs.Str.{is_utf8, chars}
use Rattle.ip_defs.specs.declared.programs.Parts.{Parts}
use Rattle.ip_defs.specs.declared.programs.Row.{Row}
use Rattle.worked_examples.specs.Texts.{Reads, ReadsEach, plain, with_digits, boxed, model, column, row}
use Rattle.worked_examples.specs.Texts.{small, x_costing, with_bounds, with_sides, with_coefs, text_of, with_columns, with_rest}
use Rattle.worked_examples.specs.Texts.{range_text, negative_range_text}

abbrev three_rows_text : List ℕ
three_rows_text =
    codes "NAME example\nROWS\n N cost\n L r1\n L r2\n L r3\nCOLUMNS\n M 'MARKER' 'INTORG'\n a cost -5 r1 2\n a r2 4 r3 3\n"
    ++ codes " b cost -4 r1 3\n b r2 1 r3 4\n c cost -3 r1 1\n c r2 2 r3 2\n M 'MARKER' 'INTEND'\nRHS\n RHS r1 5 r2 11\n RHS r3 8\n"
    ++ codes "BOUNDS\n UP BND a 10\n UP BND b 10\n UP BND c 10\nENDATA\n"

pub three_rows : Reads three_rows_text plain
    (model (codes "cost") 0 (pos 0)
    (column (codes "a") (negsuc 4) (pos 0) (pos 10) ∷ column (codes "b") (negsuc 3) (pos 0) (pos 10) ∷
    column (codes "c") (negsuc 2) (pos 0) (pos 10) ∷ [])
    (row (codes "r1") 0 ((0, pos 2) ∷ (1, pos 3) ∷ (2, pos 1) ∷ []) None (Some (pos 5)) ∷
    row (codes "r2") 0 ((0, pos 4) ∷ (1, pos 1) ∷ (2, pos 2) ∷ []) None (Some (pos 11)) ∷
    row (codes "r3") 0 ((0, pos 3) ∷ (1, pos 4) ∷ (2, pos 2) ∷ []) None (Some (pos 8)) ∷ []))
unfolding is_utf8 chars lib.Utf8.encode
three_rows = (refl, refl)

-- a row with two sides, written as a range below a row, and as the negative range of an equation
abbrev two_sides : Parts
two_sides = model (codes "cost") 1 (pos 0)
    (column (codes "x") (pos 10) (pos 0) (pos 9) ∷ column (codes "y") (pos 25) (pos 0) (pos 9) ∷ [])
    (row (codes "e") 0 ((0, pos 1) ∷ (1, pos 1) ∷ []) (Some (pos 6)) (Some (pos 10)) ∷ [])

pub ranges_give_two_sides : ReadsEach ((range_text, plain, two_sides) ∷ (negative_range_text, plain, two_sides) ∷ [])
unfolding is_utf8 chars lib.Utf8.encode
ranges_give_two_sides = (refl, refl)

abbrev capital_budget_text : List ℕ
capital_budget_text =
    codes "* capital budget\r\nNAME          BUDGET\r\nROWS\r\n N  PROFIT\r\n L  CAPITAL\r\nCOLUMNS\r\n"
    ++ codes "    MARKER    'MARKER'    'INTORG'\r\n    x1        PROFIT      -8.5     CAPITAL   5\r\n"
    ++ codes "    x2        PROFIT      -11.0    CAPITAL   7\r\n    x3        PROFIT      -6       CAPITAL   4\r\n"
    ++ codes "    x4        PROFIT      -4       CAPITAL   3\r\n    MARKER    'MARKER'    'INTEND'\r\nRHS\r\n"
    ++ codes "    RHS       CAPITAL     14\r\nBOUNDS\r\n BV BND       x1\r\n BV BND       x2\r\n UP BND       x3          1\r\n"
    ++ codes " UP BND       x4          1\r\nENDATA\r\n"

-- its model in units of this many decimals
abbrev budget : ℕ → ℤ → ℤ → ℤ → ℤ → Row → Parts
budget decimals a b c d capital = model (codes "PROFIT") decimals (pos 0)
    (column (codes "x1") a (pos 0) (pos 1) ∷ column (codes "x2") b (pos 0) (pos 1) ∷ column (codes "x3") c (pos 0) (pos 1)
    ∷ column (codes "x4") d (pos 0) (pos 1) ∷ []) (capital ∷ [])

abbrev capital : ℕ → List (ℕ × ℤ) → ℤ → Row
capital decimals coefs high = row (codes "CAPITAL") decimals coefs None (Some high)

pub capital_budget : ReadsEach ((
  capital_budget_text,
  plain,
  budget 1 (negsuc 84) (negsuc 109) (negsuc 59) (negsuc 39)
      (capital 0 ((0, pos 5) ∷ (1, pos 7) ∷ (2, pos 4) ∷ (3, pos 3) ∷ []) (pos 14)),
)
    -- in thousandths
    ∷ (
      capital_budget_text,
      with_digits 3,
      budget 3 (negsuc 8499) (negsuc 10999) (negsuc 5999) (negsuc 3999)
          (capital 3 ((0, pos 5000) ∷ (1, pos 7000) ∷ (2, pos 4000) ∷ (3, pos 3000) ∷ []) (pos 14000)),
    )
    ∷ [])
unfolding is_utf8 chars lib.Utf8.encode
capital_budget = (refl, refl)

-- a right side of 5 and a range, of a row of this kind
abbrev with_range : List ℕ → List ℕ → List ℕ
with_range kind range =
    text_of (codes " N c\n " ++ kind ++ codes " r\n") (codes " x c 1 r 2\n")
    (codes "RHS\n r 5\nRANGES\n r " ++ range ++ codes "\nBOUNDS\n UP B x 3\nENDATA\n")

abbrev mixed_line_ends : List ℕ
mixed_line_ends =
    codes "ROWS\r\n N c\r\n L r\r\nCOLUMNS\r\n M 'MARKER' 'INTORG'\r\n x c 1 r 2\r\n M 'MARKER' 'INTEND'\nBOUNDS\r\n UP B x 3\r\n"
    ++ codes "ENDATA\r\n"

-- r and an e with an accent
abbrev accented : List ℕ
accented = 114 ∷ 195 ∷ 169 ∷ []

abbrev name_beyond_ascii : List ℕ
name_beyond_ascii =
    text_of (codes " N c\n L " ++ accented ++ codes "\n") (codes " x c 1 " ++ accented ++ codes " 2\n") (codes "BOUNDS\n FX x 3\nENDATA")

pub small_models : ReadsEach (
    -- entries of a dropped row stand twice
    (
      codes "ROWS\n N c\n N d\n L r\nCOLUMNS\n M 'MARKER' 'INTORG'\n x d 1 d 2\n x r 1\nBOUNDS\n UP B x 3\nENDATA\n",
      plain,
      small 0 (pos 0) (x_costing (pos 0)) (row (codes "r") 0 ((0, pos 1) ∷ []) None (Some (pos 0))),
    )
    -- a bound makes a column integer
    ∷ (codes "ROWS\n N c\n L r\nCOLUMNS\n x c 1\nBOUNDS\n UP B x 3\n LI B x 0\nENDATA\n", plain, with_coefs [])
    -- the box for an absent bound
    ∷ (with_rest (codes "ENDATA\n"), boxed (pos 50), with_bounds (pos 0) (pos 50))
    -- a negative zero is an upper bound
    ∷ (with_rest (codes "BOUNDS\n UP x -0.0\nENDATA\n"), plain, with_bounds (pos 0) (pos 0))
    -- a negative upper bound after no lower one
    ∷ (with_rest (codes "BOUNDS\n MI x\n UP x -1\nENDATA\n"), boxed (pos 7), with_bounds (negsuc 6) (negsuc 0))
    -- a coefficient at the limit
    ∷ (with_columns (codes " x c 1 r 1099511627776\n"), plain, with_coefs ((0, pos 1099511627776) ∷ []))
    -- and before the marker of the end
    ∷ (with_columns (codes " x c 1 r 1099511627776\n M 'MARKER' 'INTEND'\n"), plain, with_coefs ((0, pos 1099511627776) ∷ []))
    -- an infinite right side frees a row
    ∷ (with_rest (codes "RHS\n r inf\nBOUNDS\n UP B x 3\nENDATA\n"), plain, with_sides None None)
    -- a range above an equation
    ∷ (
      with_range (codes "E") (codes "2.5"),
      plain,
      small 0 (pos 0) (x_costing (pos 1)) (row (codes "r") 1 ((0, pos 20) ∷ []) (Some (pos 50)) (Some (pos 75))),
    )
    -- a range of zero
    ∷ (
      with_range (codes "E") (codes "0"),
      with_digits 2,
      small 2 (pos 0) (x_costing (pos 100)) (row (codes "r") 2 ((0, pos 200) ∷ []) (Some (pos 500)) (Some (pos 500))),
    )
    -- an infinite range below an equation
    ∷ (with_range (codes "E") (codes "-inf"), plain, with_sides None (Some (pos 5)))
    -- a negative range of a row from below
    ∷ (with_range (codes "G") (codes "-2"), plain, with_sides (Some (pos 5)) (Some (pos 7)))
    -- the first sets count
    ∷ (
      with_rest (codes "RHS\n A r 5\n B r 6 r 6\n A c 2.25\nRANGES\n Q c 7\n Q r 1\n P r 3\nBOUNDS\n UP B x 3\nENDATA\n"),
      plain,
      small 2 (negsuc 224) (x_costing (pos 100)) (row (codes "r") 0 ((0, pos 2) ∷ []) (Some (pos 4)) (Some (pos 5))),
    )
    -- bounds are rounded inwards
    ∷ (with_rest (codes "BOUNDS\n LO B x -2.5\n UP B x 2.5\n UP C x 9\nENDATA\n"), plain, with_bounds (negsuc 1) (pos 2))
    -- and so are those of integers
    ∷ (with_rest (codes "BOUNDS\n LI x 2.5\n UI x -2.5\nENDATA\n"), plain, with_bounds (pos 3) (negsuc 2))
    -- text after the end
    ∷ (with_rest (codes "BOUNDS\n UP B x 3\nENDATA\nROWS\n junk\n"), plain, with_bounds (pos 0) (pos 3))
    -- carriage returns before line ends
    ∷ (
      codes "ROWS\r\n N c\r\n L r\r\nCOLUMNS\r\n M 'MARKER' 'INTORG'\r\n x c 1 r 2\r\nBOUNDS\r\n UP B x 3\r\nENDATA\r\n",
      plain,
      with_bounds (pos 0) (pos 3),
    )
    -- some line ends with a carriage return and some without
    ∷ (mixed_line_ends, plain, with_bounds (pos 0) (pos 3))
    -- blank lines and comments, and a column whose name is a star
    ∷ (
      codes "\n \t\n* hello\nROWS\n N c\n L r\nCOLUMNS\n * c 1 r 2\nBOUNDS\n BV * \nENDATA\n",
      plain,
      small 0 (pos 0) (column (codes "*") (pos 1) (pos 0) (pos 1)) (row (codes "r") 0 ((0, pos 2) ∷ []) None (Some (pos 0))),
    )
    -- a name beyond ASCII, and no line end after the end
    ∷ (
      name_beyond_ascii,
      plain,
      small 0 (pos 0) (column (codes "x") (pos 1) (pos 3) (pos 3)) (row accented 0 ((0, pos 2) ∷ []) None (Some (pos 0))),
    )
    ∷ [])
unfolding is_utf8 chars lib.Utf8.encode
small_models = (refl, refl)
