-- The sections of a canonical text, one after the other, and the text of their lines.
use Rattle.std.specs.Prelude.{ℕ, List, [], ◌∷◌, ◌++◌, map, flat_map, codes}
use Rattle.mps_defs.specs.CanonicalText.{Written, head, pair, bound_line, written_text, kind_text, columns_block, constant_line, rhs_line}
use Rattle.mps_defs.specs.CanonicalText.{range_line}
use Rattle.ip_defs.specs.declared.programs.Column.{Column}
use Rattle.ip_defs.specs.declared.programs.Row.{Row}
use Rattle.ip_defs.specs.declared.programs.Parts.{Parts}
use Rattle.mps_printer.specs.declared.rows.RowPart.{RowPart}
use Rattle.mps_printer.specs.declared.rows.RowPart.TheVariants.{RightSide, Range}

-- written lines as bytes
abbrev pub lines_text : List Written → List ℕ
lines_text lines = flat_map written_text lines

-- the line of a row in ROWS
abbrev pub kind_line : Row → Written
kind_line r = pair (kind_text r) r.name

-- the lines of a part of a row
abbrev pub part_lines : RowPart → (Row → List Written)
part_lines RightSide = rhs_line
part_lines Range = range_line

-- the two lines of a column in BOUNDS
abbrev pub bound_lines : Column → List Written
bound_lines c = bound_line (codes "LO") c.name c.lo ∷ bound_line (codes "UP") c.name c.hi ∷ []

-- NAME and ROWS
abbrev pub row_section : Parts → List Written
row_section m = head (codes "NAME") ∷ head (codes "ROWS") ∷ pair (codes "N") m.objective ∷ map kind_line m.rows

abbrev pub column_section : Parts → List Written
column_section m = head (codes "COLUMNS") ∷ columns_block m

abbrev pub side_section : Parts → List Written
side_section m = head (codes "RHS") ∷ constant_line m ++ flat_map rhs_line m.rows

abbrev pub range_section : Parts → List Written
range_section m = head (codes "RANGES") ∷ flat_map range_line m.rows

abbrev pub bound_section : Parts → List Written
bound_section m = head (codes "BOUNDS") ∷ flat_map bound_lines m.columns
