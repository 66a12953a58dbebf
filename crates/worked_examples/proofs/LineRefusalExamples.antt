-- Texts that are refused for one of their lines, with the first fault of each, computed.
use Rattle.std.specs.Prelude.{[], ◌∷◌, ◌++◌, codes, refl}
use Rattle.std.specs.Str.{is_utf8, chars}
use Rattle.worked_examples.specs.Texts.{RefusesIn, whole, with_rows, with_columns, with_rest}
use Rattle.mps_defs.specs.declared.reading.MpsError.TheVariants.{NotUtf8, SectionOrder, UnknownSection, FieldCount, RowKind, TwiceRow}
use Rattle.mps_defs.specs.declared.reading.MpsError.TheVariants.{UnknownRow, SplitColumn, TwiceEntry, Number, Marker, BoundKind}
use Rattle.mps_defs.specs.declared.reading.MpsError.TheVariants.{UnknownColumn, Digits}

pub refused_for_a_line : RefusesIn (
    -- other sections, or sections in another order, and markers before a first column
    (whole, codes "ROWS\n " ++ (255 ∷ []), NotUtf8)
    ∷ (whole, codes "NAME\nNAME\n", SectionOrder 2)
    ∷ (whole, codes "COLUMNS\n", SectionOrder 1)
    ∷ (whole, codes "ROWS\n N c\nRHS\n", SectionOrder 3)
    ∷ (whole, codes "NAME\n N c\n", SectionOrder 2)
    ∷ (whole, codes "ENDATA\n", SectionOrder 1)
    ∷ (whole, codes "ROWS\nENDATA\n", SectionOrder 2)
    ∷ (whole, codes "NAME\nROW\n", UnknownSection 2)
    ∷ (whole, codes "OBJSENSE MAX\n", UnknownSection 1)
    ∷ (whole, codes "ROWS\n N c\n L r\nCOLUMNS\n M 'MARKER' 'INTORG' r 1\nBOUNDS\n UP B x 3\nENDATA\n", FieldCount 5)
    ∷ (whole, codes "ROWS\n N c\n L r\nCOLUMNS\n M 'MARKER' 'INTEND'\nBOUNDS\n UP B x 3\nENDATA\n", Marker 5)
    ∷ (whole, codes "ROWS\n N c\n L r\nCOLUMNS\n M 'MARKER' 'X'\nBOUNDS\n UP B x 3\nENDATA\n", Marker 5)
    -- other rows
    ∷ (with_rows, codes " N c 1\n", FieldCount 2)
    ∷ (with_rows, codes " N c\n X r\n", RowKind 3)
    ∷ (with_rows, codes " N c\n L c\n", TwiceRow 3)
    ∷ (with_rows, codes " N 'MARKER'\n", Marker 2)
    -- other columns
    ∷ (with_columns, codes " x c 1 r\n", FieldCount 6)
    ∷ (with_columns, codes " x c 1 q 2\n", UnknownRow 6)
    ∷ (with_columns, codes " x c 1\n y c 1\n x r 1\n", SplitColumn 8)
    ∷ (with_columns, codes " x c 1\n M 'MARKER' 'INTEND'\n x r 1\n", SplitColumn 8)
    ∷ (with_columns, codes " x c 1 c 2\n", TwiceEntry 6)
    ∷ (with_columns, codes " x c 1\n x r 0\n x r 0\n", TwiceEntry 8)
    ∷ (with_columns, codes " x c 1x\n", Number 6)
    ∷ (with_columns, codes " x c 000000000000000000000000000000012\n", Number 6)
    ∷ (with_columns, codes " x c 1\r\r\n", Number 6)
    ∷ (with_columns, codes " M 'MARKER' 'INTORG'\n", Marker 6)
    ∷ (with_columns, codes " x c 0.1234567890 r 0.1234567891\n", Digits 6)
    ∷ (with_columns, codes " x c 1e-10\n", Digits 6)
    -- other right sides and bounds
    ∷ (with_rest, codes "RHS\n r\nBOUNDS\n UP B x 3\nENDATA\n", FieldCount 8)
    ∷ (with_rest, codes "BOUNDS\n UP x\nENDATA\n", FieldCount 8)
    ∷ (with_rest, codes "BOUNDS\n FR\nENDATA\n", FieldCount 8)
    ∷ (with_rest, codes "BOUNDS\n FR a b c d\nENDATA\n", FieldCount 8)
    ∷ (with_rest, codes "RHS\n q 3\nBOUNDS\n UP B x 3\nENDATA\n", UnknownRow 8)
    ∷ (with_rest, codes "RHS\n S r 1\n S r 2\nBOUNDS\n UP B x 3\nENDATA\n", TwiceEntry 9)
    ∷ (with_rest, codes "BOUNDS\n UP B x 1..2\nENDATA\n", Number 8)
    ∷ (with_rest, codes "BOUNDS\n XX\nENDATA\n", BoundKind 8)
    ∷ (with_rest, codes "BOUNDS\n UP B z 1\nENDATA\n", UnknownColumn 8)
    ∷ [])
unfolding is_utf8 chars lib.Utf8.encode
refused_for_a_line = refl
