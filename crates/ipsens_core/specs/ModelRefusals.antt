-- The printed text of the refusal of a model file.
use Rattle.std.specs.Prelude.{ℕ, List, [], ◌++◌, codes, decimal}
use Rattle.mps_defs.specs.declared.reading.Side.{Side}
use Rattle.mps_defs.specs.declared.reading.Side.TheVariants.{Lower, Upper}
use Rattle.ip_defs.specs.declared.limits.What as What
use Rattle.ip_defs.specs.declared.limits.What.TheVariants as Whats
use Rattle.mps_defs.specs.declared.reading.MpsError.{MpsError}
use Rattle.mps_defs.specs.declared.reading.MpsError.TheVariants.{NotUtf8, SectionOrder, UnknownSection, FieldCount, RowKind, TwiceRow}
use Rattle.mps_defs.specs.declared.reading.MpsError.TheVariants.{UnknownRow, SplitColumn, TwiceEntry, Number, Marker, BoundKind}
use Rattle.mps_defs.specs.declared.reading.MpsError.TheVariants.{UnknownColumn, Continuous, NoBound, NegativeUpper, Limit, NoObjective}
use Rattle.mps_defs.specs.declared.reading.MpsError.TheVariants.{NoEnd, Digits, Memory}
use Rattle.mps_defs.specs.CanonicalText.{newline}

abbrev pub on_line : ℕ → List ℕ
on_line n = codes " line " ++ decimal n

abbrev pub on_column : List ℕ → List ℕ
on_column name = codes " column " ++ name

abbrev pub side_text : Side → List ℕ
side_text Lower = codes " lower"
side_text Upper = codes " upper"

abbrev pub what_text : What.What → List ℕ
what_text Whats.Columns = codes "columns"
what_text Whats.Rows = codes "rows"
what_text Whats.Entries = codes "entries"
what_text Whats.Name = codes "name"
what_text Whats.Cost = codes "cost"
what_text Whats.Lower = codes "lower"
what_text Whats.Upper = codes "upper"
what_text Whats.RowName = codes "rowname"
what_text Whats.Coef = codes "coef"
what_text Whats.Side = codes "side"
what_text Whats.Objective = codes "objective"
what_text Whats.Constant = codes "constant"

abbrev pub refusal_text : MpsError → List ℕ
refusal_text NotUtf8 = codes "M1"
refusal_text (SectionOrder n) = codes "M2" ++ on_line n
refusal_text (UnknownSection n) = codes "M3" ++ on_line n
refusal_text (FieldCount n) = codes "M4" ++ on_line n
refusal_text (RowKind n) = codes "M5" ++ on_line n
refusal_text (TwiceRow n) = codes "M6" ++ on_line n
refusal_text (UnknownRow n) = codes "M7" ++ on_line n
refusal_text (SplitColumn n) = codes "M8" ++ on_line n
refusal_text (TwiceEntry n) = codes "M9" ++ on_line n
refusal_text (Number n) = codes "M10" ++ on_line n
refusal_text (Marker n) = codes "M11" ++ on_line n
refusal_text (BoundKind n) = codes "M12" ++ on_line n
refusal_text (UnknownColumn n) = codes "M13" ++ on_line n
refusal_text (Continuous c) = codes "M14" ++ on_column c
refusal_text (NoBound c side) = codes "M15" ++ on_column c ++ side_text side
refusal_text (NegativeUpper c) = codes "M16" ++ on_column c
refusal_text (Limit l) = codes "M17 " ++ what_text l.what ++ codes " " ++ decimal l.index
refusal_text NoObjective = codes "M18"
refusal_text NoEnd = codes "M19"
refusal_text (Digits n) = codes "M20" ++ on_line n
refusal_text Memory = []

abbrev pub refused_model : List ℕ → List ℕ
refused_model why = codes "refused model " ++ why ++ newline
