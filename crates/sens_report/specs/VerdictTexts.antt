-- The printed line of the verdict on a proof.
use Rattle.std.specs.Prelude.{ℕ, List, [], ◌++◌, codes, slice_get}
use Rattle.std.specs.Option.{option_map_or}
use Rattle.ip_defs.specs.declared.programs.Breach.{Breach}
use Rattle.ip_defs.specs.declared.programs.Breach.TheVariants.{Column, Row}
use Rattle.ip_defs.specs.declared.programs.Parts.{Parts}
use Rattle.mps_defs.specs.CanonicalText.{newline}
use Rattle.proof_tree.specs.declared.verdicts.Verdict.{Verdict}
use Rattle.proof_tree.specs.declared.verdicts.Verdict.TheVariants.{Proved, NotFeasible, Short}
use Rattle.sens_report.specs.AmountTexts.{amount_text, bound_text}

-- the name of a column or of a row by its number
abbrev pub column_name : Parts → ℕ → List ℕ
column_name m j = option_map_or (λ c. c.name) (slice_get m.columns j) []

abbrev pub row_name : Parts → ℕ → List ℕ
row_name m i = option_map_or (λ r. r.name) (slice_get m.rows i) []

-- the column or the row that a claimed point breaks
abbrev pub breach_text : Parts → Breach → List ℕ
breach_text m (Column j) = codes "column " ++ column_name m j
breach_text m (Row i) = codes "row " ++ row_name m i

-- a bound, and the cost of a claimed point or that none is claimed, have the decimals of the costs
abbrev pub verdict_text : Parts → Verdict → List ℕ
verdict_text m (Proved w) = codes "proved " ++ amount_text w m.cost_decimals
verdict_text m (NotFeasible breach) = codes "not proved " ++ breach_text m breach
verdict_text m (Short bound w) = codes "not proved short " ++ bound_text bound m.cost_decimals ++ codes " " ++ amount_text w m.cost_decimals

abbrev pub verdict_line : Parts → Verdict → List ℕ
verdict_line m v = verdict_text m v ++ newline
