-- The printed line of the verdict on the proof of a sweep. The verdict numbers pieces from 0, the line from 1.
use Rattle.std.specs.Prelude.{ℕ, ◌+◌, List, ◌++◌, codes, decimal, Option, Some, ℤ}
use Rattle.ip_defs.specs.declared.certificates.Bound.{Bound}
use Rattle.ip_defs.specs.declared.programs.Parts.{Parts}
use Rattle.mps_defs.specs.CanonicalText.{newline}
use Rattle.sens_report.specs.AmountTexts.{amount_text, bound_text}
use Rattle.sens_report.specs.VerdictTexts.{breach_text}
use Rattle.sweep_proof.specs.declared.verdicts.SweepVerdict.{SweepVerdict}
use Rattle.sweep_proof.specs.declared.verdicts.SweepVerdict.TheVariants.{Proved, Cover, Breach, Fall, Meet, Short}

-- a cost as a whole number in the units of the verdict, without decimals
abbrev pub whole_text : ℤ → List ℕ
whole_text v = amount_text (Some v) 0

-- the costs to the left and to the right where they do not fall, and where they do not meet
abbrev pub fall_text : ℤ → ℤ → List ℕ
fall_text left right = codes "fall " ++ whole_text left ++ codes " " ++ whole_text right

abbrev pub meet_text : ℤ → ℤ → List ℕ
meet_text left right = codes "meet " ++ whole_text left ++ codes " " ++ whole_text right

-- the bound of a tree, and the claimed cost that it does not reach, or that emptiness is claimed
abbrev pub short_text : Bound → Option ℤ → List ℕ
short_text bound claim = codes "short " ++ bound_text bound 0 ++ codes " " ++ amount_text claim 0

-- a piece by its number from 0, and what is wrong with it
abbrev pub fault_line : ℕ → List ℕ → List ℕ
fault_line k fault = codes "not proved piece " ++ decimal (k + 1) ++ codes " " ++ fault ++ newline

abbrev pub sweep_verdict_line : Parts → SweepVerdict → List ℕ
sweep_verdict_line m Proved = codes "proved" ++ newline
sweep_verdict_line m (Cover k) = fault_line k (codes "cover")
sweep_verdict_line m (Breach k place) = fault_line k (breach_text m place)
sweep_verdict_line m (Fall k left right) = fault_line k (fall_text left right)
sweep_verdict_line m (Meet k left right) = fault_line k (meet_text left right)
sweep_verdict_line m (Short k bound claim) = fault_line k (short_text bound claim)
