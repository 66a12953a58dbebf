-- What `show` owes to its model: the canonical text, or that it has none.
use Rattle.std.specs.Prelude.{◌≡◌, codes}
use Rattle.std.specs.Bool.{MatchBool}
use Rattle.ip_defs.specs.declared.programs.Parts.{Parts}
use Rattle.mps_defs.specs.CanonicalText.{canonical_text, is_printable}
use Rattle.ipsens_core.specs.Answers.{Answer, says, ReadsNoMore}
use Rattle.ipsens_core.specs.Models.{refuses_model}
use Rattle.ipsens_core.specs.Reads.{Reads}
use Rattle.ipsens_core.specs.declared.statuses.Status.TheVariants.{Answered}

-- the canonical text of a model, or that it has none
abbrev pub IsShown : Parts → Answer → Type 0
IsShown m a = MatchBool (is_printable m) (a ≡ says Answered (canonical_text m)) (a ≡ refuses_model (codes "unprintable"))

-- the answer of `show` to its model: no further file is read
abbrev pub AnswersShow : Parts → Reads → Answer → Type 0
AnswersShow m = ReadsNoMore (IsShown m)
