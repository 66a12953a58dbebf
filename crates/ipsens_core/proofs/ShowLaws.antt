-- The status of a shown model.
use Rattle.std.specs.Prelude.{◌≡◌, Bool, true, false, codes}
use Rattle.std.specs.Bool.{MatchBool}
use Rattle.std.proofs.Common.{sym, subst}
use Rattle.ip_defs.specs.declared.programs.Parts.{Parts}
use Rattle.mps_defs.specs.CanonicalText.{canonical_text, is_printable}
use Rattle.ipsens_core.specs.Answers.{Answer, says}
use Rattle.ipsens_core.specs.Models.{refuses_model}
use Rattle.ipsens_core.specs.Show.{IsShown}
use Rattle.ipsens_core.specs.Internal.Made.{IsWritten}
use Rattle.ipsens_core.specs.declared.statuses.Status.TheVariants.{Answered}

-- a model is shown, or refused
pub shown_written : (m : Parts) (a : Answer) → IsShown m a → IsWritten a.status
shown_written m a = by (is_printable m)
  where
    by : (t : Bool) → MatchBool t (a ≡ says Answered (canonical_text m)) (a ≡ refuses_model (codes "unprintable")) → IsWritten a.status
    by true e = subst (λ (b : Answer). IsWritten b.status) (sym e) tt
    by false e = subst (λ (b : Answer). IsWritten b.status) (sym e) tt
