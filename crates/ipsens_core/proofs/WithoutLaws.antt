-- The answer of a command where a file gives nothing.
use Rattle.std.specs.Prelude.{◌≡◌, ◌≢◌, ℕ, List, Option, Result, Ok, Err, IfOk}
use Rattle.std.proofs.Common.{refl, ap, sym, ◌∙◌, subst}
use Rattle.ips_io.specs.Causes.{Rose}
use Rattle.ips_io.specs.Files.{Files, Keeps}
use Rattle.ipsens_core.specs.Answers.{Answer, says}
use Rattle.ipsens_core.specs.Internal.Files.{IsWithout}
use Rattle.ipsens_core.specs.Internal.Made.{IsMade, IsPrepared, IsWritten, answer_of}
use Rattle.ipsens_core.specs.Reads.{Reads}
use Rattle.ipsens_core.specs.Runs.{IsOwed}
use Rattle.ipsens_core.specs.declared.answers.Made.{Made}
use Rattle.ipsens_core.specs.declared.answers.Stop.{Stop}
use Rattle.ipsens_core.specs.declared.answers.Stop.TheVariants as Stops
use Rattle.ipsens_core.specs.declared.files.Unread.{Unread}
use Rattle.ipsens_core.specs.declared.files.Unread.TheVariants as Un
use Rattle.ipsens_core.specs.declared.statuses.Status.TheVariants.{Refused}
use Rattle.ipsens_core.proofs.FileLaws.{IsRefusalOwed}
use Rattle.ipsens_core.proofs.RunLaws.{made_prepared}

-- reading that failed is no answer
unread_prepared : (Whole : Reads → Answer → Type 0) (before after : Option Files) (f f' s s' : ℕ) (why : Stop)
    → Keeps before after → (why ≡ Stops.ReadFault → Rose f f') → (why ≢ Stops.ReadFault → f' ≡ f) → s' ≡ s
    → IsPrepared Whole before after f f' s s' (Err why)
unread_prepared Whole before after f f' s s' why keeps fault no_fault saves = record {
  made = tt;
  keeps = keeps;
  fault = λ is. fault (cc is);
  no_fault = λ not. no_fault (λ same. not (ap Err same));
  saves = saves;
}

pub without_prepared : (Whole : Reads → Answer → Type 0) (before after : Option Files) (f f' s s' : ℕ) (unread : Unread)
    (result : Result Made Stop) → IsRefusalOwed Whole before after unread → IsWithout unread result → Keeps before after
    → (unread ≡ Un.ReadFault → Rose f f') → (unread ≢ Un.ReadFault → f' ≡ f) → s' ≡ s
    → IsPrepared Whole before after f f' s s' result
without_prepared Whole before after f f' s s' (Un.Refused text) result owed is keeps fault no_fault saves =
    let made = is.0 in
    let written = subst (λ (a : Answer). IsWritten a.status) (sym is.2) tt in
    subst (IsPrepared Whole before after f f' s s') (sym is.1) (made_prepared Whole before after f f' s s' made written
    (subst (IsOwed Whole before after) (sym is.2) owed) keeps (no_fault (λ e. cc e)) saves)
without_prepared Whole before after f f' s s' Un.ReadFault result owed is keeps fault no_fault saves =
    subst (IsPrepared Whole before after f f' s s') (sym is) (unread_prepared Whole before after f f' s s' Stops.ReadFault keeps
    (λ same. fault refl) (λ not. absurd (not refl)) saves)
without_prepared Whole before after f f' s s' Un.Memory result owed is keeps fault no_fault saves =
    subst (IsPrepared Whole before after f f' s s') (sym is) (unread_prepared Whole before after f f' s s' Stops.Memory keeps
    (λ same. absurd (cc same)) (λ not. no_fault (λ e. cc e)) saves)
