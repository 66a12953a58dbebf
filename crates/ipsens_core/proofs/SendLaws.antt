-- How saving and writing an answer end, together.
use Rattle.std.specs.Prelude.{◌≡◌, ◌≢◌, ℕ, List, Option, Some, None}
use Rattle.std.proofs.Common.{refl, ap, sym, ◌∙◌, subst, inl, inr}
use Rattle.std.proofs.lemmas.List.{append-nil}
use Rattle.ips_io.specs.Files.{Files}
use Rattle.ipsens_core.specs.Answers.{Answer}
use Rattle.ipsens_core.specs.Internal.Made.{IsWritten}
use Rattle.ipsens_core.specs.Internal.Writes.{Delivers, Writes}
use Rattle.ipsens_core.specs.Runs.{MaySave, OneRose, Saves, shows}
use Rattle.ipsens_core.specs.declared.statuses.Status.{Status}
use Rattle.ipsens_core.specs.declared.statuses.Status.TheVariants.{ReadFault, Usage, WriteFault}

may_save : (before after : Option Files) (s : Option (List ℕ × List ℕ)) → Saves before after s → MaySave before after s
may_save before after None h = h
may_save before after (Some s) h = h.0

-- the file was saved, and the text was written, whole or not
pub delivered : (files files' : Option Files) (taken taken' : Option (List ℕ)) (f f' : ℕ) (a : Answer) (result : Status)
    → Saves files files' a.saved → Writes taken taken' f f' a.status a.text result → Delivers (shows files files' taken taken') a result
delivered files files' taken taken' f f' a result saves (inl w) = inl (w.0, w.2, saves)
delivered files files' taken taken' f f' a result saves (inr w) = inr (w.0, w.2, may_save files files' a.saved saves)

-- saving failed, and nothing was written
pub not_saved : (files files' : Option Files) (taken : Option (List ℕ)) (a : Answer) → MaySave files files' a.saved
    → Delivers (shows files files' taken taken) a WriteFault
not_saved files files' taken a may = inr (refl, (0, λ old is. is ∙ ap Some (sym (append-nil old))), may)

-- the status of a written answer is no other end
pub written_ends : (taken taken' : Option (List ℕ)) (f f' : ℕ) (status : Status) (text : List ℕ) (result : Status) → IsWritten status
    → Writes taken taken' f f' status text result → (result ≢ ReadFault) × (result ≢ Usage)
written_ends taken taken' f f' status text result written (inl w) = (
  λ is. subst IsWritten (sym w.0 ∙ is) written,
  λ is. subst IsWritten (sym w.0 ∙ is) written,
)
written_ends taken taken' f f' status text result written (inr w) = (
  λ is. let both : WriteFault ≡ ReadFault = sym w.0 ∙ is in cc both,
  λ is. let both : WriteFault ≡ Usage = sym w.0 ∙ is in cc both,
)

-- writing failed exactly where the sink counted a failure
pub write_failed : (taken taken' : Option (List ℕ)) (f f' s s' : ℕ) (status : Status) (text : List ℕ) (result : Status) → IsWritten status
    → s' ≡ s → Writes taken taken' f f' status text result → result ≡ WriteFault → OneRose s s' f f'
write_failed taken taken' f f' s s' status text result written same (inl w) is = absurd (subst IsWritten (sym w.0 ∙ is) written)
write_failed taken taken' f f' s s' status text result written same (inr w) is = inr (same, w.1)

pub write_held : (taken taken' : Option (List ℕ)) (f f' s s' : ℕ) (status : Status) (text : List ℕ) (result : Status)
    → s' ≡ s → Writes taken taken' f f' status text result → result ≢ WriteFault → (s' ≡ s) × (f' ≡ f)
write_held taken taken' f f' s s' status text result same (inl w) not = (same, w.1)
write_held taken taken' f f' s s' status text result same (inr w) not = absurd (not w.0)
