-- What is owed to a model file.
use Rattle.std.specs.Prelude.{◌≡◌, ℕ, List, [], ◌∷◌, length, Option, Some, None, Result, Ok, Err, codes}
use Rattle.std.specs.Option.{MatchOption}
use Rattle.std.proofs.Common.{refl, ap, sym, ◌∙◌, subst}
use Rattle.ip_defs.specs.declared.programs.Parts.{Parts}
use Rattle.ips_io.specs.Files.{Files, Keeps}
use Rattle.mps_defs.specs.Faults.{IsFirst, mps_fault, model_of}
use Rattle.mps_defs.specs.declared.reading.How.{How}
use Rattle.mps_defs.specs.declared.reading.MpsError.{MpsError}
use Rattle.mps_defs.specs.declared.reading.MpsError.TheVariants as Out
use Rattle.ipsens_core.specs.Answers.{Answer, says, ReadsNoMore}
use Rattle.ipsens_core.specs.Internal.Files.{IsFile, IsFileRead, IsLineOf, IsRefusedText}
use Rattle.ipsens_core.specs.Internal.Made.{IsPrepared}
use Rattle.ipsens_core.specs.Internal.ModelFiles.{IsModelFile, IsModelRead, IsModelRefused, IsModelText, OwedToFault}
use Rattle.ipsens_core.specs.ModelRefusals.{refusal_text, refused_model}
use Rattle.ipsens_core.specs.Models.{ReadsModel, longest_model, refuses_model}
use Rattle.ipsens_core.specs.Reads.{Reads}
use Rattle.ipsens_core.specs.Runs.{IsOwed}
use Rattle.ipsens_core.specs.declared.answers.Made.{Made}
use Rattle.ipsens_core.specs.declared.answers.Stop.{Stop}
use Rattle.ipsens_core.specs.declared.files.Unread.{Unread}
use Rattle.ipsens_core.specs.declared.files.Unread.TheVariants as Un
use Rattle.ipsens_core.specs.declared.statuses.Status.TheVariants.{Refused}
use Rattle.ipsens_core.proofs.FileLaws.{file_more, file_owed, last_owed, line_owed, long_owed}
use Rattle.ipsens_core.proofs.RunLaws.{prepared_then}

-- what is owed to the bytes of a model file
abbrev OwedToModel : How → (Parts → Reads → Answer → Type 0) → List ℕ → Reads → Answer → Type 0
OwedToModel how Rest bytes rs a = MatchOption (mps_fault bytes how) (Rest (model_of bytes how) rs a)
    (λ e. ReadsNoMore (λ b. b ≡ refuses_model (refusal_text e)) rs a)

-- ---- the text

-- an error that is not want of memory is the first fault
pub named_first : (o : Option MpsError) (e : MpsError) → IsFirst o e → (e ≡ Out.Memory → ⊥) → o ≡ Some e
named_first o Out.NotUtf8 h some = h
named_first o (Out.SectionOrder a) h some = h
named_first o (Out.UnknownSection a) h some = h
named_first o (Out.FieldCount a) h some = h
named_first o (Out.RowKind a) h some = h
named_first o (Out.TwiceRow a) h some = h
named_first o (Out.UnknownRow a) h some = h
named_first o (Out.SplitColumn a) h some = h
named_first o (Out.TwiceEntry a) h some = h
named_first o (Out.Number a) h some = h
named_first o (Out.Marker a) h some = h
named_first o (Out.BoundKind a) h some = h
named_first o (Out.UnknownColumn a) h some = h
named_first o (Out.Continuous a) h some = h
named_first o (Out.NoBound a b) h some = h
named_first o (Out.NegativeUpper a) h some = h
named_first o (Out.Limit a) h some = h
named_first o Out.NoObjective h some = h
named_first o Out.NoEnd h some = h
named_first o (Out.Digits a) h some = h
named_first o Out.Memory h some = absurd (some refl)

-- the refusal of the first fault is owed
pub fault_owed : (bytes : List ℕ) (how : How) (e : MpsError) (unread : Unread) → IsFirst (mps_fault bytes how) e → (e ≡ Out.Memory → ⊥)
    → IsLineOf (refused_model (refusal_text e)) unread → IsRefusedText (OwedToFault bytes how) unread
fault_owed bytes how e unread first not is =
    line_owed (OwedToFault bytes how) (refused_model (refusal_text e)) unread (rw (named_first (mps_fault bytes how) e first not)
    (refl, refl)) is

-- ---- the file

-- a refusal of the file is owed, whatever a command owes to models
refused_at : (bytes : List ℕ) (how : How) (Rest : Parts → Reads → Answer → Type 0) (rs : Reads) (a : Answer) (o : Option MpsError)
    → MatchOption o ⊥ (λ e. ReadsNoMore (λ b. b ≡ refuses_model (refusal_text e)) rs a)
    → MatchOption o (Rest (model_of bytes how) rs a) (λ e. ReadsNoMore (λ b. b ≡ refuses_model (refusal_text e)) rs a)
refused_at bytes how Rest rs a None h = absurd h
refused_at bytes how Rest rs a (Some e) h = h

pub refused_more : (name : List ℕ) (how : How) (Rest : Parts → Reads → Answer → Type 0) (before after : Option Files) (text : List ℕ)
    → IsModelRefused before after name how text → IsOwed (ReadsModel name how Rest) before after (says Refused text)
refused_more name how Rest before after text owed = record {
  reads = owed.reads;
  agrees = owed.agrees;
  run = file_more name longest_model (refuses_model (codes "too long")) (OwedToModel how (λ m rs a. ⊥)) (OwedToModel how Rest)
      (λ bytes rs a. refused_at bytes how Rest rs a (mps_fault bytes how)) owed.reads (says Refused text) owed.run;
}

-- the file was read, and its text is understood or refused
pub text_read : (name bytes : List ℕ) (how : How) (before after : Option Files) (result : Result Parts Unread)
    → IsFileRead before after name longest_model bytes → IsModelText bytes how result → IsModelFile before after name how result
text_read name bytes how before after (Ok m) read is = record { bytes = bytes; read = read; model = is }
text_read name bytes how before after (Err (Un.Refused text)) read is =
    last_owed name bytes longest_model (refuses_model (codes "too long")) (OwedToModel how (λ m rs a. ⊥)) before after
    (says Refused text.items) read is
text_read name bytes how before after (Err Un.ReadFault) read is = tt
text_read name bytes how before after (Err Un.Memory) read is = tt

-- the file was not read, or is too long
pub model_unread : (name line : List ℕ) (how : How) (before after : Option Files) (unread : Unread)
    → line ≡ refused_model (codes "too long") → IsFile before after name longest_model line (Err unread)
    → IsModelFile before after name how (Err unread)
model_unread name line how before after (Un.Refused text) same is =
    long_owed name longest_model (refused_model (codes "too long")) text.items (OwedToModel how (λ m rs a. ⊥)) before after is.0
    (is.1 ∙ same)
model_unread name line how before after Un.ReadFault same is = tt
model_unread name line how before after Un.Memory same is = tt

-- what a command owes to the model and to the files after it is owed to the model file and those
pub model_owed : (name : List ℕ) (how : How) (Rest : Parts → Reads → Answer → Type 0) (before mid after : Option Files) (m : Parts)
    (a : Answer) → IsModelRead before mid name how m → IsOwed (Rest m) mid after a → IsOwed (ReadsModel name how Rest) before after a
model_owed name how Rest before mid after m a read owed =
    file_owed name read.bytes longest_model (refuses_model (codes "too long")) (OwedToModel how Rest) before mid after a read.read (record {
      reads = owed.reads;
      agrees = owed.agrees;
      run = rw read.model.0 (subst (λ n. Rest n owed.reads a) read.model.1 owed.run);
    })

-- the model file was read, then an answer to the model was made of the files after it
pub prepared_more : (name : List ℕ) (how : How) (Rest : Parts → Reads → Answer → Type 0) (before mid after : Option Files)
    (f f' f'' s s' s'' : ℕ) (m : Parts) (result : Result Made Stop)
    → IsModelRead before mid name how m → Keeps before mid → f' ≡ f → s' ≡ s → IsPrepared (Rest m) mid after f' f'' s' s'' result
    → IsPrepared (ReadsModel name how Rest) before after f f'' s s'' result
prepared_more name how Rest before mid after f f' f'' s s' s'' m result read keeps same saves ready =
    prepared_then (Rest m) (ReadsModel name how Rest) before mid after f f' f'' s s' s'' result
    (λ a owed. model_owed name how Rest before mid after m a read owed) keeps same saves ready
