-- How reading a model file ends.
use Rattle.std.specs.Prelude.{◌≡◌, ℕ, List, [], Option, None, Result, Ok, Err}
use Rattle.std.specs.Option.{MatchOption}
use Rattle.ip_defs.specs.declared.programs.Parts.{Parts}
use Rattle.ips_io.specs.Files.{Files}
use Rattle.mps_defs.specs.Faults.{mps_fault, model_of}
use Rattle.mps_defs.specs.declared.reading.How.{How}
use Rattle.ipsens_core.specs.Answers.{Answer, says, ReadsNoMore}
use Rattle.ipsens_core.specs.Internal.Files.{IsFileRead, IsRefusedText}
use Rattle.ipsens_core.specs.ModelRefusals.{refusal_text}
use Rattle.ipsens_core.specs.Models.{ReadsModel, longest_model, refuses_model}
use Rattle.ipsens_core.specs.Runs.{IsOwed}
use Rattle.ipsens_core.specs.declared.statuses.Status.TheVariants.{Refused}
use Rattle.ipsens_core.specs.declared.files.Unread.{Unread}
use Rattle.ipsens_core.specs.declared.files.Unread.TheVariants as Un

-- the refusal of the first fault of a model text
abbrev pub OwedToFault : List ℕ → How → Answer → Type 0
OwedToFault bytes how a = MatchOption (mps_fault bytes how) ⊥ (λ e. ReadsNoMore (λ b. b ≡ refuses_model (refusal_text e)) [] a)

-- the model of a text without a fault
abbrev pub HasModel : List ℕ → How → Parts → Type 0
HasModel bytes how m = (mps_fault bytes how ≡ None) × (m ≡ model_of bytes how)

-- how understanding a model text ends: with its model, or the refusal of its first fault
abbrev pub IsModelText : List ℕ → How → Result Parts Unread → Type 0
IsModelText bytes how (Ok m) = HasModel bytes how m
IsModelText bytes how (Err unread) = IsRefusedText (OwedToFault bytes how) unread

-- the model file was read, and its text without a fault is this model
pub record IsModelRead (before after : Option Files) (name : List ℕ) (how : How) (m : Parts) : Type 0 where
  pub bytes : List ℕ
  pub read : IsFileRead before after name longest_model bytes
  pub model : HasModel bytes how m

-- a refusal of the model file is owed, whatever a command owes to models
abbrev pub IsModelRefused : Option Files → Option Files → List ℕ → How → List ℕ → Type 0
IsModelRefused before after name how text = IsOwed (ReadsModel name how (λ m rs a. ⊥)) before after (says Refused text)

-- how reading a model file ends: with its model, or the text of its refusal
abbrev pub IsModelFile : Option Files → Option Files → List ℕ → How → Result Parts Unread → Type 0
IsModelFile before after name how (Ok m) = IsModelRead before after name how m
IsModelFile before after name how (Err (Un.Refused text)) = IsModelRefused before after name how text.items
IsModelFile before after name how (Err Un.ReadFault) = Unit {0}
IsModelFile before after name how (Err Un.Memory) = Unit {0}
