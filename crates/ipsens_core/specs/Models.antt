-- What is owed to a model file: its refusal, or what a command owes to its model.
use Rattle.std.specs.Prelude.{◌≡◌, ℕ, List, Option, codes, ℤ}
use Rattle.std.specs.Option.{MatchOption}
use Rattle.ip_defs.specs.declared.programs.Parts.{Parts}
use Rattle.mps_defs.specs.Faults.{mps_fault, model_of}
use Rattle.mps_defs.specs.declared.reading.How.{How}
use Rattle.ipsens_core.specs.Answers.{Answer, says, ReadsFile, ReadsNoMore}
use Rattle.ipsens_core.specs.Reads.{Reads}
use Rattle.ipsens_core.specs.ModelRefusals.{refusal_text, refused_model}
use Rattle.ipsens_core.specs.declared.statuses.Status.TheVariants.{Refused}

-- how the text of a model is read
abbrev pub reading : ℕ → Option ℤ → How
reading digits box_side = record { digits = digits; box_side = box_side }

-- the longest model file, 16 MiB
abbrev pub longest_model : ℕ
longest_model = 16777216

-- the refusal of a model file
abbrev pub refuses_model : List ℕ → Answer
refuses_model why = says Refused (refused_model why)

-- the model file of a name is read: it is too long, or its text has a first fault, or the rest holds of its model
abbrev pub ReadsModel : List ℕ → How → (Parts → Reads → Answer → Type 0) → Reads → Answer → Type 0
ReadsModel name how Rest =
    ReadsFile name longest_model (refuses_model (codes "too long"))
    (λ bytes rs a. MatchOption (mps_fault bytes how) (Rest (model_of bytes how) rs a)
    (λ e. ReadsNoMore (λ b. b ≡ refuses_model (refusal_text e)) rs a))
