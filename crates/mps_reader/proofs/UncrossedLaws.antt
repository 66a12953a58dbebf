-- No row of a model that is answered for a text is crossed.
use Rattle.std.specs.Prelude.{◌≡◌, ℕ, List, None, Result, Ok, Err, IfOk}
use Rattle.mps_defs.specs.Faults.{ReadMeets, model_of}
use Rattle.ip_defs.specs.Program.{is_crossed}
use Rattle.ip_defs.specs.declared.programs.Parts.{Parts}
use Rattle.mps_defs.specs.declared.reading.MpsError.{MpsError}
use Rattle.mps_defs.specs.declared.reading.How.{How}
use Rattle.ip_model.specs.Sizes.{first_crossed}
use Rattle.mps_defs.proofs.PlaceLaws.{no_place}
use Rattle.mps_defs.proofs.UncrossedLaws.{no_row_crossed}

pub answer_uncrossed : (text : List ℕ) (how : How) (o : Result Parts MpsError) → ReadMeets text how o → IfOk o (λ m. first_crossed m ≡ None)
answer_uncrossed text how (Ok m) h = rw h.1 (no_place is_crossed (model_of text how).rows (no_row_crossed text how))
answer_uncrossed text how (Err e) h = tt
