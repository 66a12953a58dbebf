-- The model of a draft whose numbers are clamped, and the limits that it exceeds.
use Rattle.std.specs.Prelude.{◌≡◌, ℕ, suc, ◌<◌, List, [], ◌∷◌, length, map, Some, Result, Ok, Err}
use Rattle.std.proofs.Common.{refl, arith, ap, sym, ◌∙◌, subst}
use Rattle.std.proofs.lemmas.Bool.{lt-ltb}
use Rattle.ip_model.proofs.LimitLaws.{within_limits}
use Rattle.ip_defs.specs.Lists.{first_of}
use Rattle.ip_defs.specs.Limits.{limits_of, IsWellShaped}
use Rattle.mps_defs.specs.Faults.{limit_faults}
use Rattle.ip_defs.specs.declared.limits.What.TheVariants.{Columns}
use Rattle.ip_defs.specs.declared.programs.Parts.{Parts}
use Rattle.mps_defs.specs.declared.reading.How.{How}
use Rattle.mps_defs.specs.declared.reading.Number.{Number}
use Rattle.mps_defs.specs.declared.reading.MpsError.{MpsError}
use Rattle.mps_defs.specs.declared.reading.MpsError.TheVariants as Out
use Rattle.mps_reader.specs.declared.draft.ColumnDraft.{ColumnDraft}
use Rattle.mps_reader.specs.Internal.Clamps.{clamped_parts}
use Rattle.mps_reader.specs.Internal.Drafted.{drafted_columns, cost_rest}
use Rattle.mps_reader.specs.Internal.DraftModels.{IsMade, IsLimited}
use Rattle.mps_reader.proofs.ClampLaws.{limits_same, clamped_same}
use Rattle.mps_reader.proofs.FaultLaws.{first_is}

-- there are as many columns as drafts of columns
pub count_columns : (how : How) (k j : ℕ) (costs : List (ℕ × Number)) (names : List (List ℕ)) (cs : List ColumnDraft)
    → length names ≡ length cs → length (drafted_columns how k j costs names cs) ≡ length cs
count_columns how k j costs [] [] e = refl
count_columns how k j costs [] (c ∷ cs) e = absurd (omega arith)
count_columns how k j costs (name ∷ names) [] e = absurd (omega arith)
count_columns how k j costs (name ∷ names) (c ∷ cs) e = ap suc (count_columns how k (suc j) (cost_rest j costs) names cs (omega arith))

-- too many columns are the first limit that is exceeded
pub many_columns : (m : Parts) → 4096 < length m.columns
    → first_of (limit_faults m) ≡ Some (Out.Limit (record { what = Columns; index = 0 }))
many_columns m many = rw (lt-ltb 4096 (length m.columns) many) refl

-- what is made of the clamped parts is what the parts themselves give
pub limited_is : (m parts : Parts) (result : Result Parts MpsError) → parts ≡ clamped_parts m → IsWellShaped parts → IsMade parts result
    → IsLimited m result
limited_is m parts (Ok made) is shaped h =
    let none : limits_of (clamped_parts m) ≡ [] = ap limits_of (sym is) ∙ h.0 in
    let stays = clamped_same m (within_limits (clamped_parts m) (subst IsWellShaped is shaped) none) in
    (sym (limits_same m) ∙ none, h.1 ∙ is ∙ stays)
limited_is m parts (Err e) is shaped h =
    first_is (first_of (limit_faults m)) e
    (ap (λ l. first_of (map Out.Limit l)) (sym (limits_same m)) ∙ ap (λ p. first_of (limit_faults p)) (sym is) ∙ h)
