-- A canonical text has no fault where it is UTF-8 and its lines have none.
use Rattle.std.specs.Prelude.{◌≡◌, true, not, if◌then◌else◌, [], ◌++◌, map, flat_map, None, Some}
use Rattle.std.specs.Option.{is_none}
use Rattle.std.specs.Str.{is_utf8}
use Rattle.std.proofs.Common.{ap, sym, ◌∙◌}
use Rattle.ip_defs.specs.Lists.{when, first_of}
use Rattle.ip_defs.specs.Limits.{limits_of}
use Rattle.mps_defs.specs.CanonicalText.{canonical_text}
use Rattle.mps_defs.specs.Records.{objective, column_names, lines_of}
use Rattle.mps_defs.specs.TextModels.{model_from}
use Rattle.mps_defs.specs.Faults.{all_line_faults, continuous_faults, bound_missing, upper_faults, limit_faults, faults_of_lines}
use Rattle.mps_defs.specs.Faults.{mps_fault}
use Rattle.mps_defs.specs.declared.reading.MpsError.TheVariants.{NotUtf8, NoObjective, NoEnd, Limit}
use Rattle.mps_defs.specs.declared.reading.How.{How}
use Rattle.ip_defs.specs.declared.programs.Column.{Column}
use Rattle.ip_defs.specs.declared.programs.Parts.{Parts}
use Rattle.text_laws.specs.ReadBack.{IsCanonical}
use Rattle.text_laws.proofs.CanonicalLaws.{program_lines}
use Rattle.text_laws.proofs.ReadableLaws.{program_text, canonical_lines_read}
use Rattle.text_laws.proofs.RecordReadLaws.{objective_read}
use Rattle.text_laws.proofs.NameReadLaws.{names_read}
use Rattle.text_laws.proofs.ModelReadLaws.{model_read}
use Rattle.text_laws.proofs.ContinuousLaws.{none_continuous}
use Rattle.ip_model.proofs.NoLimitLaws.{no_limits}
use Rattle.text_laws.proofs.FaultFreeLaws.{ended, flat_none, bounds_there, no_upper_faults}
use Rattle.std.proofs.lemmas.List.{append-nil}

-- what may be wrong is in the lines, or that a column is continuous
pub faults_left : (m : Parts) (how : How) → IsCanonical m how
    → faults_of_lines (program_lines m) how
    ≡ all_line_faults (program_lines m) ++ flat_map (continuous_faults (program_lines m)) (map (λ c. c.name) m.columns)
faults_left m how h =
    let ls = program_lines m in
    let text = program_text m h.printable h.limits in
    let names = names_read m text h.columns in
    let front = all_line_faults ls in
    let continuous = flat_map (continuous_faults ls) (map (λ (c : Column). c.name) m.columns) in
    let model : model_from ls how ≡ m = sym (ap (λ k. model_from k how) (canonical_lines_read m text)) ∙ model_read m how h in
    ap (λ t. front ++ when (not t) NoEnd ++ when (is_none (objective ls)) NoObjective ++ flat_map (continuous_faults ls)
    (column_names ls) ++ flat_map (bound_missing ls how) (column_names ls) ++ flat_map (upper_faults ls) (column_names ls) ++ limit_faults
    (model_from ls how)) (ended m)
    ∙ ap (λ o. front ++ [] ++ when (is_none o) NoObjective ++ flat_map (continuous_faults ls) (column_names ls)
    ++ flat_map (bound_missing ls how) (column_names ls) ++ flat_map (upper_faults ls) (column_names ls) ++ limit_faults
    (model_from ls how)) (objective_read m)
    ∙ ap (λ ns. front ++ [] ++ [] ++ flat_map (continuous_faults ls) ns ++ flat_map (bound_missing ls how) ns
    ++ flat_map (upper_faults ls) ns ++ limit_faults (model_from ls how)) names
    ∙ ap (λ k. front ++ [] ++ [] ++ continuous ++ k ++ flat_map (upper_faults ls) (map (λ (c : Column). c.name) m.columns) ++ limit_faults
    (model_from ls how)) (flat_none (bound_missing ls how) (λ (c : Column). c.name) m.columns
    (λ j c at. bounds_there m how j c h.columns at (h.limits.columns j c at)))
    ∙ ap (λ k. front ++ [] ++ [] ++ continuous ++ [] ++ k ++ limit_faults (model_from ls how))
    (flat_none (upper_faults ls) (λ (c : Column). c.name) m.columns (λ j c at. no_upper_faults m j c h.columns at))
    ∙ ap (λ k. front ++ [] ++ [] ++ continuous ++ [] ++ [] ++ map Limit k) (ap limits_of model ∙ no_limits m h.limits)
    ∙ append-nil (front ++ [] ++ [] ++ continuous ++ [] ++ [])
    ∙ append-nil (front ++ [] ++ [] ++ continuous ++ [])
    ∙ append-nil (front ++ [] ++ [] ++ continuous)
    ∙ ap (λ k. k ++ continuous) (append-nil (front ++ []) ∙ append-nil front)

-- so a canonical text has no fault where it is UTF-8 and its lines have none
pub fault_free : (m : Parts) (how : How) → IsCanonical m how → is_utf8 (canonical_text m) ≡ true → all_line_faults (program_lines m) ≡ []
    → mps_fault (canonical_text m) how ≡ None
fault_free m how h utf8 none =
    let text = program_text m h.printable h.limits in
    let integer : flat_map (continuous_faults (program_lines m)) (map (λ c. c.name) m.columns) ≡ [] =
    flat_none (continuous_faults (program_lines m)) (λ (c : Column). c.name) m.columns
    (λ j c at. none_continuous m j c text h.columns at) in
    ap (λ t. if t then first_of (faults_of_lines (lines_of (canonical_text m)) how) else Some NotUtf8) utf8
    ∙ ap (λ ls. first_of (faults_of_lines ls how)) (canonical_lines_read m text)
    ∙ ap first_of (faults_left m how h
    ∙ ap (λ k. k ++ flat_map (continuous_faults (program_lines m)) (map (λ (c : Column). c.name) m.columns)) none
    ∙ integer)
