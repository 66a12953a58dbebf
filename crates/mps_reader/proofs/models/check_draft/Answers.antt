use Rattle.std.proofs.Common.{String, Global, sym, ap, ◌∙◌, ◌≡◌, ◌++◌, List, map, subst}
use Rattle.std.specs.Prelude.{string_bytes, None}
use Rattle.ip_defs.specs.Lists.{first_of}
use Rattle.mps_defs.specs.declared.reading.How.{How}
use Rattle.mps_defs.specs.declared.reading.MpsError.{MpsError}
use Rattle.mps_reader.specs.declared.draft.ColumnDraft.{ColumnDraft}
use Rattle.mps_reader.specs.declared.draft.Draft.{Draft}
use Rattle.mps_reader.specs.declared.column_rules.Rule.{Rule}
use Rattle.mps_reader.specs.declared.column_rules.Rule.TheVariants.{Integer, Bounded, NotNegative}
use Rattle.mps_defs.specs.Faults.{IsFirst}
use Rattle.mps_reader.specs.Internal.Drafted.{AnswersFaults, asked, column_faults, drafted_column_names}
use Rattle.mps_reader.proofs.FaultLaws.{first_here, first_later, answers_later}
use Rattle.mps_reader.proofs.models.check_draft.Goals as goal

-- the faults of a draft by a rule
abbrev faults_by : How → Draft → Rule → List MpsError
faults_by how d rule = column_faults (asked rule how) (drafted_column_names d) d.columns.columns.items

same_faults : (how : How) (d : Draft) (keys : List (String Global)) (columns : List ColumnDraft) → keys ≡ d.columns.names.keys
    → columns ≡ d.columns.columns.items → (rule : Rule)
    → column_faults (asked rule how) (map string_bytes keys) columns ≡ faults_by how d rule
same_faults how d keys columns names items rule =
    ap (λ ks. column_faults (asked rule how) (map string_bytes ks) columns) names
    ∙ ap (column_faults (asked rule how) (drafted_column_names d)) items

pub returns-in-Err : goal.returns-in-Err
returns-in-Err c =
    let d = c.args.draft.now in
    let faults = faults_by c.args.how d in
    let same = same_faults c.args.how d c.as_slice-names.result.now c.as_slice-columns.result.now c.as_slice-names.ensures.keys
    c.as_slice-columns.ensures.value in
    let here = subst (λ l. IsFirst (first_of l) c.in-Err.error) (same Integer) c.in-Err.ensures in
    first_here (faults Integer ++ faults Bounded) (faults NotNegative) c.in-Err.error
    (first_here (faults Integer) (faults Bounded) c.in-Err.error here)

pub returns-in-Err-check_columns : goal.returns-in-Err-check_columns
returns-in-Err-check_columns c =
    let d = c.args.draft.now in
    let e = c.in-Err-check_columns.error in
    let faults = faults_by c.args.how d in
    let same = same_faults c.args.how d c.as_slice-names.result.now c.as_slice-columns.result.now c.as_slice-names.ensures.keys
    c.as_slice-columns.ensures.value in
    let none : first_of (faults Integer) ≡ None = ap first_of (sym (same Integer)) ∙ c.in-Ok.ensures in
    let here = subst (λ l. IsFirst (first_of l) e) (same Bounded) c.in-Err-check_columns.ensures in
    first_here (faults Integer ++ faults Bounded) (faults NotNegative) e
    (subst (λ o. IsFirst o e) (sym (first_later (faults Integer) (faults Bounded) none)) here)

pub returns : goal.returns
returns c =
    let d = c.args.draft.now in
    let faults = faults_by c.args.how d in
    let same = same_faults c.args.how d c.as_slice-names.result.now c.as_slice-columns.result.now c.as_slice-names.ensures.keys
    c.as_slice-columns.ensures.value in
    let none : first_of (faults Integer) ≡ None = ap first_of (sym (same Integer)) ∙ c.in-Ok.ensures in
    let also : first_of (faults Bounded) ≡ None = ap first_of (sym (same Bounded)) ∙ c.in-Ok-check_columns.ensures in
    answers_later (faults Integer ++ faults Bounded) (faults NotNegative) c.check_columns-3.result
    (first_later (faults Integer) (faults Bounded) none ∙ also)
    (subst (λ l. AnswersFaults l c.check_columns-3.result) (same NotNegative) c.check_columns-3.ensures)
