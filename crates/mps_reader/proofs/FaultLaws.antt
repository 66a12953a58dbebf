-- First faults of lists that are put together.
use Rattle.std.specs.Prelude.{◌≡◌, ℕ, true, if◌then◌else◌, not, flat_map, List, [], ◌∷◌, ◌++◌, Option, Some, None, Result, Ok, Err, drop}
use Rattle.std.specs.Prelude.{map, length, string_bytes, ◌<◌, ◌+◌}
use Rattle.std.proofs.Common.{refl, ap, sym, ◌∙◌, subst, String, Global, get_or, arith}
use Rattle.std.specs.Option.{is_none}
use Rattle.ip_defs.specs.Lists.{first_of, when}
use Rattle.mps_defs.specs.Records.{Line, lines_of, objective, column_names}
use Rattle.std.specs.Str.{is_utf8}
use Rattle.mps_defs.specs.Faults.{ReadMeets}
use Rattle.ip_defs.specs.declared.programs.Parts.{Parts}
use Rattle.mps_reader.specs.Internal.DraftModels.{IsFinished}
use Rattle.mps_defs.specs.TextModels.{model_from}
use Rattle.mps_defs.specs.declared.reading.How.{How}
use Rattle.mps_defs.specs.declared.reading.MpsError.{MpsError}
use Rattle.mps_defs.specs.declared.reading.MpsError.TheVariants as Out
use Rattle.mps_defs.specs.Faults.{IsFirst, all_line_faults, bound_missing, continuous_faults, faults_of_lines, is_ended, limit_faults}
use Rattle.mps_defs.specs.Faults.{upper_faults}
use Rattle.mps_reader.specs.Internal.Drafted.{AnswersFaults, column_faults}
use Rattle.mps_reader.specs.declared.draft.ColumnDraft.{ColumnDraft}
use Rattle.mps_reader.proofs.ModelListLaws.{drop_at, drop_mapped}

-- where there is no fault, an error is that of memory
pub from_none : (e : MpsError) → IsFirst None e → (o : Option MpsError) → IsFirst o e
from_none Out.Memory h o = tt
from_none e h o = absurd cc

-- the first fault of a list is that of a longer one
pub first_here : (here rest : List MpsError) (e : MpsError) → IsFirst (first_of here) e → IsFirst (first_of (here ++ rest)) e
first_here [] rest e h = from_none e h (first_of rest)
first_here (x ∷ xs) rest e h = h

-- where a list has no fault, the first is that of the others
pub first_later : (here rest : List MpsError) → first_of here ≡ None → first_of (here ++ rest) ≡ first_of rest
first_later [] rest e = refl
first_later (x ∷ xs) rest e = absurd cc

-- the faults of columns from one on
pub faults_at : (f : List ℕ → ColumnDraft → List MpsError) (names others : List (List ℕ)) (cs later : List ColumnDraft) (name : List ℕ)
    (c : ColumnDraft)
    → names ≡ name ∷ others → cs ≡ c ∷ later → column_faults f names cs ≡ f name c ++ column_faults f others later
faults_at f names others cs later name c named is = ap (λ ns. column_faults f ns cs) named ∙ ap (column_faults f (name ∷ others)) is

-- so for the names of a table and its columns from a number on
faults_from : (f : List ℕ → ColumnDraft → List MpsError) (keys : List (String Global)) (cs : List ColumnDraft) (j : ℕ)
    (key : String Global)
    (none : ColumnDraft) → length keys ≡ length cs → j < length cs → key ≡ get_or keys j key
    → column_faults f (drop j (map string_bytes keys)) (drop j cs)
    ≡ f (string_bytes key) (get_or cs j none) ++ column_faults f (drop (j + 1) (map string_bytes keys)) (drop (j + 1) cs)
faults_from f keys cs j key none same within at =
    let names = map string_bytes keys in
    faults_at f (drop j names) (drop (j + 1) names) (drop j cs) (drop (j + 1) cs) (string_bytes key) (get_or cs j none)
    (drop_mapped string_bytes keys j key (omega (arith, same, within)) at) (drop_at cs j none within)

-- where its column has none, they are those from the next number on; else the first is that of its column
pub column_clean : (f : List ℕ → ColumnDraft → List MpsError) (keys : List (String Global)) (cs : List ColumnDraft) (j : ℕ)
    (key : String Global) (none : ColumnDraft) → length keys ≡ length cs → j < length cs → key ≡ get_or keys j key
    → first_of (f (string_bytes key) (get_or cs j none)) ≡ None
    → first_of (column_faults f (drop j (map string_bytes keys)) (drop j cs))
    ≡ first_of (column_faults f (drop (j + 1) (map string_bytes keys)) (drop (j + 1) cs))
column_clean f keys cs j key none same within at clean =
    ap first_of (faults_from f keys cs j key none same within at) ∙ first_later (f (string_bytes key) (get_or cs j none)) _ clean

pub column_faulty : (f : List ℕ → ColumnDraft → List MpsError) (keys : List (String Global)) (cs : List ColumnDraft) (j : ℕ)
    (key : String Global) (none : ColumnDraft) (e : MpsError) → length keys ≡ length cs → j < length cs → key ≡ get_or keys j key
    → IsFirst (first_of (f (string_bytes key) (get_or cs j none))) e
    → IsFirst (first_of (column_faults f (drop j (map string_bytes keys)) (drop j cs))) e
column_faulty f keys cs j key none e same within at faulty =
    subst (λ fs. IsFirst (first_of fs) e) (sym (faults_from f keys cs j key none same within at))
    (first_here (f (string_bytes key) (get_or cs j none)) _ e faulty)

-- an answer to the faults after a list without one
pub answers_later : (here rest : List MpsError) (r : Result (Unit {0}) MpsError) → first_of here ≡ None → AnswersFaults rest r
    → AnswersFaults (here ++ rest) r
answers_later here rest (Ok done) none h = first_later here rest none ∙ h
answers_later here rest (Err e) none h = subst (λ o. IsFirst o e) (sym (first_later here rest none)) h

-- the first fault is an answer, and so is being out of memory
pub first_is : (o : Option MpsError) (e : MpsError) → o ≡ Some e → IsFirst o e
first_is o Out.Memory h = tt
first_is o e h = h

-- the first fault of the lines is that of a text
pub line_first : (ls : List Line) (how : How) (e : MpsError) → IsFirst (first_of (all_line_faults ls)) e
    → IsFirst (first_of (faults_of_lines ls how)) e
line_first ls how e h =
    let a = all_line_faults ls in
    let b = when (not (is_ended ls)) Out.NoEnd in
    let c = when (is_none (objective ls)) Out.NoObjective in
    let d = flat_map (continuous_faults ls) (column_names ls) in
    let f = flat_map (bound_missing ls how) (column_names ls) in
    let g = flat_map (upper_faults ls) (column_names ls) in
    first_here (a ++ b ++ c ++ d ++ f ++ g) (limit_faults (model_from ls how)) e
    (first_here (a ++ b ++ c ++ d ++ f) g e
    (first_here (a ++ b ++ c ++ d) f e (first_here (a ++ b ++ c) d e (first_here (a ++ b) c e (first_here a b e h)))))

-- what the lines of a text in UTF-8 answer is what the text answers
pub read_model : (text : List ℕ) (how : How) (result : Result Parts MpsError) → is_utf8 text ≡ true → IsFinished (lines_of text) how result
    → ReadMeets text how result
read_model text how (Ok m) good h =
    (ap (λ t. if t then first_of (faults_of_lines (lines_of text) how) else Some Out.NotUtf8) good ∙ h.0, h.1)
read_model text how (Err e) good h =
    subst (λ t. IsFirst (if t then first_of (faults_of_lines (lines_of text) how) else Some Out.NotUtf8) e) (sym good) h

-- and so is the first fault of its lines
pub read_fault : (text : List ℕ) (how : How) (e : MpsError) → is_utf8 text ≡ true → IsFirst (first_of (all_line_faults (lines_of text))) e
    → ReadMeets text how (Err e)
read_fault text how e good h =
    subst (λ t. IsFirst (if t then first_of (faults_of_lines (lines_of text) how) else Some Out.NotUtf8) e) (sym good)
    (line_first (lines_of text) how e h)
