-- The table of rows after an entry.
use Rattle.std.specs.Prelude.{◌≡◌, ℕ, zero, suc, ◌==◌, ◌≤◌, nat_lt, Bool, true, false, not, ◌&&◌, List, [], ◌∷◌, ◌++◌, length, map}
use Rattle.std.specs.Prelude.{position, slice_get, slice_set, None, Some, bytes_eq, string_bytes, codes, unwrap_or, Result, refl}
use Rattle.std.specs.List.{list_any}
use Rattle.std.specs.Vec.{with_item}
use Rattle.std.proofs.Common.{arith, ap, sym, ◌∙◌, subst, ◌-◌, ◌<◌, get_or, take, drop, Bor}
use Rattle.std.proofs.lemmas.Bool.{eqb-true, eqb-false, ltb-true, ltb-false, false_from_ne_true}
use Rattle.std.proofs.lemmas.Option.{get_or_from_slice_get, slice_get-get_or, slice_get_past}
use Rattle.std.proofs.Math.Seq.{map-set_same, take-length}
use Rattle.ip_defs.specs.Lists.{first_of, when}
use Rattle.mps_defs.specs.Lists.{is_among}
use Rattle.mps_defs.specs.Numbers.{number_of, is_number, decimals_of}
use Rattle.mps_defs.specs.Records.{Line, Entry, is_free, row_kind, row_name, row_lines, is_kept, entries_from, entry_of, row_names}
use Rattle.mps_defs.specs.Faults.{entry_faults, same_place}
use Rattle.mps_defs.specs.TextModels.{no_number, number_or_zero}
use Rattle.mps_defs.specs.declared.reading.Number.{Number}
use Rattle.mps_defs.specs.declared.reading.MpsError.{MpsError}
use Rattle.mps_defs.specs.declared.reading.MpsError.TheVariants as Out
use Rattle.mps_reader.specs.declared.draft.RowDraft.{RowDraft}
use Rattle.mps_reader.specs.declared.draft.RowTable.{RowTable}
use Rattle.mps_reader.specs.declared.entries.Owner.{Owner}
use Rattle.mps_reader.specs.Internal.Progress.{RowsStand, kind_word}
use Rattle.mps_reader.specs.Internal.Taking.{IsDone, Owns, IsPut, RowsHave, IsEntryTaken, AreEntriesTaken, owner_word, has_number}
use Rattle.mps_reader.specs.Internal.Taking.{counts_on, entry_faults_after}
use Rattle.mps_reader.proofs.CountLaws.{counts, is_at}
use Rattle.mps_reader.proofs.EntryLaws.{RowHas, has_same_place, idle_entry, other_row, own_row}
use Rattle.mps_reader.proofs.TakingLaws.{where_some, IsDone_map}
use Rattle.ip_defs.proofs.TextLaws.{text_same}
use Rattle.ip_defs.proofs.ListLaws.{none_append, none_when}
use Rattle.std.proofs.lemmas.List.{append_assoc}
use Rattle.mps_defs.proofs.ListLaws.{first_stays, get_map, get_from_map}
use Rattle.mps_defs.proofs.PlaceLaws.{position_found, known}
use Rattle.mps_reader.proofs.NameLaws.{distinct_from}

map_none : {A B : Type 0} (f : A → B) (xs : List A) (i : ℕ) → slice_get xs i ≡ None → slice_get (map f xs) i ≡ None
map_none f [] i h = refl
map_none f (y ∷ xs) zero h = absurd (cc h)
map_none f (y ∷ xs) (suc i) h = map_none f xs i h

get_set_other : {A : Type 0} (xs : List A) (i k : ℕ) (y : A) → (k ≡ i → ⊥) → slice_get (slice_set xs i y) k ≡ slice_get xs k
get_set_other [] i k y h = refl
get_set_other (x ∷ xs) zero zero y h = absurd (h refl)
get_set_other (x ∷ xs) zero (suc k) y h = refl
get_set_other (x ∷ xs) (suc i) zero y h = refl
get_set_other (x ∷ xs) (suc i) (suc k) y h = get_set_other xs i k y (λ e. h (ap suc e))

get_set_same : {A : Type 0} (xs : List A) (i : ℕ) (y z : A) → slice_get (slice_set xs i y) i ≡ Some z → y ≡ z
get_set_same [] i y z h = absurd (cc h)
get_set_same (x ∷ xs) zero y z h = cc h
get_set_same (x ∷ xs) (suc i) y z h = get_set_same xs i y z h

-- the line of a row that is found by its name
found_row : (ls : List Line) (t : RowTable) (row : List ℕ) (i : ℕ) → RowsStand ls t
    → position (bytes_eq row) (map string_bytes t.names.keys) ≡ Some i
    → (l : Line) × (slice_get (row_lines ls) i ≡ Some l) × (row_name l ≡ row)
found_row ls t row i rows at =
    get_from_map row_name (row_lines ls) i row
    (position_found row (row_names ls) i (ap (position (bytes_eq row)) (sym rows.names) ∙ at))

kind_is : (ls : List Line) (t : RowTable) (i : ℕ) (l : Line) (r : RowDraft) → RowsStand ls t → slice_get (row_lines ls) i ≡ Some l
    → slice_get t.rows.items i ≡ Some r → kind_word r.kind ≡ row_kind l
kind_is ls t i l r rows at there =
    let a = get_map (λ (k : RowDraft). kind_word k.kind) t.rows.items i r there in
    let b = get_map row_kind (row_lines ls) i l at in
    cc (sym a ∙ ap (λ ks. slice_get ks i) rows.kinds ∙ b)

-- the code's test on a row of the table
entry_counts : (ls : List Line) (owner : Owner) (t : RowTable) (i : ℕ) (r : RowDraft) (e : Entry) → RowsStand ls t → Owns ls owner e.owner
    → position (bytes_eq e.row) (map string_bytes t.names.keys) ≡ Some i → slice_get t.rows.items i ≡ Some r
    → counts_on owner (bytes_eq (kind_word r.kind) (codes "N")) (is_at t.objective i) ≡ is_kept (owner_word owner) ls e
entry_counts ls owner t i r e rows owns at there =
    let found = found_row ls t e.row i rows at in
    ap (λ k. counts_on owner (bytes_eq k (codes "N")) (is_at t.objective i)) (kind_is ls t i found.0 r rows found.1 there)
    ∙ ap (λ o. counts_on owner (is_free found.0) (is_at o i)) rows.objective
    ∙ counts ls owner i found.0 e owns (distinct_from (row_names ls) rows.apart) found.1 (sym found.2)

-- a row is replaced by one of its kind
rows_after : (ls : List Line) (t : RowTable) (i : ℕ) (r new : RowDraft) → RowsStand ls t → slice_get t.rows.items i ≡ Some r
    → new.kind ≡ r.kind
    → RowsStand ls (record { names = t.names; rows = with_item t.rows i new; objective = t.objective })
rows_after ls t i r new rows there kind = record {
  names = rows.names;
  kinds = map-set_same (λ (k : RowDraft). kind_word k.kind) t.rows.items i new r
      (ap kind_word (kind ∙ ap (λ (k : RowDraft). k.kind) (sym (get_or_from_slice_get t.rows.items i r r there))))
      ∙ rows.kinds;
  objective = rows.objective;
  apart = rows.apart;
}

-- one row gets an entry, and the others stay
table_after : (ls : List Line) (owner : Owner) (es : List Entry) (t : RowTable) (i : ℕ) (r new : RowDraft) (e : Entry)
    → RowsHave ls owner es t → position (bytes_eq e.row) (map string_bytes t.names.keys) ≡ Some i → slice_get t.rows.items i ≡ Some r
    → new.kind ≡ r.kind → (RowHas ls owner es e.row r → RowHas ls owner (es ++ e ∷ []) e.row new)
    → ((name : List ℕ) (k : RowDraft) → bytes_eq e.row name ≡ false → RowHas ls owner es name k → RowHas ls owner (es ++ e ∷ []) name k)
    → RowsHave ls owner (es ++ e ∷ []) (record { names = t.names; rows = with_item t.rows i new; objective = t.objective })
table_after ls owner es t i r new e have at there kind own others = record {
  rows = rows_after ls t i r new have.rows there kind;
  entries = λ k name row named get. by k name row named get (k == i) refl;
}
  where
    names : List (List ℕ)
    names = row_names ls

    named_here : position (bytes_eq e.row) names ≡ Some i
    named_here = ap (position (bytes_eq e.row)) (sym have.rows.names) ∙ at

    by : (k : ℕ) (name : List ℕ) (row : RowDraft) → slice_get names k ≡ Some name → slice_get (slice_set t.rows.items i new) k ≡ Some row
        → (b : Bool) → (k == i) ≡ b → RowHas ls owner (es ++ e ∷ []) name row
    by k name row named get true same =
        let here = eqb-true k i same in
        let is_new = get_set_same t.rows.items i new row (ap (slice_get (slice_set t.rows.items i new)) (sym here) ∙ get) in
        let is_row : e.row ≡ name = cc (sym (position_found e.row names i named_here) ∙ ap (slice_get names) (sym here) ∙ named) in
        subst (λ x. RowHas ls owner (es ++ e ∷ []) x row) is_row
        (subst (RowHas ls owner (es ++ e ∷ []) e.row) is_new (own (have.entries i e.row r (position_found e.row names i named_here) there)))
    by k name row named get false other =
        let away = eqb-false k i other in
        let apart =
        false_from_ne_true (bytes_eq e.row name)
        (λ h. away (cc (sym (have.rows.apart k name named)
        ∙ ap (λ x. position (bytes_eq x) names) (sym (text_same e.row name h))
        ∙ named_here))) in
        others name row apart (have.entries k name row named (sym (get_set_other t.rows.items i k new away) ∙ get))

-- ---- the faults of an entry

abbrev pub four : Bool → Bool → Bool → Bool → ℕ → List MpsError
four a b c d line = when a (Out.UnknownRow line) ++ when b (Out.Number line) ++ when c (Out.Digits line) ++ when d (Out.TwiceEntry line)

-- of a known row and a number
late_faults : (word : List ℕ) (ls : List Line) (es : List Entry) (e : Entry) (n : Number)
    → is_among e.row (row_names ls) ≡ true → number_of e.text ≡ Some n
    → entry_faults word ls es e
    ≡ four false false (is_kept word ls e && nat_lt 9 (decimals_of n)) (is_kept word ls e && list_any (same_place e) es) e.line
late_faults word ls es e n there is =
    let kept = is_kept word ls e in
    ap (λ a. four (not a) (not (is_number e.text)) (kept && nat_lt 9 (decimals_of (number_or_zero e.text)))
    (kept && list_any (same_place e) es) e.line) there
    ∙ ap (λ b. four false (not b) (kept && nat_lt 9 (decimals_of (number_or_zero e.text))) (kept && list_any (same_place e) es) e.line)
    (where_some (is_number e.text) _ n is)
    ∙ ap (λ o. four false false (kept && nat_lt 9 (decimals_of (unwrap_or o no_number))) (kept && list_any (same_place e) es) e.line) is

known_row : (ls : List Line) (t : RowTable) (row : List ℕ) (i : ℕ) → RowsStand ls t
    → position (bytes_eq row) (map string_bytes t.names.keys) ≡ Some i → is_among row (row_names ls) ≡ true
known_row ls t row i rows at = known row (row_names ls) i (ap (position (bytes_eq row)) (sym rows.names) ∙ at)

-- ---- the answers on an entry

-- its row or its number is wrong
pub not_read : (ls : List Line) (owner : Owner) (es : List Entry) (t : RowTable) (e : Entry) (x : MpsError) → RowsStand ls t
    → first_of (when (not (is_among e.row (map string_bytes t.names.keys))) (Out.UnknownRow e.line)
    ++ when (not (is_number e.text)) (Out.Number e.line))
    ≡ Some x
    → first_of (entry_faults (owner_word owner) ls es e) ≡ Some x
not_read ls owner es t e x rows first =
    let front : List MpsError =
    when (not (is_among e.row (row_names ls))) (Out.UnknownRow e.line) ++ when (not (is_number e.text))
    (Out.Number e.line) in
    let digits : List MpsError =
    when (is_kept (owner_word owner) ls e && nat_lt 9 (decimals_of (number_or_zero e.text))) (Out.Digits e.line) in
    let twice : List MpsError = when (is_kept (owner_word owner) ls e && list_any (same_place e) es) (Out.TwiceEntry e.line) in
    let here =
    ap (λ names. first_of (when (not (is_among e.row names)) (Out.UnknownRow e.line) ++ when (not (is_number e.text)) (Out.Number e.line)))
    (sym rows.names)
    ∙ first in
    let one = first_stays front digits x here ∙ here in
    first_stays (front ++ digits) twice x one ∙ one

-- it does not count
pub not_counted : (ls : List Line) (owner : Owner) (es : List Entry) (t : RowTable) (i : ℕ) (r : RowDraft) (e : Entry) (n : Number)
    → RowsHave ls owner es t → Owns ls owner e.owner → position (bytes_eq e.row) (map string_bytes t.names.keys) ≡ Some i
    → slice_get t.rows.items i ≡ Some r → number_of e.text ≡ Some n
    → counts_on owner (bytes_eq (kind_word r.kind) (codes "N")) (is_at t.objective i) ≡ false
    → (entry_faults (owner_word owner) ls es e ≡ []) × RowsHave ls owner (es ++ e ∷ [])
    (record { names = t.names; rows = with_item t.rows i r; objective = t.objective })
not_counted ls owner es t i r e n have owns at there is idle =
    let kept = sym (entry_counts ls owner t i r e have.rows owns at there) ∙ idle in (
      late_faults (owner_word owner) ls es e n (known_row ls t e.row i have.rows at) is
          ∙ ap (λ k. four false false (k && nat_lt 9 (decimals_of n)) (k && list_any (same_place e) es) e.line) kept,
      table_after ls owner es t i r r e have at there refl (λ has. idle_entry ls owner es e.row r e kept has)
          (λ name k other has. idle_entry ls owner es name k e kept has),
    )

-- the row at a place, and whether an entry counts on it, from what the look-ups answer
pub row_at : (rows : List RowDraft) (i : ℕ) (r : RowDraft) → true ≡ nat_lt i (length rows) → r ≡ get_or rows i r
    → slice_get rows i ≡ Some r
row_at rows i r within is = slice_get-get_or rows i r (ltb-true i (length rows) (sym within)) ∙ ap Some (sym is)

pub counts_as : (owner : Owner) (free objective is_free is_objective t : Bool) → is_free ≡ free → is_objective ≡ objective
    → t ≡ counts_on owner is_free is_objective → counts_on owner free objective ≡ t
counts_as owner free objective is_free is_objective t f o e =
    ap (λ b. counts_on owner b objective) (sym f) ∙ ap (counts_on owner is_free) (sym o) ∙ sym e

-- it counts, and is written where it has no fault
pub counted_entry : (ls : List Line) (owner : Owner) (es : List Entry) (t : RowTable) (i : ℕ) (r new : RowDraft) (e : Entry) (n : Number)
    (result : Result (Unit {0}) MpsError)
    → RowsHave ls owner es t → Owns ls owner e.owner
    → position (bytes_eq e.row) (map string_bytes t.names.keys) ≡ Some i → slice_get t.rows.items i ≡ Some r → number_of e.text ≡ Some n
    → counts_on owner (bytes_eq (kind_word r.kind) (codes "N")) (is_at t.objective i) ≡ true
    → IsDone (when (nat_lt 9 (decimals_of n)) (Out.Digits e.line) ++ when (has_number owner r) (Out.TwiceEntry e.line))
    (λ _. IsPut owner n r new) result
    → IsEntryTaken ls owner es (record { names = t.names; rows = with_item t.rows i new; objective = t.objective }) e result
counted_entry ls owner es t i r new e n result have owns at there is counts done =
    IsDone_map _ (entry_faults (owner_word owner) ls es e) (λ _. IsPut owner n r new) (λ _. RowsHave ls owner (es
    ++ e ∷ []) (record { names = t.names; rows = with_item t.rows i new; objective = t.objective })) result
    (sym same) written done
  where
    kept : is_kept (owner_word owner) ls e ≡ true
    kept = sym (entry_counts ls owner t i r e have.rows owns at there) ∙ counts

    names : List (List ℕ)
    names = row_names ls

    has : RowHas ls owner es e.row r
    has = have.entries i e.row r (position_found e.row names i (ap (position (bytes_eq e.row)) (sym have.rows.names) ∙ at)) there

    same : entry_faults (owner_word owner) ls es e
        ≡ when (nat_lt 9 (decimals_of n)) (Out.Digits e.line) ++ when (has_number owner r) (Out.TwiceEntry e.line)
    same =
        late_faults (owner_word owner) ls es e n (known_row ls t e.row i have.rows at) is
        ∙ ap (λ k. four false false (k && nat_lt 9 (decimals_of n)) (k && list_any (same_place e) es) e.line) kept
        ∙ ap (λ b. four false false (nat_lt 9 (decimals_of n)) b e.line) (sym (has_same_place ls owner es r e owns kept has))

    written : (x : Unit {0}) → when (nat_lt 9 (decimals_of n)) (Out.Digits e.line) ++ when (has_number owner r) (Out.TwiceEntry e.line) ≡ []
        → IsPut owner n r new
        → RowsHave ls owner (es ++ e ∷ []) (record { names = t.names; rows = with_item t.rows i new; objective = t.objective })
    written x none put =
        let parts =
        none_append (when (nat_lt 9 (decimals_of n)) (Out.Digits e.line)) (when (has_number owner r) (Out.TwiceEntry e.line)) none in
        let few : decimals_of n ≤ 9 =
        omega (arith, ltb-false 9 (decimals_of n) (none_when (nat_lt 9 (decimals_of n)) (Out.Digits e.line) parts.0)) in
        let fresh = none_when (has_number owner r) (Out.TwiceEntry e.line) parts.1 in
        table_after ls owner es t i r new e have at there put.kind
        (λ before. own_row ls owner es r new e n owns kept fresh (ap (λ o. unwrap_or o no_number) is) few put before)
        (λ name k other before. other_row ls owner es name k e kept other before)

-- a row that is found by its name is in the table
pub row_there : (ls : List Line) (t : RowTable) (row : List ℕ) (i : ℕ) → RowsStand ls t
    → position (bytes_eq row) (map string_bytes t.names.keys) ≡ Some i → length t.rows.items ≤ i → ⊥
row_there ls t row i rows at past =
    let found = found_row ls t row i rows at in
    let some = get_map row_kind (row_lines ls) i found.0 found.1 in
    let none = map_none (λ (k : RowDraft). kind_word k.kind) t.rows.items i (slice_get_past t.rows.items i past) in
    cc (sym none ∙ ap (λ ks. slice_get ks i) rows.kinds ∙ some)

-- ---- the entries of a line, one by one

abbrev pub words : List (Bor (List ℕ)) → List (List ℕ)
words fields = map (λ f. f.now) fields

pub one_entry : (line : ℕ) (name : List ℕ) (fields : List (Bor (List ℕ))) (d : Bor (List ℕ)) → 2 ≤ length fields
    → entries_from line name (words fields) ≡ entry_of line name (get_or fields 0 d).now (get_or fields 1 d).now ∷ entries_from line name
    (words (take (length fields - 2) (drop 2 fields)))
one_entry line name [] d h = absurd (omega arith)
one_entry line name (x ∷ []) d h = absurd (omega arith)
one_entry line name (x ∷ y ∷ rest) d h =
    let size : length (x ∷ y ∷ rest) - 2 ≡ length rest = omega arith in
    ap (λ l. entry_of line name x.now y.now ∷ entries_from line name (words l)) (sym (ap (λ n. take n rest) size ∙ take-length rest))

pub no_entry : (line : ℕ) (name : List ℕ) (fields : List (Bor (List ℕ))) → length fields < 2 → entries_from line name (words fields) ≡ []
no_entry line name [] h = refl
no_entry line name (x ∷ []) h = refl
no_entry line name (x ∷ y ∷ rest) h = absurd (omega arith)

pub go_on : (ls : List Line) (owner : Owner) (es more : List Entry) (e : Entry) (t : RowTable) (r : Result (Unit {0}) MpsError)
    → entry_faults (owner_word owner) ls es e ≡ []
    → AreEntriesTaken ls owner (es ++ e ∷ []) t more r → AreEntriesTaken ls owner es t (e ∷ more) r
go_on ls owner es more e t r none done =
    IsDone_map (entry_faults_after ls owner (es ++ e ∷ []) more) (entry_faults_after ls owner es (e ∷ more))
    (λ _. RowsHave ls owner ((es ++ e ∷ []) ++ more) t) (λ _. RowsHave ls owner (es ++ (e ∷ more)) t) r
    (ap (λ l. l ++ entry_faults_after ls owner (es ++ e ∷ []) more) (sym none))
    (λ x _ have. subst (λ l. RowsHave ls owner l t) (append_assoc es (e ∷ []) more) have)
    done
