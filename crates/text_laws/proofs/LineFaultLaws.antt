-- No fault is found in the lines of a section whose rows are known, whose amounts are numbers and whose places are fresh.
use Rattle.std.specs.Prelude.{◌≡◌, ℕ, suc, ◌≤◌, ◌<◌, ◌^◌, nat_lt, nat_le, Bool, true, false, ◌&&◌, ◌||◌, not, cond, if◌then◌else◌, List}
use Rattle.std.specs.Prelude.{[]}
use Rattle.std.specs.Prelude.{◌∷◌, ◌++◌, map, filter, flat_map, bytes_eq, codes, ℤ}
use Rattle.std.specs.List.{list_any}
use Rattle.std.specs.Fmt.{signed_decimal}
use Rattle.std.specs.Option.{option_map_or, is_none}
use Rattle.std.specs.Int.RustNames.{unsigned_abs}
use Rattle.std.proofs.Common.{refl, ap, sym, ◌∙◌, arith}
use Rattle.std.proofs.lemmas.Bool.{le-ltb}
use Rattle.mps_defs.specs.Lists.{is_among, last_of, with_earlier, AreDistinct}
use Rattle.ip_defs.specs.Lists.{when, Each}
use Rattle.mps_defs.specs.Numbers.{decimal_text, decimals_of, is_number, least_decimals, has_decimals}
use Rattle.mps_defs.specs.CanonicalText.{Written, pair, kind_text, is_equation, is_from_below}
use Rattle.mps_defs.specs.Records.{Line, Entry, items_of, words_of, row_name, is_marker, in_force, column_name, has_column, entries_of}
use Rattle.mps_defs.specs.Records.{entries_from, all_entries, is_kept, opening, row_names, item, entry_of}
use Rattle.mps_defs.specs.Faults.{line_faults, row_faults, column_faults, set_faults, bound_faults, marker_faults, pair_faults}
use Rattle.mps_defs.specs.Faults.{entry_faults, is_split, same_place, may_come, section_place, faults_after, is_last_column}
use Rattle.mps_defs.specs.declared.reading.MpsError.TheVariants.{SectionOrder, FieldCount, RowKind, TwiceRow, UnknownRow, SplitColumn}
use Rattle.mps_defs.specs.declared.reading.MpsError.TheVariants.{TwiceEntry, Number, Marker, BoundKind, UnknownColumn, Digits}
use Rattle.ip_defs.specs.declared.programs.Column.{Column}
use Rattle.ip_defs.specs.declared.programs.Row.{Row}
use Rattle.text_laws.proofs.WrittenLaws.{lines_from}
use Rattle.text_laws.proofs.NumberTextLaws.{decimal_text_read, decimal_text_decimals, signed_decimal_read}
use Rattle.text_laws.proofs.ScaleLaws.{least_within}
use Rattle.text_laws.proofs.SectionLaws.{names_of}
use Rattle.text_laws.proofs.EntryReadLaws.{BareEntry, bare, listed}
use Rattle.text_laws.proofs.NameReadLaws.{owners, not_among_more}
use Rattle.text_laws.proofs.BoundReadLaws.{two_bounds}
use Rattle.text_laws.proofs.EachLaws.{EachAfter}
use Rattle.text_laws.proofs.FreshLaws.{IsFresh, IsNew, is_said, is_parted}
use Rattle.text_laws.proofs.PriorLaws.{line_faultless}
use Rattle.ip_defs.proofs.BoolLaws.{left_false, right_false}
use Rattle.std.proofs.lemmas.List.{append-nil, map-append}
use Rattle.std.proofs.lemmas.Grind.{flat_map-append}
use Rattle.mps_defs.proofs.ListLaws.{last_of-add}
use Rattle.mps_defs.proofs.ColumnLaws.{names_on_lines-append}
use Rattle.ip_defs.proofs.TextLaws.{text_self}
use Rattle.mps_defs.proofs.PlaceLaws.{apart_turned}
use Rattle.std.proofs.Math.Bool.{and-false}
use Rattle.mps_defs.proofs.LineLaws.{items_of-append, words_stay, rows_stay, items_stay}
use Rattle.mps_defs.proofs.FaultLaws.{opening_right}
use Rattle.mps_defs.specs.TextModels.{number_or_zero}

-- ---- what a line adds

-- ROWS came
abbrev pub RowsCame : List Line → Type 0
RowsCame before = is_among (codes "ROWS") (words_of before) ≡ true

pub still_came : (before : List Line) (n : ℕ) (word : List ℕ) (fs : List (List ℕ)) → RowsCame before
    → RowsCame (before ++ item word n fs ∷ [])
still_came before n word fs h = ap (is_among (codes "ROWS")) (words_stay before (item word n fs) refl) ∙ h

pub same_rows : (before : List Line) (n : ℕ) (word : List ℕ) (fs : List (List ℕ)) → bytes_eq word (codes "ROWS") ≡ false
    → row_names (before ++ item word n fs ∷ []) ≡ row_names before
same_rows before n word fs other =
    ap (map row_name) (rows_stay before (item word n fs) (ap (λ t. cond t (item word n fs ∷ []) []) other))

-- the entries of a section, without their line numbers
abbrev pub bare_in : List ℕ → List Line → List BareEntry
bare_in word ls = map bare (all_entries word ls)

bare_more : (word : List ℕ) (before : List Line) (l : Line) → (l.is_item && bytes_eq l.section word) ≡ true
    → bare_in word (before ++ l ∷ []) ≡ bare_in word before ++ map bare (entries_of l)
bare_more word before l own =
    ap (λ k. map bare (flat_map entries_of k))
    (items_of-append word before (l ∷ []) ∙ ap (λ t. items_of word before ++ cond t (l ∷ []) []) own)
    ∙ ap (map bare) (flat_map-append entries_of (items_of word before) (l ∷ [])
    ∙ ap (λ k. all_entries word before ++ k) (append-nil (entries_of l)))
    ∙ map-append bare (all_entries word before) (entries_of l)

-- ---- one entry

-- a text is a number of at most nine decimals
pub record IsAmount (text : List ℕ) : Type 0 where
  pub number : is_number text ≡ true
  pub decimals : nat_lt 9 (decimals_of (number_or_zero text)) ≡ false

pub amount_of : (z : ℤ) (k : ℕ) → unsigned_abs z < 2 ^ 64 → k ≤ 9 → IsAmount (decimal_text z k)
amount_of z k small most =
    let within = least_within (has_decimals (unsigned_abs z) k) 0 k in
    record {
      number = (decimal_text_read z k small most).0;
      decimals = ap (nat_lt 9) (decimal_text_decimals z k small most)
          ∙ le-ltb 9 (least_decimals (unsigned_abs z) k) (omega (arith, within));
    }

-- a line of three fields whose second is a row that is known, and no marker, and whose third is an amount
abbrev pub IsEntry : List (List ℕ) → Written → Type 0
IsEntry rows (true, a ∷ b ∷ c ∷ []) = (bytes_eq b (codes "'MARKER'") ≡ false) × (is_among b rows ≡ true) × IsAmount c
IsEntry rows (true, a ∷ b ∷ c ∷ d ∷ fs) = ⊥
IsEntry rows (true, a ∷ b ∷ []) = ⊥
IsEntry rows (true, a ∷ []) = ⊥
IsEntry rows (true, []) = ⊥
IsEntry rows (false, fs) = ⊥

said_of : (e : Entry) (es : List Entry) → list_any (same_place e) es ≡ is_said e.owner e.row (map bare es)
said_of e [] = refl
said_of e (x ∷ xs) = ap (λ t. same_place e x || t) (said_of e xs)

entry_faultless : (word : List ℕ) (ls : List Line) (prior : List Entry) (e : Entry) → is_among e.row (row_names ls) ≡ true → IsAmount e.text
    → is_said e.owner e.row (map bare prior) ≡ false → entry_faults word ls prior e ≡ []
entry_faultless word ls prior e known amount fresh =
    ap (λ t. when (not t) (UnknownRow e.line) ++ when (not (is_number e.text)) (Number e.line)
    ++ when (is_kept word ls e && nat_lt 9 (decimals_of (number_or_zero e.text))) (Digits e.line)
    ++ when (is_kept word ls e && list_any (same_place e) prior) (TwiceEntry e.line)) known
    ∙ ap (λ t. when (not t) (Number e.line) ++ when (is_kept word ls e && nat_lt 9 (decimals_of (number_or_zero e.text)))
    (Digits e.line)
    ++ when (is_kept word ls e && list_any (same_place e) prior) (TwiceEntry e.line)) amount.number
    ∙ ap (λ t. when (is_kept word ls e && t) (Digits e.line) ++ when (is_kept word ls e && list_any (same_place e) prior)
    (TwiceEntry e.line)) amount.decimals
    ∙ ap (λ t. when t (Digits e.line) ++ when (is_kept word ls e && list_any (same_place e) prior) (TwiceEntry e.line))
    (and-false (is_kept word ls e))
    ∙ ap (λ t. when (is_kept word ls e && t) (TwiceEntry e.line)) (said_of e prior ∙ fresh)
    ∙ ap (λ t. when t (TwiceEntry e.line)) (and-false (is_kept word ls e))

-- a line of one entry
pair_faultless : (before : List Line) (l : Line) (e : Entry) → entries_of l ≡ e ∷ [] → is_among e.row (row_names (before ++ l ∷ [])) ≡ true
    → IsAmount e.text → is_said e.owner e.row (bare_in l.section before) ≡ false → pair_faults before l ≡ []
pair_faultless before l e one known amount fresh =
    ap (λ es. flat_map (λ p. entry_faults l.section (before ++ l ∷ []) (all_entries l.section before ++ p.0) p.1) (with_earlier es)) one
    ∙ append-nil (entry_faults l.section (before ++ l ∷ []) (all_entries l.section before ++ []) e)
    ∙ entry_faultless l.section (before ++ l ∷ []) (all_entries l.section before ++ []) e known amount
    (ap (λ es. is_said e.owner e.row (map bare es)) (append-nil (all_entries l.section before)) ∙ fresh)

-- ---- RHS and RANGES

set_entry : (n : ℕ) (word a b c : List ℕ) → bytes_eq word (codes "COLUMNS") ≡ false
    → entries_of (item word n (a ∷ b ∷ c ∷ [])) ≡ entry_of n a b c ∷ []
set_entry n word a b c other =
    ap (λ t. if t then (if is_marker (item word n (a ∷ b ∷ c ∷ [])) then [] else entries_from n a
    (b ∷ c ∷ [])) else entry_of n a b c ∷ []) other

-- the section is RHS or RANGES
pub record IsSetWord (word : List ℕ) : Type 0 where
  pub no_rows : bytes_eq word (codes "ROWS") ≡ false
  pub no_columns : bytes_eq word (codes "COLUMNS") ≡ false
  pub no_bounds : bytes_eq word (codes "BOUNDS") ≡ false

set_line_faultless : (before : List Line) (n : ℕ) (word a b c : List ℕ) → IsSetWord word → RowsCame before
    → pair_faults before (item word n (a ∷ b ∷ c ∷ [])) ≡ [] → line_faults before (item word n (a ∷ b ∷ c ∷ [])) ≡ []
set_line_faultless before n word a b c w came pairs =
    let l = item word n (a ∷ b ∷ c ∷ []) in
    ap (λ t. when (not t) (SectionOrder n)
    ++ (if bytes_eq word (codes "ROWS") then row_faults before l else
    (if bytes_eq word (codes "COLUMNS") then column_faults before l else
    (if bytes_eq word (codes "BOUNDS") then bound_faults before l else set_faults before l)))) came
    ∙ ap (λ t. if t then row_faults before l else
    (if bytes_eq word (codes "COLUMNS") then column_faults before l else
    (if bytes_eq word (codes "BOUNDS") then bound_faults before l else set_faults before l))) w.no_rows
    ∙ ap (λ t. if t then column_faults before l else
    (if bytes_eq word (codes "BOUNDS") then bound_faults before l else set_faults before l)) w.no_columns
    ∙ ap (λ t. if t then bound_faults before l else set_faults before l) w.no_bounds
    ∙ pairs

pub sets_faultless : (word : List ℕ) → IsSetWord word
    → (rows : List (List ℕ)) (before : List Line) (n : ℕ) (ds : List Written) (seen : List BareEntry) → RowsCame before
    → row_names before ≡ rows
    → bare_in word before ≡ seen
    → Each (IsEntry rows) ds → EachAfter IsFresh seen (flat_map listed ds) → faults_after before (lines_from n word ds) ≡ []
sets_faultless word w rows before n [] seen came known is all fresh = refl
sets_faultless word w rows before n ((true, a ∷ b ∷ c ∷ []) ∷ ds) seen came known is all fresh =
    let l = item word n (a ∷ b ∷ c ∷ []) in
    let rows_same = same_rows before n word (a ∷ b ∷ c ∷ []) w.no_rows ∙ known in
    let one = set_entry n word a b c w.no_columns in
    line_faultless before l (lines_from (suc n) word ds)
    (set_line_faultless before n word a b c w came (pair_faultless before l (entry_of n a b c) one (ap (is_among b) rows_same
    ∙ (all.0).1) ((all.0).2) (ap (is_said a b) is
    ∙ fresh.0)))
    (sets_faultless word w rows (before ++ l ∷ []) (suc n) ds (seen ++ bare (entry_of n a b c) ∷ [])
    (still_came before n word (a ∷ b ∷ c ∷ []) came) rows_same
    (bare_more word before l (text_self word)
    ∙ ap (λ es. bare_in word before ++ map bare es) one
    ∙ ap (λ k. k ++ bare (entry_of n a b c) ∷ []) is) all.1 fresh.1)
sets_faultless word w rows before n ((true, a ∷ b ∷ c ∷ d ∷ fs) ∷ ds) seen came known is all fresh = absurd all.0
sets_faultless word w rows before n ((true, a ∷ b ∷ []) ∷ ds) seen came known is all fresh = absurd all.0
sets_faultless word w rows before n ((true, a ∷ []) ∷ ds) seen came known is all fresh = absurd all.0
sets_faultless word w rows before n ((true, []) ∷ ds) seen came known is all fresh = absurd all.0
sets_faultless word w rows before n ((false, fs) ∷ ds) seen came known is all fresh = absurd all.0

-- ---- COLUMNS

-- what is known of the columns before a line
pub record ColumnsKnown (before : List Line) (seen : List BareEntry) : Type 0 where
  pub bare_are : bare_in (codes "COLUMNS") before ≡ seen
  pub names_are : names_of before ≡ owners seen
  pub last_is : (name : List ℕ) → is_last_column before name ≡ option_map_or (λ t. bytes_eq t.owner name) (last_of seen) false

column_entry : (n : ℕ) (a b c : List ℕ) → bytes_eq b (codes "'MARKER'") ≡ false
    → entries_of (item (codes "COLUMNS") n (a ∷ b ∷ c ∷ [])) ≡ entry_of n a b c ∷ []
column_entry n a b c plain = ap (λ t. if t then [] else entry_of n a b c ∷ []) plain

column_known : (before : List Line) (n : ℕ) (a b c : List ℕ) (seen : List BareEntry) → bytes_eq b (codes "'MARKER'") ≡ false
    → ColumnsKnown before seen
    → ColumnsKnown (before ++ item (codes "COLUMNS") n (a ∷ b ∷ c ∷ []) ∷ []) (seen ++ bare (entry_of n a b c) ∷ [])
column_known before n a b c seen plain k =
    let l = item (codes "COLUMNS") n (a ∷ b ∷ c ∷ []) in
    let t = bare (entry_of n a b c) in
    record {
      bare_are = bare_more (codes "COLUMNS") before l refl
          ∙ ap (λ es. bare_in (codes "COLUMNS") before ++ map bare es) (column_entry n a b c plain)
          ∙ ap (λ x. x ++ t ∷ []) k.bare_are;
      names_are = names_on_lines-append before (l ∷ [])
          ∙ ap (λ u. names_of before ++ map column_name (cond (not u) (l ∷ []) [])) plain
          ∙ ap (λ x. x ++ a ∷ []) k.names_are
          ∙ sym (map-append (λ (x : BareEntry). x.owner) seen (t ∷ []));
      last_is = λ name.
          ap (λ x. option_map_or (λ (y : Line). not (is_marker y) && bytes_eq (column_name y) name) (last_of x) false)
          (items_of-append (codes "COLUMNS") before (l ∷ []))
          ∙ ap (λ x. option_map_or (λ (y : Line). not (is_marker y) && bytes_eq (column_name y) name) x false)
          (last_of-add (items_of (codes "COLUMNS") before) l)
          ∙ ap (λ u. not u && bytes_eq a name) plain
          ∙ sym (ap (λ x. option_map_or (λ (y : BareEntry). bytes_eq y.owner name) x false) (last_of-add seen t));
    }

not_split : (before : List Line) (n : ℕ) (a b c : List ℕ) (seen : List BareEntry) → ColumnsKnown before seen
    → is_parted seen (bare (entry_of n a b c)) ≡ false → is_split before (item (codes "COLUMNS") n (a ∷ b ∷ c ∷ [])) ≡ false
not_split before n a b c seen k h =
    ap (λ ns. is_among a ns && not (is_last_column before a)) k.names_are ∙ ap (λ t. is_among a (owners seen) && not t) (k.last_is a) ∙ h

column_line_faultless : (before : List Line) (n : ℕ) (a b c : List ℕ) → bytes_eq b (codes "'MARKER'") ≡ false → RowsCame before
    → is_split before (item (codes "COLUMNS") n (a ∷ b ∷ c ∷ [])) ≡ false
    → pair_faults before (item (codes "COLUMNS") n (a ∷ b ∷ c ∷ [])) ≡ []
    → line_faults before (item (codes "COLUMNS") n (a ∷ b ∷ c ∷ [])) ≡ []
column_line_faultless before n a b c plain came whole pairs =
    let l = item (codes "COLUMNS") n (a ∷ b ∷ c ∷ []) in
    ap (λ t. when (not t) (SectionOrder n) ++ column_faults before l) came
    ∙ ap (λ t. if t then marker_faults before l else when (is_split before l) (SplitColumn n) ++ pair_faults before l) plain
    ∙ ap (λ t. when t (SplitColumn n) ++ pair_faults before l) whole
    ∙ pairs

pub columns_faultless : (rows : List (List ℕ)) (before : List Line) (n : ℕ) (ds : List Written) (seen : List BareEntry) → RowsCame before
    → row_names before ≡ rows → ColumnsKnown before seen
    → Each (IsEntry rows) ds → EachAfter IsNew seen (flat_map listed ds) → faults_after before (lines_from n (codes "COLUMNS") ds) ≡ []
columns_faultless rows before n [] seen came known is all new = refl
columns_faultless rows before n ((true, a ∷ b ∷ c ∷ []) ∷ ds) seen came known is all new =
    let l = item (codes "COLUMNS") n (a ∷ b ∷ c ∷ []) in
    let rows_same = same_rows before n (codes "COLUMNS") (a ∷ b ∷ c ∷ []) refl ∙ known in
    let one = column_entry n a b c ((all.0).0) in
    line_faultless before l (lines_from (suc n) (codes "COLUMNS") ds)
    (column_line_faultless before n a b c ((all.0).0) came (not_split before n a b c seen is ((new.0).1))
    (pair_faultless before l (entry_of n a b c) one (ap (is_among b) rows_same
    ∙ (all.0).1) ((all.0).2) (ap (is_said a b) is.bare_are
    ∙ (new.0).0)))
    (columns_faultless rows (before ++ l ∷ []) (suc n) ds (seen ++ bare (entry_of n a b c) ∷ [])
    (still_came before n (codes "COLUMNS") (a ∷ b ∷ c ∷ []) came) rows_same (column_known before n a b c seen ((all.0).0) is) all.1 new.1)
columns_faultless rows before n ((true, a ∷ b ∷ c ∷ d ∷ fs) ∷ ds) seen came known is all new = absurd all.0
columns_faultless rows before n ((true, a ∷ b ∷ []) ∷ ds) seen came known is all new = absurd all.0
columns_faultless rows before n ((true, a ∷ []) ∷ ds) seen came known is all new = absurd all.0
columns_faultless rows before n ((true, []) ∷ ds) seen came known is all new = absurd all.0
columns_faultless rows before n ((false, fs) ∷ ds) seen came known is all new = absurd all.0

-- the markers
pub begin_faultless : (before : List Line) (n : ℕ) → RowsCame before → in_force before ≡ false
    → line_faults before (item (codes "COLUMNS") n (codes "M" ∷ codes "'MARKER'" ∷ codes "'INTORG'" ∷ [])) ≡ []
begin_faultless before n came off =
    let l = item (codes "COLUMNS") n (codes "M" ∷ codes "'MARKER'" ∷ codes "'INTORG'" ∷ []) in
    ap (λ t. when (not t) (SectionOrder n) ++ column_faults before l) came ∙ ap (λ t. when (not (not t || (false && t))) (Marker n)) off

pub end_faultless : (before : List Line) (n : ℕ) → RowsCame before → in_force before ≡ true
    → line_faults before (item (codes "COLUMNS") n (codes "M" ∷ codes "'MARKER'" ∷ codes "'INTEND'" ∷ [])) ≡ []
end_faultless before n came on =
    let l = item (codes "COLUMNS") n (codes "M" ∷ codes "'MARKER'" ∷ codes "'INTEND'" ∷ []) in
    ap (λ t. when (not t) (SectionOrder n) ++ column_faults before l) came ∙ ap (λ t. when (not ((false && not t) || t)) (Marker n)) on

-- ---- ROWS

kind_known : (r : Row) → is_among (kind_text r) (codes "N" ∷ codes "L" ∷ codes "G" ∷ codes "E" ∷ []) ≡ true
kind_known r = by (is_equation r) (is_from_below r)
  where
    by : (t u : Bool)
        → is_among (if t then codes "E" else (if u then codes "G" else codes "L")) (codes "N" ∷ codes "L" ∷ codes "G" ∷ codes "E" ∷ [])
        ≡ true
    by true u = refl
    by false true = refl
    by false false = refl

pub row_line_faultless : (before : List Line) (n : ℕ) (kind name : List ℕ) → RowsCame before
    → is_among kind (codes "N" ∷ codes "L" ∷ codes "G" ∷ codes "E" ∷ []) ≡ true → is_among name (row_names before) ≡ false
    → bytes_eq name (codes "'MARKER'") ≡ false
    → line_faults before (item (codes "ROWS") n (kind ∷ name ∷ [])) ≡ []
row_line_faultless before n kind name came known new plain =
    ap (λ t. when (not t) (SectionOrder n) ++ row_faults before (item (codes "ROWS") n (kind ∷ name ∷ []))) came
    ∙ ap (λ t. when (not t) (RowKind n) ++ when (is_among name (row_names before)) (TwiceRow n) ++ when (bytes_eq name (codes "'MARKER'"))
    (Marker n)) known
    ∙ ap (λ t. when t (TwiceRow n) ++ when (bytes_eq name (codes "'MARKER'")) (Marker n)) new
    ∙ ap (λ t. when t (Marker n)) plain

row_more : (before : List Line) (n : ℕ) (kind name : List ℕ)
    → row_names (before ++ item (codes "ROWS") n (kind ∷ name ∷ []) ∷ []) ≡ row_names before ++ name ∷ []
row_more before n kind name =
    ap (map row_name) (items_of-append (codes "ROWS") before (item (codes "ROWS") n (kind ∷ name ∷ []) ∷ []))
    ∙ map-append row_name (items_of (codes "ROWS") before) (item (codes "ROWS") n (kind ∷ name ∷ []) ∷ [])

pub rows_faultless : (before : List Line) (n : ℕ) (rs : List Row) → RowsCame before → AreDistinct (map (λ r. r.name) rs)
    → Each (λ r. is_among r.name (row_names before) ≡ false) rs → Each (λ r. bytes_eq r.name (codes "'MARKER'") ≡ false) rs
    → faults_after before (lines_from n (codes "ROWS") (map (λ r. pair (kind_text r) r.name) rs)) ≡ []
rows_faultless before n [] came d new plain = refl
rows_faultless before n (r ∷ rs) came d new plain =
    let l = item (codes "ROWS") n (kind_text r ∷ r.name ∷ []) in
    line_faultless before l (lines_from (suc n) (codes "ROWS") (map (λ k. pair (kind_text k) k.name) rs))
    (row_line_faultless before n (kind_text r) r.name came (kind_known r) new.0 plain.0)
    (rows_faultless (before ++ l ∷ []) (suc n) rs (still_came before n (codes "ROWS") (kind_text r ∷ r.name ∷ []) came) d.1
    (after rs d.0 new.1) plain.1)
  where
    after : (ks : List Row) → is_among r.name (map (λ k. k.name) ks) ≡ false → Each (λ k. is_among k.name (row_names before) ≡ false) ks
        → Each (λ k. is_among k.name (row_names (before ++ item (codes "ROWS") n (kind_text r ∷ r.name ∷ []) ∷ [])) ≡ false) ks
    after [] e g = tt
    after (k ∷ ks) e g = (
      ap (is_among k.name) (row_more before n (kind_text r) r.name)
          ∙ not_among_more k.name (row_names before) (r.name ∷ []) g.0
          (ap (λ t. t || false) (apart_turned r.name k.name
          (left_false (bytes_eq r.name k.name) (is_among r.name (map (λ y. y.name) ks)) e))),
      after ks (right_false (bytes_eq r.name k.name) (is_among r.name (map (λ y. y.name) ks)) e) g.1,
    )

-- ---- BOUNDS

bound_line_faultless : (before : List Line) (n : ℕ) (kind name : List ℕ) (z : ℤ)
    → is_among kind (codes "LO" ∷ codes "LI" ∷ codes "UP" ∷ codes "UI" ∷ codes "FX" ∷ []) ≡ true → RowsCame before
    → has_column before name ≡ true → unsigned_abs z < 2 ^ 64
    → line_faults before (item (codes "BOUNDS") n (kind ∷ codes "BND" ∷ name ∷ signed_decimal z ∷ [])) ≡ []
bound_line_faultless before n kind name z known came there small =
    let l = item (codes "BOUNDS") n (kind ∷ codes "BND" ∷ name ∷ signed_decimal z ∷ []) in
    ap (λ t. when (not t) (SectionOrder n) ++ bound_faults before l) came
    ∙ ap (λ t. when (not (t || is_among kind (codes "FR" ∷ codes "MI" ∷ codes "PL" ∷ codes "BV" ∷ []))) (BoundKind n)
    ++ when (not (nat_le (if t then 3 else 2) 4 && nat_le 4 4)) (FieldCount n)
    ++ when (not (has_column before (if (if t then true else true) then name else codes "BND"))) (UnknownColumn n)
    ++ when (t && not (is_number (signed_decimal z))) (Number n)) known
    ∙ ap (λ t. when (not t) (UnknownColumn n) ++ when (not (is_number (signed_decimal z))) (Number n)) there
    ∙ ap (λ t. when (not t) (Number n)) (signed_decimal_read z small).0

same_columns : (before : List Line) (n : ℕ) (fs : List (List ℕ)) (name : List ℕ)
    → has_column (before ++ item (codes "BOUNDS") n fs ∷ []) name ≡ has_column before name
same_columns before n fs name =
    ap (λ k. is_among name (map column_name (filter (λ l. not (is_marker l)) k)))
    (items_stay (codes "COLUMNS") before (item (codes "BOUNDS") n fs ∷ []) refl)

-- a column is known, and its bounds are small
pub record IsBounded (before : List Line) (c : Column) : Type 0 where
  pub known : has_column before c.name ≡ true
  pub lo : unsigned_abs c.lo < 2 ^ 64
  pub hi : unsigned_abs c.hi < 2 ^ 64

still_bounded : (before : List Line) (n : ℕ) (fs : List (List ℕ)) (cs : List Column) → Each (IsBounded before) cs
    → Each (IsBounded (before ++ item (codes "BOUNDS") n fs ∷ [])) cs
still_bounded before n fs [] h = tt
still_bounded before n fs (c ∷ cs) h =
    (record { known = same_columns before n fs c.name ∙ (h.0).known; lo = (h.0).lo; hi = (h.0).hi }, still_bounded before n fs cs h.1)

pub bounds_faultless : (before : List Line) (n : ℕ) (cs : List Column) → RowsCame before → Each (IsBounded before) cs
    → faults_after before (lines_from n (codes "BOUNDS") (flat_map two_bounds cs)) ≡ []
bounds_faultless before n [] came h = refl
bounds_faultless before n (c ∷ cs) came h =
    let low = codes "LO" ∷ codes "BND" ∷ c.name ∷ signed_decimal c.lo ∷ [] in
    let high = codes "UP" ∷ codes "BND" ∷ c.name ∷ signed_decimal c.hi ∷ [] in
    let next = before ++ item (codes "BOUNDS") n low ∷ [] in
    let later = still_bounded before n low (c ∷ cs) h in
    let came' = still_came before n (codes "BOUNDS") low came in
    line_faultless before (item (codes "BOUNDS") n low)
    (item (codes "BOUNDS") (suc n) high ∷ lines_from (suc (suc n)) (codes "BOUNDS") (flat_map two_bounds cs))
    (bound_line_faultless before n (codes "LO") c.name c.lo refl came (h.0).known (h.0).lo)
    (line_faultless next (item (codes "BOUNDS") (suc n) high) (lines_from (suc (suc n)) (codes "BOUNDS") (flat_map two_bounds cs))
    (bound_line_faultless next (suc n) (codes "UP") c.name c.hi refl came' (later.0).known (later.0).hi)
    (bounds_faultless (next ++ item (codes "BOUNDS") (suc n) high ∷ []) (suc (suc n)) cs
    (still_came next (suc n) (codes "BOUNDS") high came') (still_bounded next (suc n) high cs later.1)))

-- ---- section lines

pub opening_faultless : (before : List Line) (n : ℕ) (word : List ℕ) (words : List (List ℕ)) → words_of before ≡ words
    → is_none (section_place word) ≡ false → may_come words word ≡ true → line_faults before (opening n (word ∷ []) word) ≡ []
opening_faultless before n word words e known comes = opening_right before n (word ∷ []) word known (ap (λ ws. may_come ws word) e ∙ comes)
