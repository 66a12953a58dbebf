-- A line of entries: what the rows have before it and after it, and its faults.
use Rattle.std.specs.Prelude.{◌≡◌, ◌⊎◌, ℕ, Bool, true, false, cond, ◌&&◌, if◌then◌else◌, List, [], ◌∷◌, ◌++◌, map, filter, flat_map, Some}
use Rattle.std.specs.Prelude.{bytes_eq, codes, Result, Ok, Err, refl}
use Rattle.std.proofs.Common.{ap, sym, ◌∙◌, subst, inl, inr}
use Rattle.ip_defs.specs.Lists.{first_of}
use Rattle.mps_defs.specs.Lists.{after_those}
use Rattle.mps_defs.specs.Records.{Line, Entry, items_of, row_name, column_names, all_entries, entries_of, kept_entries, is_kept, item}
use Rattle.mps_defs.specs.Records.{row_names}
use Rattle.mps_defs.specs.Faults.{entry_faults, pair_faults, line_faults}
use Rattle.mps_defs.specs.declared.reading.MpsError.{MpsError}
use Rattle.mps_defs.specs.declared.reading.MpsError.TheVariants as Out
use Rattle.mps_reader.specs.declared.draft.RowDraft.{RowDraft}
use Rattle.mps_reader.specs.declared.draft.RowTable.{RowTable}
use Rattle.mps_reader.specs.declared.draft.Draft.{Draft}
use Rattle.mps_reader.specs.declared.entries.Owner.{Owner}
use Rattle.mps_reader.specs.declared.entries.Owner.TheVariants.{Column, RightSides, Ranges}
use Rattle.mps_reader.specs.Internal.Progress.{RowsStand, EntriesStand, IsFirstFault, IsTaken, Stands}
use Rattle.mps_reader.specs.Internal.Taking.{IsDone, RowsHave, owner_word, counted, entry_faults_after}
use Rattle.mps_reader.proofs.GrowthLaws.{kept_stays}
use Rattle.mps_reader.proofs.StayLaws.{kept_entries_stay, rows_stand_stay}
use Rattle.ip_defs.proofs.TextLaws.{text_same}
use Rattle.std.proofs.lemmas.List.{append-nil, append_assoc}
use Rattle.mps_defs.proofs.EntryLaws.{all_entries-append}
use Rattle.std.proofs.lemmas.List.Elements.{filter_agree}
use Rattle.mps_defs.proofs.LineLaws.{rows_stay}
use Rattle.mps_reader.proofs.FaultLaws.{first_is}

-- a line of an owner is none of another section
pub off : (owner : Owner) (n : ℕ) (fields : List (List ℕ)) (word : List ℕ) → bytes_eq (owner_word owner) word ≡ false
    → items_of word (item (owner_word owner) n fields ∷ []) ≡ []
off owner n fields word other = ap (λ b. cond (true && b) (item (owner_word owner) n fields ∷ []) []) other

pub off_rows : (owner : Owner) (n : ℕ) (fields : List (List ℕ)) → items_of (codes "ROWS") (item (owner_word owner) n fields ∷ []) ≡ []
off_rows (Column number) n fields = refl
off_rows (RightSides is_kept) n fields = refl
off_rows (Ranges is_kept) n fields = refl

-- what counts of a section's lines counts as well after one more of them
own_begin : (word : List ℕ) (before : List Line) (l : Line) → items_of (codes "ROWS") (l ∷ []) ≡ []
    → filter (is_kept word (before ++ l ∷ [])) (all_entries word before) ≡ kept_entries word before
own_begin word before l over = by (items_of word before) refl
  where
    by : (ks : List Line) → items_of word before ≡ ks
        → filter (is_kept word (before ++ l ∷ [])) (all_entries word before) ≡ kept_entries word before
    by [] none =
        ap (λ ks. filter (is_kept word (before ++ l ∷ [])) (flat_map entries_of ks)) none
        ∙ sym (ap (λ ks. filter (is_kept word before) (flat_map entries_of ks)) none)
    by (f ∷ ks) some =
        filter_agree (is_kept word (before ++ l ∷ [])) (is_kept word before) (λ e. kept_stays word before l f e over (ap first_of some))
        (all_entries word before)

counted_begin : (before : List Line) (owner : Owner) (n : ℕ) (fields : List (List ℕ)) (word : List ℕ)
    → counted (before ++ item (owner_word owner) n fields ∷ []) owner (all_entries (owner_word owner) before) word
    ≡ kept_entries word before
counted_begin before owner n fields word = by (bytes_eq (owner_word owner) word) refl
  where
    l : Line
    l = item (owner_word owner) n fields

    by : (b : Bool) → bytes_eq (owner_word owner) word ≡ b
        → counted (before ++ l ∷ []) owner (all_entries (owner_word owner) before) word ≡ kept_entries word before
    by true same =
        ap (λ b. if b then filter (is_kept word (before ++ l ∷ [])) (all_entries (owner_word owner) before) else kept_entries word
        (before ++ l ∷ [])) same
        ∙ ap (λ w. filter (is_kept word (before ++ l ∷ [])) (all_entries w before)) (text_same (owner_word owner) word same)
        ∙ own_begin word before l (off_rows owner n fields)
    by false other =
        ap (λ b. if b then filter (is_kept word (before ++ l ∷ [])) (all_entries (owner_word owner) before) else kept_entries word
        (before ++ l ∷ [])) other
        ∙ kept_entries_stay word before l (off_rows owner n fields) (off owner n fields word other)

own_entries : (owner : Owner) (n : ℕ) (fields : List (List ℕ))
    → all_entries (owner_word owner) (item (owner_word owner) n fields ∷ []) ≡ entries_of (item (owner_word owner) n fields)
own_entries (Column number) n fields = append-nil (entries_of (item (codes "COLUMNS") n fields))
own_entries (RightSides is_kept) n fields = append-nil (entries_of (item (codes "RHS") n fields))
own_entries (Ranges is_kept) n fields = append-nil (entries_of (item (codes "RANGES") n fields))

counted_end : (before : List Line) (owner : Owner) (n : ℕ) (fields : List (List ℕ)) (word : List ℕ)
    → counted (before ++ item (owner_word owner) n fields ∷ []) owner
    (all_entries (owner_word owner) before ++ entries_of (item (owner_word owner) n fields)) word
    ≡ kept_entries word (before ++ item (owner_word owner) n fields ∷ [])
counted_end before owner n fields word = by (bytes_eq (owner_word owner) word) refl
  where
    l : Line
    l = item (owner_word owner) n fields

    all : all_entries (owner_word owner) before ++ entries_of l ≡ all_entries (owner_word owner) (before ++ l ∷ [])
    all =
        sym (all_entries-append (owner_word owner) before (l ∷ [])
        ∙ ap (λ k. all_entries (owner_word owner) before ++ k) (own_entries owner n fields))

    by : (b : Bool) → bytes_eq (owner_word owner) word ≡ b
        → counted (before ++ l ∷ []) owner (all_entries (owner_word owner) before ++ entries_of l) word
        ≡ kept_entries word (before ++ l ∷ [])
    by true same =
        ap (λ b. if b then filter (is_kept word (before ++ l ∷ []))
        (all_entries (owner_word owner) before ++ entries_of l) else kept_entries word (before ++ l ∷ [])) same
        ∙ ap (filter (is_kept word (before ++ l ∷ [])))
        (all ∙ ap (λ w. all_entries w (before ++ l ∷ [])) (text_same (owner_word owner) word same))
    by false other =
        ap (λ b. if b then filter (is_kept word (before ++ l ∷ []))
        (all_entries (owner_word owner) before ++ entries_of l) else kept_entries word (before ++ l ∷ [])) other

three : (a a' b b' c c' : List Entry) (columns names : List (List ℕ)) (rows : List RowDraft) → a ≡ a' → b ≡ b' → c ≡ c'
    → EntriesStand a b c columns names rows → EntriesStand a' b' c' columns names rows
three a a' b b' c c' columns names rows p q r h =
    subst (λ x. EntriesStand a' b' x columns names rows) r
    (subst (λ x. EntriesStand a' x c columns names rows) q (subst (λ x. EntriesStand x b c columns names rows) p h))

-- the rows before a line of entries
pub rows_begin : (before : List Line) (owner : Owner) (n : ℕ) (fields : List (List ℕ)) (t : RowTable) → RowsStand before t
    → EntriesStand (kept_entries (codes "COLUMNS") before) (kept_entries (codes "RHS") before) (kept_entries (codes "RANGES") before)
    (column_names (before ++ item (owner_word owner) n fields ∷ [])) (row_names before) t.rows.items
    → RowsHave (before ++ item (owner_word owner) n fields ∷ []) owner (all_entries (owner_word owner) before) t
rows_begin before owner n fields t rows entries =
    let l = item (owner_word owner) n fields in
    record {
      rows = rows_stand_stay before l t (off_rows owner n fields) rows;
      entries =
          subst (λ names. EntriesStand (counted (before ++ l ∷ []) owner (all_entries (owner_word owner) before) (codes "COLUMNS"))
          (counted (before ++ l ∷ []) owner (all_entries (owner_word owner) before) (codes "RHS"))
          (counted (before ++ l ∷ []) owner (all_entries (owner_word owner) before) (codes "RANGES"))
          (column_names (before ++ l ∷ [])) names t.rows.items)
          (ap (map row_name) (sym (rows_stay before l (off_rows owner n fields))))
          (three _ _ _ _ _ _ (column_names (before ++ l ∷ [])) (row_names before) t.rows.items
          (sym (counted_begin before owner n fields (codes "COLUMNS"))) (sym (counted_begin before owner n fields (codes "RHS")))
          (sym (counted_begin before owner n fields (codes "RANGES"))) entries);
    }

-- and after it
pub rows_end : (before : List Line) (owner : Owner) (n : ℕ) (fields : List (List ℕ)) (t : RowTable)
    → RowsHave (before ++ item (owner_word owner) n fields ∷ []) owner
    (all_entries (owner_word owner) before ++ entries_of (item (owner_word owner) n fields)) t
    → EntriesStand (kept_entries (codes "COLUMNS") (before ++ item (owner_word owner) n fields ∷ []))
    (kept_entries (codes "RHS") (before ++ item (owner_word owner) n fields ∷ []))
    (kept_entries (codes "RANGES") (before ++ item (owner_word owner) n fields ∷ []))
    (column_names (before ++ item (owner_word owner) n fields ∷ []))
    (row_names (before ++ item (owner_word owner) n fields ∷ [])) t.rows.items
rows_end before owner n fields t have =
    let l = item (owner_word owner) n fields in
    three _ _ _ _ _ _ (column_names (before ++ l ∷ [])) (row_names (before ++ l ∷ [])) t.rows.items
    (counted_end before owner n fields (codes "COLUMNS")) (counted_end before owner n fields (codes "RHS"))
    (counted_end before owner n fields (codes "RANGES")) have.entries

-- ---- the faults

flat_after : (f : List Entry → Entry → List MpsError) (front done more : List Entry)
    → flat_map (λ p. f (front ++ p.0) p.1) (after_those done more) ≡ flat_map (λ p. f p.0 p.1) (after_those (front ++ done) more)
flat_after f front done [] = refl
flat_after f front done (e ∷ more) =
    ap (λ l. f (front ++ done) e ++ l)
    (flat_after f front (done ++ e ∷ []) more
    ∙ ap (λ k. flat_map (λ p. f p.0 p.1) (after_those k more)) (sym (append_assoc front done (e ∷ []))))

-- the faults of a line's entries are those of the entries after those of the lines before it
pub pair_faults_are : (before : List Line) (owner : Owner) (n : ℕ) (fields : List (List ℕ))
    → pair_faults before (item (owner_word owner) n fields) ≡ entry_faults_after (before ++ item (owner_word owner) n fields ∷ []) owner
    (all_entries (owner_word owner) before) (entries_of (item (owner_word owner) n fields))
pair_faults_are before owner n fields =
    let l = item (owner_word owner) n fields in
    flat_after (λ es e. entry_faults (owner_word owner) (before ++ l ∷ []) es e) (all_entries (owner_word owner) before) [] (entries_of l)
    ∙ ap (λ k. flat_map (λ p. entry_faults (owner_word owner) (before ++ l ∷ []) p.0 p.1) (after_those k (entries_of l)))
    (append-nil (all_entries (owner_word owner) before))

-- ---- the answer on a line

first_fault : (faults : List MpsError) (e : MpsError) → (e ≡ Out.Memory) ⊎ (first_of faults ≡ Some e) → IsFirstFault faults e
first_fault faults e (inl memory) = subst (IsFirstFault faults) (sym memory) tt
first_fault faults e (inr first) = first_is (first_of faults) e first

pub taken : (before : List Line) (l : Line) (new : Draft) (r : Result (Unit {0}) MpsError)
    → IsDone (line_faults before l) (λ _. Stands (before ++ l ∷ []) new) r → IsTaken before l new r
taken before l new (Ok x) done = done.1
taken before l new (Err e) done = first_fault (line_faults before l) e done
