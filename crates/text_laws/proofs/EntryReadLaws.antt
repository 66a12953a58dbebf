-- The entries of the lines of a section, without their line numbers, and what is looked up in them.
use Rattle.std.specs.Prelude.{◌≡◌, ℕ, suc, Bool, true, false, ◌&&◌, cond, if◌then◌else◌, List, [], ◌∷◌, ◌++◌, map, filter, flat_map, find}
use Rattle.std.specs.Prelude.{Option, Some, option_map, bytes_eq, codes}
use Rattle.std.specs.Option.{option_or}
use Rattle.ip_defs.specs.Lists.{Each}
use Rattle.std.proofs.Common.{refl, ap, ◌∙◌}
use Rattle.mps_defs.specs.CanonicalText.{Written}
use Rattle.mps_defs.specs.Records.{Line, Entry, is_marker, column_name, entries_of, entries_from}
use Rattle.mps_defs.specs.TextModels.{written_at, written_for, decimals_in, number_or_zero}
use Rattle.mps_defs.specs.Numbers.{decimals_of}
use Rattle.mps_defs.specs.declared.reading.Number.{Number}
use Rattle.text_laws.proofs.WrittenLaws.{lines_from}
use Rattle.ip_defs.proofs.ListLaws.{filter-append, find-append}
use Rattle.std.proofs.lemmas.List.{map-append}
use Rattle.std.proofs.lemmas.Grind.{flat_map-append}
use Rattle.mps_defs.proofs.ListLaws.{mapped_or}

-- an entry without its line number
pub record BareEntry : Type 0 where
  pub owner : List ℕ
  pub row : List ℕ
  pub text : List ℕ

abbrev pub bare : Entry → BareEntry
bare e = record { owner = e.owner; row = e.row; text = e.text }

-- the entry that a line of three fields lists
abbrev pub listed : Written → List BareEntry
listed (true, a ∷ b ∷ c ∷ []) = record { owner = a; row = b; text = c } ∷ []
listed (true, a ∷ b ∷ c ∷ d ∷ fs) = []
listed (true, a ∷ b ∷ []) = []
listed (true, a ∷ []) = []
listed (true, []) = []
listed (false, fs) = []

-- a line of three fields whose second is no marker
abbrev pub IsTriple : Written → Type 0
IsTriple (true, a ∷ b ∷ c ∷ []) = bytes_eq b (codes "'MARKER'") ≡ false
IsTriple (true, a ∷ b ∷ c ∷ d ∷ fs) = ⊥
IsTriple (true, a ∷ b ∷ []) = ⊥
IsTriple (true, a ∷ []) = ⊥
IsTriple (true, []) = ⊥
IsTriple (false, fs) = ⊥

abbrev pub AreTriples : List Written → Type 0
AreTriples ws = Each IsTriple ws

-- so what holds of each line of three fields whose second is no marker holds of it
pub of_triple : (P : Written → Type 0) (w : Written) → IsTriple w
    → ((a b c : List ℕ) → bytes_eq b (codes "'MARKER'") ≡ false → P (true, a ∷ b ∷ c ∷ [])) → P w
of_triple P (true, a ∷ b ∷ c ∷ []) h k = k a b c h
of_triple P (true, a ∷ b ∷ c ∷ d ∷ fs) h k = absurd h
of_triple P (true, a ∷ b ∷ []) h k = absurd h
of_triple P (true, a ∷ []) h k = absurd h
of_triple P (true, []) h k = absurd h
of_triple P (false, fs) h k = absurd h

-- the entries of such lines of COLUMNS
pub column_entries : (n : ℕ) (ds : List Written) → AreTriples ds
    → map bare (flat_map entries_of (lines_from n (codes "COLUMNS") ds)) ≡ flat_map listed ds
column_entries n [] h = refl
column_entries n (d ∷ ds) h =
    of_triple (λ w. map bare (flat_map entries_of (lines_from n (codes "COLUMNS") (w ∷ ds))) ≡ flat_map listed (w ∷ ds)) d h.0
    (λ a b c e.
    ap (λ t. map bare ((if t then [] else record { line = n; owner = a; row = b; text = c } ∷ [])
    ++ flat_map entries_of (lines_from (suc n) (codes "COLUMNS") ds))) e
    ∙ ap (λ k. record { owner = a; row = b; text = c } ∷ k) (column_entries (suc n) ds h.1))

-- the entries of such lines of RHS or RANGES
pub set_entries : (word : List ℕ) (n : ℕ) (ds : List Written) → bytes_eq word (codes "COLUMNS") ≡ false → AreTriples ds
    → map bare (flat_map entries_of (lines_from n word ds)) ≡ flat_map listed ds
set_entries word n [] e h = refl
set_entries word n (d ∷ ds) e h =
    of_triple (λ w. map bare (flat_map entries_of (lines_from n word (w ∷ ds))) ≡ flat_map listed (w ∷ ds)) d h.0
    (λ a b c k.
    let l : Line = record { number = n; is_item = true; section = word; fields = a ∷ b ∷ c ∷ [] } in
    ap (λ t. map bare ((if t then (if is_marker l then [] else entries_from n (column_name l) (b ∷ c ∷ []))
    else record { line = n; owner = a; row = b; text = c } ∷ []) ++ flat_map entries_of (lines_from (suc n) word ds))) e
    ∙ ap (λ y. record { owner = a; row = b; text = c } ∷ y) (set_entries word (suc n) ds e h.1))

-- ---- what is looked up

abbrev pub bare_at : List BareEntry → List ℕ → List ℕ → Option Number
bare_at ts row column = option_map (λ t. number_or_zero t.text) (find (λ t. bytes_eq t.row row && bytes_eq t.owner column) ts)

abbrev pub bare_for : List BareEntry → List ℕ → Option Number
bare_for ts row = option_map (λ t. number_or_zero t.text) (find (λ t. bytes_eq t.row row) ts)

abbrev pub bare_decimals : List BareEntry → List ℕ → List ℕ
bare_decimals ts row = map (λ t. decimals_of (number_or_zero t.text)) (filter (λ t. bytes_eq t.row row) ts)

-- the number of the first entry that meets a test
number_bare : (test : BareEntry → Bool) (es : List Entry)
    → option_map (λ e. number_or_zero e.text) (find (λ e. test (bare e)) es)
    ≡ option_map (λ t. number_or_zero t.text) (find test (map bare es))
number_bare test [] = refl
number_bare test (e ∷ es) = by (test (bare e)) (number_bare test es)
  where
    by : (t : Bool)
        → option_map (λ k. number_or_zero k.text) (find (λ k. test (bare k)) es)
        ≡ option_map (λ k. number_or_zero k.text) (find test (map bare es))
        → option_map (λ k. number_or_zero k.text) (cond t (Some e) (find (λ k. test (bare k)) es))
        ≡ option_map (λ k. number_or_zero k.text) (cond t (Some (bare e)) (find test (map bare es)))
    by true h = refl
    by false h = h

pub written_at_bare : (es : List Entry) (row column : List ℕ) → written_at es row column ≡ bare_at (map bare es) row column
written_at_bare es row column = number_bare (λ t. bytes_eq t.row row && bytes_eq t.owner column) es

pub written_for_bare : (es : List Entry) (row : List ℕ) → written_for es row ≡ bare_for (map bare es) row
written_for_bare es row = number_bare (λ t. bytes_eq t.row row) es

pub decimals_bare : (es : List Entry) (row : List ℕ) → decimals_in es row ≡ bare_decimals (map bare es) row
decimals_bare [] row = refl
decimals_bare (e ∷ es) row = by (bytes_eq e.row row) (decimals_bare es row)
  where
    by : (t : Bool) → decimals_in es row ≡ bare_decimals (map bare es) row
        → map (λ k. decimals_of (number_or_zero k.text))
        (cond t (e ∷ filter (λ k. bytes_eq k.row row) es) (filter (λ k. bytes_eq k.row row) es))
        ≡ map (λ k. decimals_of (number_or_zero k.text))
        (cond t (bare e ∷ filter (λ k. bytes_eq k.row row) (map bare es)) (filter (λ k. bytes_eq k.row row) (map bare es)))
    by true h = ap (λ k. decimals_of (number_or_zero e.text) ∷ k) h
    by false h = h

pub at_append : (xs ys : List BareEntry) (row column : List ℕ)
    → bare_at (xs ++ ys) row column ≡ option_or (bare_at xs row column) (bare_at ys row column)
at_append xs ys row column =
    let test : BareEntry → Bool = λ t. bytes_eq t.row row && bytes_eq t.owner column in
    ap (option_map (λ t. number_or_zero t.text)) (find-append test xs ys)
    ∙ mapped_or (λ t. number_or_zero t.text) (find test xs) (find test ys)

pub for_append : (xs ys : List BareEntry) (row : List ℕ) → bare_for (xs ++ ys) row ≡ option_or (bare_for xs row) (bare_for ys row)
for_append xs ys row =
    let test : BareEntry → Bool = λ t. bytes_eq t.row row in
    ap (option_map (λ t. number_or_zero t.text)) (find-append test xs ys)
    ∙ mapped_or (λ t. number_or_zero t.text) (find test xs) (find test ys)

pub decimals_append : (xs ys : List BareEntry) (row : List ℕ) → bare_decimals (xs ++ ys) row ≡ bare_decimals xs row ++ bare_decimals ys row
decimals_append xs ys row =
    let test : BareEntry → Bool = λ t. bytes_eq t.row row in
    ap (map (λ t. decimals_of (number_or_zero t.text))) (filter-append test xs ys)
    ∙ map-append (λ t. decimals_of (number_or_zero t.text)) (filter test xs) (filter test ys)

pub listed_append : (xs ys : List Written) → flat_map listed (xs ++ ys) ≡ flat_map listed xs ++ flat_map listed ys
listed_append xs ys = flat_map-append listed xs ys
