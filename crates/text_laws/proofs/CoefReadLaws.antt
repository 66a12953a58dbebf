-- What is written for a row and a column of a program is its coefficient, and the coefficients of a row are read in their order.
use Rattle.std.specs.Prelude.{◌≡◌, ℕ, zero, suc, ◌+◌, ◌==◌, Bool, true, false, ◌&&◌, cond, if◌then◌else◌, List, [], ◌∷◌, map, flat_map}
use Rattle.std.specs.Prelude.{find, Option, None, Some, option_map, slice_get, bytes_eq, ℤ}
use Rattle.std.specs.List.{enumerate_from}
use Rattle.std.specs.Option.{option_map_or, option_or}
use Rattle.std.proofs.Common.{refl, arith, ap, sym, ◌∙◌, subst}
use Rattle.mps_defs.specs.Lists.{is_among, AreDistinct}
use Rattle.mps_defs.specs.Numbers.{decimal_text}
use Rattle.mps_defs.specs.CanonicalText.{triple, coef_line, column_block, value_text}
use Rattle.ip_defs.specs.declared.programs.Column.{Column}
use Rattle.ip_defs.specs.declared.programs.Row.{Row}
use Rattle.ip_defs.specs.declared.programs.Parts.{Parts}
use Rattle.mps_defs.specs.declared.reading.Number.{Number}
use Rattle.text_laws.proofs.EntryReadLaws.{BareEntry, listed, bare_at, at_append, listed_append}
use Rattle.ip_defs.proofs.BoolLaws.{left_false, right_false}
use Rattle.ip_defs.proofs.ListLaws.{or_none}
use Rattle.ip_defs.proofs.TextLaws.{text_self}
use Rattle.mps_defs.proofs.PlaceLaws.{apart_turned, not_at, among_at}
use Rattle.mps_defs.proofs.ListLaws.{get_map}
use Rattle.mps_defs.specs.TextModels.{number_or_zero}

-- ---- one column

-- what is written of a coefficient
abbrev pub coef_number : ℕ → Row → Option Number
coef_number j r = option_map (λ p. number_or_zero (decimal_text p.1 r.decimals)) (find (λ p. p.0 == j) r.coefs)

-- the entries of a column in some rows
abbrev pub coef_bare : ℕ → List ℕ → List Row → List BareEntry
coef_bare j name rs = flat_map listed (flat_map (coef_line j name) rs)

one_row : (j : ℕ) (name : List ℕ) (r : Row) (row column : List ℕ)
    → bare_at (flat_map listed (coef_line j name r)) row column
    ≡ (if bytes_eq r.name row && bytes_eq name column then coef_number j r else None)
one_row j name r row column = by (find (λ p. p.0 == j) r.coefs) (bytes_eq r.name row && bytes_eq name column) refl
  where
    by : (o : Option (ℕ × ℤ)) (t : Bool) → (bytes_eq r.name row && bytes_eq name column) ≡ t
        → bare_at (flat_map listed (option_map_or (λ p. triple name r.name (decimal_text p.1 r.decimals) ∷ []) o [])) row column
        ≡ (if t then option_map (λ p. number_or_zero (decimal_text p.1 r.decimals)) o else None)
    by None true e = refl
    by None false e = refl
    by (Some p) true e =
        ap (λ t. option_map (λ (k : BareEntry). number_or_zero k.text)
        (cond t (Some (record { owner = name; row = r.name; text = decimal_text p.1 r.decimals })) None)) e
    by (Some p) false e =
        ap (λ t. option_map (λ (k : BareEntry). number_or_zero k.text)
        (cond t (Some (record { owner = name; row = r.name; text = decimal_text p.1 r.decimals })) None)) e

more_rows : (j : ℕ) (name : List ℕ) (r : Row) (rs : List Row) (row column : List ℕ)
    → bare_at (coef_bare j name (r ∷ rs)) row column ≡ option_or
    (if bytes_eq r.name row && bytes_eq name column then coef_number j r else None) (bare_at (coef_bare j name rs) row column)
more_rows j name r rs row column =
    ap (λ ts. bare_at ts row column) (listed_append (coef_line j name r) (flat_map (coef_line j name) rs))
    ∙ at_append (flat_map listed (coef_line j name r)) (coef_bare j name rs) row column
    ∙ ap (λ o. option_or o (bare_at (coef_bare j name rs) row column)) (one_row j name r row column)

no_row : (j : ℕ) (name : List ℕ) (rs : List Row) (row column : List ℕ) → is_among row (map (λ r. r.name) rs) ≡ false
    → bare_at (coef_bare j name rs) row column ≡ None
no_row j name [] row column e = refl
no_row j name (r ∷ rs) row column e =
    more_rows j name r rs row column
    ∙ ap (λ t. option_or (if t && bytes_eq name column then coef_number j r else None) (bare_at (coef_bare j name rs) row column))
    (apart_turned row r.name (left_false (bytes_eq row r.name) (is_among row (map (λ k. k.name) rs)) e))
    ∙ no_row j name rs row column (right_false (bytes_eq row r.name) (is_among row (map (λ k. k.name) rs)) e)

-- what is listed is among them
pub named_among : {A : Type 0} (f : A → List ℕ) (xs : List A) (i : ℕ) (x : A) → slice_get xs i ≡ Some x → is_among (f x) (map f xs) ≡ true
named_among f xs i x at = among_at (map f xs) i (f x) (get_map f xs i x at)

own_row : (j : ℕ) (name : List ℕ) (rs : List Row) (i : ℕ) (r : Row) → AreDistinct (map (λ k. k.name) rs) → slice_get rs i ≡ Some r
    → bare_at (coef_bare j name rs) r.name name ≡ coef_number j r
own_row j name [] i r d at = absurd cc
own_row j name (s ∷ rs) zero r d at =
    let same : s ≡ r = cc in
    subst (λ k. bare_at (coef_bare j name (s ∷ rs)) k.name name ≡ coef_number j k) same
    (more_rows j name s rs s.name name
    ∙ ap (λ t. option_or (if t && bytes_eq name name then coef_number j s else None) (bare_at (coef_bare j name rs) s.name name))
    (text_self s.name)
    ∙ ap (λ t. option_or (if t then coef_number j s else None) (bare_at (coef_bare j name rs) s.name name)) (text_self name)
    ∙ ap (option_or (coef_number j s)) (no_row j name rs s.name name d.0) ∙ or_none (coef_number j s))
own_row j name (s ∷ rs) (suc i) r d at =
    more_rows j name s rs r.name name
    ∙ ap (λ t. option_or (if t && bytes_eq name name then coef_number j s else None) (bare_at (coef_bare j name rs) r.name name))
    (not_at s.name (map (λ k. k.name) rs) i r.name d.0 (get_map (λ k. k.name) rs i r at))
    ∙ own_row j name rs i r d.1 at

other_column : (j : ℕ) (name : List ℕ) (rs : List Row) (row column : List ℕ) → bytes_eq name column ≡ false
    → bare_at (coef_bare j name rs) row column ≡ None
other_column j name [] row column e = refl
other_column j name (r ∷ rs) row column e =
    more_rows j name r rs row column
    ∙ ap (λ t. option_or (if bytes_eq r.name row && t then coef_number j r else None) (bare_at (coef_bare j name rs) row column)) e
    ∙ by (bytes_eq r.name row)
    ∙ other_column j name rs row column e
  where
    by : (t : Bool)
        → option_or (if t && false then coef_number j r else None) (bare_at (coef_bare j name rs) row column)
        ≡ bare_at (coef_bare j name rs) row column
    by true = refl
    by false = refl

-- ---- all columns

abbrev pub bare_from : Parts → ℕ → List Column → List BareEntry
bare_from m j cs = flat_map listed (flat_map (column_block m) (enumerate_from j cs))

-- the entries of a column
abbrev pub block_bare : Parts → ℕ → Column → List BareEntry
block_bare m j c = record { owner = c.name; row = m.objective; text = value_text m c.cost } ∷ coef_bare j c.name m.rows

more_columns : (m : Parts) (j : ℕ) (c : Column) (cs : List Column) (row column : List ℕ)
    → bare_at (bare_from m j (c ∷ cs)) row column
    ≡ option_or (bare_at (block_bare m j c) row column) (bare_at (bare_from m (suc j) cs) row column)
more_columns m j c cs row column =
    let next : j + 1 ≡ suc j = omega arith in
    ap (λ ts. bare_at ts row column) (listed_append (column_block m (j, c)) (flat_map (column_block m) (enumerate_from (j + 1) cs)))
    ∙ at_append (block_bare m j c) (bare_from m (j + 1) cs) row column
    ∙ ap (λ k. option_or (bare_at (block_bare m j c) row column) (bare_at (bare_from m k cs) row column)) next

block_other : (m : Parts) (j : ℕ) (c : Column) (row column : List ℕ) → bytes_eq c.name column ≡ false
    → bare_at (block_bare m j c) row column ≡ None
block_other m j c row column e =
    ap (λ t. option_map (λ (k : BareEntry). number_or_zero k.text) (cond (bytes_eq m.objective row
    && t) (Some (record { owner = c.name; row = m.objective; text = value_text m c.cost }))
    (find (λ k. bytes_eq k.row row && bytes_eq k.owner column) (coef_bare j c.name m.rows)))) e
    ∙ by (bytes_eq m.objective row)
    ∙ other_column j c.name m.rows row column e
  where
    rest : Option BareEntry
    rest = find (λ k. bytes_eq k.row row && bytes_eq k.owner column) (coef_bare j c.name m.rows)

    by : (t : Bool)
        → option_map (λ (k : BareEntry). number_or_zero k.text)
        (cond (t && false) (Some (record { owner = c.name; row = m.objective; text = value_text m c.cost })) rest)
        ≡ option_map (λ (k : BareEntry). number_or_zero k.text) rest
    by true = refl
    by false = refl

no_column : (m : Parts) (j : ℕ) (cs : List Column) (row column : List ℕ) → is_among column (map (λ c. c.name) cs) ≡ false
    → bare_at (bare_from m j cs) row column ≡ None
no_column m j [] row column e = refl
no_column m j (c ∷ cs) row column e =
    more_columns m j c cs row column
    ∙ ap (λ o. option_or o (bare_at (bare_from m (suc j) cs) row column))
    (block_other m j c row column
    (apart_turned column c.name (left_false (bytes_eq column c.name) (is_among column (map (λ k. k.name) cs)) e)))
    ∙ no_column m (suc j) cs row column (right_false (bytes_eq column c.name) (is_among column (map (λ k. k.name) cs)) e)

-- what is written for a place is what the block of its column lists
own_column : (m : Parts) (j : ℕ) (cs : List Column) (i : ℕ) (c : Column) (row : List ℕ) → AreDistinct (map (λ k. k.name) cs)
    → slice_get cs i ≡ Some c
    → bare_at (bare_from m j cs) row c.name ≡ bare_at (block_bare m (j + i) c) row c.name
own_column m j [] i c row d at = absurd cc
own_column m j (s ∷ cs) zero c row d at =
    let same : s ≡ c = cc in
    let none : j + 0 ≡ j = omega arith in
    subst (λ k. bare_at (bare_from m j (s ∷ cs)) row k.name ≡ bare_at (block_bare m (j + 0) k) row k.name) same
    (more_columns m j s cs row s.name
    ∙ ap (option_or (bare_at (block_bare m j s) row s.name)) (no_column m (suc j) cs row s.name d.0)
    ∙ or_none (bare_at (block_bare m j s) row s.name)
    ∙ ap (λ k. bare_at (block_bare m k s) row s.name) (sym none))
own_column m j (s ∷ cs) (suc i) c row d at =
    let next : suc j + i ≡ j + suc i = omega arith in
    more_columns m j s cs row c.name
    ∙ ap (λ o. option_or o (bare_at (bare_from m (suc j) cs) row c.name))
    (block_other m j s row c.name (not_at s.name (map (λ k. k.name) cs) i c.name d.0 (get_map (λ k. k.name) cs i c at)))
    ∙ own_column m (suc j) cs i c row d.1 at
    ∙ ap (λ k. bare_at (block_bare m k c) row c.name) next

-- what is written for a row
pub coef_written : (m : Parts) (i : ℕ) (r : Row) (j : ℕ) (c : Column) → AreDistinct (map (λ k. k.name) m.columns)
    → AreDistinct (m.objective ∷ map (λ k. k.name) m.rows) → slice_get m.rows i ≡ Some r → slice_get m.columns j ≡ Some c
    → bare_at (bare_from m 0 m.columns) r.name c.name ≡ coef_number j r
coef_written m i r j c apart rows at here =
    let start : 0 + j ≡ j = omega arith in
    own_column m 0 m.columns j c r.name apart here
    ∙ ap (λ k. bare_at (block_bare m k c) r.name c.name) start
    ∙ ap (λ t. option_map (λ (k : BareEntry). number_or_zero k.text) (cond (t && bytes_eq c.name c.name)
    (Some (record { owner = c.name; row = m.objective; text = value_text m c.cost }))
    (find (λ k. bytes_eq k.row r.name && bytes_eq k.owner c.name) (coef_bare j c.name m.rows))))
    (not_at m.objective (map (λ k. k.name) m.rows) i r.name rows.0 (get_map (λ k. k.name) m.rows i r at))
    ∙ own_row j c.name m.rows i r rows.1 at

-- and for the costs
pub cost_written : (m : Parts) (j : ℕ) (c : Column) → AreDistinct (map (λ k. k.name) m.columns) → slice_get m.columns j ≡ Some c
    → bare_at (bare_from m 0 m.columns) m.objective c.name ≡ Some (number_or_zero (value_text m c.cost))
cost_written m j c apart here =
    own_column m 0 m.columns j c m.objective apart here
    ∙ ap (λ t. option_map (λ (k : BareEntry). number_or_zero k.text) (cond (t && bytes_eq c.name c.name)
    (Some (record { owner = c.name; row = m.objective; text = value_text m c.cost }))
    (find (λ k. bytes_eq k.row m.objective && bytes_eq k.owner c.name) (coef_bare (0 + j) c.name m.rows)))) (text_self m.objective)
    ∙ ap (λ t. option_map (λ (k : BareEntry). number_or_zero k.text)
    (cond t (Some (record { owner = c.name; row = m.objective; text = value_text m c.cost }))
    (find (λ k. bytes_eq k.row m.objective && bytes_eq k.owner c.name) (coef_bare (0 + j) c.name m.rows)))) (text_self c.name)
