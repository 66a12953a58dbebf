-- No place is written twice in a canonical text, and the entries of a column stand together.
use Rattle.std.specs.Prelude.{◌≡◌, ℕ, ◌+◌, ◌==◌, Bool, true, false, ◌&&◌, ◌||◌, not, List, [], ◌∷◌, ◌++◌, map, flat_map, find, Option}
use Rattle.std.specs.Prelude.{None}
use Rattle.std.specs.Prelude.{Some, bytes_eq, codes, ℤ, pos, neg_ℤ, ◌-ℤ◌}
use Rattle.std.specs.List.{list_any, enumerate_from}
use Rattle.std.specs.Option.{option_map_or}
use Rattle.std.specs.Ordering.{int_eq}
use Rattle.std.proofs.Common.{refl, ap, sym, ◌∙◌, subst}
use Rattle.std.proofs.lemmas.List.Folds.{list_any-append}
use Rattle.mps_defs.specs.Lists.{is_among, last_of, AreDistinct}
use Rattle.ip_defs.specs.Lists.{when, Each}
use Rattle.mps_defs.specs.Numbers.{decimal_text}
use Rattle.mps_defs.specs.CanonicalText.{triple, coef_line, column_block, right_side, rhs_line, constant_line, range_line, value_text}
use Rattle.mps_defs.specs.CanonicalText.{side_line, width_line}
use Rattle.ip_defs.specs.declared.programs.Column.{Column}
use Rattle.ip_defs.specs.declared.programs.Row.{Row}
use Rattle.ip_defs.specs.declared.programs.Parts.{Parts}
use Rattle.text_laws.proofs.EachLaws.{EachAfter, each_after_append}
use Rattle.text_laws.proofs.EntryReadLaws.{BareEntry, listed, listed_append}
use Rattle.text_laws.proofs.CoefReadLaws.{bare_from, block_bare, coef_bare}
use Rattle.text_laws.proofs.SideReadLaws.{rhs_bare, range_bare}
use Rattle.text_laws.proofs.DecimalReadLaws.{flat_flat}
use Rattle.text_laws.proofs.RecordReadLaws.{IsApart}
use Rattle.text_laws.proofs.NameReadLaws.{owners, AreOwned, coefs_owned, not_owned, not_among_more}
use Rattle.text_laws.proofs.ModelReadLaws.{each_apart}
use Rattle.ip_defs.proofs.BoolLaws.{left_false, right_false}
use Rattle.std.proofs.lemmas.List.{map-append}
use Rattle.mps_defs.proofs.ListLaws.{last_of-add}
use Rattle.ip_defs.proofs.TextLaws.{text_self}
use Rattle.mps_defs.proofs.PlaceLaws.{apart_turned}
use Rattle.std.proofs.Math.Bool.{and-false}

-- an entry is for this owner and this row
abbrev pub is_said : List ℕ → List ℕ → List BareEntry → Bool
is_said owner row seen = list_any (λ u. bytes_eq owner u.owner && bytes_eq row u.row) seen

-- its place was not written before
abbrev pub IsFresh : List BareEntry → BareEntry → Type 0
IsFresh seen t = is_said t.owner t.row seen ≡ false

-- its owner came before, and the last entry is not of that owner
abbrev pub is_parted : List BareEntry → BareEntry → Bool
is_parted seen t = is_among t.owner (owners seen) && not (option_map_or (λ u. bytes_eq u.owner t.owner) (last_of seen) false)

-- both
abbrev pub IsNew : List BareEntry → BareEntry → Type 0
IsNew seen t = IsFresh seen t × (is_parted seen t ≡ false)

-- ---- lists of entries by rows

abbrev bare_of : List ℕ → List ℕ → List ℕ → BareEntry
bare_of owner' row' text' = record { owner = owner'; row = row'; text = text' }

-- at most one entry, of this owner and this row
abbrev IsOne : List ℕ → List ℕ → List BareEntry → Type 0
IsOne owner row ts = (o : Option (List ℕ)) × (ts ≡ option_map_or (λ text. bare_of owner row text ∷ []) o [])

said_more : (owner row : List ℕ) (seen : List BareEntry) (t : BareEntry) → is_said owner row seen ≡ false → bytes_eq row t.row ≡ false
    → is_said owner row (seen ++ t ∷ []) ≡ false
said_more owner row seen t e f =
    list_any-append (λ u. bytes_eq owner u.owner && bytes_eq row u.row) seen (t ∷ [])
    ∙ ap (λ k. k || ((bytes_eq owner t.owner && bytes_eq row t.row) || false)) e
    ∙ ap (λ k. (bytes_eq owner t.owner && k) || false) f
    ∙ ap (λ k. k || false) (and-false (bytes_eq owner t.owner))

rows_fresh : (owner : List ℕ) (f : Row → List BareEntry) → ((r : Row) → IsOne owner r.name (f r)) → (rs : List Row) (seen : List BareEntry)
    → AreDistinct (map (λ r. r.name) rs)
    → Each (λ r. is_said owner r.name seen ≡ false) rs → EachAfter IsFresh seen (flat_map f rs)
rows_fresh owner f one [] seen d h = tt
rows_fresh owner f one (r ∷ rs) seen d h =
    by ((one r).0) ((one r).1) (rows_fresh owner f one rs seen d.1 h.1)
    (λ text. rows_fresh owner f one rs (seen ++ bare_of owner r.name text ∷ []) d.1 (after text rs d.0 h.1))
  where
    after : (text : List ℕ) (ks : List Row) → is_among r.name (map (λ k. k.name) ks) ≡ false
        → Each (λ k. is_said owner k.name seen ≡ false) ks
        → Each (λ k. is_said owner k.name (seen ++ bare_of owner r.name text ∷ []) ≡ false) ks
    after text [] e g = tt
    after text (k ∷ ks) e g = (
      said_more owner k.name seen (bare_of owner r.name text) g.0
          (apart_turned r.name k.name (left_false (bytes_eq r.name k.name) (is_among r.name (map (λ y. y.name) ks)) e)),
      after text ks (right_false (bytes_eq r.name k.name) (is_among r.name (map (λ y. y.name) ks)) e) g.1,
    )

    by : (o : Option (List ℕ)) → f r ≡ option_map_or (λ text. bare_of owner r.name text ∷ []) o [] → EachAfter IsFresh seen (flat_map f rs)
        → ((text : List ℕ) → EachAfter IsFresh (seen ++ bare_of owner r.name text ∷ []) (flat_map f rs))
        → EachAfter IsFresh seen (f r ++ flat_map f rs)
    by None e none some = subst (λ k. EachAfter IsFresh seen (k ++ flat_map f rs)) (sym e) none
    by (Some text) e none some = subst (λ k. EachAfter IsFresh seen (k ++ flat_map f rs)) (sym e) (h.0, some text)

one_when : (t : Bool) (owner row text : List ℕ) → IsOne owner row (flat_map listed (when t (triple owner row text)))
one_when true owner row text = (Some text, refl)
one_when false owner row text = (None, refl)

one_coef : (j : ℕ) (name : List ℕ) (r : Row) → IsOne name r.name (flat_map listed (coef_line j name r))
one_coef j name r = by (find (λ p. p.0 == j) r.coefs)
  where
    by : (o : Option (ℕ × ℤ))
        → IsOne name r.name (flat_map listed (option_map_or (λ p. triple name r.name (decimal_text p.1 r.decimals) ∷ []) o []))
    by None = (None, refl)
    by (Some p) = (Some (decimal_text p.1 r.decimals), refl)

one_rhs : (r : Row) → IsOne (codes "RHS") r.name (rhs_bare r)
one_rhs r = by (right_side r)
  where
    by : (o : Option ℤ)
        → IsOne (codes "RHS") r.name (flat_map listed (option_map_or (side_line r) o (triple (codes "RHS") r.name (codes "1e30") ∷ [])))
    by None = (Some (codes "1e30"), refl)
    by (Some b) = one_when (not (int_eq b (pos 0))) (codes "RHS") r.name (decimal_text b r.decimals)

one_range : (r : Row) → IsOne (codes "RNG") r.name (range_bare r)
one_range r = by r.low r.high
  where
    by : (o p : Option ℤ)
        → IsOne (codes "RNG") r.name (flat_map listed (option_map_or (λ low. option_map_or (width_line r low) p []) o []))
    by None p = (None, refl)
    by (Some low) None = (None, refl)
    by (Some low) (Some high) = one_when (not (int_eq low high)) (codes "RNG") r.name (decimal_text (high -ℤ low) r.decimals)

-- ---- right sides and ranges

none_said : (owner : List ℕ) (rs : List Row) → Each (λ r. is_said owner r.name [] ≡ false) rs
none_said owner [] = tt
none_said owner (r ∷ rs) = (refl, none_said owner rs)

pub ranges_fresh : (m : Parts) → AreDistinct (map (λ r. r.name) m.rows)
    → EachAfter IsFresh [] (flat_map listed (flat_map range_line m.rows))
ranges_fresh m d =
    subst (EachAfter IsFresh []) (sym (flat_flat range_line m.rows))
    (rows_fresh (codes "RNG") range_bare one_range m.rows [] d (none_said (codes "RNG") m.rows))

-- rows after an entry of the objective
beside : (m : Parts) (owner text : List ℕ) (seen : List BareEntry) (rs : List Row) → Each (λ r. IsApart m r.name) rs
    → Each (λ r. is_said owner r.name seen ≡ false) rs
    → Each (λ r. is_said owner r.name (seen ++ bare_of owner m.objective text ∷ []) ≡ false) rs
beside m owner text seen [] a h = tt
beside m owner text seen (r ∷ rs) a h =
    (said_more owner r.name seen (bare_of owner m.objective text) h.0 a.0, beside m owner text seen rs a.1 h.1)

pub right_sides_fresh : (m : Parts) → AreDistinct (m.objective ∷ map (λ r. r.name) m.rows)
    → EachAfter IsFresh [] (flat_map listed (constant_line m ++ flat_map rhs_line m.rows))
right_sides_fresh m d =
    subst (EachAfter IsFresh [])
    (sym (listed_append (constant_line m) (flat_map rhs_line m.rows)
    ∙ ap (λ k. flat_map listed (constant_line m) ++ k) (flat_flat rhs_line m.rows))) (by (not (int_eq m.constant (pos 0))))
  where
    by : (t : Bool)
        → EachAfter IsFresh []
        (flat_map listed (when t (triple (codes "RHS") m.objective (value_text m (neg_ℤ m.constant)))) ++ flat_map rhs_bare m.rows)
    by false = rows_fresh (codes "RHS") rhs_bare one_rhs m.rows [] d.1 (none_said (codes "RHS") m.rows)
    by true = (
      refl,
      rows_fresh (codes "RHS") rhs_bare one_rhs m.rows
          (bare_of (codes "RHS") m.objective (value_text m (neg_ℤ m.constant)) ∷ []) d.1
          (beside m (codes "RHS") (value_text m (neg_ℤ m.constant)) [] m.rows (each_apart m m.rows d.0) (none_said (codes "RHS") m.rows)),
    )

-- ---- columns

not_said : (name row : List ℕ) (seen : List BareEntry) → is_among name (owners seen) ≡ false → is_said name row seen ≡ false
not_said name row [] e = refl
not_said name row (t ∷ ts) e =
    ap (λ k. (k && bytes_eq row t.row) || is_said name row ts) (left_false (bytes_eq name t.owner) (is_among name (owners ts)) e)
    ∙ not_said name row ts (right_false (bytes_eq name t.owner) (is_among name (owners ts)) e)

-- entries of one owner stand together
joined : (name : List ℕ) (seen : List BareEntry) (t : BareEntry) (ts : List BareEntry) → t.owner ≡ name → AreOwned name ts
    → EachAfter IsFresh (seen ++ t ∷ []) ts → EachAfter IsNew (seen ++ t ∷ []) ts
joined name seen t [] e h k = tt
joined name seen t (u ∷ us) e h k =
    let same : bytes_eq t.owner u.owner ≡ true = ap (λ n. bytes_eq n u.owner) (e ∙ sym h.0) ∙ text_self u.owner in
    let here : is_parted (seen ++ t ∷ []) u ≡ false =
    ap (λ o. is_among u.owner (owners (seen ++ t ∷ [])) && not (option_map_or (λ (x : BareEntry). bytes_eq x.owner u.owner) o false))
    (last_of-add seen t)
    ∙ ap (λ b. is_among u.owner (owners (seen ++ t ∷ [])) && not b) same ∙ and-false (is_among u.owner (owners (seen ++ t ∷ []))) in
    ((k.0, here), joined name (seen ++ t ∷ []) u us h.0 h.1 k.1)

block_new : (m : Parts) (j : ℕ) (c : Column) (seen : List BareEntry) → AreDistinct (m.objective ∷ map (λ r. r.name) m.rows)
    → is_among c.name (owners seen) ≡ false → EachAfter IsNew seen (block_bare m j c)
block_new m j c seen d e = (
  (
    not_said c.name m.objective seen e,
    ap (λ t. t
        && not (option_map_or (λ (u : BareEntry). bytes_eq u.owner c.name) (last_of seen) false)) e,
  ),
  joined c.name seen (bare_of c.name m.objective (value_text m c.cost)) (coef_bare j c.name m.rows) refl (coefs_owned j c.name m.rows)
      (subst (EachAfter IsFresh (seen ++ bare_of c.name m.objective (value_text m c.cost) ∷ []))
      (sym (flat_flat (coef_line j c.name) m.rows))
      (rows_fresh c.name (λ r. flat_map listed (coef_line j c.name r)) (one_coef j c.name) m.rows
      (seen ++ bare_of c.name m.objective (value_text m c.cost) ∷ []) d.1
      (beside m c.name (value_text m c.cost) seen m.rows (each_apart m m.rows d.0) (unsaid m.rows)))),
)
  where
    unsaid : (rs : List Row) → Each (λ r. is_said c.name r.name seen ≡ false) rs
    unsaid [] = tt
    unsaid (r ∷ rs) = (not_said c.name r.name seen e, unsaid rs)

pub columns_new : (m : Parts) (j : ℕ) (cs : List Column) (seen : List BareEntry) → AreDistinct (m.objective ∷ map (λ r. r.name) m.rows)
    → AreDistinct (map (λ c. c.name) cs) → Each (λ c. is_among c.name (owners seen) ≡ false) cs
    → EachAfter IsNew seen (bare_from m j cs)
columns_new m j [] seen rows d h = tt
columns_new m j (c ∷ cs) seen rows d h =
    subst (EachAfter IsNew seen) (sym (listed_append (column_block m (j, c)) (flat_map (column_block m) (enumerate_from (j + 1) cs))))
    (each_after_append IsNew seen (block_bare m j c) (bare_from m (j + 1) cs) (block_new m j c seen rows h.0)
    (columns_new m (j + 1) cs (seen ++ block_bare m j c) rows d.1 (after cs d.0 h.1)))
  where
    after : (ks : List Column) → is_among c.name (map (λ k. k.name) ks) ≡ false → Each (λ k. is_among k.name (owners seen) ≡ false) ks
        → Each (λ k. is_among k.name (owners (seen ++ block_bare m j c)) ≡ false) ks
    after [] e g = tt
    after (k ∷ ks) e g =
        let apart = apart_turned c.name k.name (left_false (bytes_eq c.name k.name) (is_among c.name (map (λ y. y.name) ks)) e) in (
          ap (is_among k.name) (map-append (λ (t : BareEntry). t.owner) seen (block_bare m j c))
              ∙ not_among_more k.name (owners seen) (owners (block_bare m j c)) g.0
              (not_owned k.name c.name (block_bare m j c) apart (refl, coefs_owned j c.name m.rows)),
          after ks (right_false (bytes_eq c.name k.name) (is_among c.name (map (λ y. y.name) ks)) e) g.1,
        )
