-- The names of the columns are read in their order.
use Rattle.std.specs.Prelude.{◌≡◌, ℕ, suc, ◌+◌, ◌==◌, Bool, true, false, ◌||◌, not, cond, if◌then◌else◌, List, [], ◌∷◌, ◌++◌, length, map}
use Rattle.std.specs.Prelude.{filter, flat_map, find, Option, None, Some, bytes_eq, codes, ℤ}
use Rattle.std.specs.List.{enumerate_from}
use Rattle.std.specs.Option.{option_map_or}
use Rattle.std.proofs.Common.{refl, arith, ap, sym, ◌∙◌, subst}
use Rattle.std.proofs.lemmas.Bool.{ne_eqb}
use Rattle.std.proofs.lemmas.List.Folds.{list_any-append}
use Rattle.mps_defs.specs.Lists.{is_among, AreDistinct}
use Rattle.ip_defs.specs.Lists.{when, Each}
use Rattle.mps_defs.specs.Numbers.{decimal_text}
use Rattle.mps_defs.specs.CanonicalText.{Written, triple, coef_line, column_block}
use Rattle.mps_defs.specs.Records.{Line, is_marker, column_lines, column_name, column_names}
use Rattle.ip_defs.specs.declared.programs.Column.{Column}
use Rattle.ip_defs.specs.declared.programs.Row.{Row}
use Rattle.ip_defs.specs.declared.programs.Parts.{Parts}
use Rattle.text_laws.proofs.WrittenLaws.{lines_from}
use Rattle.text_laws.proofs.SectionLaws.{lines_in, columns_at, new_names, names_are, data_lines}
use Rattle.text_laws.proofs.CanonicalLaws.{sections_of, are_sections}
use Rattle.text_laws.proofs.ReadableLaws.{IsProgramText}
use Rattle.text_laws.proofs.EntryReadLaws.{BareEntry, listed, AreTriples, of_triple, listed_append}
use Rattle.text_laws.proofs.RecordReadLaws.{blocks_of, blocks_triples}
use Rattle.text_laws.proofs.EachLineLaws.{first_mark, last_mark}
use Rattle.text_laws.proofs.CoefReadLaws.{bare_from, block_bare}
use Rattle.ip_defs.proofs.BoolLaws.{left_false, right_false}
use Rattle.std.proofs.lemmas.List.{append-nil, append_assoc, map-append}
use Rattle.ip_defs.proofs.TextLaws.{text_self}
use Rattle.mps_defs.proofs.PlaceLaws.{apart_turned}

abbrev pub owners : List BareEntry → List (List ℕ)
owners ts = map (λ t. t.owner) ts

-- the names on the lines between the markers
pub lines_bare : (m : Parts) → IsProgramText m
    → map column_name (column_lines (lines_in (sections_of m))) ≡ owners (flat_map listed (blocks_of m))
lines_bare m h =
    ap (λ ls. map column_name (filter (λ l. not (is_marker l)) ls)) (data_lines (sections_of m) (are_sections m)).columns ∙ by m.columns
  where
    first : ℕ
    first = columns_at (sections_of m)

    plain : ℕ → List Written → List (List ℕ)
    plain n ds = map column_name (filter (λ l. not (is_marker l)) (lines_from n (codes "COLUMNS") ds))

    after : (n : ℕ) (ds : List Written) → AreTriples ds
        → map column_name (filter (λ l. not (is_marker l)) (lines_from n (codes "COLUMNS") (ds ++ last_mark ∷ [])))
        ≡ owners (flat_map listed ds)
    after n [] t = refl
    after n (d ∷ ds) t =
        of_triple (λ w. map column_name (filter (λ l. not (is_marker l)) (lines_from n (codes "COLUMNS") (w ∷ (ds ++ last_mark ∷ []))))
        ≡ owners (flat_map listed (w ∷ ds))) d t.0
        (λ a b c e.
        let l : Line = record { number = n; is_item = true; section = codes "COLUMNS"; fields = a ∷ b ∷ c ∷ [] } in
        let later = filter (λ y. not (is_marker y)) (lines_from (suc n) (codes "COLUMNS") (ds ++ last_mark ∷ [])) in
        ap (λ u. map column_name (cond (not u) (l ∷ later) later)) e ∙ ap (λ y. a ∷ y) (after (suc n) ds t.1))

    by : (cs : List Column)
        → map column_name (filter (λ l. not (is_marker l)) (lines_from first (codes "COLUMNS") (if length cs == 0 then []
        else first_mark ∷ flat_map (column_block m) (enumerate_from 0 cs) ++ last_mark ∷ [])))
        ≡ owners (flat_map listed (flat_map (column_block m) (enumerate_from 0 cs)))
    by [] = refl
    by (c ∷ cs) =
        ap (λ t. map column_name (filter (λ l. not (is_marker l))
        (lines_from first (codes "COLUMNS")
        (if t then [] else first_mark ∷ flat_map (column_block m)
        (enumerate_from 0 (c ∷ cs)) ++ last_mark ∷ [])))) (ne_eqb (length (c ∷ cs)) 0 (λ e. omega arith))
        ∙ after (suc first) (flat_map (column_block m) (enumerate_from 0 (c ∷ cs))) (blocks_triples m h (enumerate_from 0 (c ∷ cs)))

abbrev pub AreOwned : List ℕ → List BareEntry → Type 0
AreOwned name ts = Each (λ t. t.owner ≡ name) ts

owned_append : (name : List ℕ) (xs ys : List BareEntry) → AreOwned name xs → AreOwned name ys → AreOwned name (xs ++ ys)
owned_append name [] ys h k = k
owned_append name (x ∷ xs) ys h k = (h.0, owned_append name xs ys h.1 k)

pub coefs_owned : (j : ℕ) (name : List ℕ) (rs : List Row) → AreOwned name (flat_map listed (flat_map (coef_line j name) rs))
coefs_owned j name [] = tt
coefs_owned j name (r ∷ rs) =
    subst (AreOwned name) (sym (listed_append (coef_line j name r) (flat_map (coef_line j name) rs)))
    (owned_append name (flat_map listed (coef_line j name r)) (flat_map listed (flat_map (coef_line j name) rs))
    (one (find (λ p. p.0 == j) r.coefs)) (coefs_owned j name rs))
  where
    one : (o : Option (ℕ × ℤ))
        → AreOwned name (flat_map listed (option_map_or (λ p. triple name r.name (decimal_text p.1 r.decimals) ∷ []) o []))
    one None = tt
    one (Some p) = (refl, tt)

among_more : (name : List ℕ) (seen more : List (List ℕ)) → is_among name seen ≡ true → is_among name (seen ++ more) ≡ true
among_more name seen more e = list_any-append (bytes_eq name) seen more ∙ ap (λ t. t || is_among name more) e

-- a name that came before brings nothing
same_names : (name : List ℕ) (seen : List (List ℕ)) (ts : List BareEntry) (rest : List (List ℕ)) → is_among name seen ≡ true
    → AreOwned name ts
    → new_names seen (owners ts ++ rest) ≡ new_names (seen ++ owners ts) rest
same_names name seen [] rest e h = ap (λ s. new_names s rest) (sym (append-nil seen))
same_names name seen (t ∷ ts) rest e h =
    ap (λ u. when (not u) t.owner ++ new_names (seen ++ t.owner ∷ []) (owners ts ++ rest)) (ap (λ n. is_among n seen) h.0 ∙ e)
    ∙ same_names name (seen ++ t.owner ∷ []) ts rest (among_more name seen (t.owner ∷ []) e) h.1
    ∙ ap (λ s. new_names s rest) (append_assoc seen (t.owner ∷ []) (owners ts))

pub not_owned : (other name : List ℕ) (ts : List BareEntry) → bytes_eq other name ≡ false → AreOwned name ts
    → is_among other (owners ts) ≡ false
not_owned other name [] e h = refl
not_owned other name (t ∷ ts) e h = ap (λ u. u || is_among other (owners ts)) (ap (bytes_eq other) h.0 ∙ e) ∙ not_owned other name ts e h.1

pub not_among_more : (name : List ℕ) (xs ys : List (List ℕ)) → is_among name xs ≡ false → is_among name ys ≡ false
    → is_among name (xs ++ ys) ≡ false
not_among_more name xs ys e f = list_any-append (bytes_eq name) xs ys ∙ ap (λ t. t || is_among name ys) e ∙ f

all_names : (m : Parts) (j : ℕ) (cs : List Column) (seen : List (List ℕ)) → AreDistinct (map (λ c. c.name) cs)
    → Each (λ c. is_among c.name seen ≡ false) cs → new_names seen (owners (bare_from m j cs)) ≡ map (λ c. c.name) cs
all_names m j [] seen d h = refl
all_names m j (c ∷ cs) seen d h =
    let ts = flat_map listed (flat_map (coef_line j c.name) m.rows) in
    let rest = owners (bare_from m (j + 1) cs) in
    let owned = coefs_owned j c.name m.rows in
    let here : is_among c.name (seen ++ c.name ∷ []) ≡ true =
    list_any-append (bytes_eq c.name) seen (c.name ∷ []) ∙ last (is_among c.name seen) (bytes_eq c.name c.name) (text_self c.name) in
    ap (λ k. new_names seen (owners k)) (listed_append (column_block m (j, c)) (flat_map (column_block m) (enumerate_from (j + 1) cs)))
    ∙ ap (new_names seen) (map-append (λ (t : BareEntry). t.owner) (block_bare m j c) (bare_from m (j + 1) cs))
    ∙ ap (λ u. when (not u) c.name ++ new_names (seen ++ c.name ∷ []) (owners ts ++ rest)) h.0
    ∙ ap (λ k. c.name ∷ k)
    (same_names c.name (seen ++ c.name ∷ []) ts rest here owned
    ∙ all_names m (j + 1) cs ((seen ++ c.name ∷ []) ++ owners ts) d.1 (after cs d.0 h.1))
  where
    last : (t u : Bool) → u ≡ true → (t || (u || false)) ≡ true
    last true u e = refl
    last false u e = ap (λ k. k || false) e

    after : (ks : List Column) → is_among c.name (map (λ k. k.name) ks) ≡ false → Each (λ k. is_among k.name seen ≡ false) ks
        → Each (λ k. is_among k.name ((seen ++ c.name ∷ []) ++ owners (flat_map listed (flat_map (coef_line j c.name) m.rows))) ≡ false) ks
    after [] e g = tt
    after (k ∷ ks) e g =
        let apart = apart_turned c.name k.name (left_false (bytes_eq c.name k.name) (is_among c.name (map (λ y. y.name) ks)) e) in (
          not_among_more k.name (seen ++ c.name ∷ []) (owners (flat_map listed (flat_map (coef_line j c.name) m.rows)))
              (not_among_more k.name seen (c.name ∷ []) g.0 (ap (λ t. t || false) apart))
              (not_owned k.name c.name (flat_map listed (flat_map (coef_line j c.name) m.rows)) apart (coefs_owned j c.name m.rows)),
          after ks (right_false (bytes_eq c.name k.name) (is_among c.name (map (λ y. y.name) ks)) e) g.1,
        )

pub none_seen : (cs : List Column) → Each (λ c. is_among c.name [] ≡ false) cs
none_seen [] = tt
none_seen (c ∷ cs) = (refl, none_seen cs)

pub names_read : (m : Parts) → IsProgramText m → AreDistinct (map (λ c. c.name) m.columns)
    → column_names (lines_in (sections_of m)) ≡ map (λ c. c.name) m.columns
names_read m h d =
    names_are (lines_in (sections_of m)) ∙ ap (new_names []) (lines_bare m h) ∙ all_names m 0 m.columns [] d (none_seen m.columns)
