-- A canonical text is UTF-8 where the names of its program are.
use Rattle.std.specs.Prelude.{◌≡◌, ℕ, suc, ◌/◌, ◌%◌, ◌^◌, ◌<◌, ◌==◌, Bool, true, false, not, if◌then◌else◌, List, [], ◌∷◌, ◌++◌}
use Rattle.std.specs.Prelude.{flat_map, codes, decimal, ℤ, pos, negsuc, neg_ℤ, ◌-ℤ◌, nat_lt}
use Rattle.std.specs.Fmt.{signed_decimal}
use Rattle.std.specs.List.{list_all, enumerate_from, concat}
use Rattle.std.specs.Int.RustNames.{unsigned_abs}
use Rattle.std.specs.Ordering.{int_eq}
use Rattle.std.specs.Str.{IsUtf8, is_utf8}
use Rattle.std.proofs.Common.{refl, arith, ap, sym, ◌∙◌, subst}
use Rattle.std.proofs.lemmas.Bool.{ltb-true}
use Rattle.std.proofs.lemmas.List.Elements.{All-cons, All-nil}
use Rattle.std.proofs.lemmas.Str.{IsUtf8-append, IsUtf8-nil, IsUtf8-from_ascii, IsUtf8-from_is_utf8, is_utf8-from_IsUtf8}
use Rattle.std.proofs.lemmas.Str.Ascii.{IsAscii-from_all}
use Rattle.std.proofs.Math.Nat.{div-le_self}
use Rattle.ip_defs.specs.Lists.{Each}
use Rattle.mps_defs.specs.Numbers.{decimal_text, unsigned_text, places, is_digit}
use Rattle.mps_defs.specs.CanonicalText.{Written, head, pair, triple, bound_line, kind_text, is_equation, is_from_below, coef_line}
use Rattle.mps_defs.specs.CanonicalText.{column_block, columns_block, rhs_line, constant_line, range_line, written_text}
use Rattle.mps_defs.specs.CanonicalText.{canonical_text, value_text, newline}
use Rattle.ip_defs.specs.declared.programs.Column.{Column}
use Rattle.ip_defs.specs.declared.programs.Row.{Row}
use Rattle.ip_defs.specs.declared.programs.Parts.{Parts}
use Rattle.text_laws.specs.ReadBack.{HasTextNames}
use Rattle.text_laws.proofs.NumeralLaws.{digit_range, decimal_digits, places_digits}
use Rattle.text_laws.proofs.NumberTextLaws.{signed_decimal_is}
use Rattle.text_laws.proofs.EachLineLaws.{each_coef_line, each_rhs_line, each_range_line, each_columns_line}
use Rattle.text_laws.proofs.ListLaws.{each_flat, each_map, each_when, each_both}
use Rattle.text_laws.proofs.SectionLaws.{Sections, section_lines, after_columns, after_right_sides, after_ranges, after_bounds}
use Rattle.text_laws.proofs.CanonicalLaws.{sections_of, canonical_sections}
use Rattle.text_laws.proofs.ReadableLaws.{IsProgramText, IsRowText, IsColumnText, all_from, found_small, right_side_small, width_small}
use Rattle.text_laws.proofs.ReadableLaws.{negated_small}
use Rattle.ip_defs.proofs.BoolLaws.{both_true}
use Rattle.ip_defs.proofs.ListLaws.{each_numbered, each_append}
use Rattle.mps_defs.proofs.NumberLaws.{ten_positive}

-- ---- numbers

low_utf8 : (b : ℕ) → b < 128 → IsUtf8 (b ∷ [])
low_utf8 b h = IsUtf8-from_ascii (b ∷ []) (IsAscii-from_all (b ∷ []) (All-cons (λ x. x < 128) b [] h (All-nil (λ x. x < 128))))

digits_utf8 : (ds : List ℕ) → list_all is_digit ds ≡ true → IsUtf8 ds
digits_utf8 [] e = IsUtf8-nil
digits_utf8 (d ∷ ds) e =
    let h = both_true (is_digit d) (list_all is_digit ds) e in
    let r = digit_range d h.0 in
    IsUtf8-append (d ∷ []) ds (low_utf8 d (omega (arith, r))) (digits_utf8 ds h.1)

size_utf8 : (n k : ℕ) → n < 2 ^ 64 → IsUtf8 (unsigned_text n k)
size_utf8 n k h =
    let w : n / 10 ^ k < 2 ^ 64 = let e = div-le_self n (10 ^ k) in omega arith in
    IsUtf8-append (decimal (n / 10 ^ k)) (if n % 10 ^ k == 0 then [] else 46 ∷ places k (n % 10 ^ k))
    (digits_utf8 (decimal (n / 10 ^ k)) (decimal_digits (n / 10 ^ k) w)) (by (n % 10 ^ k == 0))
  where
    by : (t : Bool) → IsUtf8 (if t then [] else 46 ∷ places k (n % 10 ^ k))
    by true = IsUtf8-nil
    by false =
        IsUtf8-append (46 ∷ []) (places k (n % 10 ^ k)) (low_utf8 46 (omega arith))
        (digits_utf8 (places k (n % 10 ^ k)) (places_digits k (n % 10 ^ k) (let p = ten_positive k in omega arith)))

number_utf8 : (z : ℤ) (k : ℕ) → unsigned_abs z < 2 ^ 64 → IsUtf8 (decimal_text z k)
number_utf8 (pos n) k h = size_utf8 n k h
number_utf8 (negsuc n) k h = IsUtf8-append (45 ∷ []) (unsigned_text (suc n) k) (low_utf8 45 (omega arith)) (size_utf8 (suc n) k h)

whole_utf8 : (z : ℤ) → unsigned_abs z < 2 ^ 64 → IsUtf8 (signed_decimal z)
whole_utf8 z h = subst IsUtf8 (sym (signed_decimal_is z)) (number_utf8 z 0 h)

-- ---- lines

-- the fields of a line are UTF-8
abbrev IsText : Written → Type 0
IsText w = Each IsUtf8 w.1

abbrev AreTexts : List Written → Type 0
AreTexts ws = Each IsText ws

data_utf8 : (fs : List (List ℕ)) → Each IsUtf8 fs → IsUtf8 (flat_map (λ f. 32 ∷ f) fs)
data_utf8 [] h = IsUtf8-nil
data_utf8 (f ∷ fs) h =
    IsUtf8-append (32 ∷ f) (flat_map (λ g. 32 ∷ g) fs) (IsUtf8-append (32 ∷ []) f (low_utf8 32 (omega arith)) h.0) (data_utf8 fs h.1)

word_utf8 : (fs : List (List ℕ)) → Each IsUtf8 fs → IsUtf8 (concat fs)
word_utf8 [] h = IsUtf8-nil
word_utf8 (f ∷ fs) h = IsUtf8-append f (concat fs) h.0 (word_utf8 fs h.1)

line_utf8 : (w : Written) → Each IsUtf8 w.1 → IsUtf8 (written_text w)
line_utf8 (true, fs) h = IsUtf8-append (flat_map (λ f. 32 ∷ f) fs) newline (data_utf8 fs h) (low_utf8 10 (omega arith))
line_utf8 (false, fs) h = IsUtf8-append (concat fs) newline (word_utf8 fs h) (low_utf8 10 (omega arith))

text_utf8 : (ws : List Written) → AreTexts ws → IsUtf8 (flat_map written_text ws)
text_utf8 [] h = IsUtf8-nil
text_utf8 (w ∷ ws) h = IsUtf8-append (written_text w) (flat_map written_text ws) (line_utf8 w h.0) (text_utf8 ws h.1)

-- a word of ASCII
ascii : (bs : List ℕ) → list_all (λ b. nat_lt b 128) bs ≡ true → IsUtf8 bs
ascii [] e = IsUtf8-nil
ascii (b ∷ bs) e =
    let h = both_true (nat_lt b 128) (list_all (λ x. nat_lt x 128) bs) e in IsUtf8-append (b ∷ []) bs (low_utf8 b (ltb-true b 128 h.0))
    (ascii bs h.1)

-- ---- the lines of a program

record IsColumnUtf8 (c : Column) : Type 0 where
  text : IsColumnText c
  name : IsUtf8 c.name

record IsRowUtf8 (r : Row) : Type 0 where
  text : IsRowText r
  name : IsUtf8 r.name

columns_utf8 : (m : Parts) → IsProgramText m → HasTextNames m → Each IsColumnUtf8 m.columns
columns_utf8 m h t =
    each_both IsColumnText (λ c. IsUtf8 c.name) IsColumnUtf8 m.columns h.columns
    (all_from (λ (c : Column). IsUtf8 c.name) m.columns (λ j c at. IsUtf8-from_is_utf8 c.name (t.columns j c at)))
    (λ c p q. record { text = p; name = q })

rows_utf8 : (m : Parts) → IsProgramText m → HasTextNames m → Each IsRowUtf8 m.rows
rows_utf8 m h t =
    each_both IsRowText (λ r. IsUtf8 r.name) IsRowUtf8 m.rows h.rows
    (all_from (λ (r : Row). IsUtf8 r.name) m.rows (λ j r at. IsUtf8-from_is_utf8 r.name (t.rows j r at)))
    (λ r p q. record { text = p; name = q })

kind_utf8 : (r : Row) → IsUtf8 (kind_text r)
kind_utf8 r = by (is_equation r) (is_from_below r)
  where
    by : (t u : Bool) → IsUtf8 (if t then codes "E" else (if u then codes "G" else codes "L"))
    by true u = ascii (codes "E") refl
    by false true = ascii (codes "G") refl
    by false false = ascii (codes "L") refl

coef_utf8 : (j : ℕ) (name : List ℕ) (r : Row) → IsUtf8 name → IsRowUtf8 r → AreTexts (coef_line j name r)
coef_utf8 j name r e h =
    each_coef_line IsText j name r
    (λ p f. (e, (h.name, (number_utf8 p.1 r.decimals (found_small r.coefs (λ q. q.0 == j) p h.text.coefs f), tt))))

rhs_utf8 : (r : Row) → IsRowUtf8 r → AreTexts (rhs_line r)
rhs_utf8 r h =
    each_rhs_line IsText r (ascii (codes "RHS") refl, (h.name, (ascii (codes "1e30") refl, tt)))
    (λ b e. (
      ascii (codes "RHS") refl,
      (h.name, (number_utf8 b r.decimals (let s = right_side_small r h.text b e in omega arith), tt)),
    ))

range_utf8 : (r : Row) → IsRowUtf8 r → AreTexts (range_line r)
range_utf8 r h =
    each_range_line IsText r
    (λ low high e f. (
      ascii (codes "RNG") refl,
      (h.name, (number_utf8 (high -ℤ low) r.decimals (width_small low high (h.text.low low e) (h.text.high high f)), tt)),
    ))

marker_utf8 : (word : List ℕ) → IsUtf8 word → Each IsUtf8 (codes "M" ∷ codes "'MARKER'" ∷ word ∷ [])
marker_utf8 word h = (ascii (codes "M") refl, (ascii (codes "'MARKER'") refl, (h, tt)))

block_utf8 : (m : Parts) → IsProgramText m → HasTextNames m → AreTexts (columns_block m)
block_utf8 m h t =
    each_columns_line IsText m (marker_utf8 (codes "'INTORG'") (ascii (codes "'INTORG'") refl))
    (marker_utf8 (codes "'INTEND'") (ascii (codes "'INTEND'") refl))
    (each_flat (λ p. IsColumnUtf8 p.1) IsText (column_block m) (enumerate_from 0 m.columns)
    (each_numbered IsColumnUtf8 0 m.columns (columns_utf8 m h t))
    (λ p c. (
      (
        c.name,
        (
          IsUtf8-from_is_utf8 m.objective t.objective,
          (number_utf8 p.1.cost m.cost_decimals c.text.cost, tt),
        ),
      ),
      each_flat IsRowUtf8 IsText (coef_line p.0 p.1.name) m.rows (rows_utf8 m h t) (λ r k. coef_utf8 p.0 p.1.name r c.name k),
    )))

bound_utf8 : (kind name : List ℕ) (z : ℤ) → IsUtf8 kind → IsUtf8 name → unsigned_abs z < 2 ^ 64 → Each IsUtf8 (bound_line kind name z).1
bound_utf8 kind name z e f h = (e, (ascii (codes "BND") refl, (f, (whole_utf8 z h, tt))))

head_utf8 : (word : List ℕ) → list_all (λ b. nat_lt b 128) word ≡ true → Each IsUtf8 (head word).1
head_utf8 word e = (ascii word e, tt)

-- a canonical text is UTF-8
pub canonical_utf8 : (m : Parts) → IsProgramText m → HasTextNames m → is_utf8 (canonical_text m) ≡ true
canonical_utf8 m h t =
    ap (λ ws. is_utf8 (flat_map written_text ws)) (canonical_sections m)
    ∙ is_utf8-from_IsUtf8 (flat_map written_text (section_lines (sections_of m))) (text_utf8 (section_lines (sections_of m)) (
      head_utf8 (codes "NAME") refl,
      (
        head_utf8 (codes "ROWS") refl,
        each_append IsText s.rows (head (codes "COLUMNS") ∷ s.columns ++ after_columns s) rows_are (
          head_utf8 (codes "COLUMNS") refl,
          each_append IsText s.columns (after_columns s) (block_utf8 m h t) (
            head_utf8 (codes "RHS") refl,
            each_append IsText s.right_sides (after_right_sides s) sides_are (
              head_utf8 (codes "RANGES") refl,
              each_append IsText s.ranges (after_ranges s) (each_flat IsRowUtf8 IsText range_line m.rows rows range_utf8) (
                head_utf8 (codes "BOUNDS") refl,
                each_append IsText s.bounds (after_bounds s) bounds_are (head_utf8 (codes "ENDATA") refl, tt),
              ),
            ),
          ),
        ),
      ),
    ))
  where
    s : Sections
    s = sections_of m

    rows : Each IsRowUtf8 m.rows
    rows = rows_utf8 m h t

    rows_are : AreTexts ((sections_of m).rows)
    rows_are = (
      (ascii (codes "N") refl, (IsUtf8-from_is_utf8 m.objective t.objective, tt)),
      each_map IsRowUtf8 IsText
          (λ r. pair (kind_text r) r.name) m.rows (rows_utf8 m h t) (λ r k. (kind_utf8 r, (k.name, tt))),
    )

    sides_are : AreTexts ((sections_of m).right_sides)
    sides_are =
        each_append IsText (constant_line m) (flat_map rhs_line m.rows)
        (each_when IsText (not (int_eq m.constant (pos 0))) (triple (codes "RHS") m.objective (value_text m (neg_ℤ m.constant))) (
          ascii (codes "RHS") refl,
          (
            IsUtf8-from_is_utf8 m.objective t.objective,
            (number_utf8 (neg_ℤ m.constant) m.cost_decimals (negated_small m.constant h.constant), tt),
          ),
        ))
        (each_flat IsRowUtf8 IsText rhs_line m.rows (rows_utf8 m h t) rhs_utf8)

    bounds_are : AreTexts ((sections_of m).bounds)
    bounds_are =
        each_flat IsColumnUtf8 IsText (λ c. bound_line (codes "LO") c.name c.lo ∷ bound_line (codes "UP") c.name c.hi ∷ []) m.columns
        (columns_utf8 m h t)
        (λ c k. (
          bound_utf8 (codes "LO") c.name c.lo (ascii (codes "LO") refl) k.name k.text.lo,
          (bound_utf8 (codes "UP") c.name c.hi (ascii (codes "UP") refl) k.name k.text.hi, tt),
        ))
