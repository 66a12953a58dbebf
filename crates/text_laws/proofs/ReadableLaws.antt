-- Each line of the canonical text of a printable program within its limits can be read back, and ENDATA is the last one.
use Rattle.std.specs.Prelude.{◌≡◌, ℕ, zero, suc, ◌/◌, ◌%◌, ◌^◌, ◌<◌, ◌≤◌, ◌==◌, Bool, true, false, ◌&&◌, ◌||◌, not, cond, if◌then◌else◌}
use Rattle.std.specs.Prelude.{List, [], ◌∷◌, ◌++◌, length, flat_map, find, Some, slice_get, bytes_eq, codes, decimal, ℤ}
use Rattle.std.specs.Prelude.{pos, negsuc, neg_ℤ, ◌-ℤ◌}
use Rattle.std.specs.Fmt.{signed_decimal}
use Rattle.std.specs.List.{list_any, list_all, enumerate_from}
use Rattle.std.specs.Option.{ForSome}
use Rattle.std.specs.Int.RustNames.{unsigned_abs}
use Rattle.std.specs.Ordering.{int_eq}
use Rattle.std.proofs.Common.{refl, arith, ap, sym, ◌∙◌, subst}
use Rattle.std.proofs.lemmas.Bool.{and_from, ne_eqb}
use Rattle.std.proofs.lemmas.Int.{ints}
use Rattle.std.proofs.lemmas.List.Folds.{list_any-append}
use Rattle.std.proofs.Math.Nat.{div-le_self}
use Rattle.ip_defs.specs.Lists.{Each}
use Rattle.ip_defs.specs.Limits.{IsWithinLimits, AreSmall}
use Rattle.mps_defs.specs.Numbers.{decimal_text, unsigned_text, places, is_digit}
use Rattle.mps_defs.specs.CanonicalText.{Written, head, pair, triple, bound_line, kind_text, is_equation, is_from_below, coef_line}
use Rattle.mps_defs.specs.CanonicalText.{column_block, columns_block, right_side, rhs_line, constant_line, range_line, written_text}
use Rattle.mps_defs.specs.CanonicalText.{canonical_text, is_printable, is_printable_name, value_text, is_separator}
use Rattle.ip_defs.specs.Program.{is_crossed}
use Rattle.mps_defs.specs.Records.{lines_of}
use Rattle.ip_defs.specs.declared.programs.Column.{Column}
use Rattle.ip_defs.specs.declared.programs.Row.{Row}
use Rattle.ip_defs.specs.declared.programs.Parts.{Parts}
use Rattle.text_laws.proofs.WrittenLaws.{is_field, is_readable, is_last}
use Rattle.text_laws.proofs.NumeralLaws.{digit_range, decimal_digits, decimal_some, places_digits, none_among}
use Rattle.text_laws.proofs.NumberTextLaws.{signed_decimal_is}
use Rattle.text_laws.proofs.LineTextLaws.{IsReadable, AreReadable, EndsOnce, text_lines}
use Rattle.text_laws.proofs.ListLaws.{each_flat, each_map, each_when}
use Rattle.text_laws.proofs.EachLineLaws.{each_coef_line, each_rhs_line, each_range_line, each_columns_line}
use Rattle.text_laws.proofs.SectionLaws.{Sections, AreSections, AreItems, section_lines, lines_in, after_rows, after_columns}
use Rattle.text_laws.proofs.SectionLaws.{after_right_sides, after_ranges, after_bounds}
use Rattle.text_laws.proofs.CanonicalLaws.{sections_of, canonical_sections, are_sections}
use Rattle.ip_defs.proofs.BoolLaws.{both_true}
use Rattle.std.proofs.lemmas.Bool.{not-true}
use Rattle.ip_defs.proofs.ListLaws.{each_append, each_numbered}
use Rattle.mps_defs.proofs.NumberLaws.{ten_positive}

-- ---- number texts are fields

digit_even : (b : ℕ) → is_digit b ≡ true → is_separator b ≡ false
digit_even b e =
    let r = digit_range b e in
    ap (λ t. t || (b == 9) || (b == 13) || (b == 10)) (ne_eqb b 32 (λ s. omega (arith, r)))
    ∙ ap (λ t. t || (b == 13) || (b == 10)) (ne_eqb b 9 (λ s. omega (arith, r)))
    ∙ ap (λ t. t || (b == 10)) (ne_eqb b 13 (λ s. omega (arith, r)))
    ∙ ne_eqb b 10 (λ s. omega (arith, r))

size_even : (n k : ℕ) → n < 2 ^ 64 → list_any is_separator (unsigned_text n k) ≡ false
size_even n k h =
    let w : n / 10 ^ k < 2 ^ 64 = let e = div-le_self n (10 ^ k) in omega arith in
    list_any-append is_separator (decimal (n / 10 ^ k)) (if n % 10 ^ k == 0 then [] else 46 ∷ places k (n % 10 ^ k))
    ∙ ap (λ t. t || list_any is_separator (if n % 10 ^ k == 0 then [] else 46 ∷ places k (n % 10 ^ k)))
    (none_among is_separator (decimal (n / 10 ^ k)) digit_even (decimal_digits (n / 10 ^ k) w))
    ∙ by (n % 10 ^ k == 0)
  where
    by : (t : Bool) → list_any is_separator (if t then [] else 46 ∷ places k (n % 10 ^ k)) ≡ false
    by true = refl
    by false =
        none_among is_separator (places k (n % 10 ^ k)) digit_even (places_digits k (n % 10 ^ k) (let p = ten_positive k in omega arith))

field_from : (f : List ℕ) → (length f ≡ 0 → ⊥) → list_any is_separator f ≡ false → is_field f ≡ true
field_from f some e = and_from (not (length f == 0)) (not (list_any is_separator f)) (ap not (ne_eqb (length f) 0 some)) (ap not e)

some_before : (xs ys : List ℕ) → 1 ≤ length xs → length (xs ++ ys) ≡ 0 → ⊥
some_before [] ys l e = omega arith
some_before (x ∷ xs) ys l e = omega arith

pub number_field : (z : ℤ) (k : ℕ) → unsigned_abs z < 2 ^ 64 → is_field (decimal_text z k) ≡ true
number_field (pos n) k h =
    let w : n / 10 ^ k < 2 ^ 64 = let e = div-le_self n (10 ^ k) in omega arith in
    field_from (unsigned_text n k)
    (some_before (decimal (n / 10 ^ k)) (if n % 10 ^ k == 0 then [] else 46 ∷ places k (n % 10 ^ k)) (decimal_some (n / 10 ^ k) w))
    (size_even n k h)
number_field (negsuc n) k h = field_from (45 ∷ unsigned_text (suc n) k) (λ e. omega arith) (size_even (suc n) k h)

pub bound_field : (z : ℤ) → unsigned_abs z < 2 ^ 64 → is_field (signed_decimal z) ≡ true
bound_field z h = ap is_field (signed_decimal_is z) ∙ number_field z 0 h

pub name_field : (name : List ℕ) → is_printable_name name ≡ true → is_field name ≡ true
name_field name e =
    let h = both_true (not (length name == 0) && not (bytes_eq name (codes "'MARKER'"))) (not (list_any is_separator name)) e in
    and_from (not (length name == 0)) (not (list_any is_separator name))
    (both_true (not (length name == 0)) (not (bytes_eq name (codes "'MARKER'"))) h.0).0 h.1

-- ---- what a program's parts are

pub record IsColumnText (c : Column) : Type 0 where
  pub name : is_printable_name c.name ≡ true
  pub cost : unsigned_abs c.cost < 2 ^ 64
  pub lo : unsigned_abs c.lo < 2 ^ 64
  pub hi : unsigned_abs c.hi < 2 ^ 64

pub record IsRowText (r : Row) : Type 0 where
  pub name : is_printable_name r.name ≡ true
  pub decimals : r.decimals ≤ 9
  pub coefs : Each (λ p. unsigned_abs p.1 < 2 ^ 64) r.coefs
  pub low : ForSome r.low (λ side. unsigned_abs side ≤ 2 ^ 62)
  pub high : ForSome r.high (λ side. unsigned_abs side ≤ 2 ^ 62)

pub record IsProgramText (m : Parts) : Type 0 where
  pub objective : is_printable_name m.objective ≡ true
  pub decimals : m.cost_decimals ≤ 9
  pub constant : unsigned_abs m.constant < 2 ^ 64
  pub columns : Each IsColumnText m.columns
  pub rows : Each IsRowText m.rows

pub all_from : {A : Type 0} (P : A → Type 0) (xs : List A) → ((i : ℕ) (x : A) → slice_get xs i ≡ Some x → P x) → Each P xs
all_from P [] h = tt
all_from P (x ∷ xs) h = (h 0 x refl, all_from P xs (λ i y e. h (suc i) y e))

each_tested : {A : Type 0} (test : A → Bool) (xs : List A) → list_all test xs ≡ true → (i : ℕ) (x : A) → slice_get xs i ≡ Some x
    → test x ≡ true
each_tested test [] e i x at = absurd cc
each_tested test (y ∷ ys) e zero x at = let same : y ≡ x = cc in ap test (sym same) ∙ (both_true (test y) (list_all test ys) e).0
each_tested test (y ∷ ys) e (suc i) x at = each_tested test ys (both_true (test y) (list_all test ys) e).1 i x at

small_coefs : (ps : List (ℕ × ℤ)) → AreSmall (2 ^ 40) ps → Each (λ p. unsigned_abs p.1 < 2 ^ 64) ps
small_coefs [] h = tt
small_coefs (p ∷ ps) h = (let here = h 0 (omega arith) in omega arith, small_coefs ps (λ i l. h (suc i) (omega arith)))

-- what it says of a program that it is printable
pub record ArePrintable (m : Parts) : Type 0 where
  pub uncrossed : list_any is_crossed m.rows ≡ false
  pub objective : is_printable_name m.objective ≡ true
  pub columns : list_all (λ c. is_printable_name c.name) m.columns ≡ true
  pub rows : list_all (λ r. is_printable_name r.name) m.rows ≡ true

pub printable_parts : (m : Parts) → is_printable m ≡ true → ArePrintable m
printable_parts m e =
    let first =
    both_true (not (list_any is_crossed m.rows) && is_printable_name m.objective && list_all (λ c. is_printable_name c.name) m.columns)
    (list_all (λ r. is_printable_name r.name) m.rows) e in
    let second =
    both_true (not (list_any is_crossed m.rows) && is_printable_name m.objective)
    (list_all (λ c. is_printable_name c.name) m.columns) first.0 in
    let third = both_true (not (list_any is_crossed m.rows)) (is_printable_name m.objective) second.0 in
    record {
      uncrossed = not-true (list_any is_crossed m.rows) third.0;
      objective = third.1;
      columns = second.1;
      rows = first.1;
    }

pub program_text : (m : Parts) → is_printable m ≡ true → IsWithinLimits m → IsProgramText m
program_text m e w =
    let parts = printable_parts m e in
    record {
      objective = parts.objective;
      decimals = w.shape.decimals;
      constant = let l = w.constant in omega arith;
      columns = all_from IsColumnText m.columns
          (λ i c at. let l = w.columns i c at in record {
            name = each_tested (λ x. is_printable_name x.name) m.columns parts.columns i c at;
            cost = omega
                (arith, l.cost);
            lo = omega (arith, l.lo);
            hi = omega (arith, l.hi);
          });
      rows = all_from IsRowText m.rows
          (λ i r at. let l = w.rows i r at in record {
            name = each_tested (λ x. is_printable_name x.name) m.rows parts.rows i r at;
            decimals =
                (w.shape.rows i r at).decimals;
            coefs = small_coefs r.coefs l.coefs;
            low = l.low;
            high = l.high;
          });
    }

-- ---- readable lines

three : (a b c : List ℕ) → is_field a ≡ true → is_field b ≡ true → is_field c ≡ true → is_readable (triple a b c) ≡ true
three a b c e f g =
    and_from (is_field a) (is_field b && (is_field c && true)) e
    (and_from (is_field b) (is_field c && true) f (and_from (is_field c) true g refl))

pub found_small : (ps : List (ℕ × ℤ)) (test : ℕ × ℤ → Bool) (p : ℕ × ℤ) → Each (λ q. unsigned_abs q.1 < 2 ^ 64) ps → find test ps ≡ Some p
    → unsigned_abs p.1 < 2 ^ 64
found_small [] test p all e = absurd cc
found_small (q ∷ qs) test p all e = by (test q) e (found_small qs test p all.1)
  where
    by : (t : Bool) → cond t (Some q) (find test qs) ≡ Some p → (find test qs ≡ Some p → unsigned_abs p.1 < 2 ^ 64)
        → unsigned_abs p.1 < 2 ^ 64
    by true f rest = let same : q ≡ p = cc in subst (λ (x : ℕ × ℤ). unsigned_abs x.1 < 2 ^ 64) same all.0
    by false f rest = rest f

coef_readable : (j : ℕ) (name : List ℕ) (r : Row) → is_field name ≡ true → IsRowText r → AreReadable (coef_line j name r)
coef_readable j name r e h =
    each_coef_line IsReadable j name r
    (λ p f. three name r.name (decimal_text p.1 r.decimals) e (name_field r.name h.name)
    (number_field p.1 r.decimals (found_small r.coefs (λ q. q.0 == j) p h.coefs f)))

pub right_side_small : (r : Row) → IsRowText r → ForSome (right_side r) (λ b. unsigned_abs b ≤ 2 ^ 62)
right_side_small r h = by (is_from_below r)
  where
    by : (t : Bool) → ForSome (if t then r.low else r.high) (λ b. unsigned_abs b ≤ 2 ^ 62)
    by true = h.low
    by false = h.high

rhs_readable : (r : Row) → IsRowText r → AreReadable (rhs_line r)
rhs_readable r h =
    each_rhs_line IsReadable r (three (codes "RHS") r.name (codes "1e30") refl (name_field r.name h.name) refl)
    (λ b e. three (codes "RHS") r.name (decimal_text b r.decimals) refl (name_field r.name h.name)
    (number_field b r.decimals (let s = right_side_small r h b e in omega arith)))

pub width_small : (low high : ℤ) → unsigned_abs low ≤ 2 ^ 62 → unsigned_abs high ≤ 2 ^ 62 → unsigned_abs (high -ℤ low) < 2 ^ 64
width_small low high h k = omega (arith, ints)

range_readable : (r : Row) → IsRowText r → AreReadable (range_line r)
range_readable r h =
    each_range_line IsReadable r
    (λ low high e f. three (codes "RNG") r.name (decimal_text (high -ℤ low) r.decimals) refl (name_field r.name h.name)
    (number_field (high -ℤ low) r.decimals (width_small low high (h.low low e) (h.high high f))))

kind_readable : (r : Row) → IsRowText r → is_readable (pair (kind_text r) r.name) ≡ true
kind_readable r h =
    and_from (is_field (kind_text r)) (is_field r.name && true) (by (is_equation r) (is_from_below r))
    (and_from (is_field r.name) true (name_field r.name h.name) refl)
  where
    by : (t u : Bool) → is_field (if t then codes "E" else (if u then codes "G" else codes "L")) ≡ true
    by true u = refl
    by false true = refl
    by false false = refl

column_readable : (m : Parts) → IsProgramText m → (p : ℕ × Column) → IsColumnText p.1 → AreReadable (column_block m p)
column_readable m h p c = (
  three p.1.name m.objective (value_text m p.1.cost) (name_field p.1.name c.name) (name_field m.objective h.objective)
      (number_field p.1.cost m.cost_decimals c.cost),
  each_flat IsRowText IsReadable (coef_line p.0 p.1.name) m.rows h.rows
      (λ r k. coef_readable p.0 p.1.name r (name_field p.1.name c.name) k),
)

columns_readable : (m : Parts) → IsProgramText m → AreReadable (columns_block m)
columns_readable m h =
    each_columns_line IsReadable m refl refl (each_flat (λ p. IsColumnText p.1) IsReadable (column_block m) (enumerate_from 0 m.columns)
    (each_numbered IsColumnText 0 m.columns h.columns) (column_readable m h))

bound_readable : (kind name : List ℕ) (z : ℤ) → is_field kind ≡ true → is_field name ≡ true → unsigned_abs z < 2 ^ 64
    → is_readable (bound_line kind name z) ≡ true
bound_readable kind name z e f h =
    and_from (is_field kind) (true && (is_field name && (is_field (signed_decimal z) && true))) e (three_more)
  where
    three_more : (is_field name && (is_field (signed_decimal z) && true)) ≡ true
    three_more =
        and_from (is_field name) (is_field (signed_decimal z) && true) f
        (and_from (is_field (signed_decimal z)) true (bound_field z h) refl)

pub negated_small : (z : ℤ) → unsigned_abs z < 2 ^ 64 → unsigned_abs (neg_ℤ z) < 2 ^ 64
negated_small z h = omega (arith, ints)

sections_readable : (m : Parts) → IsProgramText m → AreReadable (section_lines (sections_of m))
sections_readable m h =
    let s = sections_of m in (
      refl,
      (
        refl,
        each_append IsReadable s.rows (after_rows s) (
          and_from (is_field (codes "N")) (is_field m.objective && true) refl
              (and_from (is_field m.objective) true (name_field m.objective h.objective) refl),
          each_map IsRowText IsReadable
              (λ r. pair (kind_text r) r.name) m.rows h.rows kind_readable,
        ) (
          refl,
          each_append IsReadable s.columns (after_columns s) (columns_readable m h) (
            refl,
            each_append IsReadable s.right_sides (after_right_sides s) (each_append IsReadable (constant_line m) (flat_map rhs_line m.rows)
                (each_when IsReadable (not (int_eq m.constant (pos 0))) (triple (codes "RHS") m.objective (value_text m (neg_ℤ m.constant)))
                (three (codes "RHS") m.objective (value_text m (neg_ℤ m.constant)) refl (name_field m.objective h.objective)
                (number_field (neg_ℤ m.constant) m.cost_decimals (negated_small m.constant h.constant))))
                (each_flat IsRowText IsReadable rhs_line m.rows h.rows rhs_readable)) (
                  refl,
                  each_append IsReadable s.ranges (after_ranges s)
                      (each_flat IsRowText IsReadable range_line m.rows h.rows range_readable) (
                        refl,
                        each_append IsReadable s.bounds (after_bounds s)
                            (each_flat IsColumnText IsReadable
                            (λ c. bound_line (codes "LO") c.name c.lo ∷ bound_line (codes "UP") c.name c.hi ∷ []) m.columns h.columns
                            (λ c k. (
                              bound_readable (codes "LO") c.name c.lo refl (name_field c.name k.name) k.lo,
                              (bound_readable (codes "UP") c.name c.hi refl (name_field c.name k.name) k.hi, tt),
                            )))
                            (refl, tt),
                      ),
                ),
          ),
        ),
      ),
    )

-- ---- ENDATA is the last line

ends_more : (w : Written) (ws : List Written) → is_last w ≡ false → EndsOnce ws → EndsOnce (w ∷ ws)
ends_more w [] e h = absurd h
ends_more w (v ∷ ws) e h = (e, h)

ends_after : (ds ws : List Written) → AreItems ds → EndsOnce ws → EndsOnce (ds ++ ws)
ends_after [] ws h e = e
ends_after ((true, fs) ∷ ds) ws h e = ends_more (true, fs) (ds ++ ws) refl (ends_after ds ws h.1 e)
ends_after ((false, fs) ∷ ds) ws h e = absurd cc

sections_end : (s : Sections) → AreSections s → EndsOnce (section_lines s)
sections_end s h =
    ends_more (head (codes "NAME")) (head (codes "ROWS") ∷ (s.rows ++ after_rows s)) refl
    (ends_more (head (codes "ROWS")) (s.rows ++ after_rows s) refl (ends_after s.rows (after_rows s) h.rows
    (ends_more (head (codes "COLUMNS")) (s.columns ++ after_columns s) refl (ends_after s.columns (after_columns s) h.columns
    (ends_more (head (codes "RHS")) (s.right_sides ++ after_right_sides s) refl
    (ends_after s.right_sides (after_right_sides s) h.right_sides
    (ends_more (head (codes "RANGES")) (s.ranges ++ after_ranges s) refl (ends_after s.ranges (after_ranges s) h.ranges
    (ends_more (head (codes "BOUNDS")) (s.bounds ++ after_bounds s) refl (ends_after s.bounds (after_bounds s) h.bounds refl))))))))))

-- the lines of a canonical text
pub canonical_lines_read : (m : Parts) → IsProgramText m → lines_of (canonical_text m) ≡ lines_in (sections_of m)
canonical_lines_read m h =
    ap (λ ws. lines_of (flat_map written_text ws)) (canonical_sections m)
    ∙ text_lines (section_lines (sections_of m)) (sections_readable m h) (sections_end (sections_of m) (are_sections m))
