-- The right sides and the ranges of a canonical text are the sides of the rows.
use Rattle.std.specs.Prelude.{◌≡◌, ℕ, zero, suc, ◌-◌, ◌<◌, ◌≤◌, ◌^◌, Bool, true, false, ◌&&◌, ◌||◌, not, cond, if◌then◌else◌, List, []}
use Rattle.std.specs.Prelude.{◌∷◌}
use Rattle.std.specs.Prelude.{◌++◌, map, filter, flat_map, find, Option, None, Some, option_map, unwrap_or, slice_get, bytes_eq, codes, ℤ}
use Rattle.std.specs.Prelude.{pos, ◌-ℤ◌, ◌*ℤ◌, ◌≤ℤ◌}
use Rattle.std.specs.Option.{option_map_or, option_or, ForSome}
use Rattle.std.specs.Int.RustNames.{unsigned_abs}
use Rattle.std.specs.Int.Signed.{lt_z}
use Rattle.std.specs.Ordering.{int_eq}
use Rattle.std.proofs.Common.{refl, arith, ap, sym, ◌∙◌, subst}
use Rattle.std.proofs.lemmas.Int.{ints}
use Rattle.mps_defs.specs.Lists.{is_among, AreDistinct}
use Rattle.ip_defs.specs.Lists.{when, Each}
use Rattle.mps_defs.specs.Numbers.{decimal_text, is_large, decimals_of}
use Rattle.mps_defs.specs.CanonicalText.{triple, kind_text, right_side, rhs_line, range_line, side_line, width_line}
use Rattle.ip_defs.specs.Program.{is_crossed}
use Rattle.mps_defs.specs.TextModels.{no_number, units, row_sides, range_sides, plain_sides, is_negative_number, number_or_zero}
use Rattle.mps_defs.specs.declared.reading.Number.{Number}
use Rattle.ip_defs.specs.declared.programs.Row.{Row}
use Rattle.text_laws.proofs.NumberTextLaws.{decimal_text_units, decimal_text_finite}
use Rattle.text_laws.proofs.ReadableLaws.{IsRowText, width_small}
use Rattle.text_laws.proofs.EntryReadLaws.{BareEntry, listed, bare_for, bare_decimals, for_append, decimals_append}
use Rattle.ip_defs.proofs.BoolLaws.{left_false, right_false}
use Rattle.ip_defs.proofs.ListLaws.{or_none}
use Rattle.std.proofs.lemmas.List.{append-nil}
use Rattle.ip_defs.proofs.TextLaws.{text_self}
use Rattle.mps_defs.proofs.PlaceLaws.{apart_turned, not_at}
use Rattle.mps_defs.proofs.ListLaws.{get_map}
use Rattle.std.proofs.lemmas.Bool.Decides.{Decides-int_eq}

abbrev pub AreOfRow : List ℕ → List BareEntry → Type 0
AreOfRow name ts = Each (λ t. t.row ≡ name) ts

pub none_for : (name row : List ℕ) (ts : List BareEntry) → AreOfRow name ts → bytes_eq name row ≡ false
    → (bare_for ts row ≡ None) × (bare_decimals ts row ≡ [])
none_for name row [] h e = (refl, refl)
none_for name row (t ∷ ts) h e =
    let here : bytes_eq t.row row ≡ false = ap (λ n. bytes_eq n row) h.0 ∙ e in
    let rest = none_for name row ts h.1 e in (
      ap (λ u. option_map (λ (k : BareEntry). number_or_zero k.text) (cond u (Some t) (find (λ k. bytes_eq k.row row) ts))) here ∙ rest.0,
      ap (λ u. map (λ (k : BareEntry). decimals_of (number_or_zero k.text))
          (cond u (t ∷ filter (λ k. bytes_eq k.row row) ts) (filter (λ k. bytes_eq k.row row) ts))) here
          ∙ rest.1,
    )

-- lists of entries by rows, each of its row: what is found for a row is what its own list has
module _ (f : Row → List BareEntry) (own : (r : Row) → AreOfRow r.name (f r)) where
  pub none_of : (rs : List Row) (row : List ℕ) → is_among row (map (λ r. r.name) rs) ≡ false
      → (bare_for (flat_map f rs) row ≡ None) × (bare_decimals (flat_map f rs) row ≡ [])
  none_of [] row e = (refl, refl)
  none_of (r ∷ rs) row e =
      let here =
      none_for r.name row (f r) (own r)
      (apart_turned row r.name (left_false (bytes_eq row r.name) (is_among row (map (λ k. k.name) rs)) e)) in
      let rest = none_of rs row (right_false (bytes_eq row r.name) (is_among row (map (λ k. k.name) rs)) e) in (
        for_append (f r) (flat_map f rs) row ∙ ap (λ o. option_or o (bare_for (flat_map f rs) row)) here.0 ∙ rest.0,
        decimals_append (f r) (flat_map f rs) row ∙ ap (λ l. l ++ bare_decimals (flat_map f rs) row) here.1 ∙ rest.1,
      )

  pub own_of : (rs : List Row) (i : ℕ) (r : Row) → AreDistinct (map (λ k. k.name) rs) → slice_get rs i ≡ Some r
      → (bare_for (flat_map f rs) r.name ≡ bare_for (f r) r.name) × (bare_decimals (flat_map f rs) r.name ≡ bare_decimals (f r) r.name)
  own_of [] i r d at = absurd cc
  own_of (s ∷ rs) zero r d at =
      let same : s ≡ r = cc in
      let rest = none_of rs s.name d.0 in
      subst (λ (k : Row). (bare_for (flat_map f (s ∷ rs)) k.name ≡ bare_for (f k) k.name) ×
      (bare_decimals (flat_map f (s ∷ rs)) k.name ≡ bare_decimals (f k) k.name)) same (
        for_append (f s) (flat_map f rs) s.name ∙ ap (option_or (bare_for (f s) s.name)) rest.0 ∙ or_none (bare_for (f s) s.name),
        decimals_append (f s) (flat_map f rs) s.name
            ∙ ap (λ l. bare_decimals (f s) s.name ++ l) rest.1
            ∙ append-nil (bare_decimals (f s) s.name),
      )
  own_of (s ∷ rs) (suc i) r d at =
      let here =
      none_for s.name r.name (f s) (own s) (not_at s.name (map (λ k. k.name) rs) i r.name d.0 (get_map (λ k. k.name) rs i r at)) in
      let rest = own_of rs i r d.1 at in (
        for_append (f s) (flat_map f rs) r.name ∙ ap (λ o. option_or o (bare_for (flat_map f rs) r.name)) here.0 ∙ rest.0,
        decimals_append (f s) (flat_map f rs) r.name ∙ ap (λ l. l ++ bare_decimals (flat_map f rs) r.name) here.1 ∙ rest.1,
      )

-- ---- one row

abbrev pub rhs_bare : Row → List BareEntry
rhs_bare r = flat_map listed (rhs_line r)

abbrev pub range_bare : Row → List BareEntry
range_bare r = flat_map listed (range_line r)

pub when_row : (t : Bool) (owner name text : List ℕ) → AreOfRow name (flat_map listed (when t (triple owner name text)))
when_row true owner name text = (refl, tt)
when_row false owner name text = tt

pub rhs_own : (r : Row) → AreOfRow r.name (rhs_bare r)
rhs_own r = by (right_side r)
  where
    by : (o : Option ℤ)
        → AreOfRow r.name (flat_map listed (option_map_or (side_line r) o (triple (codes "RHS") r.name (codes "1e30") ∷ [])))
    by None = (refl, tt)
    by (Some b) = when_row (not (int_eq b (pos 0))) (codes "RHS") r.name (decimal_text b r.decimals)

pub range_own : (r : Row) → AreOfRow r.name (range_bare r)
range_own r = by r.low r.high
  where
    by : (o p : Option ℤ)
        → AreOfRow r.name (flat_map listed (option_map_or (λ low. option_map_or (width_line r low) p []) o []))
    by None p = tt
    by (Some low) None = tt
    by (Some low) (Some high) = when_row (not (int_eq low high)) (codes "RNG") r.name (decimal_text (high -ℤ low) r.decimals)

-- what a line of an amount says: nothing for 0
pub amount_for : (t : Bool) (owner name text : List ℕ)
    → bare_for (flat_map listed (when t (triple owner name text))) name ≡ (if t then Some (number_or_zero text) else None)
amount_for true owner name text =
    ap (λ u. option_map (λ (k : BareEntry). number_or_zero k.text) (cond u (Some (record { owner = owner; row = name; text = text })) None))
    (text_self name)
amount_for false owner name text = refl

pub amount_number : (b : ℤ) (k : ℕ) → unsigned_abs b < 2 ^ 64 → k ≤ 9
    → (units k (unwrap_or (if not (int_eq b (pos 0)) then Some (number_or_zero (decimal_text b k)) else None) no_number) ≡ b) ×
    (is_large (unwrap_or (if not (int_eq b (pos 0)) then Some (number_or_zero (decimal_text b k)) else None) no_number) ≡ false)
amount_number b k small most = by (int_eq b (pos 0)) refl
  where
    by : (t : Bool) → int_eq b (pos 0) ≡ t
        → (units k (unwrap_or (if not t then Some (number_or_zero (decimal_text b k)) else None) no_number) ≡ b) ×
        (is_large (unwrap_or (if not t then Some (number_or_zero (decimal_text b k)) else None) no_number) ≡ false)
    by true e =
        (let zero : pos 0 *ℤ pos (10 ^ (k - 0)) ≡ pos 0 = nothing (10 ^ (k - 0)) in zero ∙ sym ((Decides-int_eq b (pos 0)).0 e), refl)
      where
        nothing : (n : ℕ) → pos 0 *ℤ pos n ≡ pos 0
        nothing n = omega (arith, ints)
    by false e = (decimal_text_units b k small most, decimal_text_finite b k small most)

-- the sides that are read of a row
abbrev pub read_sides : Row → Option ℤ × Option ℤ
read_sides r = row_sides (kind_text r) r.decimals (unwrap_or (bare_for (rhs_bare r) r.name) no_number) (bare_for (range_bare r) r.name)

finite_plain : (kind : List ℕ) (k : ℕ) (n : Number) (v : ℤ) → is_large n ≡ false → units k n ≡ v
    → row_sides kind k n None ≡ plain_sides kind v
finite_plain kind k n v finite is =
    ap (λ t. if t && ((bytes_eq kind (codes "L") && not (is_negative_number n)) || (bytes_eq kind (codes "G") && is_negative_number n)) then
    (None, None) else (if t then (Some (units k n), Some (units k n)) else plain_sides kind (units k n))) finite
    ∙ ap (plain_sides kind) is

abbrev row_with : Row → Option ℤ → Option ℤ → Row
row_with r low' high' = record { name = r.name; decimals = r.decimals; coefs = r.coefs; low = low'; high = high' }

-- what is read of one amount on the right of a row without a range
one_side : (r : Row) (kind : List ℕ) (b : ℤ) → unsigned_abs b ≤ 2 ^ 62 → r.decimals ≤ 9
    → row_sides kind r.decimals (unwrap_or (bare_for (flat_map listed (side_line r b)) r.name) no_number) None ≡ plain_sides kind b
one_side r kind b size most =
    let small : unsigned_abs b < 2 ^ 64 = omega arith in
    let given = amount_number b r.decimals small most in
    ap (λ o. row_sides kind r.decimals (unwrap_or o no_number) None)
    (amount_for (not (int_eq b (pos 0))) (codes "RHS") r.name (decimal_text b r.decimals))
    ∙ finite_plain kind r.decimals
    (unwrap_or (if not (int_eq b (pos 0)) then Some (number_or_zero (decimal_text b r.decimals)) else None) no_number) b given.1 given.0

sides_of : (r : Row) (low high : Option ℤ) → r.decimals ≤ 9 → ForSome low (λ b. unsigned_abs b ≤ 2 ^ 62)
    → ForSome high (λ b. unsigned_abs b ≤ 2 ^ 62) → is_crossed (row_with r low high) ≡ false
    → read_sides (row_with r low high) ≡ (low, high)
sides_of r None None most l h c =
    ap (λ u. row_sides (codes "L") r.decimals
    (unwrap_or (option_map (λ (k : BareEntry). number_or_zero k.text)
    (cond u (Some (record { owner = codes "RHS"; row = r.name; text = codes "1e30" })) None)) no_number) None) (text_self r.name)
sides_of r (Some low) None most l h c = one_side r (codes "G") low (l low refl) most
sides_of r None (Some high) most l h c = one_side r (codes "L") high (h high refl) most
sides_of r (Some low) (Some high) most l h c =
    ap (λ o. row_sides (kind_text (row_with r (Some low) (Some high))) r.decimals (unwrap_or o no_number)
    (bare_for (range_bare (row_with r (Some low) (Some high))) r.name)) (amount_for (not (int_eq high (pos 0))) (codes "RHS") r.name
    (decimal_text high r.decimals))
    ∙ ap (λ o. row_sides (kind_text (row_with r (Some low) (Some high))) r.decimals given o)
    (amount_for (not (int_eq low high)) (codes "RNG") r.name (decimal_text (high -ℤ low) r.decimals))
    ∙ by (int_eq low high) refl
  where
    small : unsigned_abs high < 2 ^ 64
    small = let s = h high refl in omega arith

    given : Number
    given = unwrap_or (if not (int_eq high (pos 0)) then Some (number_or_zero (decimal_text high r.decimals)) else None) no_number

    is_given : (units r.decimals given ≡ high) × (is_large given ≡ false)
    is_given = amount_number high r.decimals small most

    width : Number
    width = number_or_zero (decimal_text (high -ℤ low) r.decimals)

    narrow : unsigned_abs (high -ℤ low) < 2 ^ 64
    narrow = width_small low high (l low refl) (h high refl)

    back : lt_z high low ≡ false → high -ℤ pos (unsigned_abs (high -ℤ low)) ≡ low
    back e = let order : low ≤ℤ high = grind (arith, ints) in omega (arith, ints)

    by : (t : Bool) → int_eq low high ≡ t
        → row_sides (if t then codes "E" else codes "L") r.decimals given (if not t then Some width else None) ≡ (Some low, Some high)
    by true e =
        finite_plain (codes "E") r.decimals given high is_given.1 is_given.0
        ∙ ap (λ z. (Some z, Some high)) (sym ((Decides-int_eq low high).0 e))
    by false e =
        ap (λ t. if t then (Some (units r.decimals given), Some (units r.decimals given)) else range_sides (codes "L")
        (units r.decimals given) (not (is_large width)) (units r.decimals width) (unsigned_abs (units r.decimals width))) is_given.1
        ∙ ap (λ v. range_sides (codes "L") v (not (is_large width)) (units r.decimals width)
        (unsigned_abs (units r.decimals width))) is_given.0
        ∙ ap (λ t. range_sides (codes "L") high (not t) (units r.decimals width) (unsigned_abs (units r.decimals width)))
        (decimal_text_finite (high -ℤ low) r.decimals narrow most)
        ∙ ap (λ v. (Some (high -ℤ pos (unsigned_abs v)), Some high)) (decimal_text_units (high -ℤ low) r.decimals narrow most)
        ∙ ap (λ v. (Some v, Some high)) (back c)

pub sides_read : (r : Row) → IsRowText r → is_crossed r ≡ false → read_sides r ≡ (r.low, r.high)
sides_read r h c = sides_of r r.low r.high h.decimals h.low h.high c
