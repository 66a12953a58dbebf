-- Each line of COLUMNS, RHS and RANGES of a canonical text writes an amount for a row that is known.
use Rattle.std.specs.Prelude.{◌≡◌, ℕ, ◌≤◌, ◌^◌, ◌==◌, true, ◌||◌, not, List, [], ◌∷◌, ◌++◌, map, flat_map, find, Option, None, Some}
use Rattle.std.specs.Prelude.{bytes_eq, codes, ℤ, pos, neg_ℤ, ◌-ℤ◌}
use Rattle.std.specs.List.{enumerate_from}
use Rattle.std.specs.Option.{option_map_or, ForSome}
use Rattle.std.specs.Int.RustNames.{unsigned_abs}
use Rattle.std.specs.Ordering.{int_eq}
use Rattle.std.proofs.Common.{refl, arith, ap}
use Rattle.mps_defs.specs.Lists.{is_among}
use Rattle.ip_defs.specs.Lists.{Each}
use Rattle.mps_defs.specs.Numbers.{decimal_text}
use Rattle.mps_defs.specs.CanonicalText.{triple, coef_line, column_block, right_side, rhs_line, constant_line, range_line, value_text}
use Rattle.mps_defs.specs.CanonicalText.{side_line, width_line}
use Rattle.ip_defs.specs.declared.programs.Row.{Row}
use Rattle.ip_defs.specs.declared.programs.Parts.{Parts}
use Rattle.text_laws.proofs.ListLaws.{each_flat, each_when, each_both}
use Rattle.text_laws.proofs.ReadableLaws.{IsProgramText, IsRowText, IsColumnText, all_from, found_small, right_side_small, width_small}
use Rattle.text_laws.proofs.ReadableLaws.{negated_small}
use Rattle.text_laws.proofs.RecordReadLaws.{blocks_of, not_marker}
use Rattle.text_laws.proofs.LineFaultLaws.{IsEntry, IsAmount, amount_of}
use Rattle.ip_defs.proofs.BoolLaws.{either_true}
use Rattle.ip_defs.proofs.ListLaws.{each_numbered, each_append}
use Rattle.ip_defs.proofs.TextLaws.{text_self}
use Rattle.text_laws.proofs.CoefReadLaws.{named_among}

-- the names of the rows, with the objective's
abbrev pub rows_named : Parts → List (List ℕ)
rows_named m = m.objective ∷ map (λ r. r.name) m.rows

record IsKnownRow (m : Parts) (r : Row) : Type 0 where
  text : IsRowText r
  known : is_among r.name (rows_named m) ≡ true

known_rows : (m : Parts) → IsProgramText m → Each (IsKnownRow m) m.rows
known_rows m h =
    each_both IsRowText (λ r. is_among r.name (rows_named m) ≡ true) (IsKnownRow m) m.rows h.rows
    (all_from (λ (r : Row). is_among r.name (rows_named m) ≡ true) m.rows
    (λ i r at. either_true (bytes_eq r.name m.objective) (is_among r.name (map (λ k. k.name) m.rows))
    (named_among (λ (k : Row). k.name) m.rows i r at)))
    (λ r t k. record { text = t; known = k })

entry_for : (m : Parts) (owner : List ℕ) (r : Row) (text : List ℕ) → IsKnownRow m r → IsAmount text
    → IsEntry (rows_named m) (triple owner r.name text)
entry_for m owner r text k a = (not_marker r.name k.text.name, k.known, a)

objective_entry : (m : Parts) (owner text : List ℕ) → IsProgramText m → IsAmount text
    → IsEntry (rows_named m) (triple owner m.objective text)
objective_entry m owner text h a =
    (not_marker m.objective h.objective, ap (λ t. t || is_among m.objective (map (λ (r : Row). r.name) m.rows)) (text_self m.objective), a)

coef_entry : (m : Parts) (j : ℕ) (name : List ℕ) (r : Row) → IsKnownRow m r → Each (IsEntry (rows_named m)) (coef_line j name r)
coef_entry m j name r k = by (find (λ p. p.0 == j) r.coefs) refl
  where
    by : (o : Option (ℕ × ℤ)) → find (λ p. p.0 == j) r.coefs ≡ o
        → Each (IsEntry (rows_named m)) (option_map_or (λ p. triple name r.name (decimal_text p.1 r.decimals) ∷ []) o [])
    by None f = tt
    by (Some p) f = (
      entry_for m name r (decimal_text p.1 r.decimals) k
          (amount_of p.1 r.decimals (found_small r.coefs (λ q. q.0 == j) p k.text.coefs f) k.text.decimals),
      tt,
    )

rhs_entry : (m : Parts) (r : Row) → IsKnownRow m r → Each (IsEntry (rows_named m)) (rhs_line r)
rhs_entry m r k = by (right_side r) (right_side_small r k.text)
  where
    by : (o : Option ℤ) → ForSome o (λ b. unsigned_abs b ≤ 2 ^ 62)
        → Each (IsEntry (rows_named m)) (option_map_or (side_line r) o (triple (codes "RHS") r.name (codes "1e30") ∷ []))
    by None s = (entry_for m (codes "RHS") r (codes "1e30") k (record { number = refl; decimals = refl }), tt)
    by (Some b) s =
        each_when (IsEntry (rows_named m)) (not (int_eq b (pos 0))) (triple (codes "RHS") r.name (decimal_text b r.decimals))
        (entry_for m (codes "RHS") r (decimal_text b r.decimals) k
        (amount_of b r.decimals (let l = s b refl in omega arith) k.text.decimals))

range_entry : (m : Parts) (r : Row) → IsKnownRow m r → Each (IsEntry (rows_named m)) (range_line r)
range_entry m r k = by r.low r.high k.text.low k.text.high
  where
    by : (o p : Option ℤ) → ForSome o (λ b. unsigned_abs b ≤ 2 ^ 62) → ForSome p (λ b. unsigned_abs b ≤ 2 ^ 62)
        → Each (IsEntry (rows_named m)) (option_map_or (λ low. option_map_or (width_line r low) p []) o [])
    by None p s t = tt
    by (Some low) None s t = tt
    by (Some low) (Some high) s t =
        each_when (IsEntry (rows_named m)) (not (int_eq low high)) (triple (codes "RNG") r.name (decimal_text (high -ℤ low) r.decimals))
        (entry_for m (codes "RNG") r (decimal_text (high -ℤ low) r.decimals) k
        (amount_of (high -ℤ low) r.decimals (width_small low high (s low refl) (t high refl)) k.text.decimals))

pub columns_entries : (m : Parts) → IsProgramText m → Each (IsEntry (rows_named m)) (blocks_of m)
columns_entries m h =
    each_flat (λ p. IsColumnText p.1) (IsEntry (rows_named m)) (column_block m) (enumerate_from 0 m.columns)
    (each_numbered IsColumnText 0 m.columns h.columns)
    (λ p c. (
      objective_entry m p.1.name (value_text m p.1.cost) h (amount_of p.1.cost m.cost_decimals c.cost h.decimals),
      each_flat
          (IsKnownRow m) (IsEntry (rows_named m)) (coef_line p.0 p.1.name) m.rows (known_rows m h) (coef_entry m p.0 p.1.name),
    ))

pub right_sides_entries : (m : Parts) → IsProgramText m → Each (IsEntry (rows_named m)) (constant_line m ++ flat_map rhs_line m.rows)
right_sides_entries m h =
    each_append (IsEntry (rows_named m)) (constant_line m) (flat_map rhs_line m.rows)
    (each_when (IsEntry (rows_named m)) (not (int_eq m.constant (pos 0)))
    (triple (codes "RHS") m.objective (value_text m (neg_ℤ m.constant)))
    (objective_entry m (codes "RHS") (value_text m (neg_ℤ m.constant)) h
    (amount_of (neg_ℤ m.constant) m.cost_decimals (negated_small m.constant h.constant) h.decimals)))
    (each_flat (IsKnownRow m) (IsEntry (rows_named m)) rhs_line m.rows (known_rows m h) (rhs_entry m))

pub ranges_entries : (m : Parts) → IsProgramText m → Each (IsEntry (rows_named m)) (flat_map range_line m.rows)
ranges_entries m h = each_flat (IsKnownRow m) (IsEntry (rows_named m)) range_line m.rows (known_rows m h) (range_entry m)
