-- What holds of each line that a program gives, where it holds of a line with each of its amounts.
use Rattle.std.specs.Prelude.{◌≡◌, ℕ, ◌==◌, Bool, true, false, not, if◌then◌else◌, List, [], ◌∷◌, ◌++◌, length, flat_map, find}
use Rattle.std.specs.Prelude.{Option, None, Some, codes, ℤ, pos, ◌-ℤ◌}
use Rattle.std.specs.List.{enumerate_from}
use Rattle.std.specs.Option.{option_map_or, ForSome}
use Rattle.std.specs.Ordering.{int_eq}
use Rattle.std.proofs.Common.{refl}
use Rattle.ip_defs.specs.Lists.{Each}
use Rattle.ip_defs.proofs.ListLaws.{each_append}
use Rattle.mps_defs.specs.Numbers.{decimal_text}
use Rattle.mps_defs.specs.CanonicalText.{Written, triple, coef_line, column_block, columns_block, right_side, rhs_line, range_line}
use Rattle.mps_defs.specs.CanonicalText.{side_line, width_line}
use Rattle.ip_defs.specs.declared.programs.Row.{Row}
use Rattle.ip_defs.specs.declared.programs.Parts.{Parts}
use Rattle.text_laws.proofs.ListLaws.{each_when}

-- the two marker lines
abbrev pub first_mark : Written
first_mark = triple (codes "M") (codes "'MARKER'") (codes "'INTORG'")

abbrev pub last_mark : Written
last_mark = triple (codes "M") (codes "'MARKER'") (codes "'INTEND'")

module _ (P : Written → Type 0) where
  pub each_coef_line : (j : ℕ) (name : List ℕ) (r : Row)
      → ForSome (find (λ p. p.0 == j) r.coefs) (λ p. P (triple name r.name (decimal_text p.1 r.decimals))) → Each P (coef_line j name r)
  each_coef_line j name r h = by (find (λ p. p.0 == j) r.coefs) h
    where
      by : (o : Option (ℕ × ℤ)) → ForSome o (λ p. P (triple name r.name (decimal_text p.1 r.decimals)))
          → Each P (option_map_or (λ p. triple name r.name (decimal_text p.1 r.decimals) ∷ []) o [])
      by None k = tt
      by (Some p) k = (k p refl, tt)

  pub each_rhs_line : (r : Row) → P (triple (codes "RHS") r.name (codes "1e30"))
      → ForSome (right_side r) (λ b. P (triple (codes "RHS") r.name (decimal_text b r.decimals))) → Each P (rhs_line r)
  each_rhs_line r free h = by (right_side r) h
    where
      by : (o : Option ℤ) → ForSome o (λ b. P (triple (codes "RHS") r.name (decimal_text b r.decimals)))
          → Each P (option_map_or (side_line r) o (triple (codes "RHS") r.name (codes "1e30") ∷ []))
      by None k = (free, tt)
      by (Some b) k = each_when P (not (int_eq b (pos 0))) (triple (codes "RHS") r.name (decimal_text b r.decimals)) (k b refl)

  pub each_range_line : (r : Row)
      → ((low high : ℤ) → r.low ≡ Some low → r.high ≡ Some high → P (triple (codes "RNG") r.name (decimal_text (high -ℤ low) r.decimals)))
      → Each P (range_line r)
  each_range_line r h = by r.low r.high h
    where
      by : (o p : Option ℤ)
          → ((low high : ℤ) → o ≡ Some low → p ≡ Some high → P (triple (codes "RNG") r.name (decimal_text (high -ℤ low) r.decimals)))
          → Each P (option_map_or (λ low. option_map_or (width_line r low) p []) o [])
      by None p k = tt
      by (Some low) None k = tt
      by (Some low) (Some high) k =
          each_when P (not (int_eq low high)) (triple (codes "RNG") r.name (decimal_text (high -ℤ low) r.decimals)) (k low high refl refl)

  pub each_columns_line : (m : Parts) → P first_mark → P last_mark → Each P (flat_map (column_block m) (enumerate_from 0 m.columns))
      → Each P (columns_block m)
  each_columns_line m first last blocks = by (length m.columns == 0)
    where
      lines : List Written
      lines = flat_map (column_block m) (enumerate_from 0 m.columns)

      by : (t : Bool) → Each P (if t then [] else first_mark ∷ lines ++ last_mark ∷ [])
      by true = tt
      by false = (first, each_append P lines (last_mark ∷ []) blocks (last, tt))
