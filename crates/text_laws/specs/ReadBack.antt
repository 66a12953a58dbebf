-- Canonical texts are read back as the programs that they were written of.
use Rattle.std.specs.Prelude.{◌≡◌, ℕ, ◌≤◌, ◌==◌, Bool, true, not, ◌&&◌, List, [], ◌∷◌, ◌++◌, map, None, Some, slice_get, codes, ℤ, ◌-ℤ◌}
use Rattle.std.specs.Int.RustNames.{unsigned_abs}
use Rattle.std.specs.List.{list_any}
use Rattle.std.specs.Option.{option_map_or}
use Rattle.std.specs.Str.{is_utf8}
use Rattle.mps_defs.specs.Lists.{AreDistinct, is_among}
use Rattle.ip_defs.specs.Limits.{IsWithinLimits}
use Rattle.mps_defs.specs.Numbers.{least_decimals}
use Rattle.mps_defs.specs.CanonicalText.{canonical_text, is_printable, right_side}
use Rattle.mps_defs.specs.TextModels.{largest}
use Rattle.mps_defs.specs.Faults.{mps_fault, model_of}
use Rattle.ip_defs.specs.declared.programs.Column.{Column}
use Rattle.ip_defs.specs.declared.programs.Row.{Row}
use Rattle.ip_defs.specs.declared.programs.Parts.{Parts}
use Rattle.mps_defs.specs.declared.reading.How.{How}

-- the least decimals that write z / 10^decimals
abbrev pub needed_decimals : ℕ → ℤ → ℕ
needed_decimals decimals z = least_decimals (unsigned_abs z) decimals

-- the amounts that are written of a row: its coefficients, its right side and its range
abbrev pub range_of : Row → List ℤ
range_of r = option_map_or (λ low. option_map_or (λ high. (high -ℤ low) ∷ []) r.high []) r.low []

abbrev pub row_amounts : Row → List ℤ
row_amounts r = map (λ p. p.1) r.coefs ++ option_map_or (λ b. b ∷ []) (right_side r) [] ++ range_of r

-- the amounts that are written of the costs, and the constant
abbrev pub cost_amounts : Parts → List ℤ
cost_amounts m = map (λ c. c.cost) m.columns ++ m.constant ∷ []

-- the decimals are the least ones that write the amounts, and no fewer than those asked for
pub record HasLeastDecimals (digits : ℕ) (m : Parts) : Type 0 where
  pub costs : m.cost_decimals ≡ largest digits (map (needed_decimals m.cost_decimals) (cost_amounts m))
  pub rows : (i : ℕ) (r : Row) → slice_get m.rows i ≡ Some r
      → r.decimals ≡ largest digits (map (needed_decimals r.decimals) (row_amounts r))

-- the names of a program are UTF-8
pub record HasTextNames (m : Parts) : Type 0 where
  pub objective : is_utf8 m.objective ≡ true
  pub columns : (j : ℕ) (c : Column) → slice_get m.columns j ≡ Some c → is_utf8 c.name ≡ true
  pub rows : (i : ℕ) (r : Row) → slice_get m.rows i ≡ Some r → is_utf8 r.name ≡ true

-- a program whose canonical text can be read back
pub record IsCanonical (m : Parts) (how : How) : Type 0 where
  pub printable : is_printable m ≡ true
  pub limits : IsWithinLimits m
  pub texts : HasTextNames m
  pub columns : AreDistinct (map (λ c. c.name) m.columns)
  pub rows : AreDistinct (m.objective ∷ map (λ r. r.name) m.rows)
  pub digits : how.digits ≤ 9
  pub decimals : HasLeastDecimals how.digits m

-- the canonical text of such a program has no fault, so that it is read
abbrev pub CanonicalTextsHaveNoFault : Type 0
CanonicalTextsHaveNoFault = (m : Parts) (how : How) → IsCanonical m how → mps_fault (canonical_text m) how ≡ None

-- and what is read is the program
abbrev pub CanonicalTextsAreReadBack : Type 0
CanonicalTextsAreReadBack = (m : Parts) (how : How) → IsCanonical m how → model_of (canonical_text m) how ≡ m

-- each printable program that was read of a text without a fault is such a program
abbrev pub ModelsReadAreCanonical : Type 0
ModelsReadAreCanonical =
    (text : List ℕ) (how : How) → how.digits ≤ 9 → mps_fault text how ≡ None → is_printable (model_of text how) ≡ true
    → IsCanonical (model_of text how) how

-- a program that was read of a text without a fault is printable unless a column is named 'MARKER' or a name has a carriage return
abbrev pub has_return : List ℕ → Bool
has_return name = list_any (λ b. b == 13) name

abbrev pub column_names_of : Parts → List (List ℕ)
column_names_of m = map (λ c. c.name) m.columns

abbrev pub program_names : Parts → List (List ℕ)
program_names m = m.objective ∷ column_names_of m ++ map (λ r. r.name) m.rows

abbrev pub ModelsReadArePrintable : Type 0
ModelsReadArePrintable =
    (text : List ℕ) (how : How) → mps_fault text how ≡ None
    → is_printable (model_of text how)
    ≡ (not (is_among (codes "'MARKER'") (column_names_of (model_of text how)))
    && not (list_any has_return (program_names (model_of text how))))

-- the canonical text of a printable program that was read has no fault, and gives the program again, read with the same digits and any
-- box side
abbrev pub ModelsReadArePrintedAndReadBack : Type 0
ModelsReadArePrintedAndReadBack =
    (text : List ℕ) (how again : How) → how.digits ≤ 9 → again.digits ≡ how.digits → mps_fault text how ≡ None
    → is_printable (model_of text how) ≡ true
    → (mps_fault (canonical_text (model_of text how)) again ≡ None)
    × (model_of (canonical_text (model_of text how)) again ≡ model_of text how)
