-- A program that meets what the law of reading back asks for, and some that miss it by one condition and are not read back.
use Rattle.std.specs.Prelude.{◌≡◌, ◌≢◌, ℕ, zero, suc, ◌<◌, ◌≤◌, ◌^◌, true, false, List, [], ◌∷◌, ◌++◌, map, None, Some, slice_get}
use Rattle.std.specs.Prelude.{slice_index_or, codes, ℤ, pos, negsuc}
use Rattle.std.specs.Int.RustNames.{unsigned_abs}
use Rattle.std.specs.Fmt.{digits}
use Rattle.std.specs.Str.{is_utf8, chars}
use Rattle.std.proofs.Common.{refl, arith, subst}
use Rattle.ip_defs.specs.Limits.{IsWithinLimits, IsRowShaped, IsColumn, IsRow}
use Rattle.mps_defs.specs.CanonicalText.{canonical_text, is_printable}
use Rattle.mps_defs.specs.TextModels.{largest}
use Rattle.mps_defs.specs.Faults.{mps_fault, model_of}
use Rattle.mps_defs.specs.declared.reading.MpsError.{MpsError}
use Rattle.mps_defs.specs.declared.reading.MpsError.TheVariants.{NotUtf8, TwiceEntry, TwiceRow}
use Rattle.mps_defs.specs.declared.reading.How.{How}
use Rattle.ip_defs.specs.declared.programs.Column.{Column}
use Rattle.ip_defs.specs.declared.programs.Row.{Row}
use Rattle.ip_defs.specs.declared.programs.Parts.{Parts}
use Rattle.text_laws.specs.ReadBack.{IsCanonical, needed_decimals, row_amounts}

-- least 1.5 x - 2 é + 0.5 where 1.25 x + é is 2.5
abbrev first_column : Column
first_column = record { name = codes "x"; cost = pos 15; lo = pos 0; hi = pos 9 }

abbrev second_column : Column
second_column = record { name = 195 ∷ 169 ∷ []; cost = negsuc 19; lo = negsuc 2; hi = pos 4 }

abbrev listed : List (ℕ × ℤ)
listed = (0, pos 125) ∷ (1, pos 100) ∷ []

abbrev row_named : List ℕ → Row
row_named name' = record { name = name'; decimals = 2; coefs = listed; low = Some (pos 250); high = Some (pos 250) }

abbrev program_of : List Column → List Row → Parts
program_of columns' rows' = record { objective = codes "cost"; cost_decimals = 1; constant = pos 5; columns = columns'; rows = rows' }

abbrev example : Parts
example = program_of (first_column ∷ second_column ∷ []) (row_named (codes "r") ∷ [])

abbrev reading : ℕ → How
reading n = record { digits = n; box_side = None }

only : {A : Type 0} (P : A → Type 0) (x : A) → P x → (i : ℕ) (y : A) → slice_get (x ∷ []) i ≡ Some y → P y
only P x h zero y at = let same : x ≡ y = cc in subst P same h
only P x h (suc i) y at = absurd cc

both : {A : Type 0} (P : A → Type 0) (x y : A) → P x → P y → (i : ℕ) (z : A) → slice_get (x ∷ y ∷ []) i ≡ Some z → P z
both P x y h k zero z at = let same : x ≡ z = cc in subst P same h
both P x y h k (suc i) z at = only P y k i z at

row_shaped : IsRowShaped 2 (row_named (codes "r"))
row_shaped = record {
  decimals = omega arith;
  coefs = record { rising = rising; within = within; present = present };
}
  where
    rising : (i k : ℕ) → i < k → k < 2
        → (slice_index_or {A = ℕ × ℤ} listed i (0, pos 0)).0 < (slice_index_or {A = ℕ × ℤ} listed k (0, pos 0)).0
    rising zero zero l h = absurd (omega arith)
    rising zero (suc zero) l h = omega arith
    rising zero (suc (suc k)) l h = absurd (omega arith)
    rising (suc i) zero l h = absurd (omega arith)
    rising (suc i) (suc zero) l h = absurd (omega arith)
    rising (suc i) (suc (suc k)) l h = absurd (omega arith)

    within : (i : ℕ) → i < 2 → (slice_index_or {A = ℕ × ℤ} listed i (0, pos 0)).0 < 2
    within zero h = omega arith
    within (suc zero) h = omega arith
    within (suc (suc i)) h = absurd (omega arith)

    present : (i : ℕ) → i < 2 → (slice_index_or {A = ℕ × ℤ} listed i (0, pos 0)).1 ≢ pos 0
    present zero h e = absurd cc
    present (suc zero) h e = absurd cc
    present (suc (suc i)) h e = absurd (omega arith)

row_small : IsRow (row_named (codes "r"))
row_small = record { name = omega arith; coefs = small; low = λ z e. below z e; high = λ z e. below z e }
  where
    small : (i : ℕ) → i < 2 → unsigned_abs ((slice_index_or {A = ℕ × ℤ} listed i (0, pos 0)).1) ≤ 2 ^ 40
    small zero h = omega arith
    small (suc zero) h = omega arith
    small (suc (suc i)) h = absurd (omega arith)

    below : (z : ℤ) → Some (pos 250) ≡ Some z → unsigned_abs z ≤ 2 ^ 62
    below z e = let same : pos 250 ≡ z = cc in subst (λ (y : ℤ). unsigned_abs y ≤ 2 ^ 62) same (omega arith)

example_within : IsWithinLimits example
example_within = record {
  shape = record { decimals = omega arith; rows = only (IsRowShaped 2) (row_named (codes "r")) row_shaped };
  column_count = omega arith;
  row_count = omega arith;
  entry_count = omega arith;
  objective = omega arith;
  constant = omega arith;
  columns = both IsColumn first_column second_column (record { name = omega arith; cost = omega arith; lo = omega arith; hi = omega arith })
      (record { name = omega arith; cost = omega arith; lo = omega arith; hi = omega arith });
  rows = only IsRow (row_named (codes "r")) row_small;
}

-- the program is read back with one digit
pub example_is_canonical : IsCanonical example (reading 1)
unfolding is_utf8 chars lib.Utf8.encode
example_is_canonical = record {
  printable = refl;
  limits = example_within;
  texts = record {
    objective = refl;
    columns = both (λ c. is_utf8 c.name ≡ true) first_column second_column refl refl;
    rows = only
        (λ r. is_utf8 r.name ≡ true) (row_named (codes "r")) refl;
  };
  columns = (refl, (refl, tt));
  rows = (refl, (refl, tt));
  digits = omega arith;
  decimals = record {
    costs = refl;
    rows = only (λ r. r.decimals ≡ largest 1 (map (needed_decimals r.decimals) (row_amounts r)))
        (row_named (codes "r")) refl;
  };
}

-- with two digits its costs are read in smaller units, and it is another program
pub more_digits : model_of (canonical_text example) (reading 2) ≡ record {
  objective = codes "cost";
  cost_decimals = 2;
  constant = pos 50;
  columns = record { name = codes "x"; cost = pos 150; lo = pos 0; hi = pos 9 } ∷ record {
    name = 195 ∷ 169 ∷ [];
    cost = negsuc 199;
    lo = negsuc 2;
    hi = pos 4;
  } ∷ [];
  rows = row_named (codes "r") ∷ [];
}
unfolding digits
more_digits = refl

-- two columns of one name, two rows of one name, a row of the objective's name, a name that is no UTF-8
abbrev HaveFaults : List (Parts × MpsError) → Type 0
HaveFaults cases = map (λ c. mps_fault (canonical_text c.0) (reading 1)) cases ≡ map (λ c. Some c.1) cases

pub misnamed : HaveFaults (
    (program_of (first_column ∷ first_column ∷ []) (row_named (codes "r") ∷ []), TwiceEntry 9)
    ∷ (program_of (first_column ∷ second_column ∷ []) (row_named (codes "r") ∷ row_named (codes "r") ∷ []), TwiceRow 5)
    ∷ (program_of (first_column ∷ second_column ∷ []) (row_named (codes "cost") ∷ []), TwiceRow 4)
    ∷ (program_of (first_column ∷ second_column ∷ []) (row_named (255 ∷ []) ∷ []), NotUtf8)
    ∷ [])
unfolding is_utf8 chars lib.Utf8.encode digits
misnamed = refl

-- a text of an objective whose name ends with a carriage return: it is read, and is not printable, for its canonical text is read as a
-- program with another name
abbrev returned : List ℕ
returned = codes "ROWS\n N c" ++ 13 ∷ 13 ∷ 10 ∷ codes "COLUMNS\nENDATA\n"

pub returned_is_read : (mps_fault returned (reading 0) ≡ None) × (is_printable (model_of returned (reading 0)) ≡ false)
unfolding is_utf8 chars lib.Utf8.encode
returned_is_read = (refl, refl)

pub returned_is_renamed : ((model_of returned (reading 0)).objective ≡ 99 ∷ 13 ∷ []) ×
    ((model_of (canonical_text (model_of returned (reading 0))) (reading 0)).objective ≡ 99 ∷ [])
returned_is_renamed = (refl, refl)
