-- Columns and rows of a program by their numbers.
use Rattle.std.specs.Prelude.{◌≡◌, ℕ, ◌<◌, ◌||◌, if◌then◌else◌, List, length, slice_get, Option, Some, None, option_map, ℤ, pos}
use Rattle.std.specs.Int.Signed.{lt_z}
use Rattle.std.proofs.Common.{arith, refl, ap, sym, ◌∙◌, get_or}
use Rattle.std.proofs.lemmas.List.{length-map}
use Rattle.std.proofs.lemmas.Option.{slice_get_read, slice_get-map, get_or_from_slice_get}
use Rattle.ip_defs.specs.Program.{at, box_of, costs_of}
use Rattle.ip_defs.specs.Breaches.{column_breach, row_breach}
use Rattle.ip_defs.specs.declared.programs.Column.{Column}
use Rattle.ip_defs.specs.declared.programs.Parts.{Parts}
use Rattle.ip_defs.specs.declared.programs.Row.{Row}
use Rattle.ip_defs.specs.declared.programs.Breach.{Breach}
use Rattle.ip_defs.specs.declared.programs.Breach.TheVariants as Broken

-- what is read from a list is an element of it
pub read_at : {A : Type 0} (xs ys : List A) (i : ℕ) (x : A) → ys ≡ xs → i < length ys → x ≡ get_or ys i x → slice_get xs i ≡ Some x
read_at xs ys i x same l is = ap (λ zs. slice_get zs i) (sym same) ∙ slice_get_read ys (length ys) i x refl l is

-- the bounds of a column by its number
pub side_at : (m : Parts) (j : ℕ) (c : Column) → slice_get m.columns j ≡ Some c → get_or (box_of m) j (pos 0, pos 0) ≡ (c.lo, c.hi)
side_at m j c found = get_or_from_slice_get (box_of m) j (c.lo, c.hi) (pos 0, pos 0)
    (slice_get-map (λ (c : Column). (c.lo, c.hi)) m.columns j
    ∙ ap (λ (o : Option Column). option_map (λ (c : Column). (c.lo, c.hi)) o) found)

-- the cost of a column by its number
pub cost_of_column : (m : Parts) (j : ℕ) (c : Column) → slice_get m.columns j ≡ Some c → at (costs_of m) j ≡ c.cost
cost_of_column m j c found = get_or_from_slice_get (costs_of m) j c.cost (pos 0) (slice_get-map (λ (c : Column). c.cost) m.columns j
    ∙ ap (λ (o : Option Column). option_map (λ (c : Column). c.cost) o) found)

-- the breach of a column from its bounds and the coordinate
pub column_breach_is : (m : Parts) (x : List ℤ) (j : ℕ) (c : Column) (v : ℤ) → slice_get m.columns j ≡ Some c → v ≡ at x j →
    column_breach (box_of m) x j ≡ (if lt_z v c.lo || lt_z c.hi v then Some (Broken.Column j) else None)
column_breach_is m x j c v found is =
    ap (λ (s : ℤ × ℤ). if lt_z (at x j) s.0 || lt_z s.1 (at x j) then Some (Broken.Column j) else None) (side_at m j c found)
    ∙ ap (λ (z : ℤ). if lt_z z c.lo || lt_z c.hi z then Some (Broken.Column j) else None) (sym is)

-- the answer for a column that is read is its breach
pub column_breach_read : (m : Parts) (x : List ℤ) (ys : List Column) (j : ℕ) (c : Column) (v : ℤ) (answer : Option Breach) →
    ys ≡ m.columns → j < length ys → c ≡ get_or ys j c → v ≡ at x j →
    answer ≡ (if lt_z v c.lo || lt_z c.hi v then Some (Broken.Column j) else None) → column_breach (box_of m) x j ≡ answer
column_breach_read m x ys j c v answer same l read is e =
    column_breach_is m x j c v (read_at m.columns ys j c same l read) is ∙ sym e

-- the answer for a row that is read is its breach
pub row_breach_read : (m : Parts) (x : List ℤ) (ys : List Row) (i : ℕ) (r : Row) (answer : Option Breach) → ys ≡ m.rows → i < length ys →
    r ≡ get_or ys i r → answer ≡ row_breach x i (Some r) → row_breach x i (slice_get m.rows i) ≡ answer
row_breach_read m x ys i r answer same l read e = ap (λ (o : Option Row). row_breach x i o) (read_at m.rows ys i r same l read) ∙ sym e

-- a column that is read has a side in the box, which is its bounds
pub side_read : (m : Parts) (ys : List Column) (j : ℕ) (c : Column) → ys ≡ m.columns → j < length ys → c ≡ get_or ys j c →
    (j < length (box_of m)) × (get_or (box_of m) j (pos 0, pos 0) ≡ (c.lo, c.hi))
side_read m ys j c same l read =
    let counted = ap length same in
    let sides : length (box_of m) ≡ length m.columns = length-map m.columns (λ (c : Column). (c.lo, c.hi)) in
    (omega arith, side_at m j c (read_at m.columns ys j c same l read))
