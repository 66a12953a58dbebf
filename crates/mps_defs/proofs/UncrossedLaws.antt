-- The rows of a model that is read are not crossed: a range widens one side.
use Rattle.std.specs.Prelude.{◌≡◌, ℕ, not, Bool, true, false, ◌||◌, bytes_eq, codes, List, [], ◌∷◌, map, filter, Option, Some, None, ℤ}
use Rattle.std.specs.Prelude.{pos}
use Rattle.std.specs.Prelude.{◌+ℤ◌, ◌-ℤ◌, unsigned_abs, unwrap_or}
use Rattle.std.specs.List.{list_any}
use Rattle.std.specs.Option.{option_map_or}
use Rattle.std.specs.Int.Signed.{lt_z}
use Rattle.std.proofs.Common.{refl, arith, ap, ◌∙◌}
use Rattle.std.proofs.lemmas.Int.{ints}
use Rattle.mps_defs.specs.Lists.{where_true}
use Rattle.mps_defs.specs.Numbers.{is_large}
use Rattle.mps_defs.specs.declared.reading.Number.{Number}
use Rattle.ip_defs.specs.Program.{is_crossed}
use Rattle.mps_defs.specs.TextModels.{is_open, no_number, plain_sides, range_sides, row_decimals, row_from, row_sides, units, written_for}
use Rattle.mps_defs.specs.Records.{Line, is_free, kept_entries, lines_of, row_kind, row_lines, row_name}
use Rattle.mps_defs.specs.Faults.{model_of}
use Rattle.ip_defs.specs.declared.programs.Row.{Row}
use Rattle.mps_defs.specs.declared.reading.How.{How}
use Rattle.ip_defs.proofs.OrderLaws.{less_false}

-- the row of its line
abbrev row_of : List Line → How → Line → Row
row_of ls how l = row_from ls how (row_kind l) (row_name l)

-- two sides are crossed
abbrev are_crossed : Option ℤ × Option ℤ → Bool
are_crossed s = option_map_or (λ low. option_map_or (λ high. lt_z high low) s.1 false) s.0 false

-- where a side may be absent
open_low : (finite : Bool) (v : ℤ) (s : ℕ) → are_crossed (where_true finite (v -ℤ pos s), Some v) ≡ false
open_low true v s = less_false v (v -ℤ pos s) (omega (arith, ints))
open_low false v s = refl

open_high : (finite : Bool) (v : ℤ) (s : ℕ) → are_crossed (Some v, where_true finite (v +ℤ pos s)) ≡ false
open_high true v s = less_false (v +ℤ pos s) v (omega (arith, ints))
open_high false v s = refl

range_uncrossed : (kind : List ℕ) (v : ℤ) (finite : Bool) (r : ℤ) (s : ℕ) → are_crossed (range_sides kind v finite r s) ≡ false
range_uncrossed kind v finite r s =
    by (bytes_eq kind (codes "L")) (bytes_eq kind (codes "G")) (lt_z (pos 0) r) (lt_z r (pos 0)) refl refl refl refl
  where
    by : (l g up down : Bool) → bytes_eq kind (codes "L") ≡ l → bytes_eq kind (codes "G") ≡ g → lt_z (pos 0) r ≡ up → lt_z r (pos 0) ≡ down
        → are_crossed (range_sides kind v finite r s) ≡ false
    by true g up down a b c d = rw a (open_low finite v s)
    by false true up down a b c d = rw (a, b) (open_high finite v s)
    by false false true down a b c d = rw (a, b, c) (open_high finite v s)
    by false false false true a b c d = rw (a, b, c, d) (open_low finite v s)
    by false false false false a b c d = rw (a, b, c, d) (less_false v v (omega (arith, ints)))

plain_uncrossed : (kind : List ℕ) (v : ℤ) → are_crossed (plain_sides kind v) ≡ false
plain_uncrossed kind v = by (bytes_eq kind (codes "L")) (bytes_eq kind (codes "G")) refl refl
  where
    by : (l g : Bool) → bytes_eq kind (codes "L") ≡ l → bytes_eq kind (codes "G") ≡ g → are_crossed (plain_sides kind v) ≡ false
    by true g a b = rw a refl
    by false true a b = rw (a, b) refl
    by false false a b = rw (a, b) (less_false v v (omega (arith, ints)))

sides_uncrossed : (kind : List ℕ) (k : ℕ) (b : Number) (r : Option Number) → are_crossed (row_sides kind k b r) ≡ false
sides_uncrossed kind k b None = by (is_open kind b) (is_large b) refl refl
  where
    by : (t u : Bool) → is_open kind b ≡ t → is_large b ≡ u → are_crossed (row_sides kind k b None) ≡ false
    by true u e d = rw e refl
    by false true e d = rw (e, d) (less_false (units k b) (units k b) (omega (arith, ints)))
    by false false e d = rw (e, d) (plain_uncrossed kind (units k b))
sides_uncrossed kind k b (Some r) = by (is_large b) refl
  where
    by : (t : Bool) → is_large b ≡ t → are_crossed (row_sides kind k b (Some r)) ≡ false
    by true e = rw e (less_false (units k b) (units k b) (omega (arith, ints)))
    by false e = rw e (range_uncrossed kind (units k b) (not (is_large r)) (units k r) (unsigned_abs (units k r)))

none_crossed : {A : Type 0} (f : A → Row) (xs : List A) → ((x : A) → is_crossed (f x) ≡ false) → list_any is_crossed (map f xs) ≡ false
none_crossed f [] h = refl
none_crossed f (x ∷ xs) h = ap (λ t. t || list_any is_crossed (map f xs)) (h x) ∙ none_crossed f xs h

pub no_row_crossed : (text : List ℕ) (how : How) → list_any is_crossed (model_of text how).rows ≡ false
no_row_crossed text how =
    none_crossed (row_of (lines_of text) how) (filter (λ l. not (is_free l)) (row_lines (lines_of text))) (λ l. by l)
  where
    by : (l : Line) → is_crossed (row_of (lines_of text) how l) ≡ false
    by l =
        sides_uncrossed (row_kind l) (row_decimals (lines_of text) how (row_name l))
        (unwrap_or (written_for (kept_entries (codes "RHS") (lines_of text)) (row_name l)) no_number)
        (written_for (kept_entries (codes "RANGES") (lines_of text)) (row_name l))
