-- A program that is read is well shaped: its decimals are at most 9, and the column numbers of each row rise.
use Rattle.std.specs.Prelude.{◌≡◌, ◌≢◌, ℕ, zero, suc, ◌<◌, ◌≤◌, ◌==◌, true, false, not, List, [], ◌∷◌, length, map, filter, unwrap_or}
use Rattle.std.specs.Prelude.{codes, ℤ, pos}
use Rattle.std.specs.Int.RustNames.{unsigned_abs}
use Rattle.std.proofs.Common.{arith, ap, sym, subst}
use Rattle.std.proofs.lemmas.List.{length-map}
use Rattle.ip_defs.specs.Limits.{AreOrdered, IsRowShaped, IsWellShaped, value_at}
use Rattle.mps_defs.specs.Records.{Line, Entry, objective, row_lines, row_kind, row_name, is_free, column_names, kept_entries}
use Rattle.mps_defs.specs.TextModels.{units, written_in, decimals_in, row_decimals, coefs_in, row_from, column_from, model_from}
use Rattle.mps_defs.specs.declared.reading.How.{How}
use Rattle.mps_defs.specs.declared.reading.Number.{Number}
use Rattle.text_laws.proofs.EachLaws.{each_kept, each_of_map}
use Rattle.text_laws.proofs.LeastReadLaws.{largest_most}
use Rattle.text_laws.proofs.FoundReadLaws.{IsFound, at_place, of_row}
use Rattle.text_laws.proofs.EntryDecimalLaws.{IsFewFor, decimals_few}
use Rattle.text_laws.proofs.LeastDecimalLaws.{AreRead, all_kept, three_parts}
use Rattle.ip_defs.proofs.ListLaws.{each_weaker, each_get}
use Rattle.ip_defs.specs.Lists.{Each}
use Rattle.mps_defs.proofs.RisingLaws.{coefs_rise, rises_at, rises_within}

present_at : (ps : List (ℕ × ℤ)) → Each (λ p. not (unsigned_abs p.1 == 0) ≡ true) ps → (i : ℕ) → i < length ps → value_at ps i ≢ pos 0
present_at [] all i l e = omega arith
present_at (p ∷ ps) all zero l e =
    let here = all.0 in let none : not (unsigned_abs p.1 == 0) ≡ false = ap (λ (z : ℤ). not (unsigned_abs z == 0)) e in cc
present_at (p ∷ ps) all (suc i) l e = present_at ps all.1 i (omega arith) e

coefs_ordered : (es : List Entry) (names : List (List ℕ)) (row : List ℕ) (k : ℕ) → AreOrdered (length names) (coefs_in es names row k)
coefs_ordered es names row k =
    let pairs : List (ℕ × ℤ) = map (λ (p : ℕ × Number). (p.0, units k p.1)) (written_in es names row) in
    let up = coefs_rise es names row k in
    record {
      rising = rises_at 0 (length names) (coefs_in es names row k) up;
      within = λ i l. (let b = rises_within 0 (length names) (coefs_in es names row k) up i l in b.1);
      present = present_at (coefs_in es names row k) (each_kept (λ (p : ℕ × ℤ). not (unsigned_abs p.1 == 0)) pairs);
    }

-- ---- decimals

few_kept : (ls : List Line) (row : List ℕ) → AreRead ls → Each (IsFewFor 9 row) (all_kept ls)
few_kept ls row read =
    three_parts (IsFewFor 9 row) (kept_entries (codes "COLUMNS") ls) (kept_entries (codes "RHS") ls) (kept_entries (codes "RANGES") ls)
    (each_weaker (IsFound (codes "COLUMNS") ls at_place) (IsFewFor 9 row) (kept_entries (codes "COLUMNS") ls)
    (λ e h same. h.few) read.columns)
    (each_weaker (IsFound (codes "RHS") ls of_row) (IsFewFor 9 row) (kept_entries (codes "RHS") ls) (λ e h same. h.few) read.right_sides)
    (each_weaker (IsFound (codes "RANGES") ls of_row) (IsFewFor 9 row) (kept_entries (codes "RANGES") ls) (λ e h same. h.few) read.ranges)

few_decimals_read : (ls : List Line) (how : How) (row : List ℕ) → AreRead ls → how.digits ≤ 9 → row_decimals ls how row ≤ 9
few_decimals_read ls how row read digits =
    largest_most how.digits 9 (decimals_in (all_kept ls) row) digits (decimals_few 9 row (all_kept ls) (few_kept ls row read))

-- ---- the program

pub every : {A : Type 0} (P : A → Type 0) (xs : List A) → ((x : A) → P x) → Each P xs
every P [] h = tt
every P (x ∷ xs) h = (h x, every P xs h)

pub well_shaped : (ls : List Line) (how : How) → AreRead ls → how.digits ≤ 9 → IsWellShaped (model_from ls how)
well_shaped ls how read digits =
    let cost_row = unwrap_or (objective ls) [] in
    let column = column_from ls how cost_row (row_decimals ls how cost_row) in
    let bound = filter (λ l. not (is_free l)) (row_lines ls) in
    let width : length (map column (column_names ls)) ≡ length (column_names ls) = length-map (column_names ls) column in
    record {
      decimals = few_decimals_read ls how cost_row read digits;
      rows =
          λ i r at. each_get (IsRowShaped (length (map column (column_names ls))))
          (map (λ l. row_from ls how (row_kind l) (row_name l)) bound) i r
          (each_of_map (IsRowShaped (length (map column (column_names ls)))) (λ l. row_from ls how (row_kind l) (row_name l)) bound
          (every (λ l. IsRowShaped (length (map column (column_names ls))) (row_from ls how (row_kind l) (row_name l))) bound
          (λ l. record {
            decimals = few_decimals_read ls how (row_name l) read digits;
            coefs = subst (λ n. AreOrdered n
                (coefs_in (kept_entries (codes "COLUMNS") ls) (column_names ls) (row_name l)
                (row_decimals ls how (row_name l)))) (sym width) (coefs_ordered (kept_entries
                (codes "COLUMNS") ls) (column_names ls) (row_name l) (row_decimals ls how (row_name l)));
          })))
          at;
    }
