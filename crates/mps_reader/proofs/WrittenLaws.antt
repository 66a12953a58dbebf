-- The entries that are written for a row: by rising column number, and each a number of a text.
use Rattle.std.specs.Prelude.{◌≡◌, ◌≢◌, ℕ, zero, suc, ◌+◌, ◌<◌, ◌≤◌, ◌==◌, Bool, true, false, not, cond, ◌&&◌, List, [], ◌∷◌, length}
use Rattle.std.specs.Prelude.{filter_map, find, slice_get, Option, None, Some, option_map, unwrap_or, IfSome, bytes_eq, unsigned_abs, ℤ}
use Rattle.std.specs.Prelude.{pos}
use Rattle.std.specs.List.{enumerate_from, cons_option}
use Rattle.std.specs.Option.{ForSome}
use Rattle.std.proofs.Common.{refl, arith, ap, sym, ◌∙◌, subst}
use Rattle.decimals.specs.Decimals.{IsBelowLarge}
use Rattle.decimals.proofs.NumberLaws.{read_below}
use Rattle.ip_defs.specs.Limits.{AreOrdered, value_at}
use Rattle.mps_defs.specs.Numbers.{number_of}
use Rattle.mps_defs.specs.Records.{Entry}
use Rattle.mps_defs.specs.TextModels.{units, no_number, written_at, written_in, written_for, placed, number_or_zero}
use Rattle.mps_defs.specs.declared.reading.Number.{Number}
use Rattle.mps_reader.specs.Internal.Below.{AreBelowLarge, AreWithin}
use Rattle.mps_reader.specs.Internal.Clamps.{clamped, clamped_coefs}
use Rattle.mps_reader.specs.Internal.Drafted.{drafted_coefs}
use Rattle.mps_reader.proofs.ModelListLaws.{clamped_nothing}
use Rattle.std.proofs.lemmas.Bool.{true≢false}
use Rattle.mps_defs.proofs.RisingLaws.{coefs_rise, mapped_rises, rises_within, rises_at}

-- ---- numbers of texts

pub number_below : (text : List ℕ) → IsBelowLarge (number_or_zero text)
number_below text = by (number_of text) (read_below text)
  where
    by : (o : Option Number) → IfSome o IsBelowLarge → IsBelowLarge (unwrap_or o no_number)
    by None h = omega arith
    by (Some n) h = h

-- what is written is a number of a text
written_below : (o : Option Entry) → ForSome (option_map (λ e. number_or_zero e.text) o) IsBelowLarge
written_below None n e = absurd cc
written_below (Some entry) n e = let same : number_or_zero entry.text ≡ n = cc in subst IsBelowLarge same (number_below entry.text)

pub written_for_below : (es : List Entry) (row : List ℕ) → ForSome (written_for es row) IsBelowLarge
written_for_below es row = written_below (find (λ e. bytes_eq e.row row) es)

written_at_below : (es : List Entry) (row column : List ℕ) → ForSome (written_at es row column) IsBelowLarge
written_at_below es row column = written_below (find (λ e. bytes_eq e.row row && bytes_eq e.owner column) es)

-- ---- the entries of a row

-- an entry by its place: its number is one of a text, and its column is there
pub entry_at : (es : List Entry) (row : List ℕ) (n : ℕ) (names : List (List ℕ)) (i : ℕ) (p : ℕ × Number)
    → slice_get (filter_map (placed es row) (enumerate_from n names)) i ≡ Some p → IsBelowLarge p.1 × (p.0 < n + length names)
entry_at es row n [] i p at = absurd cc
entry_at es row n (name ∷ names) i p at =
    by (written_at es row name) (written_at_below es row name) (λ k g. entry_at es row (n + 1) names k p g) i at
  where
    rest : List (ℕ × Number)
    rest = filter_map (placed es row) (enumerate_from (n + 1) names)

    by : (o : Option Number) → ForSome o IsBelowLarge
        → ((k : ℕ) → slice_get rest k ≡ Some p → IsBelowLarge p.1 × (p.0 < n + 1 + length names))
        → (k : ℕ) → slice_get (cons_option (option_map (λ x. (n, x)) o) rest) k ≡ Some p
        → IsBelowLarge p.1 × (p.0 < n + length (name ∷ names))
    by None below later k g = let h = later k g in (h.0, let bound = h.1 in omega arith)
    by (Some x) below later zero g =
        let same : (n, x) ≡ p = cc in (
          subst IsBelowLarge (ap (λ (q : ℕ × Number). q.1) same) (below x refl),
          let place = ap
              (λ (q : ℕ × Number). q.0) same in omega arith,
        )
    by (Some x) below later (suc k) g = let h = later k g in (h.0, let bound = h.1 in omega arith)

pub entries_below : (es : List Entry) (columns : List (List ℕ)) (row : List ℕ) → AreBelowLarge (written_in es columns row)
entries_below es columns row i p at = (entry_at es row 0 columns i p at).0

pub entries_within : (es : List Entry) (columns : List (List ℕ)) (row : List ℕ) (most : ℕ) → length columns ≤ most
    → AreWithin most (written_in es columns row)
entries_within es columns row most l i p at = let bound = (entry_at es row 0 columns i p at).1 in omega arith

-- ---- coefficients

-- a coefficient that is left is not 0
coef_present : (k : ℕ) (entries : List (ℕ × Number)) (i : ℕ) → i < length (clamped_coefs (drafted_coefs k entries))
    → value_at (clamped_coefs (drafted_coefs k entries)) i ≢ pos 0
coef_present k [] i l none = absurd (omega arith)
coef_present k (p ∷ ps) i l none = by (unsigned_abs (units k p.1) == 0) refl (coef_present k ps) i l none
  where
    rest : List (ℕ × ℤ)
    rest = clamped_coefs (drafted_coefs k ps)

    by : (t : Bool) → (unsigned_abs (units k p.1) == 0) ≡ t → ((j : ℕ) → j < length rest → value_at rest j ≢ pos 0)
        → (j : ℕ) → j < length (clamped_coefs (cond (not t) ((p.0, units k p.1) ∷ drafted_coefs k ps) (drafted_coefs k ps)))
        → value_at (clamped_coefs (cond (not t) ((p.0, units k p.1) ∷ drafted_coefs k ps) (drafted_coefs k ps))) j ≢ pos 0
    by true e later j g z = later j g z
    by false e later zero g none = absurd (true≢false (sym (clamped_nothing (units k p.1) none) ∙ e))
    by false e later (suc j) g z = later j (omega arith) z

-- the coefficients of a row by rising column number, none 0
pub coefs_ordered : (es : List Entry) (columns : List (List ℕ)) (row : List ℕ) (k : ℕ)
    → AreOrdered (length columns) (clamped_coefs (drafted_coefs k (written_in es columns row)))
coefs_ordered es columns row k =
    let n = length columns in
    let entries = written_in es columns row in
    let ordered = mapped_rises clamped 0 n (drafted_coefs k entries) (coefs_rise es columns row k) in
    record {
      rising = λ i j l e. rises_at 0 n (clamped_coefs (drafted_coefs k entries)) ordered i j l e;
      within = λ i l. (rises_within 0 n (clamped_coefs (drafted_coefs k entries)) ordered i l).1;
      present = λ i l. coef_present k entries i l;
    }
