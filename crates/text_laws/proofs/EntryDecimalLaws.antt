-- The decimals of the entries that are kept for a row, and those of the amounts that are made of them.
use Rattle.std.specs.Prelude.{◌≡◌, ℕ, ◌+◌, ◌≤◌, ◌==◌, Bool, true, false, ◌||◌, not, cond, List, [], ◌∷◌, map, filter, filter_map, Option}
use Rattle.std.specs.Prelude.{None, Some, option_map, bytes_eq, codes, ℤ}
use Rattle.std.specs.List.{enumerate_from, cons_option}
use Rattle.std.specs.Int.RustNames.{unsigned_abs}
use Rattle.std.proofs.Common.{refl, arith, ap, sym, ◌∙◌, subst}
use Rattle.std.proofs.lemmas.Bool.{eqb-true}
use Rattle.std.proofs.lemmas.Slice.Eq.{bytes_eq-Decides}
use Rattle.mps_defs.specs.Lists.{is_among}
use Rattle.mps_defs.specs.Numbers.{decimals_of}
use Rattle.mps_defs.specs.Records.{Line, Entry, kept_entries}
use Rattle.mps_defs.specs.TextModels.{units, written_for, written_at, written_in, decimals_in, placed, number_or_zero}
use Rattle.mps_defs.specs.declared.reading.Number.{Number}
use Rattle.text_laws.specs.ReadBack.{needed_decimals}
use Rattle.text_laws.proofs.EachLaws.{each_before_map}
use Rattle.text_laws.proofs.LeastReadLaws.{nothing_needs}
use Rattle.text_laws.proofs.FoundReadLaws.{IsFound, at_place, of_row}
use Rattle.ip_defs.specs.Lists.{Each}

-- ---- the decimals of the entries of a row

-- few decimals, where the entry is of the row
abbrev pub IsFewFor : ℕ → List ℕ → Entry → Type 0
IsFewFor most row e = bytes_eq e.row row ≡ true → decimals_of (number_or_zero e.text) ≤ most

pub decimals_few : (most : ℕ) (row : List ℕ) (es : List Entry) → Each (IsFewFor most row) es → Each (λ d. d ≤ most) (decimals_in es row)
decimals_few most row [] all = tt
decimals_few most row (e ∷ es) all = by (bytes_eq e.row row) refl (decimals_few most row es all.1)
  where
    rest : List Entry
    rest = filter (λ f. bytes_eq f.row row) es

    by : (t : Bool) → bytes_eq e.row row ≡ t → Each (λ d. d ≤ most) (map (λ f. decimals_of (number_or_zero f.text)) rest)
        → Each (λ d. d ≤ most) (map (λ f. decimals_of (number_or_zero f.text)) (cond t (e ∷ rest) rest))
    by true f later = let here = all.0 in (here f, later)
    by false f later = later

pub few_decimals : (most : ℕ) (row : List ℕ) (es : List Entry) → Each (λ d. d ≤ most) (decimals_in es row) → Each (IsFewFor most row) es
few_decimals most row [] all = tt
few_decimals most row (e ∷ es) all = by (bytes_eq e.row row) refl all (λ h. few_decimals most row es h)
  where
    rest : List Entry
    rest = filter (λ f. bytes_eq f.row row) es

    by : (t : Bool) → bytes_eq e.row row ≡ t
        → Each (λ d. d ≤ most) (map (λ f. decimals_of (number_or_zero f.text)) (cond t (e ∷ rest) rest))
        → (Each (λ d. d ≤ most) (map (λ f. decimals_of (number_or_zero f.text)) rest) → Each (IsFewFor most row) es)
        → Each (IsFewFor most row) (e ∷ es)
    by true f h later = (λ g. h.0, later h.1)
    by false f h later = (λ g. absurd cc, later h)

-- ---- what is found is written

pub written_here : (ls : List Line) (row : List ℕ) (e : Entry) → IsFound (codes "COLUMNS") ls at_place e → bytes_eq e.row row ≡ true
    → written_at (kept_entries (codes "COLUMNS") ls) row e.owner ≡ Some (number_or_zero e.text)
written_here ls row e h same =
    ap (λ k. written_at (kept_entries (codes "COLUMNS") ls) k e.owner) (sym ((bytes_eq-Decides e.row row).0 same))
    ∙ ap (option_map (λ f. number_or_zero f.text)) h.found

pub written_alone : (word : List ℕ) (ls : List Line) (row : List ℕ) (e : Entry) → IsFound word ls of_row e → bytes_eq e.row row ≡ true
    → written_for (kept_entries word ls) row ≡ Some (number_or_zero e.text)
written_alone word ls row e h same =
    ap (written_for (kept_entries word ls)) (sym ((bytes_eq-Decides e.row row).0 same))
    ∙ ap (option_map (λ f. number_or_zero f.text)) h.found

-- ---- the coefficients

-- what holds of the numbers that are written in a row holds of the one that is written at a column
written_each : (Q : Number → Type 0) (es : List Entry) (row : List ℕ) (n : ℕ) (names : List (List ℕ))
    → Each (λ p. Q p.1) (filter_map (placed es row) (enumerate_from n names))
    → (name : List ℕ) (x : Number) → is_among name names ≡ true → written_at es row name ≡ Some x → Q x
written_each Q es row n [] all name x here at = absurd cc
written_each Q es row n (c ∷ cs) all name x here at =
    by (bytes_eq name c) refl here (written_at es row c) refl all (λ h g. written_each Q es row (n + 1) cs h name x g at)
  where
    rest : List (ℕ × Number)
    rest = filter_map (placed es row) (enumerate_from (n + 1) cs)

    by : (t : Bool) → bytes_eq name c ≡ t → (t || is_among name cs) ≡ true → (o : Option Number) → written_at es row c ≡ o
        → Each (λ p. Q p.1) (cons_option (option_map (λ y. (n, y)) o) rest)
        → (Each (λ p. Q p.1) rest → is_among name cs ≡ true → Q x) → Q x
    by true e f None is h later =
        absurd (let none : written_at es row name ≡ None = ap (written_at es row) ((bytes_eq-Decides name c).0 e) ∙ is in cc)
    by true e f (Some y) is h later =
        let found : written_at es row name ≡ Some y = ap (written_at es row) ((bytes_eq-Decides name c).0 e) ∙ is in
        let same : y ≡ x = cc in subst Q same h.0
    by false e f None is h later = later h f
    by false e f (Some y) is h later = later h.1 f

-- what holds of those that are not 0, and of 0
nonzero_each : (k most : ℕ) (ps : List (ℕ × ℤ)) → Each (λ p. needed_decimals k p.1 ≤ most) (filter (λ p. not (unsigned_abs p.1 == 0)) ps)
    → Each (λ p. needed_decimals k p.1 ≤ most) ps
nonzero_each k most [] all = tt
nonzero_each k most (p ∷ ps) all = by (unsigned_abs p.1 == 0) refl all (λ h. nonzero_each k most ps h)
  where
    rest : List (ℕ × ℤ)
    rest = filter (λ q. not (unsigned_abs q.1 == 0)) ps

    by : (t : Bool) → (unsigned_abs p.1 == 0) ≡ t → Each (λ q. needed_decimals k q.1 ≤ most) (cond (not t) (p ∷ rest) rest)
        → (Each (λ q. needed_decimals k q.1 ≤ most) rest → Each (λ q. needed_decimals k q.1 ≤ most) ps)
        → Each (λ q. needed_decimals k q.1 ≤ most) (p ∷ ps)
    by true e h later = (let none = nothing_needs k p.1 (eqb-true (unsigned_abs p.1) 0 e) in omega arith, later h)
    by false e h later = (h.0, later h.1)

-- the number that is written at a column needs no more than the coefficients do
pub coef_needs : (es : List Entry) (names : List (List ℕ)) (row : List ℕ) (k most : ℕ)
    → Each (λ z. needed_decimals k z ≤ most) (map (λ (p : ℕ × ℤ). p.1) (filter (λ p. not (unsigned_abs p.1 == 0))
    (map (λ (p : ℕ × Number). (p.0, units k p.1)) (written_in es names row))))
    → (name : List ℕ) (x : Number) → is_among name names ≡ true → written_at es row name ≡ Some x → needed_decimals k (units k x) ≤ most
coef_needs es names row k most all =
    let pairs = map (λ (p : ℕ × Number). (p.0, units k p.1)) (written_in es names row) in
    written_each (λ x. needed_decimals k (units k x) ≤ most) es row 0 names
    (each_before_map (λ (p : ℕ × ℤ). needed_decimals k p.1 ≤ most) (λ (p : ℕ × Number). (p.0, units k p.1)) (written_in es names row)
    (nonzero_each k most pairs
    (each_before_map (λ z. needed_decimals k z ≤ most) (λ (p : ℕ × ℤ). p.1) (filter (λ p. not (unsigned_abs p.1 == 0)) pairs) all)))

-- ---- the costs

-- what holds of each name holds of one among them
pub named_each : (P : List ℕ → Type 0) (names : List (List ℕ)) (name : List ℕ) → Each P names → is_among name names ≡ true → P name
named_each P [] name all here = absurd cc
named_each P (c ∷ cs) name all here = by (bytes_eq name c) refl here (λ g. named_each P cs name all.1 g)
  where
    by : (t : Bool) → bytes_eq name c ≡ t → (t || is_among name cs) ≡ true → (is_among name cs ≡ true → P name) → P name
    by true e f later = subst P (sym ((bytes_eq-Decides name c).0 e)) all.0
    by false e f later = later f
