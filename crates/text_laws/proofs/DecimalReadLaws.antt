-- The decimals of the rows and of the costs are read back.
use Rattle.std.specs.Prelude.{◌≡◌, ℕ, zero, suc, ◌+◌, ◌<◌, ◌≤◌, ◌^◌, ◌==◌, max, Bool, true, false, not, cond, List, [], ◌∷◌, ◌++◌, length}
use Rattle.std.specs.Prelude.{map, filter, flat_map, find, Option, None, Some, slice_get, bytes_eq, codes, ℤ, pos, neg_ℤ, ◌-ℤ◌}
use Rattle.std.specs.List.{enumerate_from}
use Rattle.std.specs.Option.{option_map_or, ForSome}
use Rattle.std.specs.Int.RustNames.{unsigned_abs}
use Rattle.std.specs.Ordering.{int_eq}
use Rattle.std.proofs.Common.{refl, arith, ap, sym, ◌∙◌, subst}
use Rattle.std.proofs.lemmas.Bool.{ne_eqb, eqb-true, eqb-false, not-false}
use Rattle.std.proofs.lemmas.Int.{ints}
use Rattle.decimals.proofs.NumberLaws.{zero_reached}
use Rattle.mps_defs.specs.Lists.{is_among, AreDistinct}
use Rattle.ip_defs.specs.Lists.{when, Each}
use Rattle.mps_defs.specs.Numbers.{decimal_text, least_decimals, decimals_of}
use Rattle.mps_defs.specs.CanonicalText.{Written, triple, coef_line, column_block, right_side, constant_line, value_text, side_line}
use Rattle.mps_defs.specs.CanonicalText.{width_line}
use Rattle.mps_defs.specs.TextModels.{largest, number_or_zero}
use Rattle.ip_defs.specs.declared.programs.Column.{Column}
use Rattle.ip_defs.specs.declared.programs.Row.{Row}
use Rattle.ip_defs.specs.declared.programs.Parts.{Parts}
use Rattle.text_laws.specs.ReadBack.{needed_decimals, range_of}
use Rattle.text_laws.proofs.NumberTextLaws.{decimal_text_decimals}
use Rattle.text_laws.proofs.ReadableLaws.{IsRowText, IsColumnText, width_small}
use Rattle.text_laws.proofs.EntryReadLaws.{BareEntry, listed, bare_decimals, decimals_append, listed_append}
use Rattle.text_laws.proofs.CoefReadLaws.{bare_from, block_bare, coef_bare}
use Rattle.text_laws.proofs.OrderReadLaws.{IsFrom, find_above}
use Rattle.text_laws.proofs.SideReadLaws.{AreOfRow, none_of, own_of, rhs_bare, range_bare}
use Rattle.ip_defs.proofs.TextLaws.{text_self}
use Rattle.mps_defs.proofs.PlaceLaws.{not_at}
use Rattle.mps_defs.proofs.ListLaws.{get_map}
use Rattle.std.proofs.lemmas.Bool.Decides.{Decides-int_eq}

pub flat_flat : (f : Row → List Written) (rs : List Row) → flat_map listed (flat_map f rs) ≡ flat_map (λ r. flat_map listed (f r)) rs
flat_flat f [] = refl
flat_flat f (r ∷ rs) = listed_append (f r) (flat_map f rs) ∙ ap (λ k. flat_map listed (f r) ++ k) (flat_flat f rs)

-- ---- coefficients

abbrev said_decimals : ℕ → ℤ → ℕ
said_decimals k z = decimals_of (number_or_zero (decimal_text z k))

abbrev place_decimals : ℕ → Option (ℕ × ℤ) → List ℕ
place_decimals k o = option_map_or (λ (p : ℕ × ℤ). said_decimals k p.1 ∷ []) o []

coef_own : (j : ℕ) (name : List ℕ) (r : Row) → AreOfRow r.name (flat_map listed (coef_line j name r))
coef_own j name r = by (find (λ p. p.0 == j) r.coefs)
  where
    by : (o : Option (ℕ × ℤ))
        → AreOfRow r.name (flat_map listed (option_map_or (λ p. triple name r.name (decimal_text p.1 r.decimals) ∷ []) o []))
    by None = tt
    by (Some p) = (refl, tt)

coef_one : (j : ℕ) (name : List ℕ) (r : Row)
    → bare_decimals (flat_map listed (coef_line j name r)) r.name ≡ place_decimals r.decimals (find (λ p. p.0 == j) r.coefs)
coef_one j name r = by (find (λ p. p.0 == j) r.coefs)
  where
    by : (o : Option (ℕ × ℤ))
        → bare_decimals (flat_map listed (option_map_or (λ p. triple name r.name (decimal_text p.1 r.decimals) ∷ []) o [])) r.name
        ≡ place_decimals r.decimals o
    by None = refl
    by (Some p) =
        ap (λ t. map (λ (k : BareEntry). decimals_of (number_or_zero k.text))
        (cond t (record { owner = name; row = r.name; text = decimal_text p.1 r.decimals } ∷ []) [])) (text_self r.name)

abbrev places_from : ℕ → List (ℕ × ℤ) → ℕ → ℕ → List ℕ
places_from k ps j zero = []
places_from k ps j (suc n) = place_decimals k (find (λ p. p.0 == j) ps) ++ places_from k ps (suc j) n

row_places : (m : Parts) (i : ℕ) (r : Row) → AreDistinct (m.objective ∷ map (λ k. k.name) m.rows) → slice_get m.rows i ≡ Some r
    → (j : ℕ) (cs : List Column)
    → bare_decimals (bare_from m j cs) r.name ≡ places_from r.decimals r.coefs j (length cs)
row_places m i r d at j [] = refl
row_places m i r d at j (c ∷ cs) =
    let next : j + 1 ≡ suc j = omega arith in
    ap (λ ts. bare_decimals ts r.name) (listed_append (column_block m (j, c)) (flat_map (column_block m) (enumerate_from (j + 1) cs)))
    ∙ decimals_append (block_bare m j c) (bare_from m (j + 1) cs) r.name
    ∙ ap (λ (n : ℕ). bare_decimals (block_bare m j c) r.name ++ bare_decimals (bare_from m n cs) r.name) next
    ∙ ap (λ l. l ++ bare_decimals (bare_from m (suc j) cs) r.name)
    (ap (λ t. map (λ (k : BareEntry). decimals_of (number_or_zero k.text)) (cond t (record {
      owner = c.name;
      row = m.objective;
      text = value_text m c.cost;
    } ∷ filter (λ k. bytes_eq k.row r.name) (coef_bare j c.name m.rows))
    (filter (λ k. bytes_eq k.row r.name) (coef_bare j c.name m.rows)))) (not_at m.objective (map (λ k. k.name) m.rows) i r.name d.0
    (get_map (λ k. k.name) m.rows i r at))
    ∙ ap (λ ts. bare_decimals ts r.name) (flat_flat (coef_line j c.name) m.rows)
    ∙ (own_of (λ k. flat_map listed (coef_line j c.name k)) (coef_own j c.name) m.rows i r d.1 at).1
    ∙ coef_one j c.name r)
    ∙ ap (λ l. place_decimals r.decimals (find (λ p. p.0 == j) r.coefs) ++ l) (row_places m i r d at (suc j) cs)

skip_place : (k : ℕ) (p : ℕ × ℤ) (ps : List (ℕ × ℤ)) (j n : ℕ) → p.0 < j → places_from k (p ∷ ps) j n ≡ places_from k ps j n
skip_place k p ps j zero l = refl
skip_place k p ps j (suc n) l =
    ap (λ t. place_decimals k (cond t (Some p) (find (λ q. q.0 == j) ps)) ++ places_from k (p ∷ ps) (suc j) n)
    (ne_eqb p.0 j (λ e. omega arith))
    ∙ ap (λ s. place_decimals k (find (λ q. q.0 == j) ps) ++ s) (skip_place k p ps (suc j) n (omega arith))

all_places : (k j n : ℕ) (ps : List (ℕ × ℤ)) → k ≤ 9 → IsFrom j (j + n) ps → places_from k ps j n ≡ map (λ p. needed_decimals k p.1) ps
all_places k j zero [] most f = refl
all_places k j zero (p ∷ ps) most f = absurd (let a = f.0.0 in let b = f.0.1 in omega arith)
all_places k j (suc n) [] most f = all_places k (suc j) n [] most tt
all_places k j (suc n) (p ∷ ps) most f = by (p.0 == j) refl
    (λ same. all_places k (suc j) n ps most (tail same))
    (λ apart. all_places k (suc j) n (p ∷ ps) most
    (let low = f.0.0 in let high = f.0.1 in ((strict p.0 j apart low, omega arith), f.1, higher)))
  where
    sum : j + suc n ≡ suc j + n
    sum = omega arith

    higher : IsFrom (suc p.0) (suc j + n) ps
    higher = subst (λ (x : ℕ). IsFrom (suc p.0) x ps) sum f.2

    tail : p.0 ≡ j → IsFrom (suc j) (suc j + n) ps
    tail same = subst (λ (x : ℕ). IsFrom (suc x) (suc j + n) ps) same higher

    strict : (a b : ℕ) → (a ≡ b → ⊥) → b ≤ a → suc b ≤ a
    strict zero zero h l = absurd (h refl)
    strict zero (suc b) h l = absurd (omega arith)
    strict (suc a) zero h l = omega arith
    strict (suc a) (suc b) h l = let r = strict a b (λ e. h (ap suc e)) (omega arith) in omega arith

    by : (t : Bool) → (p.0 == j) ≡ t → (p.0 ≡ j → places_from k ps (suc j) n ≡ map (λ q. needed_decimals k q.1) ps)
        → ((p.0 ≡ j → ⊥) → places_from k (p ∷ ps) (suc j) n ≡ map (λ q. needed_decimals k q.1) (p ∷ ps))
        → places_from k (p ∷ ps) j (suc n) ≡ map (λ q. needed_decimals k q.1) (p ∷ ps)
    by true e here there =
        let same = eqb-true p.0 j e in
        ap (λ t. place_decimals k (cond t (Some p) (find (λ q. q.0 == j) ps)) ++ places_from k (p ∷ ps) (suc j) n) e
        ∙ ap (λ (x : ℕ). x ∷ places_from k (p ∷ ps) (suc j) n) (decimal_text_decimals p.1 k f.1.1 most)
        ∙ ap (λ s. needed_decimals k p.1 ∷ s) (skip_place k p ps (suc j) n (omega arith) ∙ here same)
    by false e here there =
        let low = f.0.0 in
        let apart : p.0 ≡ j → ⊥ = λ s. eqb-false p.0 j e s in
        ap (λ t. place_decimals k (cond t (Some p) (find (λ q. q.0 == j) ps)) ++ places_from k (p ∷ ps) (suc j) n) e
        ∙ ap (λ o. place_decimals k o ++ places_from k (p ∷ ps) (suc j) n)
        (find_above j (suc p.0) (j + suc n) ps f.2 (let s = strict p.0 j apart low in omega arith))
        ∙ there apart

pub coef_decimals : (m : Parts) (i : ℕ) (r : Row) → AreDistinct (m.objective ∷ map (λ k. k.name) m.rows) → slice_get m.rows i ≡ Some r
    → r.decimals ≤ 9 → IsFrom 0 (length m.columns) r.coefs
    → bare_decimals (bare_from m 0 m.columns) r.name ≡ map (λ p. needed_decimals r.decimals p.1) r.coefs
coef_decimals m i r d at most f =
    let sum : length m.columns ≡ 0 + length m.columns = omega arith in
    row_places m i r d at 0 m.columns
    ∙ all_places r.decimals 0 (length m.columns) r.coefs most (subst (λ (x : ℕ). IsFrom 0 x r.coefs) sum f)

-- ---- costs

pub cost_decimals_read : (m : Parts) → is_among m.objective (map (λ k. k.name) m.rows) ≡ false → m.cost_decimals ≤ 9
    → (j : ℕ) (cs : List Column) → Each IsColumnText cs
    → bare_decimals (bare_from m j cs) m.objective ≡ map (λ c. needed_decimals m.cost_decimals c.cost) cs
cost_decimals_read m d most j [] h = refl
cost_decimals_read m d most j (c ∷ cs) h =
    ap (λ ts. bare_decimals ts m.objective) (listed_append (column_block m (j, c)) (flat_map (column_block m) (enumerate_from (j + 1) cs)))
    ∙ decimals_append (block_bare m j c) (bare_from m (j + 1) cs) m.objective
    ∙ ap (λ l. l ++ bare_decimals (bare_from m (j + 1) cs) m.objective)
    (ap (λ t. map (λ (k : BareEntry). decimals_of (number_or_zero k.text)) (cond t (record {
      owner = c.name;
      row = m.objective;
      text = value_text m c.cost;
    } ∷ filter (λ k. bytes_eq k.row m.objective) (coef_bare j c.name m.rows))
    (filter (λ k. bytes_eq k.row m.objective) (coef_bare j c.name m.rows)))) (text_self m.objective)
    ∙ ap (λ l. said_decimals m.cost_decimals c.cost ∷ l)
    (ap (λ ts. bare_decimals ts m.objective) (flat_flat (coef_line j c.name) m.rows)
    ∙ (none_of (λ k. flat_map listed (coef_line j c.name k)) (coef_own j c.name) m.rows m.objective d).1)
    ∙ ap (λ (x : ℕ). x ∷ []) (decimal_text_decimals c.cost m.cost_decimals (h.0).cost most))
    ∙ ap (λ l. needed_decimals m.cost_decimals c.cost ∷ l) (cost_decimals_read m d most (j + 1) cs h.1)

-- ---- right sides and ranges

none_needed : (k n : ℕ) → largest n (needed_decimals k (pos 0) ∷ []) ≡ n
none_needed k n = let e = (zero_reached k).1 in ap (λ (x : ℕ). max n x) e ∙ omega arith

amount_decimals : (test : Bool) (k n : ℕ) (owner name : List ℕ) (z : ℤ) → (test ≡ false → z ≡ pos 0) → unsigned_abs z < 2 ^ 64 → k ≤ 9
    → largest n (bare_decimals (flat_map listed (when test (triple owner name (decimal_text z k)))) name)
    ≡ largest n (needed_decimals k z ∷ [])
amount_decimals true k n owner name z h small most =
    ap (λ t. largest n (map (λ (x : BareEntry). decimals_of (number_or_zero x.text))
    (cond t (record { owner = owner; row = name; text = decimal_text z k } ∷ []) []))) (text_self name)
    ∙ ap (λ (x : ℕ). largest n (x ∷ [])) (decimal_text_decimals z k small most)
amount_decimals false k n owner name z h small most = sym (ap (λ (y : ℤ). largest n (needed_decimals k y ∷ [])) (h refl) ∙ none_needed k n)

pub rhs_decimals : (r : Row) (n : ℕ) → IsRowText r → ForSome (right_side r) (λ b. unsigned_abs b ≤ 2 ^ 62)
    → largest n (bare_decimals (rhs_bare r) r.name)
    ≡ largest n (map (needed_decimals r.decimals) (option_map_or (λ b. b ∷ []) (right_side r) []))
rhs_decimals r n h s = by (right_side r) s
  where
    by : (o : Option ℤ) → ForSome o (λ b. unsigned_abs b ≤ 2 ^ 62)
        → largest n (bare_decimals (flat_map listed (option_map_or (side_line r) o (triple (codes "RHS") r.name (codes "1e30") ∷ [])))
        r.name)
        ≡ largest n (map (needed_decimals r.decimals) (option_map_or (λ b. b ∷ []) o []))
    by None l =
        ap (λ t. largest n (map (λ (x : BareEntry). decimals_of (number_or_zero x.text))
        (cond t (record { owner = codes "RHS"; row = r.name; text = codes "1e30" } ∷ []) []))) (text_self r.name)
        ∙ least
      where
        least : max n 0 ≡ n
        least = omega arith
    by (Some b) l =
        amount_decimals (not (int_eq b (pos 0))) r.decimals n (codes "RHS") r.name b
        (λ e. (Decides-int_eq b (pos 0)).0 (not-false (int_eq b (pos 0)) e)) (let q = l b refl in omega arith) h.decimals

pub range_decimals : (r : Row) (n : ℕ) → IsRowText r
    → largest n (bare_decimals (range_bare r) r.name) ≡ largest n (map (needed_decimals r.decimals) (range_of r))
range_decimals r n h = by r.low r.high h.low h.high
  where
    by : (o p : Option ℤ) → ForSome o (λ b. unsigned_abs b ≤ 2 ^ 62) → ForSome p (λ b. unsigned_abs b ≤ 2 ^ 62)
        → largest n (bare_decimals (flat_map listed (option_map_or (λ low. option_map_or (width_line r low) p []) o [])) r.name)
        ≡ largest n (map (needed_decimals r.decimals) (option_map_or (λ low. option_map_or (λ high. (high -ℤ low) ∷ []) p []) o []))
    by None p s t = refl
    by (Some low) None s t = refl
    by (Some low) (Some high) s t =
        amount_decimals (not (int_eq low high)) r.decimals n (codes "RNG") r.name (high -ℤ low)
        (λ e. let same = (Decides-int_eq low high).0 (not-false (int_eq low high) e) in omega (arith, ints))
        (width_small low high (s low refl) (t high refl)) h.decimals

pub constant_decimals : (m : Parts) (n : ℕ) → unsigned_abs m.constant < 2 ^ 64 → m.cost_decimals ≤ 9
    → largest n (bare_decimals (flat_map listed (constant_line m)) m.objective)
    ≡ largest n (needed_decimals m.cost_decimals m.constant ∷ [])
constant_decimals m n small most =
    amount_decimals (not (int_eq m.constant (pos 0))) m.cost_decimals n (codes "RHS") m.objective (neg_ℤ m.constant)
    (λ e. ap neg_ℤ ((Decides-int_eq m.constant (pos 0)).0 (not-false (int_eq m.constant (pos 0)) e))) (omega (arith, ints)) most
    ∙ ap (λ (x : ℕ). largest n (least_decimals x m.cost_decimals ∷ [])) same
  where
    same : unsigned_abs (neg_ℤ m.constant) ≡ unsigned_abs m.constant
    same = omega (arith, ints)
