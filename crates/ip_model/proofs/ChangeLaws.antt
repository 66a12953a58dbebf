-- A program in which the number at a place is changed: it keeps its shape, and all limits but that on the count of coefficients, where
-- the new number keeps to its own; and what is changed by f is replaced by what f makes of the number there.
use Rattle.std.specs.Prelude.{◌≡◌, ◌≢◌, ℕ, zero, suc, ◌^◌, ◌<◌, ◌≤◌, ◌==◌, nat_lt, Bool, true, false, List, [], ◌∷◌, length, map}
use Rattle.std.specs.Prelude.{Option, Some, None, option_map, option_and_then, slice_get, slice_set, ℤ, pos, negsuc, ◌+ℤ◌, cond, sum_by}
use Rattle.std.specs.Int.RustNames.{unsigned_abs}
use Rattle.std.specs.Option.{ForSome}
use Rattle.std.proofs.Common.{arith, refl, ap, sym, subst, ◌∙◌}
use Rattle.std.proofs.lemmas.Int.{ints}
use Rattle.std.proofs.lemmas.Bool.{eqb-true, eqb-false}
use Rattle.ip_defs.specs.Program.{at, coefficient, low_at, high_at, box_of, costs_of}
use Rattle.ip_defs.specs.Limits.{index_at, value_at, AreOrdered, AreSmall, IsRowShaped, IsColumn, IsRow, IsWithinLimits}
use Rattle.ip_defs.specs.declared.programs.Column.{Column}
use Rattle.ip_defs.specs.declared.programs.Row.{Row}
use Rattle.ip_defs.specs.declared.programs.Parts.{Parts}
use Rattle.ip_defs.proofs.OrderLaws.{lt_is}
use Rattle.ip_model.proofs.PlaceLaws.{side_at, cost_of_column}
use Rattle.ip_model.specs.declared.places.Place.{Place}
use Rattle.ip_model.specs.declared.places.Place.TheVariants.{Cost, Low, High, Coef, Lower, Upper}
use Rattle.ip_model.specs.Places.{changed_at, listed, changed_coefs, with_cost, with_lower, with_upper, with_low, with_high, with_coef}
use Rattle.ip_model.specs.Places.{with_columns, with_rows, changed, Exists, number_of, limit_of, or_zero}

ge_is : (a b : ℕ) → nat_lt a b ≡ false → b ≤ a
ge_is a b e = grind (arith)

-- ---- the columns of changed coefficients

-- the columns of all coefficients are at least one number
abbrev From : ℕ → List (ℕ × ℤ) → Type 0
From least ps = (k : ℕ) → k < length ps → least ≤ index_at ps k

from_cons : (least : ℕ) (p : ℕ × ℤ) (ps : List (ℕ × ℤ)) → least ≤ p.0 → From least ps → From least (p ∷ ps)
from_cons least p ps h all zero l = h
from_cons least p ps h all (suc k) l = all k (omega arith)

from_tail : (least : ℕ) (p : ℕ × ℤ) (ps : List (ℕ × ℤ)) → From least (p ∷ ps) → From least ps
from_tail least p ps all k l = all (suc k) (omega arith)

listed_from : (least j : ℕ) (e : ℤ) (ps : List (ℕ × ℤ)) → least ≤ j → From least ps → From least (listed j e ps)
listed_from least j (pos zero) ps h all = all
listed_from least j (pos (suc n)) ps h all = from_cons least (j, pos (suc n)) ps h all
listed_from least j (negsuc n) ps h all = from_cons least (j, negsuc n) ps h all

changed_from : (least j : ℕ) (f : ℤ → ℤ) (ps : List (ℕ × ℤ)) → least ≤ j → From least ps → From least (changed_coefs j f ps)
changed_from least j f [] h all = listed_from least j (f (pos 0)) [] h all
changed_from least j f (p ∷ ps) h all =
    by (p.0 == j) (nat_lt j p.0) (changed_from least j f ps h (from_tail least p ps all))
  where
    by : (s t : Bool) → From least (changed_coefs j f ps) → From least
        (cond s (listed j (f p.1) ps) (cond t (listed j (f (pos 0)) (p ∷ ps)) (p ∷ changed_coefs j f ps)))
    by true t rest = listed_from least j (f p.1) ps h (from_tail least p ps all)
    by false true rest = listed_from least j (f (pos 0)) (p ∷ ps) h all
    by false false rest = from_cons least p (changed_coefs j f ps) (all 0 (omega arith)) rest

-- ---- their order

ordered_cons : (n : ℕ) (p : ℕ × ℤ) (ps : List (ℕ × ℤ)) → p.0 < n → p.1 ≢ pos 0 → From (suc p.0) ps → AreOrdered n ps → AreOrdered n (p ∷ ps)
ordered_cons n p ps h some all o = record { rising = rising; within = within; present = present }
  where
    rising : (i k : ℕ) → i < k → k < length (p ∷ ps) → index_at (p ∷ ps) i < index_at (p ∷ ps) k
    rising i zero l m = absurd (omega arith)
    rising zero (suc k) l m = let h = all k (omega arith) in omega arith
    rising (suc i) (suc k) l m = o.rising i k (omega arith) (omega arith)

    within : (i : ℕ) → i < length (p ∷ ps) → index_at (p ∷ ps) i < n
    within zero l = h
    within (suc i) l = o.within i (omega arith)

    present : (i : ℕ) → i < length (p ∷ ps) → value_at (p ∷ ps) i ≢ pos 0
    present zero l = some
    present (suc i) l = o.present i (omega arith)

pub ordered_tail : (n : ℕ) (p : ℕ × ℤ) (ps : List (ℕ × ℤ)) → AreOrdered n (p ∷ ps) → AreOrdered n ps
ordered_tail n p ps o = record {
  rising = λ i k l m. o.rising (suc i) (suc k) (omega arith) (omega arith);
  within = λ i l. o.within (suc i) (omega arith);
  present = λ i l. o.present (suc i) (omega arith);
}

ordered_from : (n : ℕ) (p : ℕ × ℤ) (ps : List (ℕ × ℤ)) → AreOrdered n (p ∷ ps) → From (suc p.0) ps
ordered_from n p ps o k l = let h = o.rising 0 (suc k) (omega arith) (omega arith) in omega arith

listed_ordered : (n j : ℕ) (e : ℤ) (ps : List (ℕ × ℤ)) → j < n → From (suc j) ps → AreOrdered n ps → AreOrdered n (listed j e ps)
listed_ordered n j (pos zero) ps h all o = o
listed_ordered n j (pos (suc k)) ps h all o = ordered_cons n (j, pos (suc k)) ps h (λ e. absurd cc) all o
listed_ordered n j (negsuc k) ps h all o = ordered_cons n (j, negsuc k) ps h (λ e. absurd cc) all o

pub changed_ordered : (n j : ℕ) (f : ℤ → ℤ) (ps : List (ℕ × ℤ)) → j < n → AreOrdered n ps → AreOrdered n (changed_coefs j f ps)
changed_ordered n j f [] h o = listed_ordered n j (f (pos 0)) [] h (λ k l. absurd (omega arith)) o
changed_ordered n j f (p ∷ ps) h o = by (p.0 == j) (nat_lt j p.0) refl refl (changed_ordered n j f ps h (ordered_tail n p ps o))
  where
    after : From (suc p.0) ps
    after = ordered_from n p ps o

    by : (s t : Bool) → (p.0 == j) ≡ s → nat_lt j p.0 ≡ t → AreOrdered n (changed_coefs j f ps) → AreOrdered n
        (cond s (listed j (f p.1) ps) (cond t (listed j (f (pos 0)) (p ∷ ps)) (p ∷ changed_coefs j f ps)))
    by true t e g rest =
        listed_ordered n j (f p.1) ps h (subst (λ (z : ℕ). From (suc z) ps) (eqb-true p.0 j e) after) (ordered_tail n p ps o)
    by false true e g rest =
        let less = lt_is j p.0 g in
        listed_ordered n j (f (pos 0)) (p ∷ ps) h (from_cons (suc j) p ps (omega arith) (λ k l. let a = after k l in omega arith)) o
    by false false e g rest =
        let other = eqb-false p.0 j e in
        let le = ge_is j p.0 g in
        ordered_cons n p (changed_coefs j f ps) (o.within 0 (omega arith)) (o.present 0 (omega arith))
        (changed_from (suc p.0) j f ps (omega arith) after) rest

-- ---- their sizes, and what f makes of the coefficient there

none_from : (j : ℕ) (ps : List (ℕ × ℤ)) → From (suc j) ps → coefficient ps j ≡ pos 0
none_from j [] all = refl
none_from j (p ∷ ps) all = by (p.0 == j) refl (none_from j ps (from_tail (suc j) p ps all))
  where
    by : (t : Bool) → (p.0 == j) ≡ t → coefficient ps j ≡ pos 0 → cond t (p.1 +ℤ coefficient ps j) (coefficient ps j) ≡ pos 0
    by true e rest = let same = eqb-true p.0 j e in let h = all 0 (omega arith) in absurd (omega arith)
    by false e rest = rest

small_cons : (s : ℕ) (p : ℕ × ℤ) (ps : List (ℕ × ℤ)) → unsigned_abs p.1 ≤ s → AreSmall s ps → AreSmall s (p ∷ ps)
small_cons s p ps h all zero l = h
small_cons s p ps h all (suc k) l = all k (omega arith)

listed_small : (s j : ℕ) (e : ℤ) (ps : List (ℕ × ℤ)) → unsigned_abs e ≤ s → AreSmall s ps → AreSmall s (listed j e ps)
listed_small s j (pos zero) ps h all = all
listed_small s j (pos (suc k)) ps h all = small_cons s (j, pos (suc k)) ps h all
listed_small s j (negsuc k) ps h all = small_cons s (j, negsuc k) ps h all

-- the number at a column that is listed first, and before the first one
pub number_here : (n j : ℕ) (p : ℕ × ℤ) (ps : List (ℕ × ℤ)) → AreOrdered n (p ∷ ps) → (p.0 == j) ≡ true → coefficient (p ∷ ps) j ≡ p.1
number_here n j p ps o e =
    let none = none_from j ps (subst (λ (z : ℕ). From (suc z) ps) (eqb-true p.0 j e) (ordered_from n p ps o)) in
    let is : coefficient (p ∷ ps) j ≡ p.1 +ℤ coefficient ps j = ap (λ t. cond t (p.1 +ℤ coefficient ps j) (coefficient ps j)) e in
    omega (arith, ints)

pub number_before : (n j : ℕ) (p : ℕ × ℤ) (ps : List (ℕ × ℤ)) → AreOrdered n (p ∷ ps) → nat_lt j p.0 ≡ true → coefficient (p ∷ ps) j ≡ pos 0
number_before n j p ps o g =
    let less = lt_is j p.0 g in
    none_from j (p ∷ ps) (from_cons (suc j) p ps (omega arith) (λ k l. let a = ordered_from n p ps o k l in omega arith))

pub number_after : (j : ℕ) (p : ℕ × ℤ) (ps : List (ℕ × ℤ)) → (p.0 == j) ≡ false → coefficient (p ∷ ps) j ≡ coefficient ps j
number_after j p ps e = ap (λ t. cond t (p.1 +ℤ coefficient ps j) (coefficient ps j)) e

-- the coefficients after f are those with what f makes of the coefficient
pub replaced_coefs : (n j : ℕ) (f : ℤ → ℤ) (ps : List (ℕ × ℤ)) → AreOrdered n ps
    → changed_coefs j f ps ≡ changed_coefs j (λ old. f (coefficient ps j)) ps
replaced_coefs n j f [] o = refl
replaced_coefs n j f (p ∷ ps) o = by (p.0 == j) (nat_lt j p.0) refl refl (replaced_coefs n j f ps (ordered_tail n p ps o))
  where
    by : (s t : Bool) → (p.0 == j) ≡ s → nat_lt j p.0 ≡ t → changed_coefs j f ps ≡ changed_coefs j (λ old. f (coefficient ps j)) ps
        → cond s (listed j (f p.1) ps) (cond t (listed j (f (pos 0)) (p ∷ ps)) (p ∷ changed_coefs j f ps))
        ≡ cond s (listed j (f (coefficient (p ∷ ps) j)) ps) (cond t (listed j (f (coefficient (p ∷ ps) j)) (p ∷ ps))
        (p ∷ changed_coefs j (λ old. f (coefficient (p ∷ ps) j)) ps))
    by true t e g rest = ap (λ z. listed j (f z) ps) (sym (number_here n j p ps o e))
    by false true e g rest = ap (λ z. listed j (f z) (p ∷ ps)) (sym (number_before n j p ps o g))
    by false false e g rest =
        ap (λ qs. p ∷ qs) (rest ∙ ap (λ z. changed_coefs j (λ old. f z) ps) (sym (number_after j p ps e)))

pub changed_small : (n s j : ℕ) (f : ℤ → ℤ) (ps : List (ℕ × ℤ)) → AreOrdered n ps → AreSmall s ps
    → unsigned_abs (f (coefficient ps j)) ≤ s → AreSmall s (changed_coefs j f ps)
changed_small n s j f [] o all h = listed_small s j (f (pos 0)) [] h all
changed_small n s j f (p ∷ ps) o all h =
    by (p.0 == j) (nat_lt j p.0) refl refl (changed_small n s j f ps (ordered_tail n p ps o) (λ k l. all (suc k) (omega arith)))
  where
    by : (u t : Bool) → (p.0 == j) ≡ u → nat_lt j p.0 ≡ t → (unsigned_abs (f (coefficient ps j)) ≤ s → AreSmall s (changed_coefs j f ps))
        → AreSmall s (cond u (listed j (f p.1) ps) (cond t (listed j (f (pos 0)) (p ∷ ps)) (p ∷ changed_coefs j f ps)))
    by true t e g rest =
        listed_small s j (f p.1) ps (subst (λ z. unsigned_abs (f z) ≤ s) (number_here n j p ps o e) h) (λ k l. all (suc k) (omega arith))
    by false true e g rest =
        listed_small s j (f (pos 0)) (p ∷ ps) (subst (λ z. unsigned_abs (f z) ≤ s) (number_before n j p ps o g) h) all
    by false false e g rest =
        small_cons s p (changed_coefs j f ps) (all 0 (omega arith)) (rest (subst (λ z. unsigned_abs (f z) ≤ s) (number_after j p ps e) h))

-- ---- a list with one element changed

pub length_changed : {A : Type 0} (f : A → A) (xs : List A) (j : ℕ) → length (changed_at f j xs) ≡ length xs
length_changed f [] j = refl
length_changed f (x ∷ xs) zero = refl
length_changed f (x ∷ xs) (suc j) = ap suc (length_changed f xs j)

-- a changed element is one that is set
pub changed_is_set : {A : Type 0} (f : A → A) (xs : List A) (j : ℕ) (x : A) → slice_get xs j ≡ Some x
    → changed_at f j xs ≡ slice_set xs j (f x)
changed_is_set f [] j x e = absurd cc
changed_is_set f (y ∷ xs) zero x e = let same : y ≡ x = cc in ap (λ z. f z ∷ xs) same
changed_is_set f (y ∷ xs) (suc j) x e = ap (λ zs. y ∷ zs) (changed_is_set f xs j x e)

-- changes that agree on the element there are the same
pub changed_alike : {A : Type 0} (f g : A → A) (xs : List A) (j : ℕ) → ((x : A) → slice_get xs j ≡ Some x → f x ≡ g x)
    → changed_at f j xs ≡ changed_at g j xs
changed_alike f g [] j h = refl
changed_alike f g (x ∷ xs) zero h = ap (λ z. z ∷ xs) (h x refl)
changed_alike f g (x ∷ xs) (suc j) h = ap (λ zs. x ∷ zs) (changed_alike f g xs j h)

pub changed_each : {A : Type 0} (P : A → Type 0) (f : A → A) (xs : List A) (j : ℕ) → ((x : A) → slice_get xs j ≡ Some x → P (f x))
    → ((k : ℕ) (x : A) → slice_get xs k ≡ Some x → P x) → (k : ℕ) (y : A) → slice_get (changed_at f j xs) k ≡ Some y → P y
changed_each P f [] j own all k y e = absurd cc
changed_each P f (x ∷ xs) zero own all zero y e = let is : f x ≡ y = cc in subst P is (own x refl)
changed_each P f (x ∷ xs) zero own all (suc k) y e = all (suc k) y e
changed_each P f (x ∷ xs) (suc j) own all zero y e = all 0 y e
changed_each P f (x ∷ xs) (suc j) own all (suc k) y e = changed_each P f xs j own (λ i z g. all (suc i) z g) k y e

-- ---- what f makes of the number there takes its place

same_side : (f : ℤ → ℤ) (o : Option ℤ) → option_map f o ≡ option_map (λ old. f (or_zero o)) o
same_side f None = refl
same_side f (Some z) = refl

pub replaced : (m : Parts) (place : Place) (f : ℤ → ℤ) → IsWithinLimits m
    → changed m place f ≡ changed m place (λ old. f (number_of m place))
replaced m (Cost j) f limits = ap (with_columns m)
    (changed_alike (with_cost f) (with_cost (λ old. f (at (costs_of m) j))) m.columns j (λ c g.
    ap (λ z. record { name = c.name; cost = f z; lo = c.lo; hi = c.hi }) (sym (cost_of_column m j c g))))
replaced m (Lower j) f limits = ap (with_columns m)
    (changed_alike (with_lower f) (with_lower (λ old. f (low_at (box_of m) j))) m.columns j (λ c g.
    ap (λ s. record { name = c.name; cost = c.cost; lo = f s.0; hi = c.hi }) (sym (side_at m j c g))))
replaced m (Upper j) f limits = ap (with_columns m)
    (changed_alike (with_upper f) (with_upper (λ old. f (high_at (box_of m) j))) m.columns j (λ c g.
    ap (λ s. record { name = c.name; cost = c.cost; lo = c.lo; hi = f s.1 }) (sym (side_at m j c g))))
replaced m (Low i) f limits = ap (with_rows m) (changed_alike (with_low f)
    (with_low (λ old. f (or_zero (option_and_then (λ (r : Row). r.low) (slice_get m.rows i))))) m.rows i (λ r g.
    ap (λ o. record { name = r.name; decimals = r.decimals; coefs = r.coefs; low = o; high = r.high })
    (same_side f r.low ∙ ap (λ (o : Option Row). option_map (λ old. f (or_zero (option_and_then (λ (q : Row). q.low) o))) r.low) (sym g))))
replaced m (High i) f limits = ap (with_rows m) (changed_alike (with_high f)
    (with_high (λ old. f (or_zero (option_and_then (λ (r : Row). r.high) (slice_get m.rows i))))) m.rows i (λ r g.
    ap (λ o. record { name = r.name; decimals = r.decimals; coefs = r.coefs; low = r.low; high = o })
    (same_side f r.high
    ∙ ap (λ (o : Option Row). option_map (λ old. f (or_zero (option_and_then (λ (q : Row). q.high) o))) r.high) (sym g))))
replaced m (Coef i j) f limits = ap (with_rows m) (changed_alike (with_coef j f)
    (with_coef j (λ old. f (number_of m (Coef i j)))) m.rows i (λ r g.
    ap (λ ps. record { name = r.name; decimals = r.decimals; coefs = ps; low = r.low; high = r.high })
    (replaced_coefs (length m.columns) j f r.coefs (limits.shape.rows i r g).coefs
    ∙ ap (λ z. changed_coefs j (λ old. f z) r.coefs) (rw g refl))))

-- ---- what stays of the limits

-- other columns of the same count, and another constant
pub other_columns_within : (m : Parts) (constant : ℤ) (cs : List Column) → IsWithinLimits m → length cs ≡ length m.columns
    → unsigned_abs constant ≤ 2 ^ 62
    → ((j : ℕ) (c : Column) → slice_get cs j ≡ Some c → IsColumn c) → IsWithinLimits (record {
      objective = m.objective;
      cost_decimals = m.cost_decimals;
      constant = constant;
      columns = cs;
      rows = m.rows;
    })
other_columns_within m constant cs limits size small each =
    let count = limits.column_count in
    record {
      shape = record {
        decimals = limits.shape.decimals;
        rows = λ i r e. let s = limits.shape.rows i r e in
            record { decimals = s.decimals; coefs = subst (λ (n : ℕ). AreOrdered n r.coefs) (sym size) s.coefs };
      };
      column_count = omega arith;
      row_count = limits.row_count;
      entry_count = limits.entry_count;
      objective = limits.objective;
      constant = small;
      columns = each;
      rows = limits.rows;
    }

columns_within : (m : Parts) (f : Column → Column) (j : ℕ) → IsWithinLimits m
    → ((c : Column) → slice_get m.columns j ≡ Some c → IsColumn (f c))
    → IsWithinLimits (with_columns m (changed_at f j m.columns))
columns_within m f j limits own = other_columns_within m m.constant (changed_at f j m.columns) limits (length_changed f m.columns j)
    limits.constant (changed_each IsColumn f m.columns j own limits.columns)

-- other rows of the same count
rows_within : (m : Parts) (f : Row → Row) (i : ℕ) → IsWithinLimits m
    → sum_by (λ r. length r.coefs) (changed_at f i m.rows) ≤ 200000
    → ((r : Row) → slice_get m.rows i ≡ Some r → IsRowShaped (length m.columns) (f r))
    → ((r : Row) → slice_get m.rows i ≡ Some r → IsRow (f r)) → IsWithinLimits (with_rows m (changed_at f i m.rows))
rows_within m f i limits few shaped own =
    let size = length_changed f m.rows i in
    let count = limits.row_count in
    record {
      shape = record {
        decimals = limits.shape.decimals;
        rows = changed_each (IsRowShaped (length m.columns)) f m.rows i shaped limits.shape.rows;
      };
      column_count = limits.column_count;
      row_count = omega arith;
      entry_count = few;
      objective = limits.objective;
      constant = limits.constant;
      columns = limits.columns;
      rows = changed_each IsRow f m.rows i own limits.rows;
    }

side_within : (o : Option ℤ) (f : ℤ → ℤ) → ((z : ℤ) → o ≡ Some z → unsigned_abs (f z) ≤ 2 ^ 62)
    → ForSome (option_map f o) (λ side. unsigned_abs side ≤ 2 ^ 62)
side_within None f h x g = absurd cc
side_within (Some z) f h x g = let is : f z ≡ x = cc in subst (λ (y : ℤ). unsigned_abs y ≤ 2 ^ 62) is (h z refl)

-- a program within its limits in which a number is changed within its own limit is within its limits, if its count of coefficients is
pub changed_within : (m : Parts) (place : Place) (f : ℤ → ℤ) → IsWithinLimits m → Exists m place
    → unsigned_abs (f (number_of m place)) ≤ limit_of place
    → sum_by (λ r. length r.coefs) (changed m place f).rows ≤ 200000 → IsWithinLimits (changed m place f)
changed_within m (Cost j) f limits there small few = columns_within m (with_cost f) j limits (λ c g.
    let old = limits.columns j c g in
    record { name = old.name; cost = subst (λ z. unsigned_abs (f z) ≤ 2 ^ 40) (cost_of_column m j c g) small; lo = old.lo; hi = old.hi })
changed_within m (Lower j) f limits there small few = columns_within m (with_lower f) j limits (λ c g.
    let old = limits.columns j c g in
    record { name = old.name; cost = old.cost; lo = subst (λ s. unsigned_abs (f s.0) ≤ 2 ^ 24) (side_at m j c g) small; hi = old.hi })
changed_within m (Upper j) f limits there small few = columns_within m (with_upper f) j limits (λ c g.
    let old = limits.columns j c g in
    record { name = old.name; cost = old.cost; lo = old.lo; hi = subst (λ s. unsigned_abs (f s.1) ≤ 2 ^ 24) (side_at m j c g) small })
changed_within m (Low i) f limits there small few = rows_within m (with_low f) i limits few
    (λ r g. let s = limits.shape.rows i r g in record { decimals = s.decimals; coefs = s.coefs })
    (λ r g. let old = limits.rows i r g in
    record { name = old.name; coefs = old.coefs; low = side_within r.low f (λ z h. rw (g, h) at small); high = old.high })
changed_within m (High i) f limits there small few = rows_within m (with_high f) i limits few
    (λ r g. let s = limits.shape.rows i r g in record { decimals = s.decimals; coefs = s.coefs })
    (λ r g. let old = limits.rows i r g in
    record { name = old.name; coefs = old.coefs; low = old.low; high = side_within r.high f (λ z h. rw (g, h) at small) })
changed_within m (Coef i j) f limits there small few = rows_within m (with_coef j f) i limits few
    (λ r g. let s = limits.shape.rows i r g in
    record { decimals = s.decimals; coefs = changed_ordered (length m.columns) j f r.coefs there.1 s.coefs })
    (λ r g.
    let old = limits.rows i r g in
    let s = limits.shape.rows i r g in
    record {
      name = old.name;
      coefs = changed_small (length m.columns) (2 ^ 40) j f r.coefs s.coefs old.coefs (rw g at small);
      low = old.low;
      high = old.high;
    })
