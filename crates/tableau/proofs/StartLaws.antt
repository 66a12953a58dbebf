-- The tableau at the start: its rows from the coefficients of the model, that it is a tableau, and that it stands for its node.
use Rattle.std.specs.Prelude.{◌≡◌, ◌≢◌, ℕ, zero, suc, ◌+◌, ◌-◌, ◌<◌, ◌≤◌, ◌==◌, ◌^◌, Bool, true, false, cond, if◌then◌else◌, nat_lt, List}
use Rattle.std.specs.Prelude.{[], ◌∷◌, ◌++◌, length, map, take, Option, Some, None, slice_get, slice_index_or, slice_set, ℤ, pos, neg_ℤ}
use Rattle.std.specs.Prelude.{◌+ℤ◌, unsigned_abs}
use Rattle.std.specs.List.{zip}
use Rattle.std.proofs.Common.{arith, refl, ap, sym, ◌∙◌, subst, length-set, get_or}
use Rattle.std.proofs.lemmas.Bool.{eqb-true, eqb-false}
use Rattle.std.proofs.lemmas.Int.{ints}
use Rattle.std.proofs.lemmas.Grind.{get_or-set_at}
use Rattle.std.proofs.lemmas.List.{get_or-set_other, take_more, map-append, length-append, length-map}
use Rattle.std.proofs.Math.Seq.{take-length}
use Rattle.frac128.specs.Fractions.{Fraction, whole}
use Rattle.frac128.specs.Rationals.{of, neg}
use Rattle.frac128.specs.Values.{value_of}
use Rattle.frac128.proofs.Rationals.{rationals}
use Rattle.frac128.proofs.Order.{of_neg}
use Rattle.frac128.proofs.WholeLaws.{IsFraction-whole}
use Rattle.ip_defs.proofs.OrderLaws.{lt_true, lt_false}
use Rattle.ip_defs.specs.Program.{coefficient}
use Rattle.ip_defs.specs.Limits.{index_at, value_at, AreOrdered, IsWithinLimits}
use Rattle.ip_defs.specs.Certificates.{coefs_of, coefficient_of}
use Rattle.ip_defs.specs.declared.programs.Row.{Row}
use Rattle.ip_defs.specs.declared.programs.Parts.{Parts}
use Rattle.ip_model.proofs.RowLaws.{coefficient_none, fresh, coefficient_more, coefficient_small}
use Rattle.tableau.specs.declared.positions.Rest.TheVariants.{Basic, Low}
use Rattle.tableau.specs.declared.variables.Variable.{Variable}
use Rattle.tableau.specs.Tables.{at, entry, basic_at, position_at, IsTable}
use Rattle.tableau.specs.Nodes.{column_variable, slack_variable, variables_of, listed, start_entry, start_of, number, IsWellPlaced}
use Rattle.tableau.specs.Nodes.{StandsFor, HasItsPoints}
use Rattle.frac128.proofs.FractionLaws.{IsProper}
use Rattle.frac128.proofs.SignLaws.{whole-value}
use Rattle.tableau.proofs.ListLaws.{listed-at, length-listed, listed_is}
use Rattle.tableau.proofs.SystemLaws.{start_stands}
use Rattle.tableau.proofs.PointLaws.{start_back}

-- one more coefficient is written into a line
pub put_step : (numbers : List Fraction) (coefs : List (ℕ × ℤ)) (i : ℕ) (y : Fraction) → i < length coefs →
    ((h k : ℕ) → h < k → k < length coefs → index_at coefs h < index_at coefs k)
    → index_at coefs i < length numbers → ((v : ℕ) → v < length numbers → at numbers v ≡ whole (neg_ℤ (coefficient (take i coefs) v))) →
    y ≡ whole (neg_ℤ (value_at coefs i))
    → (v : ℕ) → v < length numbers → at (slice_set numbers (index_at coefs i) y) v ≡ whole (neg_ℤ (coefficient (take (i + 1) coefs) v))
put_step numbers coefs i y l rising inside before is v k = by (index_at coefs i == v) refl
  where
    by : (t : Bool) → (index_at coefs i == v) ≡ t → at (slice_set numbers (index_at coefs i) y) v
        ≡ whole (neg_ℤ (coefficient (take (i + 1) coefs) v))
    by true e =
        let same : index_at coefs i ≡ v = eqb-true (index_at coefs i) v e in
        let none : coefficient (take i coefs) v ≡ pos 0 = ap (coefficient (take i coefs)) (sym same) ∙ fresh coefs i rising l in
        let more : coefficient (take (i + 1) coefs) v ≡ coefficient (take i coefs) v +ℤ value_at coefs i = coefficient_more coefs i v l
        ∙ ap (λ t. coefficient (take i coefs) v +ℤ cond t (value_at coefs i) (pos 0)) e in
        let total : coefficient (take (i + 1) coefs) v ≡ value_at coefs i = omega (arith, ints) in
        get_or-set_at numbers (index_at coefs i) v y (whole (pos 0)) (sym same) inside ∙ is ∙ ap (λ z. whole (neg_ℤ z)) (sym total)
    by false e =
        let apart : index_at coefs i ≢ v = eqb-false (index_at coefs i) v e in
        let more : coefficient (take (i + 1) coefs) v ≡ coefficient (take i coefs) v +ℤ pos 0 = coefficient_more coefs i v l
        ∙ ap (λ t. coefficient (take i coefs) v +ℤ cond t (value_at coefs i) (pos 0)) e in
        let total : coefficient (take (i + 1) coefs) v ≡ coefficient (take i coefs) v = omega (arith, ints) in
        get_or-set_other numbers (index_at coefs i) v y (whole (pos 0)) (λ h. apart (sym h)) ∙ before v k
        ∙ ap (λ z. whole (neg_ℤ z)) (sym total)

-- numbers that rise below n rise below more
pub AreOrdered-wider : (n k : ℕ) (ps : List (ℕ × ℤ)) → n ≤ k → AreOrdered n ps → AreOrdered k ps
AreOrdered-wider n k ps l o = record { rising = o.rising; within = λ i m. (let h = o.within i m in omega arith); present = o.present }

-- ---- the entries at the start
module _ (m : Parts) (k : ℕ) where
  abbrev columns : ℕ
  columns = length m.columns

  abbrev rows : ℕ
  rows = length m.rows

  column_entry : (v : ℕ) → v < length m.columns → start_entry m k v ≡ whole (neg_ℤ (coefficient_of m.rows k v))
  column_entry v l = ap (λ t. cond t (whole (neg_ℤ (coefficient_of m.rows k v))) (if v == columns + k then whole (pos 1)
      else whole (pos 0))) (lt_true v columns l)

  past_entry : (v : ℕ) → length m.columns ≤ v → start_entry m k v ≡ (if v == length m.columns + k then whole (pos 1) else whole (pos 0))
  past_entry v l = ap (λ t. cond t (whole (neg_ℤ (coefficient_of m.rows k v))) (if v == columns + k then whole (pos 1) else whole (pos 0)))
      (lt_false v columns l)

  own_entry : start_entry m k (length m.columns + k) ≡ whole (pos 1)
  own_entry = past_entry (columns + k) (omega arith) ∙ by (columns + k == columns + k) refl
    where
      by : (t : Bool) → (columns + k == columns + k) ≡ t → cond t (whole (pos 1)) (whole (pos 0)) ≡ whole (pos 1)
      by true e = refl
      by false e = absurd (eqb-false (columns + k) (columns + k) e refl)

  other_entry : (v : ℕ) → length m.columns ≤ v → v ≢ length m.columns + k → start_entry m k v ≡ whole (pos 0)
  other_entry v l n = past_entry v l ∙ by (v == columns + k) refl
    where
      by : (t : Bool) → (v == columns + k) ≡ t → cond t (whole (pos 1)) (whole (pos 0)) ≡ whole (pos 0)
      by true e = absurd (n (eqb-true v (columns + k) e))
      by false e = refl

  -- a row of the model as a row of the tableau
  pub start_line_is : (row : Row) (numbers : List Fraction) → slice_get m.rows k ≡ Some row → AreOrdered (length m.columns) row.coefs →
      k < length m.rows → length numbers ≡ length m.columns + length m.rows
      → ((v : ℕ) → v < length numbers → at numbers v ≡ whole (neg_ℤ (coefficient row.coefs v)))
      → slice_set numbers (length m.columns + k) (whole (pos 1)) ≡ listed (length m.columns + length m.rows) (start_entry m k)
  start_line_is row numbers found ordered inside size are =
      listed_is (columns + rows) (start_entry m k) (slice_set numbers (columns + k) (whole (pos 1))) (whole (pos 0))
      (length-set numbers (columns + k) (whole (pos 1)) ∙ size) (λ v l. by (v == columns + k) refl l)
    where
      value_is : (v : ℕ) → coefficient_of m.rows k v ≡ coefficient row.coefs v
      value_is v = ap (λ o. coefficient (coefs_of o) v) found

      left : (v : ℕ) (t : Bool) → nat_lt v columns ≡ t → v < columns + rows → v ≢ columns + k → at numbers v ≡ start_entry m k v
      left v true f l n =
          let small : v < columns = grind arith in
          are v (omega arith) ∙ ap (λ z. whole (neg_ℤ z)) (sym (value_is v)) ∙ sym (column_entry v small)
      left v false f l n =
          let past : columns ≤ v = grind arith in
          let none = coefficient_none row.coefs v (λ i o same. let h = ordered.within i o in omega arith) in
          are v (omega arith) ∙ ap (λ z. whole (neg_ℤ z)) none ∙ sym (other_entry v past n)

      by : {v : ℕ} (t : Bool) → (v == columns + k) ≡ t → v < columns + rows → at (slice_set numbers (columns + k) (whole (pos 1))) v
          ≡ start_entry m k v
      by {v} true e l =
          let same = eqb-true v (columns + k) e in
          get_or-set_at numbers (columns + k) v (whole (pos 1)) (whole (pos 0)) same (omega arith) ∙ sym own_entry
          ∙ ap (start_entry m k) (sym same)
      by {v} false e l =
          let n = eqb-false v (columns + k) e in
          get_or-set_other numbers (columns + k) v (whole (pos 1)) (whole (pos 0)) n ∙ left v (nat_lt v columns) refl l n

-- ---- the variables
pub length-zip : {A B : Type 0} (xs : List A) (ys : List B) → length ys ≡ length xs → length (zip xs ys) ≡ length xs
length-zip [] ys e = refl
length-zip (x ∷ xs) [] e = absurd (omega arith)
length-zip (x ∷ xs) (y ∷ ys) e = ap suc (length-zip xs ys (omega arith))

-- the image of one more element
pub map-push : {A B : Type 0} (f : A → B) (ps : List A) (i : ℕ) (d : A) (x : B) (ys zs : List B) → i < length ps → zs ≡ ys ++ x ∷ [] →
    ys ≡ map f (take i ps) → x ≡ f (get_or ps i d) → zs ≡ map f (take (i + 1) ps)
map-push f ps i d x ys zs l pushed is at =
    pushed ∙ ap (λ ws. ws ++ x ∷ []) is ∙ ap (λ w. map f (take i ps) ++ w ∷ []) at
    ∙ sym (map-append f (take i ps) (get_or ps i d ∷ [])) ∙ ap (map f) (sym (take_more ps i d l))

-- ---- a tableau
whole-proper : (z : ℤ) → unsigned_abs z ≤ 2 ^ 40 → IsProper (whole z)
whole-proper z h = IsFraction-whole z (pos 1) (omega arith) refl

module _ (m : Parts) (b : List (ℤ × ℤ)) (limits : IsWithinLimits m) (size : length b ≡ length m.columns) where
  coefficient_fits : (k v : ℕ) → k < length m.rows → unsigned_abs (coefficient_of m.rows k v) ≤ 2 ^ 40
  coefficient_fits k v l = by (slice_get m.rows k) refl
    where
      by : (o : Option Row) → slice_get m.rows k ≡ o → unsigned_abs (coefficient (coefs_of o) v) ≤ 2 ^ 40
      by None e = omega arith
      by (Some row) e =
          let shape = (limits.shape.rows k row e).coefs in
          let small = coefficient_small (length m.columns) (2 ^ 40) row.coefs v (length row.coefs) shape (limits.rows k row e).coefs
          (omega arith) in
          subst (λ (cs : List (ℕ × ℤ)). unsigned_abs (coefficient cs v) ≤ 2 ^ 40) (take-length row.coefs) small

  entry-proper : (k v : ℕ) → k < length m.rows → IsProper (start_entry m k v)
  entry-proper k v l = by (nat_lt v (length m.columns)) (v == length m.columns + k)
    where
      by : (t u : Bool) → IsProper (if t then whole (neg_ℤ (coefficient_of m.rows k v)) else if u then whole (pos 1) else whole (pos 0))
      by true u = let h = coefficient_fits k v l in whole-proper (neg_ℤ (coefficient_of m.rows k v)) (omega (arith, ints))
      by false true = whole-proper (pos 1) (omega arith)
      by false false = whole-proper (pos 0) (omega arith)

  entry_is : (k v : ℕ) → k < length m.rows → v < length m.columns + length m.rows → entry (start_of m b).rows k v ≡ start_entry m k v
  entry_is k v l o =
      ap (λ (z : List Fraction). at z v) (listed-at (length m.rows) (λ k. listed (length m.columns + length m.rows) (start_entry m k)) k []
      l)
      ∙ listed-at (length m.columns + length m.rows) (start_entry m k) v (whole (pos 0)) o

  pub variable_count : length (variables_of m b) ≡ length m.columns + length m.rows
  variable_count =
      let first = length-map (zip m.columns b) column_variable ∙ length-zip m.columns b size in
      let second = length-map m.rows slack_variable in
      length-append (map column_variable (zip m.columns b)) (map slack_variable m.rows) ∙ omega arith

  pub start-table : IsTable (start_of m b)
  start-table =
      let n = variable_count in
      let count = length-listed (length m.rows) (λ k. listed (length m.columns + length m.rows) (start_entry m k)) in
      record {
        rows = record {
          size = λ k l. ap length (listed-at (length m.rows) (λ k. listed (length m.columns + length m.rows) (start_entry m k)) k []
              (omega arith)) ∙ length-listed (length m.columns + length m.rows) (start_entry m k) ∙ sym n;
          fractions = λ k v l o. let inside : k < length m.rows = omega arith in
              subst IsProper (sym (entry_is k v inside (omega arith))) (entry-proper k v inside);
        };
        basics = length-listed (length m.rows) (λ k. length m.columns + k) ∙ sym count;
        positions = length-listed (length m.columns + length m.rows) (λ v. if nat_lt v (length m.columns) then Low else Basic) ∙ sym n;
        within = λ k l. let is = listed-at (length m.rows) (λ k. length m.columns + k) k 0 (omega arith) in omega (arith, is, n, l, count);
      }

  -- ---- it stands for the node
  number_column : (i j : ℕ) → i < length m.rows → j < length m.columns → number (start_of m b) i j ≡ neg (of (coefficient_of m.rows i j))
  number_column i j l o =
      ap value_of (entry_is i j l (omega arith) ∙ column_entry m i j o) ∙ whole-value (neg_ℤ (coefficient_of m.rows i j))
      ∙ of_neg (coefficient_of m.rows i j)

  number_one : (i : ℕ) → i < length m.rows → number (start_of m b) i (length m.columns + i) ≡ of (pos 1)
  number_one i l = ap value_of (entry_is i (length m.columns + i) l (omega arith) ∙ own_entry m i) ∙ whole-value (pos 1)

  number_zero : (i k : ℕ) → i < length m.rows → k < length m.rows → i ≢ k → number (start_of m b) i (length m.columns + k) ≡ of (pos 0)
  number_zero i k l o n = ap value_of (entry_is i (length m.columns + k) l (omega arith)
      ∙ other_entry m i (length m.columns + k) (omega arith) (λ e. n (omega arith))) ∙ whole-value (pos 0)

  basic_is : (i : ℕ) → i < length m.rows → basic_at (start_of m b).basics i ≡ length m.columns + i
  basic_is i l = listed-at (length m.rows) (λ k. length m.columns + k) i 0 l

  position_is : (v : ℕ) → v < length m.columns + length m.rows → position_at (start_of m b).positions v
      ≡ (if nat_lt v (length m.columns) then Low else Basic)
  position_is v l = listed-at (length m.columns + length m.rows) (λ v. if nat_lt v (length m.columns) then Low else Basic) v Basic l

  -- a column has a low side
  low_column : {A : Type 0} (xs : List A) (bs : List (ℤ × ℤ)) (f : A × (ℤ × ℤ) → Variable) (more : List Variable) (v : ℕ) (d : Variable) →
      length bs ≡ length xs → v < length xs → ((p : A × (ℤ × ℤ)) → (f p).low ≢ None) →
      (slice_index_or (map f (zip xs bs) ++ more) v d).low ≢ None
  low_column [] bs f more v d e l h = absurd (omega arith)
  low_column (x ∷ xs) [] f more v d e l h = absurd (omega arith)
  low_column (x ∷ xs) (s ∷ bs) f more zero d e l h = h (x, s)
  low_column (x ∷ xs) (s ∷ bs) f more (suc v) d e l h = low_column xs bs f more v d (omega arith) (omega arith) h

  well_placed : (v : ℕ) (t : Bool) → nat_lt v (length m.columns) ≡ t → v < length m.columns + length m.rows →
      IsWellPlaced (start_of m b) v (if t then Low else Basic)
  well_placed v true e l =
      let small : v < length m.columns = grind arith in
      low_column m.columns b column_variable (map slack_variable m.rows) v (record {
        low = None;
        high = None;
        cost = pos 0;
      }) size small (λ p h. absurd cc)
  well_placed v false e l =
      let past : length m.columns ≤ v = grind arith in
      let inside : v - length m.columns < length m.rows = omega arith in (
        v - length m.columns,
        (let c = length-listed (length m.rows) (λ k. listed (length m.columns + length m.rows) (start_entry m k)) in
            omega arith),
        basic_is (v - length m.columns) inside ∙ omega arith,
      )

  pub start-stands : StandsFor m b (start_of m b)
  start-stands =
      let s = start_stands rationals (length m.rows) (length m.columns) (coefficient_of m.rows) (number (start_of m b)) number_column
      number_one number_zero in
      record {
        variables = refl;
        size = variable_count;
        rows = length-listed (length m.rows) (λ k. listed (length m.columns + length m.rows) (start_entry m k));
        within = λ i l. let e = basic_is i l in omega (arith, e);
        different = λ i k l o e. let f = basic_is i l in let g = basic_is k o in omega (arith, e, f, g);
        one = λ i l. ap (number (start_of m b) i) (basic_is i l) ∙ number_one i l;
        zeros = λ i k l o n. ap (number (start_of m b) i) (basic_is k o) ∙ number_zero i k l o n;
        combination = s.combination;
        basic = λ i l. ap (position_at (start_of m b).positions) (basic_is i l) ∙ position_is (length m.columns + i) (omega arith)
            ∙ ap (λ t. cond t Low Basic) (lt_false (length m.columns + i) (length m.columns) (omega arith));
        positions = λ v l. subst (IsWellPlaced (start_of m b) v) (sym (position_is v l))
            (well_placed v (nat_lt v (length m.columns)) refl l);
      }

  pub start-points : HasItsPoints m (start_of m b)
  start-points = λ x hold. start_back rationals (length m.rows) (length m.columns) (coefficient_of m.rows) (number (start_of m b))
      number_column number_one number_zero x hold
