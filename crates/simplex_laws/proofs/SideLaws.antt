-- The variables of a node by number: each column with the sides of its box and its cost, and each slack with the sides of its row.
use Rattle.std.specs.Prelude.{◌≡◌, ℕ, zero, suc, ◌+◌, ◌-◌, ◌<◌, ◌≤◌, Bool, true, false, List, [], ◌∷◌, ◌++◌, length, map, Some, None}
use Rattle.std.specs.Prelude.{option_and_then, nat_lt, slice_get, slice_index_or, ℤ, pos, ◌≤ℤ◌}
use Rattle.std.specs.List.{zip}
use Rattle.std.proofs.Common.{arith, refl, ap, sym, ◌∙◌, ◌⊎◌, inl, inr}
use Rattle.std.proofs.lemmas.Int.{ints}
use Rattle.std.proofs.lemmas.List.{length-map, length-append}
use Rattle.ip_defs.specs.Program.{at, costs_of, low_at, high_at}
use Rattle.ip_defs.specs.declared.programs.Column.{Column}
use Rattle.ip_defs.specs.declared.programs.Row.{Row}
use Rattle.ip_defs.specs.declared.programs.Parts.{Parts}
use Rattle.frac128.specs.Rationals.{of}
use Rattle.lp_duality.specs.Relaxations.{row_low, row_high, cost_of, IsUncrossed}
use Rattle.tableau.specs.declared.variables.Variable.{Variable}
use Rattle.tableau.specs.Tables.{Table, variable_at}
use Rattle.tableau.specs.Nodes.{column_variable, slack_variable, StandsFor}
use Rattle.tableau.specs.Meanings.{cost_number}

-- ---- lists
abbrev none : Variable
none = record { low = None; high = None; cost = pos 0 }

column_in : (cs : List Column) (bs : List (ℤ × ℤ)) (more : List Variable) (j : ℕ) (d : Variable) → length cs ≤ length bs → j < length cs
    → slice_index_or (map column_variable (zip cs bs) ++ more) j d ≡ record {
      low = Some (low_at bs j);
      high = Some (high_at bs j);
      cost = at (map (λ c. c.cost) cs) j;
    }
column_in [] bs more j d e l = absurd (omega arith)
column_in (c ∷ cs) [] more j d e l = absurd (omega arith)
column_in (c ∷ cs) (s ∷ bs) more zero d e l = refl
column_in (c ∷ cs) (s ∷ bs) more (suc j) d e l = column_in cs bs more j d (omega arith) (omega arith)

slack_in : (rs : List Row) (k : ℕ) → slice_index_or (map slack_variable rs) k none
    ≡ record { low = option_and_then (λ r. r.low) (slice_get rs k); high = option_and_then (λ r. r.high) (slice_get rs k); cost = pos 0 }
slack_in [] k = refl
slack_in (r ∷ rs) zero = refl
slack_in (r ∷ rs) (suc k) = slack_in rs k

past_columns : (cs : List Column) (bs : List (ℤ × ℤ)) (more : List Variable) (k : ℕ) (d : Variable) → length cs ≤ length bs →
    slice_index_or (map column_variable (zip cs bs) ++ more) (length cs + k) d ≡ slice_index_or more k d
past_columns [] bs more k d e = ap (λ i. slice_index_or more i d) (let q : 0 + k ≡ k = omega arith in q)
past_columns (c ∷ cs) [] more k d e = absurd (omega arith)
past_columns (c ∷ cs) (s ∷ bs) more k d e =
    ap (λ i. slice_index_or (map column_variable (zip (c ∷ cs) (s ∷ bs)) ++ more) i d)
    (let q : suc (length cs) + k ≡ suc (length cs + k) = omega arith in q)
    ∙ past_columns cs bs more k d (omega arith)

-- a box that gives each column its sides is as long as the columns
covers : (cs : List Column) (bs : List (ℤ × ℤ)) → length cs ≤ length (zip cs bs) → length cs ≤ length bs
covers [] bs e = omega arith
covers (c ∷ cs) [] e = absurd (omega arith)
covers (c ∷ cs) (s ∷ bs) e = let r = covers cs bs (omega arith) in omega arith

-- a variable is a column or a slack
pub column_or_slack : (c n v : ℕ) → v < c + n → (v < c) ⊎ ((k : ℕ) × (k < n) × (v ≡ c + k))
column_or_slack c n v l = by (nat_lt v c) refl
  where
    by : (t : Bool) → nat_lt v c ≡ t → (v < c) ⊎ ((k : ℕ) × (k < n) × (v ≡ c + k))
    by true e = inl (grind arith)
    by false e = let p : c ≤ v = grind arith in inr (v - c, omega arith, omega arith)

-- ---- the variables of a tableau that stands for a node
module _ (m : Parts) (b : List (ℤ × ℤ)) (T : Table) (stands : StandsFor m b T) where
  covered : length m.columns ≤ length b
  covered =
      let s = ap length (sym stands.variables) ∙ stands.size in
      let j = length-append (map column_variable (zip m.columns b)) (map slack_variable m.rows) in
      let p = length-map (zip m.columns b) column_variable in
      let q = length-map m.rows slack_variable in
      covers m.columns b (omega arith)

  pub column_is : (j : ℕ) → j < length m.columns → variable_at T.variables j ≡ record {
    low = Some (low_at b j);
    high = Some (high_at b j);
    cost = at (costs_of m) j;
  }
  column_is j l = ap (λ vs. variable_at vs j) stands.variables ∙ column_in m.columns b (map slack_variable m.rows) j none covered l

  pub slack_is : (k : ℕ) → variable_at T.variables (length m.columns + k) ≡ record { low = row_low m k; high = row_high m k; cost = pos 0 }
  slack_is k = ap (λ vs. variable_at vs (length m.columns + k)) stands.variables
      ∙ past_columns m.columns b (map slack_variable m.rows) k none covered ∙ slack_in m.rows k

  pub column_low : (j : ℕ) → j < length m.columns → (variable_at T.variables j).low ≡ Some (low_at b j)
  column_low j l = ap (λ (x : Variable). x.low) (column_is j l)

  pub column_high : (j : ℕ) → j < length m.columns → (variable_at T.variables j).high ≡ Some (high_at b j)
  column_high j l = ap (λ (x : Variable). x.high) (column_is j l)

  pub column_cost : (j : ℕ) → j < length m.columns → cost_number T j ≡ cost_of m j
  column_cost j l = ap (λ (x : Variable). of x.cost) (column_is j l)

  pub slack_low : (k : ℕ) → (variable_at T.variables (length m.columns + k)).low ≡ row_low m k
  slack_low k = ap (λ (x : Variable). x.low) (slack_is k)

  pub slack_high : (k : ℕ) → (variable_at T.variables (length m.columns + k)).high ≡ row_high m k
  slack_high k = ap (λ (x : Variable). x.high) (slack_is k)

  pub slack_cost : (k : ℕ) → cost_number T (length m.columns + k) ≡ of (pos 0)
  slack_cost k = ap (λ (x : Variable). of x.cost) (slack_is k)

  -- the two sides of a variable are in order
  pub in_order : IsUncrossed m b → (v : ℕ) (low high : ℤ) → v < length m.columns + length m.rows →
      (variable_at T.variables v).low ≡ Some low → (variable_at T.variables v).high ≡ Some high → low ≤ℤ high
  in_order ok v low high l p q = by (column_or_slack (length m.columns) (length m.rows) v l)
    where
      some : (x y : ℤ) → Some x ≡ Some y → x ≡ y
      some x y e = cc

      by : (v < length m.columns) ⊎ ((k : ℕ) × (k < length m.rows) × (v ≡ length m.columns + k)) → low ≤ℤ high
      by (inl c) =
          let x = some (low_at b v) low (sym (column_low v c) ∙ p) in
          let y = some (high_at b v) high (sym (column_high v c) ∙ q) in
          let z = ok.columns v c in omega (arith, ints)
      by (inr (k, s, e)) =
          ok.rows k low high s (sym (slack_low k) ∙ ap (λ v. (variable_at T.variables v).low) (sym e) ∙ p) (sym (slack_high k)
          ∙ ap (λ v. (variable_at T.variables v).high) (sym e) ∙ q)
