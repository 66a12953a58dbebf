-- What it means that a tree exceeds no limit or has no misfit.
use Rattle.std.specs.Prelude.{◌≡◌, ℕ, ℤ, zero, suc, ◌+◌, ◌^◌, ◌<◌, ◌≤◌, ◌&&◌, ◌==◌, not, nat_lt, if◌then◌else◌, List, [], ◌∷◌, length}
use Rattle.std.specs.Prelude.{Bool, true, false, Option, Some, None}
use Rattle.std.specs.Int.RustNames.{unsigned_abs}
use Rattle.std.specs.List.{list_all}
use Rattle.std.specs.Option.{option_or}
use Rattle.std.proofs.Common.{refl, arith}
use Rattle.std.proofs.lemmas.Bool.{eqb-true}
use Rattle.ip_defs.specs.declared.certificates.Cert.{Cert}
use Rattle.ip_defs.specs.declared.programs.Parts.{Parts}
use Rattle.ip_defs.specs.Limits.{index_at}
use Rattle.ip_defs.specs.Lists.{Each}
use Rattle.ip_defs.proofs.FirstLaws.{either_none}
use Rattle.ip_defs.proofs.ListLaws.{each_left, each_right, each_append, each_weaker}
use Rattle.ip_defs.proofs.OrderLaws.{lt_true, lt_is}
use Rattle.proof_tree.specs.declared.claims.Claim.{Claim}
use Rattle.proof_tree.specs.declared.claims.Claim.TheVariants.{Best, Empty}
use Rattle.proof_tree.specs.declared.faults.ShapeWhat.{ShapeWhat}
use Rattle.proof_tree.specs.declared.faults.ShapeWhat.TheVariants.{ColumnNumber, RowNumber}
use Rattle.proof_tree.specs.declared.faults.TreeLimit.TheVariants as Exceeded
use Rattle.proof_tree.specs.LabelledTrees.{leaf, split, leaf_node, split_node, nodes, nodes_from}
use Rattle.proof_tree.specs.Trees.{plain, PlainTree, Node, FitsColumns, FitsModel, FitsRows, is_cert, own_limit, limit_at, first_from}
use Rattle.proof_tree.specs.Trees.{tree_limit, own_misfit, with_number, misfit_at, tree_misfit}
use Rattle.proof_tree.specs.Verdicts.{HasLength, claim_misfit, length_misfit}
use Rattle.proof_tree.specs.Within.{AreNumbersWithin, IsTreeWithin, LimitsAreExact, MisfitsAreTrue}
use Rattle.proof_tree.proofs.CertLaws.{cert_exact}
use Rattle.proof_tree.proofs.LabelledTreeLaws.{nodes_from_counted, shallow, deepest}

-- ---- misfits

no_number : (i : ℕ) (o : Option ShapeWhat) → with_number i o ≡ None → o ≡ None
no_number i None e = refl
no_number i (Some x) e = absurd cc

none_misfits : (columns rows k : ℕ) (xs : List Node) → first_from (misfit_at columns rows) k xs ≡ None
    → Each (λ n. own_misfit columns rows n ≡ None) xs
none_misfits columns rows k [] e = tt
none_misfits columns rows k (x ∷ xs) e =
    let both = either_none (misfit_at columns rows k x) (first_from (misfit_at columns rows) (k + 1) xs) e in
    (no_number k (own_misfit columns rows x) both.0, none_misfits columns rows (k + 1) xs both.1)

in_columns : (columns col : ℕ) (t : Bool) → nat_lt col columns ≡ t → (if t then None else Some ColumnNumber) ≡ None → col < columns
in_columns columns col true e f = lt_is col columns e
in_columns columns col false e f = absurd cc

fits_by : (columns rows : ℕ) (t : PlainTree) → Each (λ n. own_misfit columns rows n ≡ None) (nodes t) → FitsColumns columns t
fits_by columns rows (leaf c) h = tt
fits_by columns rows (split col cut y left right) h = (
  in_columns columns col (nat_lt col columns) refl h.0,
  fits_by columns rows left (each_left _ (nodes left) (nodes right) h.1),
  fits_by columns rows right (each_right _ (nodes left) (nodes right) h.1),
)

-- all row numbers of a certificate are those of rows
in_rows : (rows : ℕ) (y : List (ℕ × ℤ)) → list_all (λ p. nat_lt p.0 rows) y ≡ true → (i : ℕ) → i < length y → index_at y i < rows
in_rows rows [] e i l = absurd (omega arith)
in_rows rows (p ∷ ps) e zero l = by (nat_lt p.0 rows) (list_all (λ q. nat_lt q.0 rows) ps) refl e
  where
    by : (s t : Bool) → nat_lt p.0 rows ≡ s → (s && t) ≡ true → p.0 < rows
    by true t f g = lt_is p.0 rows f
    by false t f g = absurd cc
in_rows rows (p ∷ ps) e (suc i) l = in_rows rows ps (by (nat_lt p.0 rows) (list_all (λ q. nat_lt q.0 rows) ps) e) i (omega arith)
  where
    by : (s t : Bool) → (s && t) ≡ true → t ≡ true
    by true t g = g
    by false t g = absurd cc

no_row : (rows : ℕ) (c : Cert) (t : Bool) → list_all (λ p. nat_lt p.0 rows) c.y ≡ t → (if t then None else Some RowNumber) ≡ None
    → FitsRows rows (leaf c)
no_row rows c true e f = in_rows rows c.y e
no_row rows c false e f = absurd cc

rows_by : (columns rows : ℕ) (t : PlainTree) → Each (λ n. own_misfit columns rows n ≡ None) (nodes t) → FitsRows rows t
rows_by columns rows (leaf c) h = no_row rows c (list_all (λ p. nat_lt p.0 rows) c.y) refl h.0
rows_by columns rows (split col cut y left right) h = (
  rows_by columns rows left (each_left _ (nodes left) (nodes right) h.1),
  rows_by columns rows right (each_right _ (nodes left) (nodes right) h.1),
)

length_fits : (n : ℕ) (c : Claim) → claim_misfit n c ≡ None → HasLength n c
length_fits n Empty e = tt
length_fits n (Best x) e = by (length x == n) refl e
  where
    by : (t : Bool) → (length x == n) ≡ t → length_misfit (not t) ≡ None → length x ≡ n
    by true f e = eqb-true (length x) n f
    by false f e = absurd cc

pub fits_of : (m : Parts) (c : Claim) (t : PlainTree) → option_or (claim_misfit (length m.columns) c)
    (tree_misfit (length m.columns) (length m.rows) t) ≡ None → HasLength (length m.columns) c × FitsModel m t
fits_of m c t e =
    let columns : ℕ = length m.columns in
    let rows : ℕ = length m.rows in
    let both = either_none (claim_misfit columns c) (tree_misfit columns rows t) e in
    let none = none_misfits columns rows 0 (nodes t) both.1 in
    (length_fits columns c both.0, record { columns = fits_by columns rows t none; rows = rows_by columns rows t none })

pub misfits_are_true : MisfitsAreTrue
misfits_are_true m p e = fits_of m p.claim (plain p.tree) e

-- ---- limits

-- a node is within the limits
abbrev IsNodeWithin : Node → Type 0
IsNodeWithin (leaf_node c) = is_cert 1024 c ≡ true
IsNodeWithin (split_node col cut y) = (col ≤ 4095) × (unsigned_abs cut ≤ 2 ^ 24)

-- node i, with its depth, exceeds no limit
pub record IsNumberedWithin (i : ℕ) (n : ℕ × Node) : Type 0 where
  pub number : i < 1000000
  pub deep : n.0 ≤ 800
  pub own : IsNodeWithin n.1

own_is : (i : ℕ) (n : Node) → own_limit i n ≡ None → IsNodeWithin n
own_is i (leaf_node c) e = by (is_cert 1024 c) refl e
  where
    by : (t : Bool) → is_cert 1024 c ≡ t → (if t then None else Some (Exceeded.Cert i)) ≡ None → is_cert 1024 c ≡ true
    by true f e = f
    by false f e = absurd cc
own_is i (split_node col cut y) e = by (nat_lt col 4096) (nat_lt (unsigned_abs cut) (suc (2 ^ 24))) refl refl e
  where
    by : (s t : Bool) → nat_lt col 4096 ≡ s → nat_lt (unsigned_abs cut) (suc (2 ^ 24)) ≡ t
        → (if (s && t) then None else Some (Exceeded.At i)) ≡ None → (col ≤ 4095) × (unsigned_abs cut ≤ 2 ^ 24)
    by true true f g e = (let l = lt_is col 4096 f in omega arith, let l = lt_is (unsigned_abs cut) (suc (2 ^ 24)) g in omega arith)
    by true false f g e = absurd cc
    by false t f g e = absurd cc

numbered_within : (i : ℕ) (n : ℕ × Node) → limit_at i n ≡ None → IsNumberedWithin i n
numbered_within i n e = by (nat_lt n.0 801) (nat_lt i 1000000) refl refl e
  where
    by : (s t : Bool) → nat_lt n.0 801 ≡ s → nat_lt i 1000000 ≡ t
        → (if not s then Some Exceeded.Depth else if not t then Some Exceeded.Nodes else own_limit i n.1) ≡ None → IsNumberedWithin i n
    by true true f g e = record { number = lt_is i 1000000 g; deep = (let l = lt_is n.0 801 f in omega arith); own = own_is i n.1 e }
    by true false f g e = absurd cc
    by false t f g e = absurd cc

own_back : (i : ℕ) (n : Node) → IsNodeWithin n → own_limit i n ≡ None
own_back i (leaf_node c) h = rw (h) refl
own_back i (split_node col cut y) h =
    rw (lt_true col 4096 (omega (arith, h.0)), lt_true (unsigned_abs cut) (suc (2 ^ 24)) (omega (arith, h.1))) refl

within_back : (i : ℕ) (n : ℕ × Node) → IsNumberedWithin i n → limit_at i n ≡ None
within_back i n p = rw (lt_true n.0 801 (omega (arith, p.deep)), lt_true i 1000000 p.number, own_back i n.1 p.own) refl

each_within : (k : ℕ) (xs : List (ℕ × Node)) → first_from limit_at k xs ≡ None → Each (λ n. (n.0 ≤ 800) × IsNodeWithin n.1) xs
each_within k [] e = tt
each_within k (x ∷ xs) e =
    let both = either_none (limit_at k x) (first_from limit_at (k + 1) xs) e in
    let p = numbered_within k x both.0 in
    ((p.deep, p.own), each_within (k + 1) xs both.1)

few_within : (k : ℕ) (xs : List (ℕ × Node)) → k ≤ 1000000 → first_from limit_at k xs ≡ None → k + length xs ≤ 1000000
few_within k [] few e = omega arith
few_within k (x ∷ xs) few e =
    let both = either_none (limit_at k x) (first_from limit_at (k + 1) xs) e in
    let p = (numbered_within k x both.0).number in
    let rest = few_within (k + 1) xs (omega arith) both.1 in
    omega arith

numbers_of : (d : ℕ) (t : PlainTree) → Each (λ n. IsNodeWithin n.1) (nodes_from d t) → AreNumbersWithin t
numbers_of d (leaf c) h = (cert_exact 1024 c).0 h.0
numbers_of d (split col cut y left right) h = (
  h.0.0,
  h.0.1,
  numbers_of (d + 1) left (each_left _ (nodes_from (d + 1) left) (nodes_from (d + 1) right) h.1),
  numbers_of (d + 1) right (each_right _ (nodes_from (d + 1) left) (nodes_from (d + 1) right) h.1),
)

within_of : (t : PlainTree) → tree_limit t ≡ None → IsTreeWithin t
within_of t e =
    let ns = nodes_from 0 t in
    let each = each_within 0 ns e in
    record {
      count = (let few = few_within 0 ns (omega arith) e in let same = nodes_from_counted 0 t in omega arith);
      deep = (let deep' = deepest 800 0 t (each_weaker _ (λ n. n.0 ≤ 800) ns (λ n h. h.0) each) in omega arith);
      numbers = numbers_of 0 t (each_weaker _ (λ n. IsNodeWithin n.1) ns (λ n h. h.1) each);
    }

-- and back
of_numbers : (d : ℕ) (t : PlainTree) → AreNumbersWithin t → Each (λ n. IsNodeWithin n.1) (nodes_from d t)
of_numbers d (leaf c) h = ((cert_exact 1024 c).1 h, tt)
of_numbers d (split col cut y left right) h = (
  (h.0, h.1),
  each_append _ (nodes_from (d + 1) left) (nodes_from (d + 1) right) (of_numbers (d + 1) left h.2) (of_numbers (d + 1) right h.3),
)

none_of : (k : ℕ) (xs : List (ℕ × Node)) → Each (λ n. n.0 ≤ 800) xs → Each (λ n. IsNodeWithin n.1) xs → k + length xs ≤ 1000000
    → first_from limit_at k xs ≡ None
none_of k [] deep own few = refl
none_of k (x ∷ xs) deep own few =
    rw (within_back k x (record { number = omega arith; deep = deep.0; own = own.0 })) (none_of (k + 1) xs deep.1 own.1 (omega arith))

limit_back : (t : PlainTree) → IsTreeWithin t → tree_limit t ≡ None
limit_back t w =
    let deep = shallow 800 0 t (let deep' = w.deep in omega arith) in
    none_of 0 (nodes_from 0 t) deep (of_numbers 0 t w.numbers) (let few = w.count in let same = nodes_from_counted 0 t in omega arith)

pub limits_are_exact : LimitsAreExact
limits_are_exact t = (within_of t, limit_back t)
