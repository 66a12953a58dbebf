-- Proof trees as plain data: their bound, and the first limit or misfit of one.
use Rattle.std.specs.Prelude.{ℕ, suc, ◌+◌, ◌^◌, ◌<◌, if◌then◌else◌, ◌&&◌, not, List, [], ◌∷◌, length, map, ℤ, pos, Bool, true, nat_lt}
use Rattle.std.specs.Prelude.{Option, Some, None}
use Rattle.std.specs.Int.{int_min}
use Rattle.std.specs.Int.RustNames.{unsigned_abs}
use Rattle.std.specs.Int.Signed.{lt_z}
use Rattle.std.specs.List.{list_all}
use Rattle.std.specs.Option.{option_or}
use Rattle.ip_defs.specs.declared.certificates.Bound.{Bound}
use Rattle.ip_defs.specs.declared.certificates.Bound.TheVariants.{At, Infinite}
use Rattle.ip_defs.specs.declared.certificates.Cert.{Cert}
use Rattle.ip_defs.specs.declared.programs.Parts.{Parts}
use Rattle.ip_defs.specs.Program.{box_of, IsFeasible, cost}
use Rattle.ip_defs.specs.Certificates.{leaf_bound, IsAtMost}
use Rattle.ip_defs.specs.Limits.{index_at}
use Rattle.proof_tree.specs.LabelledTrees.{LabelledTree, leaf, split, LabelledNode, leaf_node, split_node, nodes, nodes_from, leaves}
use Rattle.proof_tree.specs.declared.trees.Tree.{Tree, Leaf, Split'}
use Rattle.proof_tree.specs.declared.faults.TreeLimit.{TreeLimit}
use Rattle.proof_tree.specs.declared.faults.TreeLimit.TheVariants as Exceeded
use Rattle.proof_tree.specs.declared.faults.Shape.{Shape}
use Rattle.proof_tree.specs.declared.faults.ShapeWhat.{ShapeWhat}
use Rattle.proof_tree.specs.declared.faults.ShapeWhat.TheVariants.{ColumnNumber, RowNumber}

-- a tree as plain data, without pointers: a certificate at each leaf, and no labels at its splits
abbrev pub PlainTree : Type 0
PlainTree = LabelledTree Cert (Unit {0})

-- a node of such a tree
abbrev pub Node : Type 0
Node = LabelledNode Cert (Unit {0})

-- the plain tree of a tree
abbrev pub plain : Tree → PlainTree
plain (Leaf c) = leaf c
plain (Split' col cut one left other right) = split col cut tt (plain left) (plain right)

-- the lesser of two bounds, where Infinite is above every number
abbrev pub bound_min : Bound → Bound → Bound
bound_min (At v) (At w) = At (int_min v w)
bound_min (At v) Infinite = At v
bound_min Infinite w = w

-- the least of bounds, Infinite where there is none
abbrev pub least : List Bound → Bound
least [] = Infinite
least (x ∷ xs) = bound_min x (least xs)

-- the least bound of the leaves over a box
abbrev pub bound_over : Parts → PlainTree → List (ℤ × ℤ) → Bound
bound_over m t b = least (map (λ l. leaf_bound m l.0 l.1) (leaves t b))

-- the least bound of the leaves over the box of the program
abbrev pub tree_bound : Parts → PlainTree → Bound
tree_bound m t = bound_over m t (box_of m)

-- each split is at one of n columns
abbrev pub FitsColumns : ℕ → PlainTree → Type 0
FitsColumns n (leaf c) = Unit {0}
FitsColumns n (split col cut y left right) = (col < n) × FitsColumns n left × FitsColumns n right

-- each multiplier is of one of n rows
abbrev pub FitsRows : ℕ → PlainTree → Type 0
FitsRows n (leaf c) = (i : ℕ) → i < length c.y → index_at c.y i < n
FitsRows n (split col cut y left right) = FitsRows n left × FitsRows n right

-- the columns and rows that a tree names exist in a model
pub record FitsModel (m : Parts) (t : PlainTree) : Type 0 where
  pub columns : FitsColumns (length m.columns) t
  pub rows : FitsRows (length m.rows) t

-- a number is at most another
abbrev pub is_at_most : ℕ → ℕ → Bool
is_at_most a b = nat_lt a (suc b)

-- the numbers increase, from a least one on
abbrev pub rise_from : ℕ → List (ℕ × ℤ) → Bool
rise_from least_next [] = true
rise_from least_next (p ∷ ps) = is_at_most least_next p.0 && rise_from (suc p.0) ps

-- a multiplier of one of the rows: not 0, and at most 2 ^ 36 in absolute value
abbrev pub is_multiplier : ℕ → ℕ × ℤ → Bool
is_multiplier rows p = nat_lt p.0 rows && nat_lt 0 (unsigned_abs p.1) && is_at_most (unsigned_abs p.1) (2 ^ 36)

-- a certificate is within its limits for a number of rows
abbrev pub is_cert : ℕ → Cert → Bool
is_cert rows c = not (lt_z c.q (pos 0)) && not (lt_z (pos (2 ^ 36)) c.q) && rise_from 0 c.y && list_all (is_multiplier rows) c.y

-- the limit that the numbers of node i exceed
abbrev pub own_limit : ℕ → Node → Option TreeLimit
own_limit i (leaf_node c) = if is_cert 1024 c then None else Some (Exceeded.Cert i)
own_limit i (split_node col cut y) = if is_at_most col 4095 && is_at_most (unsigned_abs cut) (2 ^ 24) then None else Some (Exceeded.At i)

-- the first limit that node i exceeds, given with its depth
abbrev pub limit_at : ℕ → ℕ × Node → Option TreeLimit
limit_at i n =
    if not (is_at_most n.0 800) then Some Exceeded.Depth
    else if not (nat_lt i 1000000) then Some Exceeded.Nodes else own_limit i n.1

-- what f answers at the first element at which it answers, the elements numbered from k on
abbrev pub first_from : {A B : Type 0} → (ℕ → A → Option B) → ℕ → List A → Option B
first_from f k [] = None
first_from f k (x ∷ xs) = option_or (f k x) (first_from f (k + 1) xs)

-- the first node in preorder that exceeds a limit
abbrev pub tree_limit : PlainTree → Option TreeLimit
tree_limit t = first_from limit_at 0 (nodes_from 0 t)

-- the misfit of a node that names a column or a row which does not exist
abbrev pub own_misfit : ℕ → ℕ → Node → Option ShapeWhat
own_misfit columns rows (leaf_node c) = if list_all (λ p. nat_lt p.0 rows) c.y then None else Some RowNumber
own_misfit columns rows (split_node col cut y) = if nat_lt col columns then None else Some ColumnNumber

-- a misfit with the number of its node
abbrev pub with_number : ℕ → Option ShapeWhat → Option Shape
with_number i None = None
with_number i (Some x) = Some (record { node = i; what = x })

-- the misfit of node i
abbrev pub misfit_at : ℕ → ℕ → ℕ → Node → Option Shape
misfit_at columns rows i n = with_number i (own_misfit columns rows n)

-- the first misfit in preorder
abbrev pub tree_misfit : ℕ → ℕ → PlainTree → Option Shape
tree_misfit columns rows t = first_from (misfit_at columns rows) 0 (nodes t)

-- every feasible point costs at least the bound of any tree that fits
abbrev pub TreesBound : Type 0
TreesBound = (m : Parts) (t : PlainTree) (x : List ℤ) → FitsColumns (length m.columns) t → IsFeasible m x →
    IsAtMost (tree_bound m t) (cost m x)
