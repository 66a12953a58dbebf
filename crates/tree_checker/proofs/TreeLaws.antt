-- A walk after the parts of a tree: it has the first misfit of the tree, or the least bound of its leaves over the box before it.
use Rattle.std.specs.Prelude.{◌≡◌, ℕ, suc, ◌+◌, ◌^◌, ◌<◌, ◌≤◌, nat_lt, if◌then◌else◌, Bool, true, false, List, [], ◌∷◌, ◌++◌, length, ℤ}
use Rattle.std.specs.Prelude.{pos, ◌+ℤ◌, Option, Some, None, Result, Ok, Err}
use Rattle.std.specs.Int.{int_min, int_max}
use Rattle.std.specs.Int.RustNames.{unsigned_abs}
use Rattle.std.specs.Option.{option_or}
use Rattle.std.proofs.Common.{refl, arith, ap, sym, ◌∙◌, subst, length-set}
use Rattle.ip_defs.specs.declared.certificates.Bound.{Bound}
use Rattle.ip_defs.specs.declared.programs.Parts.{Parts}
use Rattle.ip_defs.specs.Boxes.{below, above}
use Rattle.ip_defs.specs.Program.{low_at, high_at}
use Rattle.ip_defs.proofs.OrderLaws.{lt_is, lt_true}
use Rattle.proof_tree.specs.Internal.Numbered.{passed_over, next_or}
use Rattle.proof_tree.specs.LabelledTrees.{leaf, split, split_node, node_count, depth, nodes}
use Rattle.proof_tree.specs.Trees.{PlainTree, Node, bound_min, bound_over, first_from, misfit_at, own_misfit, with_number}
use Rattle.proof_tree.specs.Within.{AreNumbersWithin}
use Rattle.proof_tree.specs.declared.faults.Shape.{Shape}
use Rattle.proof_tree.specs.declared.faults.ShapeWhat.{ShapeWhat}
use Rattle.proof_tree.specs.declared.faults.ShapeWhat.TheVariants.{ColumnNumber}
use Rattle.proof_tree.proofs.LabelledTreeLaws.{nodes_counted}
use Rattle.proof_tree.proofs.NumberedLaws.{pass_left, pass_right, pass_count}
use Rattle.proof_tree.proofs.TreeLaws.{bound_min_assoc, bound_split}
use Rattle.tree_format.specs.Spellings.{tree_parts}
use Rattle.tree_format.specs.declared.tokens.Token.{Token}
use Rattle.tree_checker.specs.declared.descents.Descent.{Descent}
use Rattle.tree_checker.specs.declared.walks.Walk.{Walk}
use Rattle.tree_checker.specs.Internal.Descents.{halved, entered, restored, settled, settled_from}
use Rattle.tree_checker.specs.Internal.Walks.{next_node, walk_of, misfitting, walked, split_taken}
use Rattle.tree_checker.proofs.DescentLaws.{halved_size, halved_bound}
use Rattle.tree_checker.proofs.PartLaws.{IsAfter, walked_both, stands_at, leaf_walked, enters, left_restored, right_restored}

-- ---- the halves of a split

module _ (d : Descent) (col : ℕ) (at : ℤ) where
  -- after the right half the splits above are as before
  halves_settled : settled (settled (entered d col at)) ≡ settled d
  halves_settled =
      ap (λ (a : List (ℤ × ℤ)). settled_from a d.cuts)
      (right_restored d (restored (halved (below d.area col at) col)
      (record { col = col; at = at; sides = (low_at d.area col, high_at d.area col); right = false })) col at
      (left_restored d col at))

  left_size : length (entered d col at).area ≡ length d.area
  left_size = halved_size (below d.area col at) col ∙ length-set d.area col (low_at d.area col, int_min (high_at d.area col) at)

  right_is : (settled (entered d col at)).area ≡ halved (above d.area col at) col
  right_is = ap (λ (a : List (ℤ × ℤ)). halved (above a col at) col) (left_restored d col at)

  right_size : length (settled (entered d col at)).area ≡ length d.area
  right_size =
      ap (λ (a : List (ℤ × ℤ)). length a) right_is ∙ halved_size (above d.area col at) col
      ∙ length-set d.area col (int_max (low_at d.area col) (at +ℤ pos 1), high_at d.area col)

  -- the bound of the halves, one after the other
  halves_bound : (m : Parts) (left right : PlainTree) (v : Bound) → col < length d.area
      → bound_min (bound_min v (bound_over m left (entered d col at).area)) (bound_over m right (settled (entered d col at)).area)
      ≡ bound_min v (bound_over m (split col at tt left right) d.area)
  halves_bound m left right v l =
      let low = halved_bound (below d.area col at) col m left
      (omega (arith, length-set d.area col (low_at d.area col, int_min (high_at d.area col) at))) in
      let high = ap (bound_over m right) right_is ∙ halved_bound (above d.area col at) col m right
      (omega (arith, length-set d.area col (int_max (low_at d.area col) (at +ℤ pos 1), high_at d.area col))) in
      ap (λ (u : Bound). bound_min (bound_min v u) (bound_over m right (settled (entered d col at)).area)) low
      ∙ ap (bound_min (bound_min v (bound_over m left (below d.area col at)))) high
      ∙ bound_min_assoc v (bound_over m left (below d.area col at)) (bound_over m right (above d.area col at))
      ∙ ap (bound_min v) (sym (bound_split m d.area col at left right))

-- ---- a split

-- what is known of a split and of its halves before it is walked through
record IsSplit (m : Parts) (x : List ℤ) (d : Descent) (k : ℕ) (v : Bound) (col : ℕ) (at : ℤ) (left right : PlainTree) : Type 0 where
  pub small : unsigned_abs at ≤ 2 ^ 24
  pub deep : length d.cuts < 800
  pub size : length d.area ≡ length m.columns
  pub count : k + suc (node_count left + node_count right) ≤ 1000000
  pub left_on : IsAfter m x (entered d col at) v left (passed_over (misfit_at (length m.columns) (length m.rows)) (k + 1) (nodes left))
      (walked m (walk_of x (pos 0) 0 [] (entered d col at) (k + 1) None v) (tree_parts left))
  pub right_on : (j : ℕ) (u : Bound) → j + node_count right ≤ 1000000
      → IsAfter m x (settled (entered d col at)) u right (passed_over (misfit_at (length m.columns) (length m.rows)) j (nodes right))
      (walked m (walk_of x (pos 0) 0 [] (settled (entered d col at)) j None u) (tree_parts right))

split_walked : (m : Parts) (x : List ℤ) (d : Descent) (k : ℕ) (v : Bound) (col : ℕ) (at : ℤ) (left right : PlainTree)
    → IsSplit m x d k v col at left right
    → IsAfter m x d v (split col at tt left right)
    (passed_over (misfit_at (length m.columns) (length m.rows)) k (nodes (split col at tt left right)))
    (walked m (walk_of x (pos 0) 0 [] d k None v) (tree_parts (split col at tt left right)))
split_walked m x d k v col at left right s = by (nat_lt col (length m.columns)) refl
  where
    n : ℕ
    n = length m.columns

    f : ℕ → Node → Option Shape
    f = misfit_at (length m.columns) (length m.rows)

    top : Node
    top = split_node col at tt

    w0 : Walk
    w0 = walk_of x (pos 0) 0 [] d k None v

    w1 : Walk
    w1 = walk_of x (pos 0) 0 [] (entered d col at) (k + 1) None v

    ps : List Token
    ps = tree_parts left ++ tree_parts right

    choose : Bool → Walk
    choose t = if t then walk_of x (pos 0) 0 [] (entered d col at) (next_node k) None v else misfitting w0 ColumnNumber

    chosen : (t : Bool) → nat_lt col (length m.columns) ≡ t → split_taken (length m.columns) w0 col at ≡ choose t
    chosen t e = ap choose (enters (length m.columns) d col at s.small s.deep ∙ e)

    next : next_node k ≡ k + 1
    next = let few = s.count in ap (λ (t : Bool). if t then k + 1 else k) (lt_true k 1000000 (omega arith))

    after_right : (j : ℕ) → col < length m.columns → (r : Result ℕ Shape) (w : Walk)
        → IsAfter m x (settled (entered d col at)) (bound_min v (bound_over m left (entered d col at).area)) right r w
        → IsAfter m x d v (split col at tt left right) r w
    after_right j l (Err e) w h = h
    after_right j l (Ok i) w h =
        h ∙ ap (λ (c : Descent). walk_of x (pos 0) 0 [] c i None
        (bound_min (bound_min v (bound_over m left (entered d col at).area)) (bound_over m right (settled (entered d col at)).area)))
        (halves_settled d col at)
        ∙ ap (walk_of x (pos 0) 0 [] (settled d) i None) (halves_bound d col at m left right v (let same = s.size in omega arith))

    on : col < length m.columns → f k top ≡ None → (r : Result ℕ Shape) → passed_over f (k + 1) (nodes left) ≡ r
        → IsAfter m x (entered d col at) v left r (walked m w1 (tree_parts left))
        → IsAfter m x d v (split col at tt left right) (passed_over f k (top ∷ (nodes left ++ nodes right)))
        (walked m (walked m w1 (tree_parts left)) (tree_parts right))
    on l none (Err e) p h =
        subst (λ (r : Result ℕ Shape). IsAfter m x d v (split col at tt left right) r
        (walked m (walked m w1 (tree_parts left)) (tree_parts right))) (sym (pass_left f k top (nodes left) (nodes right) e none p))
        (stands_at m (walked m w1 (tree_parts left)) x e (tree_parts right) h)
    on l none (Ok j) p h =
        let u = bound_min v (bound_over m left (entered d col at).area) in
        let few = s.count in
        let counted = pass_count f (k + 1) (nodes left) j p in
        let each = nodes_counted left in
        let second = after_right j l (passed_over f j (nodes right)) _ (s.right_on j u (omega arith)) in
        subst (λ (r : Result ℕ Shape). IsAfter m x d v (split col at tt left right) r
        (walked m (walked m w1 (tree_parts left)) (tree_parts right))) (sym (pass_right f k top (nodes left) (nodes right) j none p))
        (subst (λ (w : Walk). IsAfter m x d v (split col at tt left right) (passed_over f j (nodes right)) (walked m w (tree_parts right)))
        (sym h) second)

    by : (t : Bool) → nat_lt col (length m.columns) ≡ t
        → IsAfter m x d v (split col at tt left right) (passed_over f k (top ∷ (nodes left ++ nodes right)))
        (walked m (split_taken (length m.columns) w0 col at) (tree_parts left ++ tree_parts right))
    by false e =
        let own : own_misfit (length m.columns) (length m.rows) top ≡ Some ColumnNumber =
        ap (λ (t : Bool). if t then None else Some ColumnNumber) e in
        let passed : passed_over f k (top ∷ (nodes left ++ nodes right)) ≡ Err (record { node = k; what = ColumnNumber }) =
        ap (λ (o : Option ShapeWhat). next_or (k + length (top ∷ (nodes left ++ nodes right)))
        (option_or (with_number k o) (first_from f (k + 1) (nodes left ++ nodes right)))) own in
        subst (λ (r : Result ℕ Shape). IsAfter m x d v (split col at tt left right) r
        (walked m (split_taken (length m.columns) w0 col at) ps)) (sym passed)
        (stands_at m (split_taken (length m.columns) w0 col at) x (record { node = k; what = ColumnNumber }) ps
        (ap (λ (w : Walk). w.misfit) (chosen false e), ap (λ (w : Walk). w.point) (chosen false e)))
    by true e =
        let own : own_misfit (length m.columns) (length m.rows) top ≡ None = ap (λ (t : Bool). if t then None else Some ColumnNumber) e in
        let state : split_taken (length m.columns) w0 col at ≡ w1 =
        chosen true e ∙ ap (λ (i : ℕ). walk_of x (pos 0) 0 [] (entered d col at) i None v) next in
        let both = ap (λ (w : Walk). walked m w ps) state ∙ walked_both m w1 (tree_parts left) (tree_parts right) in
        subst (IsAfter m x d v (split col at tt left right) (passed_over f k (top ∷ (nodes left ++ nodes right)))) (sym both)
        (on (lt_is col (length m.columns) e) (ap (with_number k) own) (passed_over f (k + 1) (nodes left)) refl s.left_on)

-- ---- trees

pub tree_walked : (m : Parts) (t : PlainTree) (x : List ℤ) (d : Descent) (k : ℕ) (v : Bound) → AreNumbersWithin t
    → length d.cuts + depth t ≤ 800 → k + node_count t ≤ 1000000 → length d.area ≡ length m.columns
    → IsAfter m x d v t (passed_over (misfit_at (length m.columns) (length m.rows)) k (nodes t))
    (walked m (walk_of x (pos 0) 0 [] d k None v) (tree_parts t))
tree_walked m (leaf c) x d k v w deep count size = leaf_walked m c x d k v w (omega arith)
tree_walked m (split col at y left right) x d k v w deep count size =
    split_walked m x d k v col at left right (record {
      small = w.1;
      deep = omega arith;
      size = size;
      count = count;
      left_on = tree_walked m left x (entered d col at) (k + 1) v w.2 (omega arith) (omega arith) (left_size d col at ∙ size);
      right_on = λ j u few. tree_walked m right x (settled (entered d col at)) j u w.3 (omega arith) few (right_size d col at ∙ size);
    })
