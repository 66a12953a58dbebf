-- What a walk comes to after the parts of a proof.
use Rattle.std.specs.Prelude.{◌≡◌, ℕ, suc, ◌+◌, ◌^◌, ◌<◌, ◌≤◌, ◌&&◌, nat_lt, if◌then◌else◌, Bool, true, false, List, [], ◌∷◌, ◌++◌}
use Rattle.std.specs.Prelude.{length, ℤ, pos, ◌+ℤ◌, slice_set, Option, Some, None, Result, Ok, Err}
use Rattle.std.specs.Int.{int_min, int_max}
use Rattle.std.specs.Int.RustNames.{unsigned_abs}
use Rattle.std.specs.List.{list_all, flat_map}
use Rattle.std.specs.Option.{option_or}
use Rattle.std.proofs.Common.{refl, arith, ap, sym, ◌∙◌, subst, append_assoc}
use Rattle.std.proofs.lemmas.List.{append-nil, length-append}
use Rattle.ip_defs.specs.declared.certificates.Bound.{Bound}
use Rattle.ip_defs.specs.declared.certificates.Cert.{Cert}
use Rattle.ip_defs.specs.declared.programs.Parts.{Parts}
use Rattle.ip_defs.specs.Boxes.{below, above}
use Rattle.ip_defs.specs.Limits.{IsCert}
use Rattle.ip_defs.specs.Certificates.{leaf_bound}
use Rattle.ip_defs.specs.Program.{low_at, high_at}
use Rattle.ip_defs.proofs.OrderLaws.{lt_true, lt_false}
use Rattle.proof_tree.specs.Internal.Numbered.{passed_over, next_or}
use Rattle.proof_tree.specs.LabelledTrees.{leaf, leaf_node}
use Rattle.proof_tree.specs.Trees.{PlainTree, bound_min, bound_over, misfit_at, with_number, is_cert, is_at_most}
use Rattle.proof_tree.specs.declared.faults.Shape.{Shape}
use Rattle.proof_tree.specs.declared.faults.ShapeWhat.TheVariants.{RowNumber}
use Rattle.proof_tree.proofs.TreeLaws.{bound_min-infinite}
use Rattle.tree_format.proofs.CertSizes.{count_within}
use Rattle.tree_format.specs.Spellings.{coordinate_part, multiplier_part, tree_parts}
use Rattle.tree_format.specs.declared.tokens.Token.{Token}
use Rattle.tree_checker.specs.declared.descents.Descent.{Descent}
use Rattle.tree_checker.specs.declared.walks.Walk.{Walk}
use Rattle.tree_checker.specs.Internal.Descents.{halved, can_enter, restored, settled}
use Rattle.tree_checker.specs.Internal.Leaves.{cert_bound}
use Rattle.tree_checker.specs.Internal.Walks.{grown, next_node, walk_of, leaf_taken, whole_taken, taken, taken_on, walked, unless_misfit}
use Rattle.tree_checker.proofs.DescentLaws.{halved_restored}
use Rattle.tree_checker.proofs.LeafLaws.{cert_by_rows}

-- ---- parts one after the other

pub walked_both : (m : Parts) (w : Walk) (ps qs : List Token) → walked m w (ps ++ qs) ≡ walked m (walked m w ps) qs
walked_both m w [] qs = refl
walked_both m w (p ∷ ps) qs = walked_both m (taken m w p) ps qs

-- after a misfit the walk stands still
pub stands : (m : Parts) (w : Walk) (e : Shape) (ps : List Token) → w.misfit ≡ Some e → walked m w ps ≡ w
stands m w e [] h = refl
stands m w e (p ∷ ps) h =
    let same : taken m w p ≡ w = ap (λ (o : Option Shape). unless_misfit o w (taken_on m w p)) h in
    ap (λ (v : Walk). walked m v ps) same ∙ stands m w e ps h

-- a walk with a misfit and a point
abbrev pub IsStopped : List ℤ → Shape → Walk → Type 0
IsStopped x e w = (w.misfit ≡ Some e) × (w.point ≡ x)

pub stands_at : (m : Parts) (w : Walk) (x : List ℤ) (e : Shape) (ps : List Token) → IsStopped x e w → IsStopped x e (walked m w ps)
stands_at m w x e ps h = subst (IsStopped x e) (sym (stands m w e ps h.0)) h

-- ---- points

grows : {A : Type 0} (xs : List A) (x : A) → length xs < 4096 → grown xs x ≡ xs ++ x ∷ []
grows xs x l = ap (λ (t : Bool). if t then xs ++ x ∷ [] else xs) (lt_true (length xs) 4096 l)

pub point_walked : (m : Parts) (done xs : List ℤ) (d : Descent) (v : Bound) → length done + length xs ≤ 4096
    → walked m (walk_of done (pos 0) 0 [] d 0 None v) (flat_map coordinate_part xs) ≡ walk_of (done ++ xs) (pos 0) 0 [] d 0 None v
point_walked m done [] d v l = ap (λ (x : List ℤ). walk_of x (pos 0) 0 [] d 0 None v) (sym (append-nil done))
point_walked m done (z ∷ zs) d v l =
    let few : length done < 4096 = omega arith in
    let sum = length-append done (z ∷ []) in
    ap (λ (x : List ℤ). walked m (walk_of x (pos 0) 0 [] d 0 None v) (flat_map coordinate_part zs)) (grows done z few)
    ∙ point_walked m (done ++ z ∷ []) zs d v (omega arith)
    ∙ ap (λ (x : List ℤ). walk_of x (pos 0) 0 [] d 0 None v) (append_assoc done (z ∷ []) zs)

-- ---- leaves

multipliers_walked : (m : Parts) (x : List ℤ) (q : ℤ) (n : ℕ) (done ys : List (ℕ × ℤ)) (d : Descent) (k : ℕ) (v : Bound)
    → length done + length ys ≡ n → n ≤ 1024
    → walked m (whole_taken m (walk_of x q n done d k None v)) (flat_map multiplier_part ys)
    ≡ leaf_taken (walk_of x q n (done ++ ys) d k None v) (cert_bound m d.area (record { q = q; y = done ++ ys }))
multipliers_walked m x q n done [] d k v e few =
    ap (λ (t : Bool). if t then walk_of x q n done d k None v
    else leaf_taken (walk_of x q n done d k None v) (cert_bound m d.area (record { q = q; y = done })))
    (lt_false (length done) n (omega arith))
    ∙ ap (λ (y : List (ℕ × ℤ)). leaf_taken (walk_of x q n y d k None v) (cert_bound m d.area (record { q = q; y = y })))
    (sym (append-nil done))
multipliers_walked m x q n done (p ∷ ys) d k v e few =
    let more : length done < 4096 = omega arith in
    let sum = length-append done (p ∷ []) in
    ap (λ (t : Bool). walked m (if t then walk_of x q n done d k None v
    else leaf_taken (walk_of x q n done d k None v) (cert_bound m d.area (record { q = q; y = done })))
    (flat_map multiplier_part (p ∷ ys))) (lt_true (length done) n (omega arith))
    ∙ ap (λ (y : List (ℕ × ℤ)). walked m (whole_taken m (walk_of x q n y d k None v)) (flat_map multiplier_part ys)) (grows done p more)
    ∙ multipliers_walked m x q n (done ++ p ∷ []) ys d k v (omega arith) few
    ∙ ap (λ (y : List (ℕ × ℤ)). leaf_taken (walk_of x q n y d k None v) (cert_bound m d.area (record { q = q; y = y })))
    (append_assoc done (p ∷ []) ys)

-- a walk after a tree, by the pass over its nodes
abbrev pub IsAfter : Parts → List ℤ → Descent → Bound → PlainTree → Result ℕ Shape → Walk → Type 0
IsAfter m x d v t (Ok j) w = w ≡ walk_of x (pos 0) 0 [] (settled d) j None (bound_min v (bound_over m t d.area))
IsAfter m x d v t (Err e) w = IsStopped x e w

pub leaf_walked : (m : Parts) (c : Cert) (x : List ℤ) (d : Descent) (k : ℕ) (v : Bound) → IsCert 1024 c → k < 1000000
    → IsAfter m x d v (leaf c) (passed_over (misfit_at (length m.columns) (length m.rows)) k (leaf_node c ∷ []))
    (walked m (walk_of x (pos 0) 0 [] d k None v) (tree_parts (leaf c)))
leaf_walked m c x d k v h l =
    let n : ℕ = length c.y in
    let few = count_within 1024 c.y h.ordered in
    let all = multipliers_walked m x c.q n [] c.y d k v (omega arith) few in
    subst (IsAfter m x d v (leaf c) (passed_over (misfit_at (length m.columns) (length m.rows)) k (leaf_node c ∷ []))) (sym all)
    (by (list_all (λ p. nat_lt p.0 (length m.rows)) c.y) (is_cert (length m.rows) c) (cert_by_rows (length m.rows) c h))
  where
    next : next_node k ≡ k + 1
    next = ap (λ (t : Bool). if t then k + 1 else k) (lt_true k 1000000 l)

    by : (s t : Bool) → t ≡ s
        → IsAfter m x d v (leaf c) (next_or (k + 1) (option_or (with_number k (if s then None else Some RowNumber)) None))
        (leaf_taken (walk_of x c.q (length c.y) c.y d k None v) (if t then Some (leaf_bound m d.area c) else None))
    by true true e =
        ap (λ (j : ℕ). walk_of x (pos 0) 0 [] (settled d) j None (bound_min v (leaf_bound m d.area c))) next
        ∙ ap (λ (u : Bound). walk_of x (pos 0) 0 [] (settled d) (k + 1) None (bound_min v u))
        (sym (bound_min-infinite (leaf_bound m d.area c)))
    by false false e = (refl, refl)
    by true false e = absurd cc
    by false true e = absurd cc

-- ---- trees

pub enters : (n : ℕ) (d : Descent) (col : ℕ) (at : ℤ) → unsigned_abs at ≤ 2 ^ 24 → length d.cuts < 800
    → can_enter n d col at ≡ nat_lt col n
enters n d col at small few =
    let one = lt_true (unsigned_abs at) (suc (2 ^ 24)) (omega arith) in
    let two = lt_true (length d.cuts) 800 few in
    by (nat_lt col n) one two
  where
    by : (t : Bool) → is_at_most (unsigned_abs at) (2 ^ 24) ≡ true → nat_lt (length d.cuts) 800 ≡ true
        → (t && is_at_most (unsigned_abs at) (2 ^ 24) && nat_lt (length d.cuts) 800) ≡ t
    by true a b = rw (a, b) refl
    by false a b = refl

-- the box is as it was before the left half was cut
pub left_restored : (d : Descent) (col : ℕ) (at : ℤ) → restored (halved (below d.area col at) col)
    (record { col = col; at = at; sides = (low_at d.area col, high_at d.area col); right = false }) ≡ d.area
left_restored d col at = halved_restored d.area col (low_at d.area col, int_min (high_at d.area col) at)

pub right_restored : (d : Descent) (b : List (ℤ × ℤ)) (col : ℕ) (at : ℤ) → b ≡ d.area
    → slice_set (halved (above b col at) col) col (low_at d.area col, high_at d.area col) ≡ d.area
right_restored d b col at e =
    ap (λ (a : List (ℤ × ℤ)). slice_set (halved (above a col at) col) col (low_at d.area col, high_at d.area col)) e
    ∙ halved_restored d.area col (int_max (low_at d.area col) (at +ℤ pos 1), high_at d.area col)
