-- Reading a tree that stands at a place of bytes, node by node.
use Rattle.std.specs.Prelude.{◌≡◌, ℕ, zero, suc, ◌+◌, ◌-◌, ◌^◌, ◌<◌, ◌≤◌, List, [], ◌∷◌, ◌++◌, length, drop, ℤ}
use Rattle.std.specs.Int.RustNames.{unsigned_abs}
use Rattle.std.proofs.Common.{arith, refl, ap, ◌∙◌, sym, subst, lit<, length-append, append_assoc, add-one}
use Rattle.ip_defs.specs.declared.certificates.Cert.{Cert}
use Rattle.ip_defs.specs.Limits.{IsCert}
use Rattle.ip_defs.proofs.OrderLaws.{lt_true, lt_false}
use Rattle.proof_tree.specs.LabelledTrees.{leaf, split}
use Rattle.proof_tree.specs.Trees.{PlainTree}
use Rattle.tree_format.specs.Readings.{Reading, part_then, stopped}
use Rattle.tree_format.specs.Spellings.{number, signed_number, cert_bytes, tree_bytes}
use Rattle.tree_format.specs.Grammar.{cert_at, split_at, tree_at, IsErrorOf}
use Rattle.tree_format.specs.Internal.Steps.{Stands, IsFault, IsValueFault, IsNumberFault, IsTreeStep, tag_of}
use Rattle.tree_format.specs.declared.errors.TreeError.{TreeError}
use Rattle.tree_format.specs.declared.errors.TreeError.TheVariants as faults
use Rattle.tree_format.specs.declared.tree_steps.Kind.{Kind}
use Rattle.tree_format.specs.declared.tree_steps.Kind.TheVariants.{Split}
use Rattle.tree_format.specs.declared.tokens.Token.{Token}
use Rattle.tree_format.specs.declared.tokens.Token.TheVariants.{SplitAt}
use Rattle.tree_format.proofs.FieldLaws.{apart}
use Rattle.tree_format.proofs.SpellingLaws.{split_is_read, tree_is_read}
use Rattle.tree_format.proofs.NumberStepLaws.{both_stand, number_reads, stops, error_at}

-- ---- the byte of a node

-- a node begins with its byte
node_begins : (bytes : List ℕ) (i j b levels nodes : ℕ) (next : ℕ → ℕ → List ℕ → Reading Token) → Stands bytes i j (b ∷ [])
    → tree_at levels nodes i (drop i bytes) next ≡ tree_at levels nodes i (b ∷ drop j bytes) next
node_begins bytes i j b levels nodes next s = ap (λ (bs : List ℕ). tree_at levels nodes i bs next) s.is

cut_node : (levels nodes i : ℕ) (next : ℕ → ℕ → List ℕ → Reading Token) → tree_at levels nodes i [] next ≡ stopped (faults.Cut i)
cut_node zero nodes i next = refl
cut_node (suc k) nodes i next = refl

-- no byte is left for a node
pub tree_cut : (bytes : List ℕ) (i levels nodes : ℕ) (e : TreeError) → (e ≡ faults.Cut i) × (drop i bytes ≡ [])
    → IsValueFault (tree_at levels nodes i (drop i bytes)) e
tree_cut bytes i levels nodes e h next =
    subst (λ (x : TreeError). IsErrorOf (tree_at levels nodes i (drop i bytes) next).fault x) (sym h.0)
    (stops _ (faults.Cut i) (ap (λ (bs : List ℕ). tree_at levels nodes i bs next) h.1 ∙ cut_node levels nodes i next))

many_nodes : (levels nodes i b : ℕ) (bytes : List ℕ) (next : ℕ → ℕ → List ℕ → Reading Token) → 1000000 ≤ nodes
    → tree_at levels nodes i (b ∷ bytes) next ≡ stopped (faults.TooMany i)
many_nodes zero nodes i b bytes next l = rw (tree_at, lt_false nodes 1000000 l) refl
many_nodes (suc k) nodes i b bytes next l = rw (tree_at, lt_false nodes 1000000 l) refl

pub too_many : (bytes : List ℕ) (i j b levels nodes : ℕ) → Stands bytes i j (b ∷ []) → 1000000 ≤ nodes
    → IsValueFault (tree_at levels nodes i (drop i bytes)) (faults.TooMany i)
too_many bytes i j b levels nodes s l next =
    stops _ (faults.TooMany i) (node_begins bytes i j b levels nodes next s ∙ many_nodes levels nodes i b (drop j bytes) next l)

deep_node : (levels nodes i b : ℕ) (bytes : List ℕ) (next : ℕ → ℕ → List ℕ → Reading Token) → nodes < 1000000 → levels ≡ 0
    → tree_at levels nodes i (b ∷ bytes) next ≡ stopped (faults.TooDeep i)
deep_node zero nodes i b bytes next l e = rw (tree_at, lt_true nodes 1000000 l) refl
deep_node (suc k) nodes i b bytes next l e = absurd (omega arith)

pub too_deep : (bytes : List ℕ) (i j b levels nodes : ℕ) → Stands bytes i j (b ∷ []) → nodes < 1000000 → levels ≡ 0
    → IsValueFault (tree_at levels nodes i (drop i bytes)) (faults.TooDeep i)
too_deep bytes i j b levels nodes s l e next =
    stops _ (faults.TooDeep i) (node_begins bytes i j b levels nodes next s ∙ deep_node levels nodes i b (drop j bytes) next l e)

other_node : (levels nodes i b : ℕ) (bytes : List ℕ) (next : ℕ → ℕ → List ℕ → Reading Token) → nodes < 1000000 → 0 < levels
    → (b ≡ 76 → ⊥) → (b ≡ 83 → ⊥) → tree_at levels nodes i (b ∷ bytes) next ≡ stopped (faults.Tag i)
other_node zero nodes i b bytes next l some not_leaf not_split = absurd (omega arith)
other_node (suc k) nodes i b bytes next l some not_leaf not_split =
    rw (tree_at, lt_true nodes 1000000 l, apart b 76 not_leaf, apart b 83 not_split) refl

pub node_fails : (bytes : List ℕ) (i j b levels nodes : ℕ) → Stands bytes i j (b ∷ []) → nodes < 1000000 → 0 < levels
    → (b ≡ 76 → ⊥) → (b ≡ 83 → ⊥) → IsValueFault (tree_at levels nodes i (drop i bytes)) (faults.Tag i)
node_fails bytes i j b levels nodes s l some not_leaf not_split next =
    stops _ (faults.Tag i)
    (node_begins bytes i j b levels nodes next s ∙ other_node levels nodes i b (drop j bytes) next l some not_leaf not_split)

-- ---- leaves

leaf_node : (levels nodes i : ℕ) (bytes : List ℕ) (next : ℕ → ℕ → List ℕ → Reading Token) → nodes < 1000000 → 0 < levels
    → tree_at levels nodes i (76 ∷ bytes) next ≡ cert_at (i + 1) bytes (next (nodes + 1))
leaf_node zero nodes i bytes next l some = absurd (omega arith)
leaf_node (suc k) nodes i bytes next l some = rw (tree_at, lt_true nodes 1000000 l) refl

pub leaf_fails : (bytes : List ℕ) (i j levels nodes : ℕ) (e : TreeError) → nodes < 1000000 → 0 < levels → Stands bytes i j (76 ∷ [])
    → IsFault (cert_at j (drop j bytes)) e → IsValueFault (tree_at levels nodes i (drop i bytes)) e
leaf_fails bytes i j levels nodes e l some s h next =
    error_at _ _ e
    (ap (λ (r : Reading Token). r.fault) (node_begins bytes i j 76 levels nodes next s
    ∙ leaf_node levels nodes i (drop j bytes) next l some
    ∙ ap (λ (p : ℕ). cert_at p (drop j bytes) (next (nodes + 1))) (sym s.place))) (h (next (nodes + 1)))

pub leaf_step : (levels nodes : ℕ) (c : Cert) → nodes < 1000000 → 0 < levels → IsCert 1024 c
    → IsTreeStep levels nodes (nodes + 1) (leaf c)
leaf_step levels nodes c l some h = record { deep = some; counted = refl; few = omega arith; numbers = h }

pub leaf_stands : (bytes : List ℕ) (i j k : ℕ) (c : Cert) → Stands bytes i j (76 ∷ []) → Stands bytes j k (cert_bytes c)
    → Stands bytes i k (tree_bytes (leaf c))
leaf_stands bytes i j k c a b = both_stand bytes i j k (76 ∷ []) (cert_bytes c) a b

-- ---- splits

pub cut_fails : (bytes : List ℕ) (i j col : ℕ) (e : TreeError) → col ≤ 4095 → Stands bytes i j (number col)
    → IsNumberFault (2 ^ 25) j (drop j bytes) e → IsFault (split_at i (drop i bytes)) e
cut_fails bytes i j col e fits s h next =
    error_at _ _ e (ap (λ (r : Reading Token). r.fault) (number_reads 4095 bytes i col j (lit< tt) fits s _)) (h _)

-- what comes after the byte of a split
sides_of : ℕ → ℕ → (ℕ → ℕ → List ℕ → Reading Token) → ℕ → List ℕ → Reading Token
sides_of k nodes next p rest = tree_at k (nodes + 1) p rest (λ n p rest. tree_at k n p rest next)

-- a split of at most some levels, whose sides have one less
pub record IsSplit (bytes : List ℕ) (i j levels k nodes : ℕ) : Type 0 where
  pub few : nodes < 1000000
  pub level : k + 1 ≡ levels
  pub on : Stands bytes i j (83 ∷ [])

pub is_split : (bytes : List ℕ) (i j levels nodes : ℕ) (kind : Kind) → Stands bytes i j (tag_of kind ∷ []) → kind ≡ Split
    → (0 < levels) × (nodes < 1000000) → IsSplit bytes i j levels (levels - 1) nodes
is_split bytes i j levels nodes kind s e some = record {
  few = some.1;
  level = (let l = some.0 in omega arith);
  on = subst (λ (k : Kind). Stands bytes i j (tag_of k ∷ [])) e s;
}

split_node : (levels k nodes i : ℕ) (bytes : List ℕ) (next : ℕ → ℕ → List ℕ → Reading Token) → nodes < 1000000 → k + 1 ≡ levels
    → tree_at levels nodes i (83 ∷ bytes) next ≡ split_at (i + 1) bytes (sides_of k nodes next)
unfolding sides_of
split_node levels k nodes i bytes next l e =
    ap (λ (n : ℕ). tree_at n nodes i (83 ∷ bytes) next) (sym e ∙ add-one k) ∙ rw (tree_at, lt_true nodes 1000000 l) refl

-- what a split is followed by
split_follows : (bytes : List ℕ) (i j levels k nodes : ℕ) (next : ℕ → ℕ → List ℕ → Reading Token) → IsSplit bytes i j levels k nodes
    → (tree_at levels nodes i (drop i bytes) next).fault ≡ (split_at j (drop j bytes) (sides_of k nodes next)).fault
split_follows bytes i j levels k nodes next s =
    ap (λ (r : Reading Token). r.fault) (node_begins bytes i j 83 levels nodes next s.on
    ∙ split_node levels k nodes i (drop j bytes) next s.few s.level
    ∙ ap (λ (p : ℕ). split_at p (drop j bytes) (sides_of k nodes next)) (sym s.on.place))

pub split_fails : (bytes : List ℕ) (i j levels k nodes : ℕ) (e : TreeError) → IsSplit bytes i j levels k nodes
    → IsFault (split_at j (drop j bytes)) e → IsValueFault (tree_at levels nodes i (drop i bytes)) e
split_fails bytes i j levels k nodes e s h next =
    error_at _ _ e (split_follows bytes i j levels k nodes next s) (h _)

-- a column and a number that may stand, from one place to another
pub record IsCut (bytes : List ℕ) (j k : ℕ) (s : ℕ × ℤ) : Type 0 where
  pub col : s.0 ≤ 4095
  pub cut : unsigned_abs s.1 ≤ 2 ^ 24
  pub on : Stands bytes j k (number s.0 ++ signed_number s.1)

pub is_cut : (bytes : List ℕ) (j k : ℕ) (s : ℕ × ℤ) → (s.0 ≤ 4095) × (unsigned_abs s.1 ≤ 2 ^ 24)
    → Stands bytes j k (number s.0 ++ signed_number s.1) → IsCut bytes j k s
is_cut bytes j k s within on = record { col = within.0; cut = within.1; on = on }

left_follows : (bytes : List ℕ) (i j l levels k nodes : ℕ) (s : ℕ × ℤ) (next : ℕ → ℕ → List ℕ → Reading Token)
    → IsSplit bytes i j levels k nodes → IsCut bytes j l s → (tree_at levels nodes i (drop i bytes) next).fault
    ≡ (tree_at k (nodes + 1) l (drop l bytes) (λ n p rest. tree_at k n p rest next)).fault
unfolding sides_of
left_follows bytes i j l levels k nodes s next a c =
    let others = drop l bytes in
    split_follows bytes i j levels k nodes next a
    ∙ ap (λ (r : Reading Token). r.fault) (
    ap (λ (bs : List ℕ). split_at j bs (sides_of k nodes next)) (c.on.is ∙ append_assoc (number s.0) (signed_number s.1) others)
    ∙ split_is_read s.0 s.1 j others (sides_of k nodes next) c.col c.cut
    ∙ ap (λ (p : ℕ). part_then (SplitAt s.0 s.1) (sides_of k nodes next p others))
    (let n = length-append (number s.0) (signed_number s.1) in let place = c.on.place in omega arith))

pub left_fails : (bytes : List ℕ) (i j l levels k nodes : ℕ) (s : ℕ × ℤ) (e : TreeError) → IsSplit bytes i j levels k nodes
    → IsCut bytes j l s → IsValueFault (tree_at k (nodes + 1) l (drop l bytes)) e → IsValueFault (tree_at levels nodes i (drop i bytes)) e
left_fails bytes i j l levels k nodes s e a c h next = error_at _ _ e (left_follows bytes i j l levels k nodes s next a c) (h _)

-- a tree that stands is read
tree_reads : (bytes : List ℕ) (i j levels before after : ℕ) (t : PlainTree) (next : ℕ → ℕ → List ℕ → Reading Token)
    → IsTreeStep levels before after t → Stands bytes i j (tree_bytes t)
    → (tree_at levels before i (drop i bytes) next).fault ≡ (next after j (drop j bytes)).fault
tree_reads bytes i j zero before after t next h s = absurd (let deep = h.deep in omega arith)
tree_reads bytes i j (suc k) before after t next h s =
    ap (λ (r : Reading Token). r.fault) (ap (λ (bs : List ℕ). tree_at (suc k) before i bs next) s.is
    ∙ tree_is_read t k before i (drop j bytes) next (let deep = h.deep in omega arith)
    (let few = h.few in let counted = h.counted in omega arith) h.numbers)
    ∙ ap (λ (n : ℕ). (next n (i + length (tree_bytes t)) (drop j bytes)).fault) (sym h.counted)
    ∙ ap (λ (p : ℕ). (next after p (drop j bytes)).fault) (sym s.place)

pub right_fails : (bytes : List ℕ) (i j l r levels k nodes after : ℕ) (s : ℕ × ℤ) (t : PlainTree) (e : TreeError)
    → IsSplit bytes i j levels k nodes → IsCut bytes j l s → IsTreeStep k (nodes + 1) after t → Stands bytes l r (tree_bytes t)
    → IsValueFault (tree_at k after r (drop r bytes)) e → IsValueFault (tree_at levels nodes i (drop i bytes)) e
right_fails bytes i j l r levels k nodes after s t e a c h u f next =
    error_at _ _ e (left_follows bytes i j l levels k nodes s next a c
    ∙ tree_reads bytes l r k (nodes + 1) after t (λ n p rest. tree_at k n p rest next) h u) (f next)

pub split_step : (bytes : List ℕ) (i j l levels k nodes middle after : ℕ) (s : ℕ × ℤ) (t u : PlainTree)
    → IsSplit bytes i j levels k nodes → IsCut bytes j l s → IsTreeStep k (nodes + 1) middle t → IsTreeStep k middle after u
    → IsTreeStep levels nodes after (split s.0 s.1 tt t u)
split_step bytes i j l levels k nodes middle after s t u a c x y = record {
  deep = (let p = x.deep in let q = y.deep in let e = a.level in omega arith);
  counted = (let p = x.counted in let q = y.counted in omega arith);
  few = y.few;
  numbers = (c.col, c.cut, x.numbers, y.numbers);
}

pub split_stands : (bytes : List ℕ) (i j l r m levels k nodes : ℕ) (s : ℕ × ℤ) (t u : PlainTree) → IsSplit bytes i j levels k nodes
    → IsCut bytes j l s → Stands bytes l r (tree_bytes t) → Stands bytes r m (tree_bytes u)
    → Stands bytes i m (tree_bytes (split s.0 s.1 tt t u))
split_stands bytes i j l r m levels k nodes s t u a c x y =
    both_stand bytes i j m (83 ∷ []) (number s.0 ++ signed_number s.1 ++ tree_bytes t ++ tree_bytes u) a.on
    (both_stand bytes j r m (number s.0 ++ signed_number s.1 ++ tree_bytes t) (tree_bytes u)
    (both_stand bytes j l r (number s.0 ++ signed_number s.1) (tree_bytes t) c.on x) y)
