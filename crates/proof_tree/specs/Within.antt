-- Trees within the limits, in terms of each node, and what it means that a tree exceeds no limit or has no misfit.
use Rattle.std.specs.Prelude.{◌≡◌, ◌^◌, ◌≤◌, length, None}
use Rattle.std.specs.Int.RustNames.{unsigned_abs}
use Rattle.ip_defs.specs.declared.programs.Parts.{Parts}
use Rattle.ip_defs.specs.Limits.{IsCert}
use Rattle.proof_tree.specs.LabelledTrees.{leaf, split, node_count, depth}
use Rattle.proof_tree.specs.Trees.{plain, PlainTree, FitsModel, tree_limit}
use Rattle.proof_tree.specs.Verdicts.{HasLength, proof_misfit}
use Rattle.proof_tree.specs.declared.claims.Proof.{Proof}

-- each number of a tree is within its limit, and each certificate is one for 1024 rows
abbrev pub AreNumbersWithin : PlainTree → Type 0
AreNumbersWithin (leaf c) = IsCert 1024 c
AreNumbersWithin (split col cut y left right) = (col ≤ 4095) × (unsigned_abs cut ≤ 2 ^ 24) × AreNumbersWithin left × AreNumbersWithin right

-- a tree is within the limits
pub record IsTreeWithin (t : PlainTree) : Type 0 where
  pub count : node_count t ≤ 1000000
  pub deep : depth t ≤ 800
  pub numbers : AreNumbersWithin t

-- no limit is exceeded exactly where the tree is within the limits
abbrev pub LimitsAreExact : Type 0
LimitsAreExact = (t : PlainTree) → (tree_limit t ≡ None → IsTreeWithin t) × (IsTreeWithin t → tree_limit t ≡ None)

-- a proof without a misfit: its point has one coordinate for each column, and the columns and rows that its tree names exist
abbrev pub MisfitsAreTrue : Type 0
MisfitsAreTrue = (m : Parts) (p : Proof) → proof_misfit m p ≡ None → HasLength (length m.columns) p.claim × FitsModel m (plain p.tree)
