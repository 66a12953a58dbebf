use Rattle.std.specs.Prelude.{IsTrue}
use Rattle.std.proofs.Common.{sym, subst}
use Rattle.proof_tree.specs.Trees.{FitsColumns, FitsRows, plain}
use Rattle.proof_tree.specs.declared.trees.Tree.{Tree}
use Rattle.sweep_proof.proofs.ListLaws.{below_each, each_below}
use Rattle.sweep_proof.proofs.fits.+tree_fits.Goals as goal

pub returns-in-Leaf : goal.returns-in-Leaf
returns-in-Leaf t c =
    let k = c.args.rows in
    let both = rw c.as_slice.ensures at c.are_below.ensures in
    subst (λ (s : Tree). (IsTrue c.are_below.result → FitsColumns c.args.columns (plain s) × FitsRows k (plain s))
    × (FitsColumns c.args.columns (plain s) × FitsRows k (plain s) → IsTrue c.are_below.result)) (sym c.in-Leaf.is)
    (λ h. (tt, each_below k c.in-Leaf.cert.y (both.0 h)), λ h. both.1 (below_each k c.in-Leaf.cert.y h.1))
