use Rattle.std.specs.Prelude.{[], pos}
use Rattle.std.proofs.Common.{arith, rules, sym, subst, ◌∙◌}
use Rattle.proof_tree.specs.Trees.{plain}
use Rattle.proof_tree.specs.declared.trees.Tree.{Tree, Leaf}
use Rattle.sweep_proof.proofs.CostLineLaws.{tree_there, walk_from, walk_there}
use Rattle.sweep_proof.proofs.ListLaws.{each_index}
use Rattle.sweep_proof.specs.CostSweeps.{FitsTree, tree_at}
use Rattle.sweep_proof.proofs.cost_checks.empty_fault.Goals as goal

pub tree_bound-bound-requires-clause-fits : goal.tree_bound-bound-requires-clause-fits
tree_bound-bound-requires-clause-fits c =
    let m = c.args.model.now in
    let s = c.args.sweep.now in
    let count = c.requires.trees in
    let fits : FitsTree m (tree_at s.trees 0) = each_index (λ (t : Tree). FitsTree m (plain t)) s.trees 0
    (Leaf (record { q = pos 0; y = [] })) c.requires.fits.trees (omega arith) in
    let is = c.tree_of-tree.ensures in
    (tree_there m c.args.dir.now _ _ c.in-Ok-Some.there (plain c.tree_of-tree.result.now)
    (sym c.in-Ok-Some.field-0-is ∙ c.in-Ok-Some.ensures) (subst (FitsTree m) (sym (search rules)) fits)).tree

pub tree_bound-bound-requires-clause-scratch : goal.tree_bound-bound-requires-clause-scratch
tree_bound-bound-requires-clause-scratch c = walk_there c.args.model.now c.args.dir.now _ _ c.in-Ok-Some.there _
    (sym c.in-Ok-Some.field-0-is ∙ c.in-Ok-Some.ensures) c.requires.scratch

pub returns-in-Ok-Some-clause-scratch : goal.returns-in-Ok-Some-clause-scratch
returns-in-Ok-Some-clause-scratch c = walk_from c.args.model.now c.args.dir.now _ _ c.in-Ok-Some.there _
    (sym c.in-Ok-Some.field-0-is ∙ c.in-Ok-Some.ensures) c.tree_bound-bound.ensures.scratch
