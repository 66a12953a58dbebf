use Rattle.ip_defs.specs.Lists.{Each}
use Rattle.sweep_proof.proofs.CostLineLaws.{points_there, tree_there, walk_from, walk_there}
use Rattle.sweep_proof.proofs.ListLaws.{each_index}
use Rattle.sweep_proof.specs.CostSweeps.{FitsPoint, FitsTree, tree_at}
use Rattle.proof_tree.specs.Trees.{plain}
use Rattle.proof_tree.specs.declared.trees.Tree.{Tree, Leaf}
use Rattle.std.specs.Prelude.{[], pos}
use Rattle.std.proofs.Common.{arith, rules, sym, subst, ◌∙◌}
use Rattle.sweep_proof.proofs.cost_checks.break_fault.Goals as goal

pub fault_there-requires-clause-fits : goal.fault_there-requires-clause-fits
fault_there-requires-clause-fits c = subst (Each (FitsPoint c.in-Ok-Some.there)) (sym c.as_slice-points.ensures)
    (points_there c.args.model.now c.args.dir.now _ _ c.in-Ok-Some.there _ (sym c.in-Ok-Some.field-0-is ∙ c.in-Ok-Some.ensures)
    c.requires.fits.points)

pub fault_there-requires-clause-tree : goal.fault_there-requires-clause-tree
fault_there-requires-clause-tree c =
    let m = c.args.model.now in
    let s = c.args.sweep.now in
    let inside = c.requires.inside in
    let count = c.requires.trees in
    let fits : FitsTree m (tree_at s.trees c.args.k) = each_index (λ (t : Tree). FitsTree m (plain t)) s.trees c.args.k
    (Leaf (record { q = pos 0; y = [] })) c.requires.fits.trees (omega arith) in
    let is = c.tree_of-tree.ensures in
    tree_there m c.args.dir.now _ _ c.in-Ok-Some.there (plain c.tree_of-tree.result.now)
    (sym c.in-Ok-Some.field-0-is ∙ c.in-Ok-Some.ensures) (subst (FitsTree m) (sym (search rules)) fits)

pub fault_there-requires-clause-scratch : goal.fault_there-requires-clause-scratch
fault_there-requires-clause-scratch c = walk_there c.args.model.now c.args.dir.now _ _ c.in-Ok-Some.there _
    (sym c.in-Ok-Some.field-0-is ∙ c.in-Ok-Some.ensures) c.requires.scratch

pub returns-in-Ok-Some-clause-scratch : goal.returns-in-Ok-Some-clause-scratch
returns-in-Ok-Some-clause-scratch c = walk_from c.args.model.now c.args.dir.now _ _ c.in-Ok-Some.there _
    (sym c.in-Ok-Some.field-0-is ∙ c.in-Ok-Some.ensures) c.fault_there.ensures.scratch
