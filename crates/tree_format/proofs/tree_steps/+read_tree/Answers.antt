use Rattle.std.proofs.Common.{◌∷◌, [], ◌-◌, subst}
use Rattle.proof_tree.specs.Trees.{plain}
use Rattle.tree_format.specs.Internal.Steps.{Stands, tag_of}
use Rattle.tree_format.specs.declared.tree_steps.Kind.{Kind}
use Rattle.tree_format.proofs.TreeStepLaws.{leaf_fails, is_split, is_cut, split_fails, left_fails, right_fails}
use Rattle.tree_format.proofs.tree_steps.+read_tree.Goals as goal

pub returns-in-Err-read_cert-clause-fault : goal.returns-in-Err-read_cert-clause-fault
returns-in-Err-read_cert-clause-fault t c =
    let bytes = c.args.bytes.now in
    let i = c.args.at.now in
    let j = c.read_kind.new.at in
    let some = c.in-Ok.ensures.some in
    let tag = subst (λ (k : Kind). Stands bytes i j (tag_of k ∷ [])) c.in-Leaf.is c.in-Ok.ensures.on in
    leaf_fails bytes i j c.args.levels c.args.nodes.now c.in-Err-read_cert.fault some.1 some.0 tag c.in-Err-read_cert.ensures.fault

pub returns-in-Err-read_split-clause-fault : goal.returns-in-Err-read_split-clause-fault
returns-in-Err-read_split-clause-fault t c =
    let bytes = c.args.bytes.now in
    let i = c.args.at.now in
    let j = c.read_kind.new.at in
    let levels = c.args.levels in
    let nodes = c.args.nodes.now in
    let split = is_split bytes i j levels nodes c.in-Ok.kind c.in-Ok.ensures.on c.in-Split.is c.in-Ok.ensures.some in
    split_fails bytes i j levels (levels - 1) nodes c.in-Err-read_split.fault split c.in-Err-read_split.ensures.fault

pub returns-in-Err-read_tree-clause-fault : goal.returns-in-Err-read_tree-clause-fault
returns-in-Err-read_tree-clause-fault t c =
    let bytes = c.args.bytes.now in
    let i = c.args.at.now in
    let j = c.read_kind.new.at in
    let l = c.read_split.new.at in
    let levels = c.args.levels in
    let nodes = c.args.nodes.now in
    let s = c.in-Ok-read_split.split in
    let split = is_split bytes i j levels nodes c.in-Ok.kind c.in-Ok.ensures.on c.in-Split.is c.in-Ok.ensures.some in
    let cut = is_cut bytes j l s c.in-Ok-read_split.ensures.within c.in-Ok-read_split.ensures.on in
    left_fails bytes i j l levels (levels - 1) nodes s c.in-Err-read_tree.fault split cut c.in-Err-read_tree.ensures.fault

pub returns-in-Err-read_tree-2-clause-fault : goal.returns-in-Err-read_tree-2-clause-fault
returns-in-Err-read_tree-2-clause-fault t c =
    let bytes = c.args.bytes.now in
    let i = c.args.at.now in
    let j = c.read_kind.new.at in
    let l = c.read_split.new.at in
    let levels = c.args.levels in
    let nodes = c.args.nodes.now in
    let s = c.in-Ok-read_split.split in
    let split = is_split bytes i j levels nodes c.in-Ok.kind c.in-Ok.ensures.on c.in-Split.is c.in-Ok.ensures.some in
    let cut = is_cut bytes j l s c.in-Ok-read_split.ensures.within c.in-Ok-read_split.ensures.on in
    let left = c.in-Ok-read_tree.ensures in
    right_fails bytes i j l c.read_tree.new.at levels (levels - 1) nodes c.read_tree.new.nodes s (plain c.in-Ok-read_tree.left)
    c.in-Err-read_tree-2.fault split cut left.within left.on c.in-Err-read_tree-2.ensures.fault
