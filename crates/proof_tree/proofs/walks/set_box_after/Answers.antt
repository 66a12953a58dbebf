use Rattle.std.proofs.Common.{rules, sym, subst, length, Some}
use Rattle.std.specs.Int.{w128}
use Rattle.std.proofs.lemmas.Int.{to_z-of_z}
use Rattle.ip_defs.specs.Limits.{IsArea}
use Rattle.ip_defs.proofs.BoxLaws.{box_within}
use Rattle.leaf_cert.specs.Changes.{IsChange}
use Rattle.proof_tree.proofs.ChangedBoxes.{changed_within}
use Rattle.proof_tree.proofs.walks.set_box_after.Goals as goal

pub returns-in-Some-clause-limits : goal.returns-in-Some-clause-limits
returns-in-Some-clause-limits c =
    let m = c.args.model.now in
    subst (IsArea (length m.columns)) (sym (rw (to_z-of_z w128 c.in-Some.by (search rules)) at c.raise_side.ensures))
    (changed_within m (Some (c.in-Some.place, c.in-Some.by)) c.set_box.ensures.limits (subst (IsChange m) c.in-Some.is c.requires.change))

pub returns-in-None-clause-limits : goal.returns-in-None-clause-limits
returns-in-None-clause-limits c =
    let m = c.args.model.now in
    subst (IsArea (length m.columns)) (sym c.set_box.ensures.sides) (box_within m c.set_box.ensures.limits)
