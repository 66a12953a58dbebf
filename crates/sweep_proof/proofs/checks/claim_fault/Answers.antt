use Rattle.std.specs.Prelude.{length}
use Rattle.std.proofs.Common.{◌∙◌, sym, subst}
use Rattle.proof_tree.specs.Verdicts.{HasLength}
use Rattle.proof_tree.specs.declared.claims.Claim.TheVariants.{Best}
use Rattle.sweep_proof.proofs.DirectionLaws.{same_columns}
use Rattle.sweep_proof.proofs.checks.claim_fault.Goals as goal

pub first_breach-requires : goal.first_breach-requires
first_breach-requires c =
    let m = c.args.model.now in
    let size : HasLength (length m.columns) (Best c.in-Best.point) = subst (HasLength (length m.columns)) c.in-Best.is
    c.requires.fits.point in
    size ∙ sym (same_columns m c.args.dir.now _ c.in_ok-first-in-Best.first c.in_ok-first-in-Best.ensures)
