use Rattle.std.proofs.Common.{sym, ◌∙◌}
use Rattle.ipsens_core.proofs.SweepProofLaws.{misfit_owed}
use Rattle.ipsens_core.proofs.sweep_proof_files.understand.Goals as goal

pub returns-else-row_sweep_fits : goal.returns-else-row_sweep_fits
returns-else-row_sweep_fits c =
    misfit_owed c.args.model.now c.args.bytes.now c.in-Ok.sweep c.refused_with.result c.in-Ok.ensures.spelled
    (λ fits. absurd (cc (sym (c.row_sweep_fits.ensures.1 fits) ∙ c.if-row_sweep_fits.false))) c.refused_with.ensures
