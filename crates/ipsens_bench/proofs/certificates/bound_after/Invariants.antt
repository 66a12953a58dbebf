use Rattle.leaf_cert.specs.Scratches.{FitsScratch}
use Rattle.ipsens_bench.proofs.certificates.bound_after.Given as goal

abbrev pub invariant-loop : goal.invariant-loop
invariant-loop l = FitsScratch l.model-inside.parts l.scratch
