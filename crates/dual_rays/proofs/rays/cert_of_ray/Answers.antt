use Rattle.dual_rays.proofs.AnswerLaws.{of-answer, of-no-answer}
use Rattle.dual_rays.proofs.NoneLaws.{no-ray}
use Rattle.dual_rays.proofs.RayLaws.{is-of-ray, bounds-by-ray}
use Rattle.dual_rays.proofs.rays.cert_of_ray.Goals as goal

pub returns-clause-meaning : goal.returns-clause-meaning
returns-clause-meaning c = of-answer _ _ _ (is-of-ray c.args.ray.now) (rw c.as_slice.ensures at c.ray_certificate.ensures)

pub returns-clause-bound : goal.returns-clause-bound
returns-clause-bound c = of-answer _ _ _ (bounds-by-ray c.args.ray.now) (rw c.as_slice.ensures at c.ray_certificate.ensures)

pub returns-clause-none : goal.returns-clause-none
returns-clause-none c = of-no-answer _ _ _ (no-ray c.args.ray.now) (rw c.as_slice.ensures at c.ray_certificate.ensures)
