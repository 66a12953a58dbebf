use Rattle.dual_rays.proofs.AnswerLaws.{of-answer, of-no-answer}
use Rattle.dual_rays.proofs.NoneLaws.{no-certificate}
use Rattle.dual_rays.proofs.PriceLaws.{is-of-prices, bounds-by-prices}
use Rattle.dual_rays.proofs.prices.cert_of_prices.Goals as goal

pub returns-clause-meaning : goal.returns-clause-meaning
returns-clause-meaning c = of-answer _ _ _ (is-of-prices c.args.prices.now) (rw c.as_slice.ensures at c.certificate.ensures)

pub returns-clause-bound : goal.returns-clause-bound
returns-clause-bound c = of-answer _ _ _ (bounds-by-prices c.args.prices.now) (rw c.as_slice.ensures at c.certificate.ensures)

pub returns-clause-none : goal.returns-clause-none
returns-clause-none c = of-no-answer _ _ _ (no-certificate c.args.prices.now) (rw c.as_slice.ensures at c.certificate.ensures)
