-- A certificate of the prices of a linear program bounds by just the cost of its point.
use Rattle.std.specs.Prelude.{ℕ, List, length, option_map, ℤ, pos}
use Rattle.std.proofs.Common.{ap, sym, ◌∙◌, subst}
use Rattle.ip_defs.specs.declared.certificates.Cert.{Cert}
use Rattle.ip_defs.specs.declared.programs.Parts.{Parts}
use Rattle.ip_defs.specs.Limits.{IsCert}
use Rattle.frac128.specs.Fractions.{Fraction}
use Rattle.frac128.specs.Rationals.{of, mul}
use Rattle.frac128.proofs.Rationals.{rationals}
use Rattle.lp_duality.specs.CertificateDuals.{AreMultiples, multiplier}
use Rattle.lp_duality.specs.Duals.{dual}
use Rattle.lp_duality.specs.Relaxations.{numbers_of}
use Rattle.lp_duality.proofs.CertificateLaws.{dual_whole}
use Rattle.lp_duality.proofs.ScaleLaws.{dual_same, dual_scaled}
use Rattle.lp_duality.proofs.SignLaws.{of_positive}
use Rattle.dual_rays.specs.Meanings.{IsOfPrices}
use Rattle.simplex_exact.specs.Answers.{IsBest}
use Rattle.node_bounds.specs.Internal.Relaxed.{IsBounded}
use Rattle.node_bounds.specs.Areas.{IsSearchArea}

pub prices_bound : (m : Parts) (b : List (ℤ × ℤ)) (n : ℕ) (xs ys : List Fraction) (c : Cert) → IsSearchArea m b
    → IsBest m b n xs ys → IsOfPrices ys c → IsBounded m b xs c
prices_bound m b n xs ys c within best prices =
    let q = of c.q in
    let y = numbers_of ys in
    let ok : IsCert (length m.rows) c = subst (λ (n : ℕ). IsCert n c) best.prices.size prices.certificate in
    let multiples : AreMultiples c (length m.rows) q y = subst (λ (n : ℕ). AreMultiples c n q y) best.prices.size prices.multipliers in
    record {
      size = best.point.size;
      relaxed = best.relaxed;
      certificate = ok;
      positive = prices.positive;
      dual = sym (dual_whole m b c ok.ordered within.area.size)
          ∙ dual_same m b q (multiplier c) (λ k. mul q (y k)) multiples
          ∙ ap (λ w. dual m b w (λ k. mul q (y k))) (sym (rationals.mul_one q))
          ∙ dual_scaled q (of_positive c.q prices.positive) m b (of (pos 1)) y
          ∙ ap (option_map (mul q)) best.dual;
    }
