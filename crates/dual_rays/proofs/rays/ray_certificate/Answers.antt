use Rattle.std.proofs.Common.{◌∙◌, ap, sym, subst, Some}
use Rattle.frac128.specs.Values.{value_of}
use Rattle.dual_rays.specs.Certificates.{values, certificate_of_prices}
use Rattle.dual_rays.specs.Internal.Quotients.{AreQuotients}
use Rattle.dual_rays.proofs.RayCertificateLaws.{certificate, zero-ray, wide-ray, unit-ray, without_divisor}
use Rattle.dual_rays.proofs.rays.ray_certificate.Goals as goal

pub returns-in-None : goal.returns-in-None
returns-in-None c = ap (λ y. Some (certificate 0 y)) (c.from_vec.ensures ∙ c.new.ensures.items)
    ∙ zero-ray c.args.ray.now (sym c.in-None.ensures.value)

pub returns-in-None-2 : goal.returns-in-None-2
returns-in-None-2 c =
    let xs = c.args.ray.now in
    let s = value_of c.in-Some.divisor in
    wide-ray xs s (sym c.in-Some.ensures.value) (subst (AreQuotients (values xs) s) c.in-None-2.is c.in_ok-numbers.ensures)

pub returns-in-Some-3 : goal.returns-in-Some-3
returns-in-Some-3 c =
    let xs = c.args.ray.now in
    let s = value_of c.in-Some.divisor in
    let divided = subst (AreQuotients (values xs) s) c.in-Some-2.is c.in_ok-numbers.ensures in
    ap without_divisor (sym c.in-Some-3.is ∙ c.in_ok-cert.ensures ∙ ap certificate_of_prices c.as_slice.ensures)
    ∙ unit-ray xs s (sym c.in-Some.ensures.value) c.in-Some-2.numbers divided

pub returns : goal.returns
returns c =
    let xs = c.args.ray.now in
    let s = value_of c.in-Some.divisor in
    let divided = subst (AreQuotients (values xs) s) c.in-Some-2.is c.in_ok-numbers.ensures in
    ap without_divisor (sym c.in-None-3.is ∙ c.in_ok-cert.ensures ∙ ap certificate_of_prices c.as_slice.ensures)
    ∙ unit-ray xs s (sym c.in-Some.ensures.value) c.in-Some-2.numbers divided
