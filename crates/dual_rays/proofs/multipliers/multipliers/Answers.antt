use Rattle.std.proofs.Common.{rules, ◌≡◌, ◌∙◌, ap, sym, refl, to_z, of_z}
use Rattle.std.specs.Int.{w64}
use Rattle.std.specs.Prelude.{map, take, ◌^◌}
use Rattle.std.specs.List.{list_any}
use Rattle.ip_defs.specs.Limits.{exceeds}
use Rattle.frac128.specs.Values.{value_of}
use Rattle.dual_rays.specs.Multiples.{multiple}
use Rattle.dual_rays.specs.Certificates.{values}
use Rattle.dual_rays.proofs.LimitLaws.{multiplier_past, multiplier_within}
use Rattle.dual_rays.proofs.PresentLaws.{multiples-past, multiples-next, present-next, exceeds-none}
use Rattle.dual_rays.proofs.multipliers.multipliers.Goals as goal

pub returns-in-None : goal.returns-in-None
returns-in-None c =
    let x = c.index-prices-row.result in
    multiples-past c.args.q c.args.prices.now c.loop-row.row x c.loop-row-test.true c.index-prices-row.is
    (multiplier_past (multiple c.args.q (value_of x)) (sym c.multiplier.ensures ∙ c.in-None.is))

pub loop-row-preserved : goal.loop-row-preserved
loop-row-preserved c =
    let q = c.args.q in
    let xs = c.args.prices.now in
    let i = c.loop-row.row in
    let x = c.index-prices-row.result in
    let z = c.in-Some.multiple in
    let within = multiplier_within (multiple q (value_of x)) z (sym c.multiplier.ensures ∙ c.in-Some.is) in
    let next = multiples-next q xs i x c.loop-row-test.true c.index-prices-row.is in
    let read : to_z w64 (of_z w64 z) ≡ z = search rules in
    record {
      kept = c.in_ok-add-in-Some.ensures ∙ present-next q xs i x (to_z w64 (of_z w64 z)) i c.loop-row.y c.loop-row-test.true
          c.index-prices-row.is (read ∙ within.0) refl c.loop-row.invariant.kept;
      small = ap (list_any (exceeds (2 ^ 36))) next ∙ exceeds-none (map (multiple q) (values (take i xs))) (multiple q (value_of x))
          c.loop-row.invariant.small within.1;
    }
