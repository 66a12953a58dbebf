use Rattle.std.proofs.Common.{arith, ◌≡◌, ◌<◌, ◌∙◌, ap, length, length-set, neg_ℤ, List}
use Rattle.std.proofs.lemmas.Int.{ints}
use Rattle.frac128.specs.Fractions.{Fraction, whole}
use Rattle.ip_defs.specs.Limits.{index_at, value_at}
use Rattle.tableau.specs.Tables.{at}
use Rattle.tableau.proofs.StartLaws.{put_step}
use Rattle.tableau.proofs.starts.put_coefs.Goals as goal

pub loop-column-preserved : goal.loop-column-preserved
loop-column-preserved c =
    let coefs = c.args.coefs.now in
    let i = c.loop-column.column-index in
    let numbers = c.loop-column.line in
    let test : i < length coefs = c.loop-column-test.true in
    let small = c.requires.small i test in
    let size = c.loop-column.invariant.size in
    let value_is : c.from_whole.result ≡ whole (neg_ℤ (value_at coefs i)) = c.from_whole.ensures.exact ∙ ap whole (omega (arith, ints)) in
    let inside : index_at coefs i < length numbers = omega (arith, c.requires.ordered.within i test) in
    let same : length c.set.new.self ≡ length numbers = ap length c.set.ensures
    ∙ length-set numbers (index_at coefs i) c.from_whole.result in
    record {
      size = same ∙ size;
      numbers = λ v l. ap (λ (z : List Fraction). at z v) c.set.ensures
          ∙ put_step numbers coefs i c.from_whole.result test c.requires.ordered.rising inside c.loop-column.invariant.numbers value_is v
          (omega arith);
    }
