use Rattle.std.proofs.Common.{◌∙◌, arith, ap, length, length-drop}
use Rattle.ips_io.proofs.PieceLaws.{rest_from, takes_next}
use Rattle.ips_io.proofs.writing.write_all.Goals as goal

pub loop-done-preserved : goal.loop-done-preserved
loop-done-preserved g c = record {
  within =
      let cut = ap length (rest_from c.args.bytes.now c.loop-done.done) in
      let rest = length-drop c.loop-done.done c.args.bytes.now in
      omega (arith, c.in-Ok.ensures.bound);
  faults = c.in-Ok.ensures.cause.stands ∙ c.loop-done.invariant.faults;
  taken = takes_next _ _ _ _ _ _ c.loop-done.invariant.taken c.in-Ok.ensures.takes;
}
