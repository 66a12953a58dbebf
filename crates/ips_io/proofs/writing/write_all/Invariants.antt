use Rattle.std.proofs.Common.{◌≡◌, ◌≤◌, ◌-◌, length, take}
use Rattle.ips_io.specs.Files.{Takes}
use Rattle.ips_io.proofs.writing.write_all.Given as goal

abbrev pub invariant-loop-done : goal.invariant-loop-done
invariant-loop-done g l = record {
  within : l.done ≤ length l.bytes;
  faults : g.K.Sink.faults l.out ≡ g.K.Sink.faults l.fn.out;
  taken : Takes (g.K.Sink.taken l.fn.out) (g.K.Sink.taken l.out) (take l.done l.bytes);
}

abbrev pub decreases-loop-done : goal.decreases-loop-done
decreases-loop-done g l = length l.bytes - l.done
