use Rattle.std.proofs.Common.{◌<◌, arith, length}
use Rattle.ips_io.proofs.memory_sinks.MemSinkSink.write.Goals as goal

pub returns-clause-some : goal.returns-clause-some
returns-clause-some c =
    let some : 0 < length c.args.bytes.now = c.requires in
    omega (arith, c.min-n.ensures, c.min.ensures, c.len.ensures, c.if-left-eq0.false, c.self.invariant.2)
