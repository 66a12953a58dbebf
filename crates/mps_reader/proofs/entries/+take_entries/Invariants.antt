use Rattle.std.proofs.Common.{length}
use Rattle.mps_reader.proofs.entries.+take_entries.Given as goal

abbrev pub decreases-take_entries : goal.decreases-take_entries
decreases-take_entries l = length l.fields.now
