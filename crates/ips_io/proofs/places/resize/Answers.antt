use Rattle.ips_io.proofs.TableLaws.{resized_set}
use Rattle.ips_io.proofs.places.resize.Goals as goal

pub returns : goal.returns
returns c = resized_set c.args.files.now c.args.index c.args.content _
