use Rattle.decimals.proofs.NumberLaws.{read_below}
use Rattle.decimals.proofs.numbers.read_number.Goals as goal

pub returns-clause-below : goal.returns-clause-below
returns-clause-below c = rw c.number_in.ensures (rw c.as_bytes.ensures.value (read_below c.args.text.now))
