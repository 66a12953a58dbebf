use Rattle.std.proofs.Common.{◌+◌, length}
use Rattle.tableau.specs.Nodes.{listed, start_entry}
use Rattle.tableau.proofs.ListLaws.{listed-push}
use Rattle.tableau.proofs.starts.start_rows.Goals as goal

pub loop-k-preserved : goal.loop-k-preserved
loop-k-preserved c =
    let m = c.args.parts.now in
    listed-push c.loop-k.k (λ k. listed (length m.columns + length m.rows) (start_entry m k)) _ c.loop-k.lines.items c.push.new.self.items
    c.in_ok-push.ensures.items c.loop-k.invariant c.in_ok-start_line.ensures
