use Rattle.std.proofs.Common.{arith, ◌+◌, ◌∙◌, ap, length, List, if◌then◌else◌, nat_lt}
use Rattle.frac128.specs.Fractions.{Fraction}
use Rattle.ip_defs.specs.declared.programs.Column.{Column}
use Rattle.ip_defs.specs.declared.programs.Row.{Row}
use Rattle.tableau.specs.declared.positions.Rest.TheVariants.{Basic, Low}
use Rattle.tableau.specs.declared.variables.Variable.{Variable}
use Rattle.tableau.specs.Nodes.{listed, start_entry}
use Rattle.tableau.proofs.ListLaws.{length-listed}
use Rattle.tableau.proofs.StartLaws.{start-table, variable_count}
use Rattle.tableau.proofs.starts.start_at.Goals as goal

pub new-requires-clause-table : goal.new-requires-clause-table
new-requires-clause-table c =
    let m = c.args.parts.now in
    let columns = ap (λ (cs : List Column). length cs) c.as_slice-columns.ensures in
    let rows = ap (λ (rs : List Row). length rs) c.as_slice-count.ensures in
    let basics = c.in_ok-basics.ensures ∙ ap (λ n. listed (length c.as_slice-count.result.now) (λ k. n + k)) columns
    ∙ ap (λ n. listed n (λ k. length m.columns + k)) rows in
    let positions = c.in_ok-positions.ensures
    ∙ ap (λ n. listed (n + length c.as_slice-count.result.now) (λ v. if nat_lt v n then Low else Basic)) columns
    ∙ ap (λ n. listed (length m.columns + n) (λ v. if nat_lt v (length m.columns) then Low else Basic)) rows in
    rw (c.in_ok-rows.ensures, basics, positions, c.in_ok-variables.ensures)
    (start-table m c.args.area.now c.requires.limits c.requires.size)

pub new-requires-clause-spare : goal.new-requires-clause-spare
new-requires-clause-spare c =
    let m = c.args.parts.now in
    let columns = ap (λ (cs : List Column). length cs) c.as_slice-columns.ensures in
    let rows = ap (λ (rs : List Row). length rs) c.as_slice-count.ensures in
    let count = ap (λ (zs : List (List Fraction)). length zs) c.in_ok-rows.ensures
    ∙ length-listed (length m.rows) (λ k. listed (length m.columns + length m.rows) (start_entry m k)) in
    let all = ap (λ (vs : List Variable). length vs) c.in_ok-variables.ensures
    ∙ variable_count m c.args.area.now c.requires.limits c.requires.size in
    let lines = c.in_ok-spare.ensures.count in
    let more = c.in_ok-quotients.ensures.size in
    record {
      lines = omega arith;
      size = λ i l. c.in_ok-spare.ensures.size i (omega arith) ∙ omega arith;
      quotients = omega arith;
    }
