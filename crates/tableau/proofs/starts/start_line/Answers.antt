use Rattle.std.proofs.Common.{arith, ◌≡◌, ◌+◌, ◌∙◌, ap, length, Some, ℕ, ℤ, List, neg_ℤ}
use Rattle.std.specs.Prelude.{slice_get, slice_set}
use Rattle.frac128.specs.Fractions.{Fraction, whole}
use Rattle.ip_defs.specs.Program.{coefficient}
use Rattle.ip_defs.specs.declared.programs.Column.{Column}
use Rattle.ip_defs.specs.declared.programs.Row.{Row}
use Rattle.ip_model.proofs.PlaceLaws.{read_at}
use Rattle.tableau.proofs.StartLaws.{AreOrdered-wider, start_line_is}
use Rattle.tableau.proofs.starts.start_line.Goals as goal

pub put_coefs-requires-clause-ordered : goal.put_coefs-requires-clause-ordered
put_coefs-requires-clause-ordered c =
    let m = c.args.parts.now in
    let row = c.index-rows-k.result in
    let found : slice_get m.rows c.args.k ≡ Some row = read_at m.rows c.as_slice-rows.result.now c.args.k row c.as_slice-rows.ensures
    (rw c.as_slice-rows.ensures c.requires.row) c.index-rows-k.is in
    let same = ap (λ (cs : List Column). length cs) c.as_slice-columns.ensures in
    let size = c.in_ok-line.ensures.size in
    rw c.as_slice.ensures (AreOrdered-wider (length m.columns) (length c.in_ok-line.line) row.coefs (omega arith)
    (c.requires.limits.shape.rows c.args.k row found).coefs)

pub put_coefs-requires-clause-small : goal.put_coefs-requires-clause-small
put_coefs-requires-clause-small c = rw c.as_slice.ensures (c.requires.limits.rows c.args.k c.index-rows-k.result
    (read_at c.args.parts.now.rows c.as_slice-rows.result.now c.args.k c.index-rows-k.result c.as_slice-rows.ensures
    (rw c.as_slice-rows.ensures c.requires.row) c.index-rows-k.is)).coefs

pub returns : goal.returns
returns c =
    let m = c.args.parts.now in
    let row = c.index-rows-k.result in
    let k = c.args.k in
    let numbers = c.put_coefs.new.line in
    let found : slice_get m.rows k ≡ Some row = read_at m.rows c.as_slice-rows.result.now k row c.as_slice-rows.ensures
    (rw c.as_slice-rows.ensures c.requires.row) c.index-rows-k.is in
    let columns = ap (λ (cs : List Column). length cs) c.as_slice-columns.ensures in
    let rows = ap (λ (rs : List Row). length rs) c.as_slice-rows.ensures in
    let first = c.in_ok-line.ensures.size in
    let second = c.put_coefs.ensures.size in
    c.set.ensures
    ∙ ap (λ z. slice_set numbers (z + k) c.from_whole.result) columns
    ∙ ap (λ (y : Fraction). slice_set numbers (length m.columns + k) y) c.from_whole.ensures.exact
    ∙ start_line_is m k row numbers found (c.requires.limits.shape.rows k row found).coefs c.requires.row (omega arith)
    (λ v l. c.put_coefs.ensures.numbers v (omega arith) ∙ ap (λ (cs : List (ℕ × ℤ)). whole (neg_ℤ (coefficient cs v))) c.as_slice.ensures)
