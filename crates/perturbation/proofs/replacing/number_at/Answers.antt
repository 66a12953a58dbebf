use Rattle.std.proofs.Common.{rules, sym, ap, ◌∙◌, ◌≡◌, length}
use Rattle.std.specs.Int.{w64}
use Rattle.std.specs.Prelude.{Option}
use mir.Val.{SFits}
use Rattle.std.proofs.lemmas.Int.{to_z-of_z}
use Rattle.ip_defs.specs.Certificates.{coefs_of}
use Rattle.ip_defs.specs.Program.{coefficient}
use Rattle.ip_defs.specs.declared.programs.Row.{Row}
use Rattle.ip_model.proofs.PlaceLaws.{read_at}
use Rattle.ip_model.specs.Places.{number_of}
use Rattle.perturbation.proofs.replacing.number_at.Goals as goal

pub returns-in-Coef : goal.returns-in-Coef
returns-in-Coef c =
    let m = c.args.parts.now in
    let i = c.in-Coef.i in
    let j = c.in-Coef.j in
    let row = c.index-rows-i-in-Coef.result in
    let fits : SFits w64 c.coefficient_at.result = search rules in
    let back = to_z-of_z w64 c.coefficient_at.result fits in
    let rows = c.as_slice-rows.ensures in
    let exists = rw c.in-Coef.is at c.requires.exists in
    let found = read_at m.rows c.as_slice-rows.result.now i row rows (rw rows exists.0) c.index-rows-i-in-Coef.is in
    let ordered = (c.requires.limits.shape.rows i row found).coefs in
    let same : c.as_slice.result.now ≡ row.coefs = c.as_slice.ensures ∙ ap (λ (r : Row). r.coefs) (sym c.index-rows-i-in-Coef.is) in
    let value = c.coefficient_at.ensures (length m.columns) (rw same ordered) in
    let is : c.coefficient_at.result ≡ coefficient row.coefs j = rw same at value in
    back ∙ is ∙ ap (λ (o : Option Row). coefficient (coefs_of o) j) (sym found) ∙ ap (number_of m) (sym c.in-Coef.is)
