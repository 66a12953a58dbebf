use Rattle.std.proofs.Common.{arith, sym, ap, ◌∙◌, ◌≡◌, ◌++◌, ◌+◌, [], drop, get_or, ◌∷◌, drop-cons, pos, suc, to_z, of_z}
use Rattle.std.specs.Int.{w128, w64}
use Rattle.std.proofs.lemmas.Int.{ints}
use Rattle.mps_defs.specs.declared.reading.Number.TheVariants.{Dec}
use Rattle.mps_reader.specs.Internal.Clamps.{clamped, clamped_coefs}
use Rattle.mps_reader.specs.Internal.Drafted.{drafted_coefs}
use Rattle.mps_reader.proofs.ModelListLaws.{coefs_skip, coefs_take}
use Rattle.mps_reader.proofs.row_list.coefs_of.Goals as goal
use Rattle.mps_reader.proofs.row_list.coefs_of.Goals.{then-coefficient-ne0+in_ok-push, else-coefficient-ne0}

pub loop-entry-preserved : goal.loop-entry-preserved
loop-entry-preserved c =
    let k = c.args.decimals in
    let entries = c.args.entries.now in
    let i = c.loop-entry.entry-index in
    let p = get_or entries i (0, Dec (pos 0) 0) in
    let rest = drop (i + 1) entries in
    let next : i + 1 ≡ suc i = omega arith in
    let split : drop i entries ≡ p ∷ rest =
    drop-cons entries i (0, Dec (pos 0) 0) c.loop-entry-test.true ∙ ap (λ j. p ∷ drop j entries) (sym next) in
    let done = c.loop-entry.coefs.items in
    let before : done ++ clamped_coefs (drafted_coefs k (p ∷ rest)) ≡ clamped_coefs (drafted_coefs k entries) =
    ap (λ l. done ++ clamped_coefs (drafted_coefs k l)) (sym split) ∙ c.loop-entry.invariant in
    let back : to_z w128 (of_z w128 c.units.result) ≡ c.units.result = omega (arith, ints) in
    let is = c.clamped-coefficient.ensures ∙ ap clamped back ∙ ap clamped c.units.ensures in
    let back_word : to_z w64 (of_z w64 c.clamped-coefficient.result) ≡ c.clamped-coefficient.result = omega (arith, ints) in
    elim c.if-coefficient-ne0.branch [
      | then-coefficient-ne0+in_ok-push w ↦ ap (λ v. v.items ++ clamped_coefs (drafted_coefs k rest)) w.coefs-is
          ∙ ap (λ l. l ++ clamped_coefs (drafted_coefs k rest)) w.in_ok-push.ensures.items
          ∙ ap (λ n. (done ++ (n, to_z w64 (of_z w64 c.clamped-coefficient.result)) ∷ [])
          ++ clamped_coefs (drafted_coefs k rest)) w.column_number.ensures ∙ ap (λ z. (done ++ (p.0, z) ∷ [])
          ++ clamped_coefs (drafted_coefs k rest)) back_word
          ∙ coefs_take k p rest done c.clamped-coefficient.result is (λ e. w.if-coefficient-ne0.true (ap (of_z w64) e)) ∙ before
      | else-coefficient-ne0 w ↦ ap (λ v. v.items ++ clamped_coefs (drafted_coefs k rest)) w.coefs-is
          ∙ coefs_skip k p rest done c.clamped-coefficient.result is (let none = w.if-coefficient-ne0.false in omega (arith, ints)) ∙ before
    ]
