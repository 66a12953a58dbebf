-- The ends of a range, in steps from 0.
use Rattle.std.specs.Prelude.{◌≡◌, ℕ, zero, suc, ◌+◌, ◌<◌, Bool, true, false, length, Option, Some, None, IfSome, ℤ, pos, ◌-ℤ◌, ◌+ℤ◌, ◌≤ℤ◌}
use Rattle.std.proofs.Common.{arith, refl, sym, subst}
use Rattle.std.proofs.lemmas.Int.{ints}
use Rattle.ip_defs.specs.declared.programs.Parts.{Parts}
use Rattle.ip_model.specs.declared.places.Place.{Place}
use Rattle.ip_model.specs.Places.{raised}
use Rattle.proof_tree.specs.Trees.{PlainTree, FitsColumns, plain}
use Rattle.range_laws.specs.Laws.{Holds}
use Rattle.range_laws.specs.Ranges.{PlainAim, IsRange}
use Rattle.range_laws.proofs.RangeLaws.{ends_are_ranges, good_changes_are_runs, good_changes_hold}
use Rattle.range_finder.specs.Aims.{plain_aim}
use Rattle.range_finder.specs.Internal.Asked.{IsGood, steps_by}
use Rattle.range_finder.specs.declared.asked.Asked.{Asked}

no_steps : (up : Bool) → pos 0 ≡ steps_by up 0
no_steps true = refl
no_steps false = omega (arith, ints)

-- where 0 is good and some number of steps is not, that number is not 0
pub some_steps : (a : Asked) (up : Bool) (most : ℕ) → IsGood a (pos 0) → ¬ IsGood a (steps_by up most) → 0 < most
some_steps a up zero now bad = absurd (bad (subst (IsGood a) (no_steps up) now))
some_steps a up (suc n) now bad = omega arith

-- between good steps down and good steps up 0 is good
pub good_between : (a : Asked) (down up : ℕ) → IsGood a (steps_by false down) → IsGood a (steps_by true up) → IsGood a (pos 0)
good_between a down up first last = good_changes_are_runs a.model.now (plain a.tree.now) a.place (plain_aim a.aim) (steps_by false down)
    (pos 0) (steps_by true up) (omega (arith, ints)) (omega (arith, ints)) first last

-- no steps are good where 0 is
pub none_good : (a : Asked) (up : Bool) → IsGood a (pos 0) → IsGood a (steps_by up 0)
none_good a up now = subst (IsGood a) (no_steps up) now

-- the last good steps down and up are the range
pub last_steps : (a : Asked) (down up : ℕ) (from to : ℤ) → from ≡ steps_by false down → to ≡ steps_by true up
    → IsGood a (steps_by false down) → ¬ IsGood a (steps_by false (down + 1)) → IsGood a (steps_by true up)
    → ¬ IsGood a (steps_by true (up + 1)) → IsRange a.model.now (plain a.tree.now) a.place (plain_aim a.aim) (Some (from, to))
last_steps a down up from to is_from is_to first before last after = ends_are_ranges a.model.now (plain a.tree.now) a.place
    (plain_aim a.aim) from to (omega (arith, ints)) (omega (arith, ints)) (subst (IsGood a) (sym is_from) first)
    (subst (IsGood a) (sym is_to) last) (λ good. before (subst (IsGood a) lower good)) (λ good. after (subst (IsGood a) upper good))
  where
    lower : from -ℤ pos 1 ≡ steps_by false (down + 1)
    lower = omega (arith, ints)

    upper : to +ℤ pos 1 ≡ steps_by true (up + 1)
    upper = omega (arith, ints)

-- the aim holds after each change of a range
pub range_holds : (m : Parts) (t : PlainTree) (p : Place) (aim : PlainAim) (o : Option (ℤ × ℤ)) → FitsColumns (length m.columns) t
    → IsRange m t p aim o → IfSome o (λ run. (e : ℤ) → run.0 ≤ℤ e → e ≤ℤ run.1 → Holds aim (raised m p e))
range_holds m t p aim None fits is = tt
range_holds m t p aim (Some run) fits is = λ e l h. good_changes_hold m t p aim e fits (is.good e l h)
