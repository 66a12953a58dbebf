-- What a range is asked of, and changes by a number of steps.
use Rattle.std.specs.Prelude.{ℕ, Bool, true, false, ℤ, pos, ◌-ℤ◌}
use Rattle.ip_model.specs.Places.{Exists}
use Rattle.leaf_cert.specs.Changes.{IsWithinLimit}
use Rattle.proof_tree.specs.Trees.{plain, FitsModel}
use Rattle.proof_tree.specs.Within.{IsTreeWithin}
use Rattle.range_laws.specs.Ranges.{IsGoodChange, HasPoint}
use Rattle.range_finder.specs.Aims.{plain_aim}
use Rattle.range_finder.specs.declared.asked.Asked.{Asked}

-- what a range can be asked of
pub record IsAsked (a : Asked) : Type 0 where
  pub limits : IsTreeWithin (plain a.tree.now)
  pub fits : FitsModel a.model.now (plain a.tree.now)
  pub exists : Exists a.model.now a.place

-- a change is good for what is asked
abbrev pub IsGood : Asked → ℤ → Type 0
IsGood a e = IsGoodChange a.model.now (plain a.tree.now) a.place (plain_aim a.aim) e

-- the point of the aim, if it has one, is feasible in the model
abbrev pub IsMet : Asked → Type 0
IsMet a = HasPoint (plain_aim a.aim) a.model.now

-- a number of steps, up or down
abbrev pub steps_by : Bool → ℕ → ℤ
steps_by true k = pos k
steps_by false k = pos 0 -ℤ pos k

-- the number at the place is within its limit after so many steps
abbrev pub IsReached : Asked → Bool → ℕ → Type 0
IsReached a up k = IsWithinLimit a.model.now a.place (steps_by up k)
