-- The finished solves of a row sweep: each at a step that is named by those before it, and not many for each different value.
use Rattle.std.specs.Prelude.{◌≡◌, ◌≢◌, ℕ, ◌+◌, ◌*◌, ◌/◌, ◌<◌, ◌≤◌, List, [], ◌∷◌, length, Option, ℤ, pos}
use Rattle.branching.specs.Sizes.{count}
use Rattle.branching.specs.declared.budgets.Limits.{Limits}
use Rattle.ip_defs.specs.Lists.{Each}
use Rattle.ip_defs.specs.declared.programs.Parts.{Parts}
use Rattle.ip_model.specs.declared.places.Place.{Place}
use Rattle.perturbation.specs.Lines.{row_at}
use Rattle.sweep_pieces.specs.Runs.{step_at, value_at}
use Rattle.sweep_solves.specs.Solves.{AreRight, ModelsAt, Nexts}
use Rattle.sweep_solves.specs.declared.made_solves.Made.{Made}

-- the model at a parameter that is a step: the sides moved by so many steps
abbrev pub step_model : Parts → List (Place × ℤ) → ModelsAt
step_model m d = λ p q. row_at m d (count p)

-- ---- steps that may come next

-- no solve stands at a step
abbrev pub IsNewStep : List Made → ℕ → Type 0
IsNewStep ms t = (k : ℕ) → k < length ms → step_at ms k ≢ t

-- no solve stands between two steps
abbrev pub NoneBetween : List Made → ℕ → ℕ → Type 0
NoneBetween ms a b = (k : ℕ) → k < length ms → a < step_at ms k → step_at ms k < b → ⊥

-- a step half-way, rounded down, between those of two solves whose values differ, with no solve between them
pub record IsHalfWay (m : Parts) (ms : List Made) (t : ℕ) : Type 0 where
  pub left : ℕ
  pub right : ℕ
  pub left_in : left < length ms
  pub right_in : right < length ms
  pub apart : step_at ms left < step_at ms right
  pub differ : value_at m ms left ≢ value_at m ms right
  pub none : NoneBetween ms (step_at ms left) (step_at ms right)
  pub middle : t ≡ (step_at ms left + step_at ms right) / 2

-- the first step, the last one, or one half-way
pub data IsNamedStep (m : Parts) (steps : ℕ) (ms : List Made) (t : ℕ) : Type 0 where
  first : t ≡ 0 → IsNamedStep m steps ms t
  last : t ≡ steps → IsNamedStep m steps ms t
  half_way : IsHalfWay m ms t → IsNamedStep m steps ms t

-- p/q is a step, one of these at which no solve stands yet
pub record IsNextStep (m : Parts) (steps : ℕ) (ms : List Made) (p q : ℤ) : Type 0 where
  pub whole : q ≡ pos 1
  pub step : p ≡ pos (count p)
  pub new_step : IsNewStep ms (count p)
  pub named : IsNamedStep m steps ms (count p)

abbrev pub next_steps : Parts → ℕ → Nexts
next_steps m steps = λ ms p q. IsNextStep m steps ms p q

-- ---- how many solves

-- a value of a solve; that of an infeasible model counts as one value
abbrev pub IsValueOf : Parts → List Made → Option ℤ → Type 0
IsValueOf m ms v = (k : ℕ) × (k < length ms) × (value_at m ms k ≡ v)

-- values of which no two are the same
abbrev pub AreDifferent : List (Option ℤ) → Type 0
AreDifferent [] = Unit {0}
AreDifferent (v ∷ vs) = Each (λ w. w ≢ v) vs × AreDifferent vs

-- there are at most 20 solves for each different value, and two more
pub record AreFew (m : Parts) (ms : List Made) : Type 0 where
  pub values : List (Option ℤ)
  pub among : Each (IsValueOf m ms) values
  pub different : AreDifferent values
  pub few : length ms ≤ 20 * length values + 2

-- ---- right lists

-- the solves of a row sweep from step 0 to the last one, within limits for all together
pub record AreRowSolves (m : Parts) (d : List (Place × ℤ)) (steps : ℕ) (l : Limits) (ms : List Made) : Type 0 where
  pub each : AreRight (step_model m d) (next_steps m steps) l ms
  pub few : AreFew m ms
