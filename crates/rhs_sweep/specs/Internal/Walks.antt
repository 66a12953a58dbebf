-- What a walk from left to right keeps: the runs so far, and a chain of solves from the run at hand to the last step.
use Rattle.std.specs.Prelude.{◌≡◌, ◌≢◌, ℕ, ◌+◌, ◌-◌, ◌*◌, ◌/◌, ◌^◌, ◌<◌, ◌≤◌, List, [], ◌∷◌, ◌++◌, length, reverse, Option, None, Some, ℤ}
use Rattle.std.specs.Prelude.{pos, slice_get}
use Rattle.branching.specs.declared.budgets.Limits.{Limits}
use Rattle.ip_defs.specs.Lists.{Each}
use Rattle.ip_defs.specs.declared.programs.Parts.{Parts}
use Rattle.ip_model.specs.declared.places.Place.{Place}
use Rattle.rhs_sweep.specs.RowSolves.{AreDifferent, IsValueOf, NoneBetween, next_steps, step_model}
use Rattle.proof_tree.specs.Verdicts.{HasLength}
use Rattle.rhs_sweep.specs.declared.gaps.Gap.{Gap}
use Rattle.rhs_sweep.specs.declared.gaps.Gap.TheVariants.{Same, Next, Wide}
use Rattle.rhs_sweep.specs.declared.solving.Solved.{Solved}
use Rattle.rhs_sweep.specs.declared.walks.Walk.{Walk}
use Rattle.sweep_pieces.specs.Runs.{AreRuns, IsRunAfter, next_after, step_at, step_of, value_after, value_at}
use Rattle.sweep_pieces.specs.declared.runs.Run.{Run}
use Rattle.sweep_solves.specs.Solves.{AreRight, nodes_made}
use Rattle.sweep_solves.specs.declared.made_solves.Made.{Made}

-- ---- chains of solves at rising steps, from a first one on

-- two solves with none between them, which at most k halvings separate where their values differ
pub record IsLink (m : Parts) (ms : List Made) (a b k : ℕ) : Type 0 where
  pub inside : b < length ms
  pub apart : step_at ms a < step_at ms b
  pub none : NoneBetween ms (step_at ms a) (step_at ms b)
  pub few : k ≤ 20
  pub gap : value_at m ms a ≢ value_at m ms b → step_at ms b ≤ step_at ms a + 2 ^ k

-- a chain that goes on with these, within a number of halvings for all its gaps
abbrev pub IsChain : Parts → List Made → ℕ → List ℕ → ℕ → Type 0
IsChain m ms a [] n = Unit {0}
IsChain m ms a (b ∷ ns) n = (k : ℕ) × (rest : ℕ) × IsLink m ms a b k × (k + rest ≤ n) × IsChain m ms b ns rest

-- the last of a chain
abbrev pub end_of : ℕ → List ℕ → ℕ
end_of a [] = a
end_of a (b ∷ ns) = end_of b ns

-- ---- the count of solves

-- with n solves more there would still be at most 20 for each different value, and two more
pub record AreFewWith (m : Parts) (ms : List Made) (n : ℕ) : Type 0 where
  pub values : List (Option ℤ)
  pub among : Each (IsValueOf m ms) values
  pub different : AreDifferent values
  pub few : length ms + n ≤ 20 * length values + 2

-- ---- walks

-- a chain to the last step, with room for the solves of its gaps
pub record IsChainTo (m : Parts) (steps : ℕ) (ms : List Made) (a : ℕ) (ns : List ℕ) : Type 0 where
  pub halvings : ℕ
  pub chain : IsChain m ms a ns halvings
  pub end : step_at ms (end_of a ns) ≡ steps
  pub counted : AreFewWith m ms halvings

-- right solves within the limits
pub record AreSolved (m : Parts) (d : List (Place × ℤ)) (l : Limits) (steps : ℕ) (s : Solved) : Type 0 where
  pub right : AreRight (step_model m d) (next_steps m steps) l s.made
  pub nodes : nodes_made s.made + s.left ≡ l.nodes
  pub most : length s.made ≤ 10000

-- a walk whose run at hand ends at one solve, and where these wait, from left to right
pub record IsWalk (m : Parts) (d : List (Place × ℤ)) (l : Limits) (steps : ℕ) (s : Solved) (rs : List Run) (run : Run) (ns : List ℕ)
    : Type 0 where
  pub solved : AreSolved m d l steps s
  pub runs : AreRuns m s.made 0 None rs
  pub at_hand : IsRunAfter m s.made (next_after s.made 0 rs) (value_after m s.made None rs) run
  pub chain : IsChainTo m steps s.made run.last ns

-- those that wait, the leftmost last
abbrev pub IsWalking : Parts → List (Place × ℤ) → Limits → ℕ → Walk → Type 0
IsWalking m d l steps w = IsWalk m d l steps w.solved w.runs.items w.run (reverse w.waiting.items)

-- the same with one solve that waits leftmost of all
abbrev pub IsWalkingTo : Parts → List (Place × ℤ) → Limits → ℕ → Walk → ℕ → Type 0
IsWalkingTo m d l steps w next = IsWalk m d l steps w.solved w.runs.items w.run (next ∷ reverse w.waiting.items)

-- how many turns are left, at most
abbrev pub turns_left : Walk → ℕ
turns_left w = 2 * (10000 - length w.solved.made) + length w.waiting.items

-- ---- parts of turns

-- a walk with one more solve that waits, leftmost
pub record HasMore (number : ℕ) (before after : Walk) : Type 0 where
  pub solved : after.solved ≡ before.solved
  pub runs : after.runs.items ≡ before.runs.items
  pub run : after.run ≡ before.run
  pub waiting : after.waiting.items ≡ before.waiting.items ++ number ∷ []

-- the same, where solves were made
pub record WaitsToo (number : ℕ) (before after : Walk) : Type 0 where
  pub runs : after.runs.items ≡ before.runs.items
  pub run : after.run ≡ before.run
  pub waiting : after.waiting.items ≡ before.waiting.items ++ number ∷ []

-- a walk with the run at hand finished, and a new one at a solve
pub record IsBegun (next : ℕ) (before after : Walk) : Type 0 where
  pub solved : after.solved ≡ before.solved
  pub runs : after.runs.items ≡ before.runs.items ++ before.run ∷ []
  pub run : after.run ≡ record { first = next; last = next }
  pub waiting : after.waiting.items ≡ before.waiting.items

-- a walk with the run at hand longer
pub record IsLonger (last : ℕ) (before after : Walk) : Type 0 where
  pub solved : after.solved ≡ before.solved
  pub runs : after.runs.items ≡ before.runs.items
  pub run : after.run ≡ record { first = before.run.first; last = last }
  pub waiting : after.waiting.items ≡ before.waiting.items

-- a solve that can be read: it is in the list, with a point that fits and a step that is not large
pub record CanBeRead (m : Parts) (ms : List Made) (k : ℕ) : Type 0 where
  pub one : Made
  pub is : slice_get ms k ≡ Some one
  pub point : HasLength (length m.columns) one.proof.claim
  pub step : one.p ≡ pos (step_of one)
  pub few : step_of one ≤ 10 ^ 6

-- two values differ, and t is half-way
pub record IsWideAt (m : Parts) (ms : List Made) (a b t : ℕ) : Type 0 where
  pub differ : value_at m ms a ≢ value_at m ms b
  pub apart : step_at ms b ≢ step_at ms a + 1
  pub middle : t ≡ (step_at ms a + step_at ms b) / 2

-- what lies between two solves by their numbers
abbrev pub IsGapAt : Parts → List Made → ℕ → ℕ → Gap → Type 0
IsGapAt m ms a b Same = value_at m ms a ≡ value_at m ms b
IsGapAt m ms a b Next = (value_at m ms a ≢ value_at m ms b) × (step_at ms b ≡ step_at ms a + 1)
IsGapAt m ms a b (Wide t) = IsWideAt m ms a b t

-- ---- the first run

-- a walk of one solve, that at step 0
pub record IsFirstRun (m : Parts) (d : List (Place × ℤ)) (l : Limits) (steps : ℕ) (w : Walk) : Type 0 where
  pub solved : AreSolved m d l steps w.solved
  pub one : length w.solved.made ≡ 1
  pub start : step_at w.solved.made 0 ≡ 0
  pub runs : w.runs.items ≡ []
  pub run : w.run ≡ record { first = 0; last = 0 }
  pub waiting : w.waiting.items ≡ []
