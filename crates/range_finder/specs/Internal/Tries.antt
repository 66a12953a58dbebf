-- What is known of one direction of a search after its first try.
use Rattle.std.specs.Prelude.{◌≤◌, ◌+◌, ◌↔◌, ℕ, IsTrue}
use Rattle.range_finder.specs.Internal.Asked.{IsGood, IsReached, steps_by}
use Rattle.range_finder.specs.declared.asked.Asked.{Asked}
use Rattle.range_finder.specs.declared.tries.FirstTry.{FirstTry}

-- a number of steps to the limit, some of them tried, and whether the change by these is good
pub record IsTried (a : Asked) (t : FirstTry) : Type 0 where
  pub within : (k : ℕ) → k ≤ t.most → IsReached a t.up k
  pub beyond : ¬ IsReached a t.up (t.most + 1)
  pub fewer : t.steps ≤ t.most
  pub tried : IsTrue t.is_good ↔ IsGood a (steps_by t.up t.steps)
