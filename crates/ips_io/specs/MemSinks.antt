-- What a sink in memory is seen as, and what its calls make of it.
use Rattle.std.specs.Prelude.{ℕ, ◌-◌, min, ◌==◌, ◌||◌, Bool, List, ◌++◌, length, take, if◌then◌else◌}
use Rattle.ips_io.specs.Causes.{counted}
use Rattle.ips_io.specs.Plans.{Calls, is_due, after_call}

-- the bytes taken, the most that it takes in all and at one call, its calls and its failures
pub record SinkState : Type 0 where
  pub taken : List ℕ
  pub room : ℕ
  pub piece : ℕ
  pub calls : Calls
  pub faults : ℕ

-- how many bytes of a text fit a call
abbrev pub taken_at_once : SinkState → List ℕ → ℕ
taken_at_once s text = min (min s.piece (s.room - length s.taken)) (length text)

-- the next call fails: it is to fail, or no room is left
abbrev pub refuses : SinkState → Bool
refuses s = is_due s.calls || (s.room - length s.taken == 0)

-- after a failure
abbrev pub after_refusal : SinkState → SinkState
after_refusal s = record { taken = s.taken; room = s.room; piece = s.piece; calls = after_call s.calls; faults = counted s.faults }

-- after some bytes were taken
abbrev pub after_taking : SinkState → List ℕ → SinkState
after_taking s bytes = record { taken = s.taken ++ bytes; room = s.room; piece = s.piece; calls = after_call s.calls; faults = s.faults }

-- after a write
abbrev pub after_write : SinkState → List ℕ → SinkState
after_write s text = if refuses s then after_refusal s else after_taking s (take (taken_at_once s text) text)
