-- Calls that are counted from 1, some of which are to fail.
use Rattle.std.specs.Prelude.{ℕ, Bool, ◌==◌, List, [], ◌∷◌, ◌++◌}
use Rattle.std.specs.List.{list_any}
use Rattle.ips_io.specs.Causes.{counted}

-- how many calls were made, and the numbers of those that are to fail
pub record Calls : Type 0 where
  pub made : ℕ
  pub failing : List ℕ

-- the next call is to fail
abbrev pub is_due : Calls → Bool
is_due c = list_any (λ k. k == counted c.made) c.failing

-- one more call was made
abbrev pub after_call : Calls → Calls
after_call c = record { made = counted c.made; failing = c.failing }

-- one more call is to fail
abbrev pub failing_at : ℕ → Calls → Calls
failing_at call c = record { made = c.made; failing = c.failing ++ call ∷ [] }
