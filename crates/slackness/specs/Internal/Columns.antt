-- Tight columns by a list of what the multipliers take from the costs.
use Rattle.std.specs.Prelude.{ℕ, ◌<◌, List, length, ℤ, ◌-ℤ◌, ◌*ℤ◌}
use Rattle.ip_defs.specs.Program.{at, low_at, high_at, costs_of}
use Rattle.ip_defs.specs.declared.programs.Parts.{Parts}
use Rattle.slackness.specs.Tight.{IsTightColumn}

-- the columns are tight with the reduced costs from q and a list of what is taken
abbrev pub AreTightBy : Parts → List (ℤ × ℤ) → ℤ → List ℤ → ℤ → List ℤ → Type 0
AreTightBy m b d n q taken = (j : ℕ) → j < length b →
    IsTightColumn d (low_at b j) (high_at b j) (at n j) (q *ℤ at (costs_of m) j -ℤ at taken j)
