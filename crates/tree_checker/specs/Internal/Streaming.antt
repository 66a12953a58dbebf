-- How far a file is read and its proof walked through.
use Rattle.std.specs.Prelude.{◌≡◌, ℕ, ◌<◌, List, Option, Some, None}
use Rattle.ip_defs.specs.declared.programs.Parts.{Parts}
use Rattle.ip_defs.specs.Lists.{Each}
use Rattle.tree_checker.specs.Internal.Walks.{walked, start_of}
use Rattle.tree_checker.specs.declared.streams.Streaming.{Streaming}
use Rattle.tree_format.specs.Grammar.{fault_so_far, parts_so_far}
use Rattle.tree_format.specs.Internal.Remaining.{HasRead}
use Rattle.tree_format.specs.declared.errors.TreeError.{TreeError}

-- bytes without a fault are read, and the parts that they spell are walked through
pub record IsWalked (m : Parts) (s : Streaming) (bytes : List ℕ) : Type 0 where
  pub read : HasRead s.reader bytes
  pub each : Each (λ b. b < 256) bytes
  pub none : fault_so_far bytes ≡ None
  pub walk : s.walk ≡ walked m (start_of m) (parts_so_far bytes)

-- where no fault came the bytes are walked through, and else it is their fault
abbrev pub IsStreamingBy : Option TreeError → Parts → Streaming → List ℕ → Type 0
IsStreamingBy None m s bytes = IsWalked m s bytes
IsStreamingBy (Some e) m s bytes = fault_so_far bytes ≡ Some e

abbrev pub IsStreaming : Parts → Streaming → List ℕ → Type 0
IsStreaming m s bytes = IsStreamingBy s.fault m s bytes

-- a byte that a check has taken had a fault
abbrev pub HasFailed : Parts × Streaming → TreeError → Type 0
HasFailed s e = s.1.fault ≡ Some e
