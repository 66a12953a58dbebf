-- Scratches: which models they fit.
use Rattle.std.specs.Prelude.{◌≡◌, ℕ, length, vec_len}
use Rattle.ip_defs.specs.declared.programs.Parts.{Parts}
use Rattle.leaf_cert.specs.declared.workspaces.Scratch.{Scratch}

-- the number of columns that a scratch has numbers for
abbrev pub column_count_of : Scratch → ℕ
column_count_of s = vec_len s.taken

-- a scratch fits a program: it has one number for each column
abbrev pub FitsScratch : Parts → Scratch → Type 0
FitsScratch m s = column_count_of s ≡ length m.columns
