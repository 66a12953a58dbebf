-- A table of files within a room.
use Rattle.std.specs.Prelude.{ℕ, ◌+◌, ◌≤◌, List, [], ◌∷◌, length, sum_by, bytes_eq, if◌then◌else◌}
use Rattle.ips_io.specs.Files.{Files}

-- the files, the buffer in which they stand, the most files, and the most bytes of names and contents together
pub record TableState : Type 0 where
  pub files : Files
  pub buffer : List ℕ
  pub most_files : ℕ
  pub room : ℕ

-- the table with a file, in place of the first one of its name, else at the end
abbrev pub with_file : Files → List ℕ → List ℕ → Files
with_file [] name bytes = (name, bytes) ∷ []
with_file (f ∷ fs) name bytes = if bytes_eq f.0 name then (f.0, bytes) ∷ fs else f ∷ with_file fs name bytes

-- the bytes of names and contents together
abbrev pub size_of : Files → ℕ
size_of fs = sum_by (λ f. length f.0 + length f.1) fs

-- the table does not exceed the room
abbrev pub IsWithinRoom : ℕ → ℕ → Files → Type 0
IsWithinRoom most_files room fs = (length fs ≤ most_files) × (size_of fs ≤ room)
