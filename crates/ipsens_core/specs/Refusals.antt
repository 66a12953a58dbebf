-- The printed line of a file that is refused: the word of the file, and why.
use Rattle.std.specs.Prelude.{ℕ, List, ◌++◌, codes, decimal}
use Rattle.mps_defs.specs.CanonicalText.{newline}

abbrev pub refused : List ℕ → List ℕ → List ℕ
refused file why = codes "refused " ++ (file ++ (codes " " ++ (why ++ newline)))

-- where a fault stands: the kind of its place, as `line` or `edit`, and the number
abbrev pub at_number : List ℕ → ℕ → List ℕ
at_number kind n = codes " " ++ (kind ++ (codes " " ++ decimal n))
