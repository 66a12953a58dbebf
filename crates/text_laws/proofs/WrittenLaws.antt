-- The lines that a written text is read as.
use Rattle.std.specs.Prelude.{ℕ, suc, ◌==◌, Bool, true, false, ◌&&◌, not, if◌then◌else◌, List, [], ◌∷◌, length, bytes_eq, codes}
use Rattle.std.specs.List.{list_any, list_all, concat}
use Rattle.mps_defs.specs.CanonicalText.{Written, is_separator}
use Rattle.mps_defs.specs.Records.{Line}

-- a field has no blank, tab, carriage return or line feed, and is not empty
abbrev pub is_field : List ℕ → Bool
is_field f = not (length f == 0) && not (list_any is_separator f)

-- the word of a section line
abbrev pub section_word : Written → List ℕ
section_word w = concat w.1

-- a line can be read back: a data line has a field, a section line is one word that is no comment
abbrev pub is_readable : Written → Bool
is_readable (true, []) = false
is_readable (true, f ∷ fs) = list_all is_field (f ∷ fs)
is_readable (false, []) = false
is_readable (false, [] ∷ fs) = false
is_readable (false, (b ∷ bs) ∷ []) = is_field (b ∷ bs) && not (b == 42)
is_readable (false, (b ∷ bs) ∷ f ∷ fs) = false

-- the section after a line
abbrev pub section_after : List ℕ → Written → List ℕ
section_after word w = if w.0 then word else section_word w

-- the lines of a text from a number and a section on
abbrev pub lines_from : ℕ → List ℕ → List Written → List Line
lines_from n word [] = []
lines_from n word (w ∷ ws) =
    record { number = n; is_item = w.0; section = section_after word w; fields = w.1 } ∷ lines_from (suc n) (section_after word w) ws

-- the line is ENDATA
abbrev pub is_last : Written → Bool
is_last w = not w.0 && bytes_eq (section_word w) (codes "ENDATA")
