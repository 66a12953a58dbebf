-- Files that stand one after another in a buffer, each as its name and then its content, and where a file stands there.
use Rattle.std.specs.Prelude.{ℕ, zero, suc, ◌+◌, List, [], ◌∷◌, ◌++◌, take, drop, sum_by, Option, Some, None, option_map, bytes_eq}
use Rattle.std.specs.Prelude.{if◌then◌else◌}
use Rattle.ips_io.specs.Files.{Files}
use Rattle.ips_io.specs.declared.places.Lengths.{Lengths}
use Rattle.ips_io.specs.declared.places.Place.{Place}
use Rattle.ips_io.specs.declared.places.Part.{Part}

-- the bytes of a file in the buffer
abbrev pub both : Lengths → ℕ
both l = l.name + l.content

-- the bytes of all files
abbrev pub total : List Lengths → ℕ
total ls = sum_by both ls

-- the table of the files in a buffer
abbrev pub files_of : List Lengths → List ℕ → Files
files_of [] buffer = []
files_of (l ∷ ls) buffer = (take l.name buffer, take l.content (drop l.name buffer)) ∷ files_of ls (drop (both l) buffer)

-- a part of the buffer
abbrev pub part_of : List ℕ → Part → List ℕ
part_of buffer p = take p.length (drop p.start buffer)

-- a place, counted from a number of files and a number of bytes before
abbrev pub shifted : ℕ → ℕ → Place → Place
shifted files bytes p = record { index = files + p.index; content = record { start = bytes + p.content.start; length = p.content.length } }

-- the first file of a name: its number and its content
abbrev pub place_of : List Lengths → List ℕ → List ℕ → Option Place
place_of [] buffer name = None
place_of (l ∷ ls) buffer name =
    if bytes_eq (take l.name buffer) name
    then Some (record { index = 0; content = record { start = l.name; length = l.content } })
    else option_map (shifted 1 (both l)) (place_of ls (drop (both l) buffer) name)

-- the buffer with other bytes in place of a part
abbrev pub edited : List ℕ → Part → List ℕ → List ℕ
edited buffer p bytes = (take p.start buffer ++ bytes) ++ drop (p.start + p.length) buffer

-- the lengths with another length of one content
abbrev pub resized : List Lengths → ℕ → ℕ → List Lengths
resized [] i content = []
resized (l ∷ ls) zero content = record { name = l.name; content = content } ∷ ls
resized (l ∷ ls) (suc i) content = l ∷ resized ls i content
