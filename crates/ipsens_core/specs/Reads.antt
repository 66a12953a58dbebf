-- The files that a run reads, in order, and what the shelf's table of files says of them. A table may be known or not.
use Rattle.std.specs.Prelude.{◌≡◌, ℕ, List, [], ◌∷◌, Option, None, Some}
use Rattle.std.specs.Option.{MatchOption}
use Rattle.ips_io.specs.Files.{Files, file_of}

-- each file that was read: its name and its bytes
abbrev pub Reads : Type 0
Reads = List (List ℕ × List ℕ)

-- each file is the table's, until one is read that the table has not: from then on no table is known
abbrev pub AreOf : Files → Option Files → Reads → Type 0
AreOf table after [] = after ≡ Some table
AreOf table after (r ∷ rs) = MatchOption (file_of table r.0) (after ≡ None) (λ bytes. (bytes ≡ r.1) × AreOf table after rs)

-- the files agree with the table that is known before and after reading; where none was known, they may be any, and none is known after
abbrev pub Agrees : Option Files → Option Files → Reads → Type 0
Agrees None after rs = after ≡ None
Agrees (Some table) after rs = AreOf table after rs
