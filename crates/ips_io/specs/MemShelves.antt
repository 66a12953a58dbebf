-- What a shelf in memory is seen as, and what its calls make of it.
use Rattle.std.specs.Prelude.{ℕ, List, drop, option_map, Option, None, if◌then◌else◌}
use Rattle.std.specs.Option.{option_map_or}
use Rattle.ips_io.specs.Files.{Files, Names, file_of}
use Rattle.ips_io.specs.Causes.{counted}
use Rattle.ips_io.specs.Plans.{Calls, is_due, after_call}
use Rattle.ips_io.specs.BegunNames.{noted}
use Rattle.ips_io.specs.Tables.{with_file}

-- the files, the names that were begun, what the begun file has still to give, the most files, the most bytes of names and contents
-- together, the most bytes of a read, the calls and the failures
pub record ShelfState : Type 0 where
  pub files : Files
  pub names : Option Names
  pub left : Option (List ℕ)
  pub most_files : ℕ
  pub room : ℕ
  pub piece : ℕ
  pub calls : Calls
  pub faults : ℕ
  pub save_faults : ℕ

-- with other files
abbrev pub with_files : ShelfState → Files → ShelfState
with_files s fs = record s { files = fs }

-- what `begin` opens: the file of the name, unless the call is to fail
abbrev pub opened : ShelfState → List ℕ → Option (List ℕ)
opened s name = if is_due s.calls then None else file_of s.files name

-- after `begin`
abbrev pub after_begin : ShelfState → List ℕ → ShelfState
after_begin s name = record s {
  names = noted s.names name;
  left = opened s name;
  calls = after_call s.calls;
  faults = option_map_or (λ _. s.faults) (opened s name) (counted s.faults);
}

-- after a `read` of n bytes
abbrev pub after_read : ShelfState → ℕ → ShelfState
after_read s n = record s { left = option_map (drop n) s.left; calls = after_call s.calls }

-- after a `read` that failed
abbrev pub after_failed_read : ShelfState → ShelfState
after_failed_read s = record s { calls = after_call s.calls; faults = counted s.faults }

-- after a `save` that put the file into the table
abbrev pub after_save : ShelfState → List ℕ → List ℕ → ShelfState
after_save s name bytes = record s { files = with_file s.files name bytes; left = None; calls = after_call s.calls }

-- after a `save` that failed
abbrev pub after_failed_save : ShelfState → ShelfState
after_failed_save s = record s { left = None; calls = after_call s.calls; save_faults = counted s.save_faults }
