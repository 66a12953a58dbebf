-- What reading a list of bytes comes to: the parts that it spells up to its first fault, and that fault.
use Rattle.std.specs.Prelude.{List, [], ◌∷◌, ◌++◌, Option, Some, None}
use Rattle.tree_format.specs.declared.errors.TreeError.{TreeError}

-- the parts in order, and the fault that ends them, or none
pub record Reading (A : Type 0) : Type 0 where
  pub parts : List A
  pub fault : Option TreeError

-- nothing more is read
abbrev pub complete : {A : Type 0} → Reading A
complete = record { parts = []; fault = None }

-- a fault ends the reading
abbrev pub stopped : {A : Type 0} → TreeError → Reading A
stopped e = record { parts = []; fault = Some e }

-- a part, then what is read after it
abbrev pub part_then : {A : Type 0} → A → Reading A → Reading A
part_then x r = record { parts = x ∷ r.parts; fault = r.fault }

-- parts, then what is read after them
abbrev pub parts_then : {A : Type 0} → List A → Reading A → Reading A
parts_then xs r = record { parts = xs ++ r.parts; fault = r.fault }
