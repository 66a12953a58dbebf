-- The printed text of the refusal of a tree file.
use Rattle.std.specs.Prelude.{ℕ, List, [], ◌++◌, codes, decimal}
use Rattle.proof_tree.specs.declared.faults.Shape.{Shape}
use Rattle.proof_tree.specs.declared.faults.ShapeWhat.{ShapeWhat}
use Rattle.proof_tree.specs.declared.faults.ShapeWhat.TheVariants.{PointLength, ColumnNumber, RowNumber}
use Rattle.tree_format.specs.declared.errors.TreeError.{TreeError}
use Rattle.tree_format.specs.declared.errors.TreeError.TheVariants as faults
use Rattle.ipsens_core.specs.Refusals.{refused}

abbrev pub at_place : ℕ → List ℕ
at_place p = codes " place " ++ decimal p

-- the first fault of the bytes
abbrev pub fault_text : TreeError → List ℕ
fault_text (faults.Magic p) = codes "F1" ++ at_place p
fault_text (faults.Cut p) = codes "F2" ++ at_place p
fault_text (faults.LongNumber p) = codes "F3" ++ at_place p
fault_text (faults.Order p) = codes "F4" ++ at_place p
fault_text (faults.Zero p) = codes "F5" ++ at_place p
fault_text (faults.Width p) = codes "F6" ++ at_place p
fault_text (faults.TooDeep p) = codes "F7" ++ at_place p
fault_text (faults.TooMany p) = codes "F8" ++ at_place p
fault_text (faults.Tail p) = codes "F9" ++ at_place p
fault_text (faults.Tag p) = codes "F10" ++ at_place p
fault_text faults.Memory = []

abbrev pub misfit_word : ShapeWhat → List ℕ
misfit_word PointLength = codes "point"
misfit_word ColumnNumber = codes "column"
misfit_word RowNumber = codes "row"

-- the first misfit of the proof in the model
abbrev pub misfit_text : Shape → List ℕ
misfit_text s = codes "shape node " ++ decimal s.node ++ codes " " ++ misfit_word s.what

abbrev pub refused_tree : List ℕ → List ℕ
refused_tree why = refused (codes "tree") why
