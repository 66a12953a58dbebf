-- The walk through a proof part by part.
use Rattle.std.specs.Prelude.{ℕ, ◌+◌, if◌then◌else◌, nat_lt, List, [], ◌∷◌, ◌++◌, length, ℤ, pos, Option, Some, None}
use Rattle.ip_defs.specs.declared.certificates.Bound.{Bound}
use Rattle.ip_defs.specs.declared.certificates.Bound.TheVariants.{Infinite}
use Rattle.ip_defs.specs.declared.programs.Parts.{Parts}
use Rattle.ip_defs.specs.Program.{box_of}
use Rattle.proof_tree.specs.Trees.{bound_min}
use Rattle.proof_tree.specs.declared.faults.Shape.{Shape}
use Rattle.proof_tree.specs.declared.faults.ShapeWhat.{ShapeWhat}
use Rattle.proof_tree.specs.declared.faults.ShapeWhat.TheVariants.{ColumnNumber, RowNumber}
use Rattle.tree_checker.specs.Internal.Descents.{can_enter, entered, settled}
use Rattle.tree_checker.specs.Internal.Leaves.{cert_bound}
use Rattle.tree_checker.specs.declared.descents.Descent.{Descent}
use Rattle.tree_checker.specs.declared.walks.Walk.{Walk}
use Rattle.tree_format.specs.declared.tokens.Token.{Token}
use Rattle.tree_format.specs.declared.tokens.Token.TheVariants.{Nothing, Claimed, Coordinate, SplitAt, LeafQ, Parts as Count, Part}

-- a list with one more element, where there is room for it
abbrev pub grown : {A : Type 0} → List A → A → List A
grown xs x = if nat_lt (length xs) 4096 then xs ++ x ∷ [] else xs

-- the number of the next node
abbrev pub next_node : ℕ → ℕ
next_node k = if nat_lt k 1000000 then k + 1 else k

abbrev pub walk_of : List ℤ → ℤ → ℕ → List (ℕ × ℤ) → Descent → ℕ → Option Shape → Bound → Walk
walk_of x q n y d k e v = record { point = x; q = q; count = n; y = y; descent = d; node = k; misfit = e; bound = v }

-- with a misfit of the node that is being read
abbrev pub misfitting : Walk → ShapeWhat → Walk
misfitting w what = walk_of w.point w.q w.count w.y w.descent w.node (Some (record { node = w.node; what = what })) w.bound

-- after the first part of a split
abbrev pub split_taken : ℕ → Walk → ℕ → ℤ → Walk
split_taken columns w col at =
    if can_enter columns w.descent col at
    then walk_of w.point w.q w.count w.y (entered w.descent col at) (next_node w.node) w.misfit w.bound
    else misfitting w ColumnNumber

-- after a leaf, by its bound if it has one
abbrev pub leaf_taken : Walk → Option Bound → Walk
leaf_taken w (Some v) = walk_of w.point (pos 0) 0 [] (settled w.descent) (next_node w.node) w.misfit (bound_min w.bound v)
leaf_taken w None = misfitting w RowNumber

-- after a part of a certificate, where it may be whole
abbrev pub whole_taken : Parts → Walk → Walk
whole_taken m w =
    if nat_lt (length w.y) w.count then w else leaf_taken w (cert_bound m w.descent.area (record { q = w.q; y = w.y }))

-- after a part, where no node had a misfit
abbrev pub taken_on : Parts → Walk → Token → Walk
taken_on m w Nothing = w
taken_on m w Claimed = w
taken_on m w (Coordinate z) = walk_of (grown w.point z) w.q w.count w.y w.descent w.node w.misfit w.bound
taken_on m w (SplitAt col at) = split_taken (length m.columns) w col at
taken_on m w (LeafQ q) = walk_of w.point q w.count w.y w.descent w.node w.misfit w.bound
taken_on m w (Count n) = whole_taken m (walk_of w.point w.q n [] w.descent w.node w.misfit w.bound)
taken_on m w (Part row k) = whole_taken m (walk_of w.point w.q w.count (grown w.y (row, k)) w.descent w.node w.misfit w.bound)

-- the first walk where there is a misfit, else the second
abbrev pub unless_misfit : Option Shape → Walk → Walk → Walk
unless_misfit None w on = on
unless_misfit (Some e) w on = w

-- after a part
abbrev pub taken : Parts → Walk → Token → Walk
taken m w part = unless_misfit w.misfit w (taken_on m w part)

-- after parts
abbrev pub walked : Parts → Walk → List Token → Walk
walked m w [] = w
walked m w (part ∷ more) = walked m (taken m w part) more

-- before the first part
abbrev pub start_of : Parts → Walk
start_of m = walk_of [] (pos 0) 0 [] (record { area = box_of m; cuts = [] }) 0 None Infinite
