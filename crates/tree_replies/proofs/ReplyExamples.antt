-- Questions about a program without a feasible point, from a tree of one ray: the definitions at work, each checked by computation.
use Rattle.std.specs.Prelude.{◌≡◌, ℕ, ℤ, pos, negsuc, true, false, List, [], ◌∷◌, Option, Some, None, Ok, codes}
use Rattle.std.proofs.Common.{refl}
use Rattle.ip_defs.specs.declared.certificates.Bound.TheVariants.{At, Infinite}
use Rattle.ip_defs.specs.declared.programs.Column.{Column}
use Rattle.ip_defs.specs.declared.programs.Parts.{Parts}
use Rattle.ip_model.specs.declared.places.Place.TheVariants as At
use Rattle.mps_defs.specs.declared.reading.Number.TheVariants.{Dec, Large}
use Rattle.perturbation.specs.Edits.{edited_by}
use Rattle.perturbation.specs.declared.edits.Change.{Change}
use Rattle.perturbation.specs.declared.edits.Change.TheVariants.{Set, Add}
use Rattle.perturbation.specs.declared.edits.Datum.{Datum}
use Rattle.perturbation.specs.declared.edits.Datum.TheVariants as Data
use Rattle.perturbation.specs.declared.edits.Edit.{Edit}
use Rattle.perturbation.specs.declared.edits.EditError.TheVariants as Refused
use Rattle.proof_tree.specs.LabelledTrees.{leaf}
use Rattle.proof_tree.specs.Trees.{PlainTree, tree_bound}
use Rattle.proof_tree.specs.declared.claims.Claim.TheVariants as Claims
use Rattle.question_text.specs.declared.questions.Question.{Question}
use Rattle.question_text.specs.declared.questions.Question.TheVariants.{Ask, Range}
use Rattle.question_text.specs.declared.questions.AimText.TheVariants.{Best, Keep}
use Rattle.range_laws.specs.Ranges.{keep, stay_best}
use Rattle.tree_replies.specs.Refusals.{asked_of, first_refusal}
use Rattle.tree_replies.specs.declared.refusals.Refusal.{Refusal}
use Rattle.tree_replies.specs.declared.refusals.Refusal.TheVariants as Why

abbrev column : List ℕ → Column
column name' = record { name = name'; cost = negsuc 0; lo = pos 0; hi = pos 1 }

-- least -x - y over two columns from 0 to 1, with x + y at most `side`
abbrev below : ℤ → Parts
below side = record {
  objective = codes "cost";
  cost_decimals = 0;
  constant = pos 0;
  columns = column (codes "x") ∷ column (codes "y") ∷ [];
  rows = record { name = codes "r1"; decimals = 0; coefs = (0, pos 1) ∷ (1, pos 1) ∷ []; low = None; high = Some side } ∷ [];
}

abbrev ray : PlainTree
ray = leaf (record { q = pos 0; y = (0, negsuc 0) ∷ [] })

abbrev edit : Datum → Change → Edit
edit datum' change' = record { datum = datum'; change = change' }

abbrev side : Change → Question
side change = Ask (edit (Data.High (codes "r1")) change ∷ [])

-- a side of -1 leaves no point, and the ray says so. With the side 0 the ray lapses, and the sum of the box is left
pub no_point : tree_bound (below (negsuc 0)) ray ≡ Infinite
no_point = refl

pub same_side : edited_by (below (negsuc 0)) (edit (Data.High (codes "r1")) (Add (Dec (pos 0) 0)) ∷ []) ≡ Ok (below (negsuc 0))
same_side = refl

pub other_side : edited_by (below (negsuc 0)) (edit (Data.High (codes "r1")) (Set (Dec (pos 0) 0)) ∷ []) ≡ Ok (below (pos 0))
other_side = refl

pub ray_lapses : tree_bound (below (pos 0)) ray ≡ At (negsuc 1)
ray_lapses = refl

-- edits of one number are made in order: it is set to 5, then 2 is taken from it
pub in_order : edited_by (below (negsuc 0)) (edit (Data.High (codes "r1")) (Set (Dec (pos 5) 0)) ∷ edit (Data.High (codes "r1")) (Add (Dec
    (negsuc 1) 0)) ∷ []) ≡ Ok (below (pos 3))
in_order = refl

-- ---- refusals

-- the first refusal of questions that are asked of a proof which claims no point
abbrev refused : List Question → Option (ℕ × Refusal)
refused qs = first_refusal (below (negsuc 0)) Claims.Empty qs

pub none_refused : refused (side (Add (Dec (pos 0) 0)) ∷ side (Set (Dec (pos 0) 0)) ∷ []) ≡ None
none_refused = refl

-- the first of two, by its number
pub unknown_name : refused (side (Add (Dec (pos 0) 0)) ∷ Ask (edit (Data.Cost (codes "z")) (Add (Dec (pos 1) 0))
    ∷ []) ∷ side (Set (Large false)) ∷ []) ≡ Some (2, Why.Edit (Refused.UnknownName 1))
unknown_name = refl

pub off_grid : refused (Ask (edit (Data.Cost (codes "x")) (Add (Dec (pos 5) 1)) ∷ []) ∷ []) ≡ Some (1, Why.Edit (Refused.OffGrid 1))
off_grid = refl

pub too_large : refused (side (Set (Large false)) ∷ []) ≡ Some (1, Why.Edit (Refused.Limit 1))
too_large = refl

pub no_side : refused (Ask (edit (Data.Lower (codes "x")) (Set (Dec (pos 0) 0)) ∷ edit (Data.Low (codes "r1"))
    (Set (Dec (pos 0) 0)) ∷ []) ∷ []) ≡ Some (1, Why.Edit (Refused.NoSide 2))
no_side = refl

-- ---- ranges that are asked of a proof

-- a proof that claims no point has no best one, wherever the datum is; a datum without a place is refused first
pub no_best : refused (Range (Data.High (codes "r1")) Best ∷ []) ≡ Some (1, Why.NoBest)
no_best = refl

pub no_place : refused (Range (Data.Cost (codes "z")) Best ∷ []) ≡ Some (1, Why.Edit (Refused.UnknownName 0))
no_place = refl

pub no_low_side : refused (Range (Data.Low (codes "r1")) Best ∷ []) ≡ Some (1, Why.Edit (Refused.NoSide 0))
no_low_side = refl

-- a number to keep is one of the costs, here whole, whatever the datum is; any claim has it
pub half_kept : refused (Range (Data.High (codes "r1")) (Keep (Dec (pos 5) 1)) ∷ []) ≡ Some (
  1,
  Why.Edit (Refused.OffGrid
      0),
)
half_kept = refl

pub large_kept : refused (Range (Data.High (codes "r1")) (Keep (Large true)) ∷ []) ≡ Some (1, Why.Edit (Refused.Limit 0))
large_kept = refl

-- the aim of a range is the claimed point, or the number in units of the costs
pub best_asked : asked_of (below (negsuc 0)) (Claims.Best (pos 1 ∷ pos 0 ∷ [])) (Data.Upper (codes "y")) Best ≡ Ok (
  At.Upper 1,
  stay_best (pos 1 ∷ pos 0 ∷ []),
)
best_asked = refl

pub keep_asked : asked_of (below (negsuc 0)) Claims.Empty (Data.Coef (codes "r1") (codes "y")) (Keep (Dec (negsuc 19) 1)) ≡ Ok (
  At.Coef 0
      1,
  keep (negsuc 1),
)
keep_asked = refl
