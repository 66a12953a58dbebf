-- The pieces of runs: they are within the limits and fit the model, and their trees have no more nodes than those of all solves.
use Rattle.std.specs.Prelude.{◌≡◌, ℕ, zero, suc, ◌+◌, ◌^◌, ◌<◌, ◌≤◌, Bool, true, false, if◌then◌else◌, List, [], ◌∷◌, length, sum_by}
use Rattle.std.specs.Prelude.{Option, Some, None, map, slice_get, ℤ, pos, ◌*ℤ◌}
use Rattle.std.specs.Int.RustNames.{unsigned_abs}
use Rattle.std.proofs.Common.{arith, refl, ap, sym, ◌∙◌, subst}
use Rattle.std.proofs.lemmas.Int.{ints}
use Rattle.std.proofs.lemmas.List.Sums.{sum_by-cons}
use Rattle.branching.specs.Outcomes.{Pairwise}
use Rattle.ip_defs.specs.Limits.{IsArea, IsWithinLimits}
use Rattle.ip_defs.specs.Lists.{Each}
use Rattle.ip_defs.specs.Program.{IsIn, at, box_of}
use Rattle.ip_defs.specs.declared.programs.Column.{Column}
use Rattle.ip_defs.specs.declared.programs.Parts.{Parts}
use Rattle.ip_defs.proofs.BoxLaws.{box_within}
use Rattle.ip_defs.proofs.OrderLaws.{lt_false, lt_is, lt_true}
use Rattle.ip_model.specs.declared.places.Place.{Place}
use Rattle.ip_model.specs.declared.places.Place.TheVariants.{Cost, Low, High, Coef, Lower, Upper}
use Rattle.ip_model.specs.Places.{raised}
use Rattle.perturbation.specs.Lines.{row_at}
use Rattle.proof_tree.specs.LabelledTrees.{node_count}
use Rattle.proof_tree.specs.Trees.{FitsModel, PlainTree, is_at_most, plain}
use Rattle.proof_tree.specs.Within.{IsTreeWithin}
use Rattle.proof_tree.specs.declared.claims.Claim.{Claim}
use Rattle.proof_tree.specs.declared.claims.Claim.TheVariants.{Best, Empty}
use Rattle.sweep_pieces.proofs.MoveLaws.{rises}
use Rattle.sweep_pieces.proofs.PieceLaws.{IsFeasibleClaim, begun, no_more, solve_of, some_is}
use Rattle.sweep_pieces.specs.Pieces.{IsPieceOf, tree_in}
use Rattle.sweep_pieces.specs.Runs.{AreRuns, IsRun, IsSolve, next_after, step_at, step_of, value_at}
use Rattle.sweep_pieces.specs.declared.runs.Run.{Run}
use Rattle.sweep_proof.specs.RowSweeps.{FitsPiece, FitsPieces, HasSmallPoint, IsWidening, MovesOutwards}
use Rattle.sweep_proof.specs.declared.row_sweeps.RowPiece.{RowPiece}
use Rattle.sweep_solves.specs.Solves.{nodes_made, nodes_of}
use Rattle.sweep_solves.specs.declared.made_solves.Made.{Made}

-- ---- points

same_columns : (m : Parts) (place : Place) (r e : ℤ) → MovesOutwards place r → (raised m place e).columns ≡ m.columns
same_columns m (Low i) r e out = refl
same_columns m (High i) r e out = refl
same_columns m (Cost j) r e out = absurd out
same_columns m (Coef i j) r e out = absurd out
same_columns m (Lower j) r e out = absurd out
same_columns m (Upper j) r e out = absurd out

-- the box of a step is that of the model
columns_at_step : (m : Parts) (d : List (Place × ℤ)) (t : ℕ) → IsWidening d → (row_at m d t).columns ≡ m.columns
columns_at_step m [] t out = refl
columns_at_step m (p ∷ d) t out =
    columns_at_step (raised m p.0 (pos t *ℤ p.1)) d t out.1 ∙ same_columns m p.0 p.1 (pos t *ℤ p.1) out.0

each_at : (P : ℤ → Type 0) (x : List ℤ) → ((j : ℕ) → j < length x → P (at x j)) → Each P x
each_at P [] h = tt
each_at P (z ∷ x) h = (h 0 (omega arith), each_at P x (λ j l. h (suc j) (omega arith)))

small_point : (n : ℕ) (b : List (ℤ × ℤ)) (x : List ℤ) → IsArea n b → IsIn b x → Each (λ z. unsigned_abs z ≤ 2 ^ 24) x
small_point n b x area within = each_at (λ z. unsigned_abs z ≤ 2 ^ 24) x (λ j l.
    let size = within.size in
    let columns = area.size in
    let low = within.low j (omega arith) in
    let high = within.high j (omega arith) in
    let least = area.low j (omega arith) in
    let most = area.high j (omega arith) in
    omega (arith, ints))

small_claim : (m : Parts) (d : List (Place × ℤ)) (t : ℕ) (claim : Claim) → IsWithinLimits m → IsWidening d
    → IsFeasibleClaim (row_at m d t) claim → HasSmallPoint claim
small_claim m d t Empty limits out h = tt
small_claim m d t (Best x) limits out h =
    small_point (length m.columns) (box_of m) x (box_within m limits)
    (subst (λ (cs : List Column). IsIn (map (λ c. (c.lo, c.hi)) cs) x) (columns_at_step m d t out) h.within)

-- ---- each piece

piece_fits : (m : Parts) (d : List (Place × ℤ)) (ms : List Made) (r : Run) (p : RowPiece) → IsWithinLimits m → IsWidening d
    → Each (IsSolve m d) ms → IsRun m ms r → step_at ms r.last ≤ 10 ^ 6 → IsPieceOf ms r p → FitsPiece m p
piece_fits m d ms r p limits out all run few h =
    let begins = begun m d ms r p all run h in
    let s = solve_of m d ms r.last all run.end in
    let tree : plain s.made.proof.tree ≡ plain p.tree = some_is (plain s.made.proof.tree) (plain p.tree) (ap tree_in (sym s.is) ∙ h.tree) in
    let from = h.from in
    let to = h.to in
    let order = run.order in
    record {
      from = omega arith;
      to = omega arith;
      point = begins.point;
      small = small_claim m d p.from p.claim limits out begins.feasible;
      limits = subst IsTreeWithin tree s.right.limits;
      tree = subst (FitsModel m) tree s.right.fits;
    }

pieces_fit : (m : Parts) (d : List (Place × ℤ)) (ms : List Made) (next : ℕ) (before : Option (Option ℤ)) (rs : List Run)
    (ps : List RowPiece) → IsWithinLimits m → IsWidening d → Each (IsSolve m d) ms → AreRuns m ms next before rs
    → next_after ms next rs ≤ 10 ^ 6 + 1 → Pairwise (IsPieceOf ms) rs ps → Each (FitsPiece m) ps
pieces_fit m d ms next before [] [] limits out all runs few pairs = tt
pieces_fit m d ms next before [] (p ∷ ps) limits out all runs few pairs = absurd pairs
pieces_fit m d ms next before (r ∷ rs) [] limits out all runs few pairs = absurd pairs
pieces_fit m d ms next before (r ∷ rs) (p ∷ ps) limits out all runs few pairs =
    let up = rises m ms (step_at ms r.last + 1) (Some (value_at m ms r.first)) rs runs.1 in (
      piece_fits m d ms r p limits out all runs.0.run (omega arith) pairs.0,
      pieces_fit m d ms (step_at ms r.last + 1) (Some (value_at m ms r.first)) rs ps limits out all runs.1 few pairs.1,
    )

-- ---- counts over the last solves of runs, whose steps rise

-- what a solve counts, if its step is next or later
abbrev counted : (Made → ℕ) → ℕ → Made → ℕ
counted f next s = if is_at_most next (step_of s) then f s else 0

abbrev count_in : (Made → ℕ) → Option Made → ℕ
count_in f None = 0
count_in f (Some s) = f s

-- the later the next step, the less is counted
less_counted : (f : Made → ℕ) (a b : ℕ) (s : Made) → a ≤ b → counted f b s ≤ counted f a s
less_counted f a b s le = by (is_at_most b (step_of s)) refl
  where
    by : (t : Bool) → is_at_most b (step_of s) ≡ t → (if t then f s else 0) ≤ counted f a s
    by false e = omega arith
    by true e =
        let lt = lt_is b (suc (step_of s)) e in
        let here : counted f a s ≡ f s = ap (λ (t : Bool). if t then f s else 0) (lt_true a (suc (step_of s)) (omega arith)) in
        omega arith

less_total : (f : Made → ℕ) (a b : ℕ) (ms : List Made) → a ≤ b → sum_by (counted f b) ms ≤ sum_by (counted f a) ms
less_total f a b [] le = omega arith
less_total f a b (s ∷ ms) le =
    let one = less_counted f a b s le in
    let rest = less_total f a b ms le in
    let first = sum_by-cons (counted f a) s ms in
    let second = sum_by-cons (counted f b) s ms in
    omega arith

all_total : (f : Made → ℕ) (a : ℕ) (ms : List Made) → sum_by (counted f a) ms ≤ sum_by f ms
all_total f a [] = omega arith
all_total f a (s ∷ ms) =
    let rest = all_total f a ms in
    let first = sum_by-cons (counted f a) s ms in
    let second = sum_by-cons f s ms in
    let one = by (is_at_most a (step_of s)) in
    omega arith
  where
    by : (t : Bool) → (if t then f s else 0) ≤ f s
    by true = omega arith
    by false = omega arith

-- one solve and what is counted after its step are counted together
one_more : (f : Made → ℕ) (next : ℕ) (ms : List Made) (k : ℕ) → k < length ms → next ≤ step_at ms k
    → count_in f (slice_get ms k) + sum_by (counted f (step_at ms k + 1)) ms ≤ sum_by (counted f next) ms
one_more f next [] k l le = absurd (omega arith)
one_more f next (s ∷ ms) zero l le =
    let here : counted f next s ≡ f s = ap (λ (t : Bool). if t then f s else 0) (lt_true next (suc (step_of s)) (omega arith)) in
    let gone : counted f (step_of s + 1) s ≡ 0 =
    ap (λ (t : Bool). if t then f s else 0) (lt_false (step_of s + 1) (suc (step_of s)) (omega arith)) in
    let rest = less_total f next (step_of s + 1) ms (omega arith) in
    let first = sum_by-cons (counted f next) s ms in
    let second = sum_by-cons (counted f (step_of s + 1)) s ms in
    omega arith
one_more f next (s ∷ ms) (suc k) l le =
    let rest = one_more f next ms k (omega arith) le in
    let one = less_counted f next (step_at ms k + 1) s (omega arith) in
    let first = sum_by-cons (counted f next) s ms in
    let second = sum_by-cons (counted f (step_at ms k + 1)) s ms in
    omega arith

-- the counts of the last solves of runs are no more than those of all solves
abbrev pub last_counts : (Made → ℕ) → List Made → List Run → ℕ
last_counts f ms rs = sum_by (λ (r : Run). count_in f (slice_get ms r.last)) rs

counts_from : (m : Parts) (f : Made → ℕ) (ms : List Made) (next : ℕ) (before : Option (Option ℤ)) (rs : List Run)
    → AreRuns m ms next before rs → last_counts f ms rs ≤ sum_by (counted f next) ms
counts_from m f ms next before [] runs = omega arith
counts_from m f ms next before (r ∷ rs) runs =
    let from = runs.0.from in
    let order = runs.0.run.order in
    let rest = counts_from m f ms (step_at ms r.last + 1) (Some (value_at m ms r.first)) rs runs.1 in
    let own = one_more f next ms r.last runs.0.run.end (omega arith) in
    let sum = sum_by-cons (λ (q : Run). count_in f (slice_get ms q.last)) r rs in
    omega arith

pub counts_within : (m : Parts) (f : Made → ℕ) (ms : List Made) (rs : List Run) → AreRuns m ms 0 None rs
    → last_counts f ms rs ≤ sum_by f ms
counts_within m f ms rs runs =
    let one = counts_from m f ms 0 None rs runs in
    let all = all_total f 0 ms in
    omega arith

-- ---- nodes and numbers of pieces

own_nodes : (ms : List Made) (r : Run) (p : RowPiece) → IsPieceOf ms r p
    → count_in nodes_of (slice_get ms r.last) ≡ node_count (plain p.tree)
own_nodes ms r p h = by (slice_get ms r.last) h.tree
  where
    by : (o : Option Made) → tree_in o ≡ Some (plain p.tree) → count_in nodes_of o ≡ node_count (plain p.tree)
    by None e = absurd cc
    by (Some s) e = ap (λ (t : PlainTree). node_count t) (some_is (plain s.proof.tree) (plain p.tree) e)

piece_nodes : (ms : List Made) (rs : List Run) (ps : List RowPiece) → Pairwise (IsPieceOf ms) rs ps
    → sum_by (λ (p : RowPiece). node_count (plain p.tree)) ps ≡ last_counts nodes_of ms rs
piece_nodes ms [] [] pairs = refl
piece_nodes ms [] (p ∷ ps) pairs = absurd pairs
piece_nodes ms (r ∷ rs) [] pairs = absurd pairs
piece_nodes ms (r ∷ rs) (p ∷ ps) pairs =
    let rest = piece_nodes ms rs ps pairs.1 in
    let own = own_nodes ms r p pairs.0 in
    let first = sum_by-cons (λ (q : RowPiece). node_count (plain q.tree)) p ps in
    let second = sum_by-cons (λ (q : Run). count_in nodes_of (slice_get ms q.last)) r rs in
    omega arith

abbrev one : Made → ℕ
one s = 1

one_each : (m : Parts) (d : List (Place × ℤ)) (ms : List Made) (r : Run) → Each (IsSolve m d) ms → IsRun m ms r
    → count_in one (slice_get ms r.last) ≡ 1
one_each m d ms r all run = let s = solve_of m d ms r.last all run.end in ap (count_in one) s.is

piece_count : (m : Parts) (d : List (Place × ℤ)) (ms : List Made) (next : ℕ) (before : Option (Option ℤ)) (rs : List Run)
    (ps : List RowPiece) → Each (IsSolve m d) ms → AreRuns m ms next before rs → Pairwise (IsPieceOf ms) rs ps
    → length ps ≡ last_counts one ms rs
piece_count m d ms next before [] [] all runs pairs = refl
piece_count m d ms next before [] (p ∷ ps) all runs pairs = absurd pairs
piece_count m d ms next before (r ∷ rs) [] all runs pairs = absurd pairs
piece_count m d ms next before (r ∷ rs) (p ∷ ps) all runs pairs =
    let rest = piece_count m d ms (step_at ms r.last + 1) (Some (value_at m ms r.first)) rs ps all runs.1 pairs.1 in
    let own = one_each m d ms r all runs.0.run in
    let sum = sum_by-cons (λ (q : Run). count_in one (slice_get ms q.last)) r rs in
    omega arith

all_ones : (ms : List Made) → sum_by one ms ≡ length ms
all_ones [] = refl
all_ones (s ∷ ms) =
    let rest = all_ones ms in
    let sum = sum_by-cons one s ms in
    omega arith

some_piece : (ms : List Made) (steps : ℕ) (rs : List Run) (ps : List RowPiece) → next_after ms 0 rs ≡ steps + 1
    → Pairwise (IsPieceOf ms) rs ps → 1 ≤ length ps
some_piece ms steps rs [] ends pairs = let none = no_more ms 0 rs [] pairs refl in absurd (omega arith)
some_piece ms steps rs (p ∷ ps) ends pairs = omega arith

pub pieces_within : (m : Parts) (d : List (Place × ℤ)) (ms : List Made) (steps : ℕ) (rs : List Run) (ps : List RowPiece)
    → IsWithinLimits m → IsWidening d → steps ≤ 10 ^ 6 → length ms ≤ 10000 → Each (IsSolve m d) ms → nodes_made ms ≤ 1000000
    → AreRuns m ms 0 None rs → next_after ms 0 rs ≡ steps + 1 → Pairwise (IsPieceOf ms) rs ps → FitsPieces m ps
pieces_within m d ms steps rs ps limits out short few all nodes runs ends pairs = record {
  some = some_piece ms steps rs ps ends pairs;
  few =
      let number = piece_count m d ms 0 None rs ps all runs pairs in
      let most = counts_within m one ms rs runs in
      let ones = all_ones ms in
      omega arith;
  each = pieces_fit m d ms 0 None rs ps limits out all runs (omega arith) pairs;
  nodes =
      let same = piece_nodes ms rs ps pairs in
      let most = counts_within m nodes_of ms rs runs in
      omega arith;
}
