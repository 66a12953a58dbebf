-- What is owed to a sweep: an exact one, or a stop.
use Rattle.std.specs.Prelude.{◌≡◌, ◌≢◌, ℕ, zero, suc, ◌+◌, ◌≤◌, List, length, map, Option, Result, Ok, Err, IfOk, ℤ}
use Rattle.std.proofs.Common.{refl, arith, ap, sym, ◌∙◌, subst, inl, inr}
use Rattle.ip_defs.specs.Limits.{IsWithinLimits}
use Rattle.ip_defs.specs.Program.{box_of}
use Rattle.ip_defs.specs.declared.programs.Parts.{Parts}
use Rattle.ip_defs.specs.declared.memory.Memory.{Memory}
use Rattle.ip_model.specs.Sizes.{allowance}
use Rattle.ip_model.specs.declared.places.Place.{Place}
use Rattle.branching.specs.declared.budgets.BudgetWhat.{BudgetWhat}
use Rattle.branching.specs.declared.budgets.Limits.{Limits}
use Rattle.open_nodes.specs.OpenTrees.{plain_open}
use Rattle.open_nodes.specs.declared.open_trees.OpenTree.{OpenTree}
use Rattle.proof_tree.proofs.LabelledTreeLaws.{places_counted}
use Rattle.branching.specs.Sizes.{count}
use Rattle.perturbation.specs.Lines.{row_at}
use Rattle.rhs_sweep.specs.RowStops.{AreAmpleFor, IsRowStop}
use Rattle.rhs_sweep.specs.declared.stops.RowStop.{RowStop}
use Rattle.rhs_sweep.specs.declared.stops.RowStop.TheVariants as Stops
use Rattle.sens_report.specs.StopTexts.{IsStopWithin, grown_count, row_stop_lines}
use Rattle.sweep_proof.specs.RowRules.{row_rules}
use Rattle.sweep_proof.specs.RowSweeps.{FitsPieces, IsExactRowSweep}
use Rattle.sweep_proof.specs.declared.row_sweeps.RowPiece.{RowPiece}
use Rattle.sweep_proof.specs.declared.verdicts.SweepVerdict.TheVariants.{Proved}
use Rattle.sweep_solves.specs.Solves.{nodes_made}
use Rattle.sweep_solves.specs.Stops.{IsStopCause}
use Rattle.tree_format.proofs.RowLimitLaws.{fits_within}
use Rattle.ipsens_core.specs.Answers.{Answer, says}
use Rattle.ipsens_core.specs.Internal.Made.{IsWritten, answer_of}
use Rattle.ipsens_core.specs.Internal.QuestionFiles.{IsMadeFor}
use Rattle.ipsens_core.specs.Sweep.{IsSwept, sweep_answer}
use Rattle.ipsens_core.specs.declared.answers.Made.{Made}
use Rattle.ipsens_core.specs.declared.statuses.Status.TheVariants.{Budget}

-- the tree that a stopped solve has grown is within the nodes that it was given
grown_within : (m : Parts) (l : Limits) (nodes : ℕ) (what : BudgetWhat) (grown : OpenTree) (best : Option (List ℤ)) → nodes ≤ 1000000
    → IsStopCause m l nodes what grown best → grown_count grown ≤ 1000000
grown_within m l zero what grown best few cause = rw cause.grown_is (omega arith)
grown_within m l (suc n) what grown best few cause =
    let same = places_counted 0 (box_of m) (plain_open grown) in
    let most = cause.right.nodes in
    omega arith

-- so the text of a stop can be printed
pub stop_within : (m : Parts) (d : List (Place × ℤ)) (steps : ℕ) (l : Limits) (stop : RowStop) → l.nodes ≤ 1000000
    → IsRowStop m d steps l stop → IsStopWithin stop
stop_within m d steps l (Stops.Budget what p q grown best nodes made) most is =
    let left = is.left in
    let few : nodes ≤ 1000000 = omega arith in
    grown_within (row_at m d (count p)) l nodes what grown best few is.cause
stop_within m d steps l (Stops.Solves p q made) most is = tt
stop_within m d steps l Stops.Memory most is = tt

-- the answer to a finished sweep
sweep_made : (m : Parts) (d : List (Place × ℤ)) (steps : ℕ) (l : Limits) (proof : Option (List ℕ)) (ps : List RowPiece) (made : Made)
    → IsWithinLimits m → IsExactRowSweep m d steps ps → row_rules m d steps ps ≡ Proved → FitsPieces m ps
    → answer_of made ≡ sweep_answer m proof ps → IsMadeFor (IsSwept m d steps l proof) made
sweep_made m d steps l proof ps made limits exact proved fits is = record {
  written = subst (λ (a : Answer). IsWritten a.status) (sym is) tt;
  owed = inl (record {
    pieces = ps;
    exact = exact;
    proved = proved;
    fits = fits;
    spelled = record { within = fits_within m ps limits.column_count fits; spelled = refl };
    answer = is;
  });
}

-- the answer to a stop
stop_made : (m : Parts) (d : List (Place × ℤ)) (steps : ℕ) (l : Limits) (proof : Option (List ℕ)) (stop : RowStop) (made : Made)
    → IsRowStop m d steps l stop → (AreAmpleFor m steps l → stop ≡ Stops.Memory) → stop ≢ Stops.Memory
    → answer_of made ≡ says Budget (row_stop_lines stop) → IsMadeFor (IsSwept m d steps l proof) made
stop_made m d steps l proof stop made cause ends named is = record {
  written = subst (λ (a : Answer). IsWritten a.status) (sym is) tt;
  owed = inr (record { stop = stop; named = named; cause = cause; short = λ ample. named (ends ample); answer = is });
}

-- the answer to a finished sweep, or want of memory
pub sweep_answered : (m : Parts) (d : List (Place × ℤ)) (steps : ℕ) (l : Limits) (proof : Option (List ℕ)) (ps : List RowPiece)
    (result : Result Made Memory) → IsWithinLimits m → IsExactRowSweep m d steps ps → row_rules m d steps ps ≡ Proved → FitsPieces m ps
    → IfOk result (λ made. answer_of made ≡ sweep_answer m proof ps) → IfOk result (IsMadeFor (IsSwept m d steps l proof))
sweep_answered m d steps l proof ps (Ok made) limits exact proved fits is = sweep_made m d steps l proof ps made limits exact proved fits is
sweep_answered m d steps l proof ps (Err e) limits exact proved fits is = tt

-- the answer to a stop, or want of memory
pub stop_answered : (m : Parts) (d : List (Place × ℤ)) (steps : ℕ) (l : Limits) (proof : Option (List ℕ)) (stop : RowStop)
    (result : Result Made Memory) → IsRowStop m d steps l stop → (AreAmpleFor m steps l → stop ≡ Stops.Memory)
    → IfOk result (λ made. answer_of made ≡ says Budget (row_stop_lines stop)) → IfOk result (λ made. stop ≢ Stops.Memory)
    → IfOk result (IsMadeFor (IsSwept m d steps l proof))
stop_answered m d steps l proof stop (Ok made) cause ends is named = stop_made m d steps l proof stop made cause ends named is
stop_answered m d steps l proof stop (Err e) cause ends is named = tt

-- limits with another number of nodes
pub most_fits : (m : Parts) (l : Limits) → l.nodes ≤ allowance m 1000000 → l.nodes ≤ 1000000
most_fits m l most = omega arith
