-- The printed text of an answer of `solve`: a cheapest plan, no plan, or the best plan so far of a search that a limit stopped.
use Rattle.std.specs.Prelude.{◌≡◌, ℕ, List, ◌++◌, flat_map, length, zip, Option, None, Some, codes, decimal, ℤ}
use Rattle.std.specs.Fmt.{signed_decimal}
use Rattle.std.specs.Option.{ForSome}
use Rattle.branching.specs.declared.budgets.BudgetWhat.{BudgetWhat}
use Rattle.branching.specs.declared.budgets.BudgetWhat.TheVariants.{Nodes, Depth}
use Rattle.branching.specs.declared.outcomes.Outcome.{Outcome}
use Rattle.branching.specs.declared.outcomes.Outcome.TheVariants.{Best, Empty, Budget}
use Rattle.branching.specs.Counts.{nodes_of, skipped_of}
use Rattle.ip_defs.specs.Program.{cost}
use Rattle.ip_defs.specs.declared.programs.Column.{Column}
use Rattle.ip_defs.specs.declared.programs.Parts.{Parts}
use Rattle.mps_defs.specs.CanonicalText.{newline, value_text}
use Rattle.proof_tree.specs.declared.claims.Claim.{Claim}
use Rattle.proof_tree.specs.declared.claims.Claim.TheVariants as Claims

abbrev pub value_line : Column × ℤ → List ℕ
value_line p = codes "value " ++ p.0.name ++ codes " " ++ signed_decimal p.1 ++ newline

abbrev pub value_lines : Parts → List ℤ → List ℕ
value_lines m x = flat_map value_line (zip m.columns x)

-- how many nodes the tree of a search has, and how many of its splits went without the answer of a linear program
abbrev pub count_lines : ℕ → ℕ → List ℕ
count_lines nodes skipped = codes "nodes " ++ decimal nodes ++ newline ++ codes "skipped " ++ decimal skipped ++ newline

-- `optimum V` and the values of a point, or `empty`
abbrev pub optimum_lines : Parts → Option (List ℤ) → List ℕ
optimum_lines m None = codes "empty" ++ newline
optimum_lines m (Some x) = codes "optimum " ++ value_text m (cost m x) ++ newline ++ value_lines m x

-- that, and the counts of the search
abbrev pub answer_lines : Parts → Option (List ℤ) → ℕ → ℕ → List ℕ
answer_lines m point nodes skipped = optimum_lines m point ++ count_lines nodes skipped

abbrev pub best_lines : Parts → Option (List ℤ) → List ℕ
best_lines m None = codes "best none" ++ newline
best_lines m (Some x) = codes "best " ++ value_text m (cost m x) ++ newline ++ value_lines m x

-- a search that stopped, its counts, and the best point that it found; what is `nodes` or `depth`
abbrev pub budget_lines : Parts → List ℕ → ℕ → ℕ → Option (List ℤ) → List ℕ
budget_lines m what nodes skipped best = codes "budget " ++ what ++ newline ++ count_lines nodes skipped ++ best_lines m best

-- ---- the text of an outcome

-- the point of a claim
abbrev pub claimed : Claim → Option (List ℤ)
claimed (Claims.Best x) = Some x
claimed Claims.Empty = None

-- the limit that stopped a search
abbrev pub limit_word : BudgetWhat → List ℕ
limit_word Nodes = codes "nodes"
limit_word Depth = codes "depth"

abbrev pub outcome_lines : Parts → Outcome → List ℕ
outcome_lines m (Best p whys) = answer_lines m (claimed p.claim) (nodes_of (Best p whys)) (skipped_of (Best p whys))
outcome_lines m (Empty p whys) = answer_lines m None (nodes_of (Empty p whys)) (skipped_of (Empty p whys))
outcome_lines m (Budget what grown best) =
    let o = Budget what grown best in
    budget_lines m (limit_word what) (nodes_of o) (skipped_of o) best

-- a point has a value for each column
abbrev pub IsWhole : Parts → Option (List ℤ) → Type 0
IsWhole m point = ForSome point (λ x. length x ≡ length m.columns)

-- so has the point that is printed of an outcome, if there is one
abbrev pub ArePointsWhole : Parts → Outcome → Type 0
ArePointsWhole m (Best p whys) = IsWhole m (claimed p.claim)
ArePointsWhole m (Empty p whys) = Unit {0}
ArePointsWhole m (Budget what grown best) = IsWhole m best
