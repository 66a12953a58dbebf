-- What the bytes of a tree file come to for a model: their first fault, or else the first misfit of the proof that they spell, or else the
-- verdict on that proof.
use Rattle.std.specs.Prelude.{◌≡◌, ℕ, List, length, Option, Some, None, Result, Ok, Err}
use Rattle.std.specs.Option.{option_or}
use Rattle.ip_defs.specs.declared.programs.Parts.{Parts}
use Rattle.proof_tree.specs.Trees.{PlainTree, tree_bound, tree_misfit}
use Rattle.proof_tree.specs.Verdicts.{claim_misfit, judged}
use Rattle.proof_tree.specs.declared.claims.Claim.{Claim}
use Rattle.proof_tree.specs.declared.faults.Shape.{Shape}
use Rattle.proof_tree.specs.declared.verdicts.Verdict.{Verdict}
use Rattle.tree_checker.specs.Internal.Streaming.{IsStreaming}
use Rattle.tree_checker.specs.declared.streams.StreamError.{StreamError}
use Rattle.tree_checker.specs.declared.streams.Streaming.{Streaming}
use Rattle.tree_format.specs.Grammar.{first_fault}
use Rattle.tree_format.specs.Spellings.{Spells}
use Rattle.tree_checker.specs.declared.streams.StreamError.TheVariants as errors

-- the first misfit of a claim and a tree: of the point, with node 0, then of the nodes in preorder
abbrev pub first_misfit : Parts → Claim → PlainTree → Option Shape
first_misfit m c t = option_or (claim_misfit (length m.columns) c) (tree_misfit (length m.columns) (length m.rows) t)

-- the answer to the bytes of a whole file
abbrev pub IsStreamAnswer : Parts → List ℕ → Result Verdict StreamError → Type 0
IsStreamAnswer m bytes (Err (errors.Tree e)) = first_fault bytes ≡ Some e
IsStreamAnswer m bytes (Err (errors.Shape s)) = (c : Claim) × (t : PlainTree) × Spells bytes c t × (first_misfit m c t ≡ Some s)
IsStreamAnswer m bytes (Ok verdict) =
    (c : Claim) × (t : PlainTree) × Spells bytes c t × (first_misfit m c t ≡ None) × (verdict ≡ judged m c (tree_bound m t))

-- a check for a model has taken some bytes
abbrev pub HasStreamed : Parts → Parts × Streaming → List ℕ → Type 0
HasStreamed m s bytes = (s.0 ≡ m) × IsStreaming m s.1 bytes
