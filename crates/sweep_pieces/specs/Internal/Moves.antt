-- Solves whose claims and trees are moved out.
use Rattle.std.specs.Prelude.{◌≡◌, ℕ, ◌^◌, ◌≤◌, List, [], Option, Some, None, slice_get, pos}
use Rattle.ip_model.specs.Places.{changed_at}
use Rattle.proof_tree.specs.declared.claims.Claim.TheVariants.{Empty}
use Rattle.proof_tree.specs.declared.trees.Tree.{Leaf}
use Rattle.sweep_pieces.specs.Runs.{step_at, step_of}
use Rattle.sweep_pieces.specs.declared.runs.Run.{Run}
use Rattle.sweep_solves.specs.declared.made_solves.Made.{Made}

-- a solve is at a step of at most 10 ^ 6
pub record IsShortStep (s : Made) : Type 0 where
  pub step : s.p ≡ pos (step_of s)
  pub few : step_of s ≤ 10 ^ 6

abbrev pub HasShortStep : Option Made → Type 0
HasShortStep None = ⊥
HasShortStep (Some s) = IsShortStep s

-- a solve with the claim of emptiness in place of its own
abbrev pub without_claim : Made → Made
without_claim s = record { p = s.p; q = s.q; proof = record { claim = Empty; tree = s.proof.tree }; reasons = s.reasons }

-- a solve with a leaf in place of its tree
abbrev pub without_tree : Made → Made
without_tree s =
    record { p = s.p; q = s.q; proof = record { claim = s.proof.claim; tree = Leaf (record { q = pos 0; y = [] }) }; reasons = s.reasons }

-- the solves from which the piece of a run was taken
abbrev pub after_taking : Run → List Made → List Made
after_taking r ms = changed_at without_tree r.last (changed_at without_claim r.first ms)

-- solves from which the pieces of earlier steps were taken: each of the later steps is still whole
abbrev pub AreLeft : List Made → ℕ → List Made → Type 0
AreLeft ms next ls = (k : ℕ) → next ≤ step_at ms k → slice_get ls k ≡ slice_get ms k
