-- What is taken from node to node fits its program.
use Rattle.std.specs.Prelude.{◌≡◌, length, vec_len}
use Rattle.ip_defs.specs.declared.programs.Parts.{Parts}
use Rattle.leaf_cert.specs.Scratches.{FitsScratch}
use Rattle.node_bounds.specs.declared.workspaces.Workspace.{Workspace}

-- there is memory for the bounds and for the check of each node of a program
pub record FitsWorkspace (m : Parts) (w : Workspace) : Type 0 where
  pub scratch : FitsScratch m w.scratch
  pub numbers : vec_len w.numbers ≡ length m.columns
