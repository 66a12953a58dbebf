-- Workspaces: which models they fit.
use Rattle.std.specs.Prelude.{◌≡◌, length}
use Rattle.ip_defs.specs.declared.programs.Parts.{Parts}
use Rattle.leaf_cert.specs.Scratches.{FitsScratch}
use Rattle.tree_checker.specs.declared.workspaces.Workspace.{Workspace}

-- a workspace fits a program: it has a number for each column, and blanks of each length up to the number of rows
pub record FitsWorkspace (m : Parts) (w : Workspace) : Type 0 where
  pub scratch : FitsScratch m w.scratch
  pub blanks : w.blanks ≡ length m.rows
