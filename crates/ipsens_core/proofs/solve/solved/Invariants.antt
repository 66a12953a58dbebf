use Rattle.ipsens_core.proofs.solve.solved.Given as goal

abbrev pub ghosts-searched : goal.ghosts-searched
ghosts-searched a = record { name = a.blank.name; parts = a.blank.parts }
