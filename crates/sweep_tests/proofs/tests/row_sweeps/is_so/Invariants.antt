use Rattle.sweep_tests.proofs.tests.row_sweeps.is_so.Given as goal

abbrev pub ghosts-sweeps_counted : goal.ghosts-sweeps_counted
ghosts-sweeps_counted a = record { name = a.blank.name; parts = a.blank.parts }
