use Rattle.simplex_tests.proofs.tests.tableaus.is_played.Given as goal

abbrev pub ghosts-is_played_counted : goal.ghosts-is_played_counted
ghosts-is_played_counted a = record { name = a.blank.name; parts = a.blank.parts }
