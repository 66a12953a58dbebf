use Rattle.simplex_tests.proofs.tests.linear_programs.has_answer.Given as goal

abbrev pub ghosts-answers_counted : goal.ghosts-answers_counted
ghosts-answers_counted a = record { name = a.blank.name; parts = a.blank.parts }
