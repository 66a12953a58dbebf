use Rattle.sweep_tests.proofs.tests.few_solves.within.Given as goal

abbrev pub ghosts-solved : goal.ghosts-solved
ghosts-solved a = record { name = a.blank.name; parts = a.blank.parts }
