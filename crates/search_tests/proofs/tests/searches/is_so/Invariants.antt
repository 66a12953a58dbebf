use Rattle.search_tests.proofs.tests.searches.is_so.Given as goal

abbrev pub ghosts-ends_counted : goal.ghosts-ends_counted
ghosts-ends_counted a = record { name = a.blank.name; parts = a.blank.parts }
