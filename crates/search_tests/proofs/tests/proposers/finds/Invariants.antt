use Rattle.search_tests.proofs.tests.proposers.finds.Given as goal

abbrev pub ghosts-counted_search : goal.ghosts-counted_search
ghosts-counted_search g a = record { name = a.blank.name; parts = a.blank.parts }
