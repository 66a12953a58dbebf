use Rattle.ipsens_bench.proofs.pivots.pivoted.Given as goal

abbrev pub ghosts-pivot_often : goal.ghosts-pivot_often
ghosts-pivot_often a = record { name = a.blank.name; parts = a.blank.parts }
