use Rattle.fst_algebra_tests.proofs.shortest_paths.a_cycle_on_successful_paths_that_is_better_than_one_is_listed.Given as goal

abbrev pub ghosts-firsts : goal.ghosts-firsts
ghosts-firsts g a = record { name = a.blank.name; parts = a.blank.parts }
