use Rattle.fst_algebra_tests.proofs.shortest_paths.compare_wide.Given as goal

abbrev pub ghosts-are_wide_firsts : goal.ghosts-are_wide_firsts
ghosts-are_wide_firsts g a = record { name = a.blank.name; parts = a.blank.parts }
