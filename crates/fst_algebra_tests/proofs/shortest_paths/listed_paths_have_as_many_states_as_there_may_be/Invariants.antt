use Rattle.fst_algebra_tests.proofs.shortest_paths.listed_paths_have_as_many_states_as_there_may_be.Given as goal

abbrev pub ghosts-chained : goal.ghosts-chained
ghosts-chained g a = record { name = a.blank.name; parts = a.blank.parts }
