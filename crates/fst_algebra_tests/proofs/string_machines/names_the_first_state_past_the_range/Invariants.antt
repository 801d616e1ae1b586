use Rattle.fst_algebra_tests.proofs.string_machines.names_the_first_state_past_the_range.Given as goal

abbrev pub ghosts-chained : goal.ghosts-chained
ghosts-chained g a = record { name = a.blank.name; parts = a.blank.parts }
