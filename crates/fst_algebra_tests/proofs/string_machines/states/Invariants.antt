use Rattle.fst_algebra_tests.proofs.string_machines.states.Given as goal

abbrev pub ghosts-chained : goal.ghosts-chained
ghosts-chained a = record { name = a.blank.name; parts = a.blank.parts }
