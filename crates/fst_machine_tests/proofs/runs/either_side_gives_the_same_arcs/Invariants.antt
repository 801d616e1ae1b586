use Rattle.fst_machine_tests.proofs.runs.either_side_gives_the_same_arcs.Given as goal

abbrev pub ghosts-searched : goal.ghosts-searched
ghosts-searched g a = record { name = a.blank.name; parts = a.blank.parts }
