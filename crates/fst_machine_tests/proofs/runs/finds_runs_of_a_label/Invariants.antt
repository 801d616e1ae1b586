use Rattle.fst_machine_tests.proofs.runs.finds_runs_of_a_label.Given as goal

abbrev pub ghosts-places : goal.ghosts-places
ghosts-places g a = record { name = a.blank.name; parts = a.blank.parts }
