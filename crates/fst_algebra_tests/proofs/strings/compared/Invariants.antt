use Rattle.fst_algebra_tests.proofs.strings.compared.Given as goal

abbrev pub ghosts-firsts : goal.ghosts-firsts
ghosts-firsts g a = record { name = a.blank.name; parts = a.blank.parts }
