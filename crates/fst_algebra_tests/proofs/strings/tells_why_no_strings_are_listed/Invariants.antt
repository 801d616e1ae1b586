use Rattle.fst_algebra_tests.proofs.strings.tells_why_no_strings_are_listed.Given as goal

abbrev pub ghosts-firsts : goal.ghosts-firsts
ghosts-firsts g a = record { name = a.blank.name; parts = a.blank.parts }
