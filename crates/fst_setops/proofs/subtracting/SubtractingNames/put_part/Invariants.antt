use Rattle.fst_setops.proofs.subtracting.SubtractingNames.put_part.Given as goal

abbrev pub ghosts-put_rests : goal.ghosts-put_rests
ghosts-put_rests g a = record { name = a.blank.name; parts = a.blank.parts }
