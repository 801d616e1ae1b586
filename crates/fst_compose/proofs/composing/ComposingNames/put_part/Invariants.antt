use Rattle.fst_compose.proofs.composing.ComposingNames.put_part.Given as goal

abbrev pub ghosts-put_part : goal.ghosts-put_part
ghosts-put_part g a = record { name = a.blank.name; parts = a.blank.parts }
