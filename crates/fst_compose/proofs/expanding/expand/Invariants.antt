use Rattle.fst_compose.proofs.expanding.expand.Given as goal

abbrev pub ghosts-expand_by : goal.ghosts-expand_by
ghosts-expand_by g a = record { name = a.blank.name; parts = a.blank.parts }
