use Rattle.fst_batch.proofs.answering.answer_lattice.Given as goal

abbrev pub ghosts-best_paths : goal.ghosts-best_paths
ghosts-best_paths g a = record { name = a.blank.name; parts = a.blank.parts }
