use Rattle.fst_verbs.proofs.commands.listing.paths_listed.Given as goal

abbrev pub ghosts-first_paths : goal.ghosts-first_paths
ghosts-first_paths g a = record { name = a.blank.name; parts = a.blank.parts }
