use Rattle.fst_verbs.proofs.commands.listing.strings_listed.Given as goal

abbrev pub ghosts-first_strings : goal.ghosts-first_strings
ghosts-first_strings g a = record { name = a.blank.name; parts = a.blank.parts }
