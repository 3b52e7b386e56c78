use Rattle.ls_interview_trials.proofs.families.all_sets_are_listed_and_told_of.Given as goal

abbrev pub ghosts-all_sets : goal.ghosts-all_sets
ghosts-all_sets g a = record { name = a.blank.name; parts = a.blank.parts }
