use Rattle.ls_interview_trials.proofs.duals.conjunctive_states_are_paged.Given as goal

abbrev pub ghosts-pages : goal.ghosts-pages
ghosts-pages g a = record { name = a.blank.name; parts = a.blank.parts }
