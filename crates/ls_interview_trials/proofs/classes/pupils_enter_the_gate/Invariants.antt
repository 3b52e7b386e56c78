use Rattle.ls_interview_trials.proofs.classes.pupils_enter_the_gate.Given as goal

abbrev pub ghosts-all_sets : goal.ghosts-all_sets
ghosts-all_sets g a = record { name = a.blank.name; parts = a.blank.parts }
