use Rattle.ls_interview_trials.proofs.interviews.answers_are_taken_and_taken_back.Given as goal

abbrev pub ghosts-both : goal.ghosts-both
ghosts-both g a = record { name = a.blank.name; parts = a.blank.parts }
