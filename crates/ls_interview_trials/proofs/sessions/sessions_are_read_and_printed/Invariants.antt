use Rattle.ls_interview_trials.proofs.sessions.sessions_are_read_and_printed.Given as goal

abbrev pub ghosts-sessions : goal.ghosts-sessions
ghosts-sessions g a = record { name = a.blank.name; parts = a.blank.parts }
