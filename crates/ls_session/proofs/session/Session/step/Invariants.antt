use Rattle.ls_session.proofs.session.Session.step.Given as goal

abbrev pub ghosts-answer : goal.ghosts-answer
ghosts-answer g a = record { name = a.blank.name; parts = a.blank.parts }
