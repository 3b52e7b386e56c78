use Rattle.ls_expert.proofs.inquiry.Inquiry.next_question.Given as goal

-- the ledger is named by the blank
abbrev pub ghosts-question_counted : goal.ghosts-question_counted
ghosts-question_counted a = record { name = a.blank.name; parts = a.blank.parts }
