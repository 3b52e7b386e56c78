use Rattle.ls_lines.proofs.form.Form.with_initial.Goals as goal

pub returns-in-115 : goal.returns-in-115
returns-in-115 c = rw c.in-115.is c.with_s.ensures
