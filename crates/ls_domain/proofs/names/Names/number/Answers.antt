use Rattle.ls_domain.proofs.Vocabulary.{◌∙◌, ap, number_of, sym}
use Rattle.ls_domain.proofs.Numbers.{number-none, numbered-is_name, numbered-place}
use Rattle.ls_domain.proofs.names.Names.number.Goals as goal

pub returns-in-Some-clause-name : goal.returns-in-Some-clause-name
returns-in-Some-clause-name c = numbered-is_name _ _ _ c.hinted.ensures.names (sym c.in-Some.ensures.value)

pub returns-in-Some-clause-place : goal.returns-in-Some-clause-place
returns-in-Some-clause-place c = numbered-place _ _ _ c.hinted.ensures.names c.in-Some.ensures.value

pub returns-in-Ok-clause-name : goal.returns-in-Ok-clause-name
returns-in-Ok-clause-name c = numbered-is_name _ _ _ c.hinted.ensures.names (c.sought.ensures.value ∙ ap (number_of c.args.self.now) c.in-Ok.ensures.cases.0)

pub returns-in-Err-clause-value : goal.returns-in-Err-clause-value
returns-in-Err-clause-value c = number-none _ _ c.hinted.ensures.names c.in-Err.ensures.cases.0
