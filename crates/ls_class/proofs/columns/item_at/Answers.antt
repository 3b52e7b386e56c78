use Rattle.ls_class.proofs.Vocabulary.{◌∙◌, ap, number_of, option_and_then, sym}
use Rattle.ls_class.proofs.Headers.{number_of-bytes}
use Rattle.ls_class.proofs.columns.item_at.Goals as goal

pub returns-in_default-clause-value : goal.returns-in_default-clause-value
returns-in_default-clause-value c =
    sym (ap (option_and_then (number_of c.args.domain.now)) (sym c.in_ok-get.ensures.value) ∙ number_of-bytes c.args.domain.now c.in_ok-get.field-0.now c.requires c.in_default.ensures.cases.0)
