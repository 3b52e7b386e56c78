use Rattle.ls_expert.proofs.Vocabulary.{◌∙◌, start_of, sym}
use Rattle.ls_expert.proofs.Saving.{broken-fits, table_fault}
use Rattle.ls_expert.proofs.inquiry.resumed.parts_with.Goals as goal

pub returns-in_err-table-clause-fault : goal.returns-in_err-table-clause-fault
returns-in_err-table-clause-fault g c =
    table_fault _ _ c.from_residual-in_err-table.result c.in_err-table.field-0.0
    (broken-fits c.in_ok-family.family c.args.n (start_of c.args.start) c.args.answers.now c.in_ok-family.ensures.inner c.in_ok-family.ensures.rules)
    c.in_err-table.ensures.fault c.from_residual-in_err-table.ensures.1

pub returns-clause-fits : goal.returns-clause-fits
returns-clause-fits g c =
    sym (broken-fits c.in_ok-family.family c.args.n (start_of c.args.start) c.args.answers.now c.in_ok-family.ensures.inner c.in_ok-family.ensures.rules)
    ∙ c.in_ok-table.ensures.broken
