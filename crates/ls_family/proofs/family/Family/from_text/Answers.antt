use Rattle.ls_family.proofs.Vocabulary.{◌∙◌, ◌≡◌, IsFamilyFault, Ok, ap, arith, common_steps, keys_of, rules, sets_of, sym}
use Rattle.ls_family.proofs.Rows.{sets_of-ok, sets_of-fault}
use Rattle.ls_family.proofs.family.Family.from_text.Goals as goal

pub returns-in_err-found-clause-fault : goal.returns-in_err-found-clause-fault
returns-in_err-found-clause-fault c =
    let told : IsFamilyFault (sets_of c.args.d.now c.args.bytes.now) c.in_err-found.field-0.0 = sets_of-fault c.args.d.now c.args.bytes.now c.in_err-found.field-0.0 c.in_err-found.ensures.fault in
    grind (arith, common_steps, told)

pub returns-clause-read : goal.returns-clause-read
returns-clause-read c =
    let same : c.in_ok-members.members.items ≡ keys_of c.in_ok-found.found = search rules in
    sets_of-ok c.args.d.now c.args.bytes.now c.in_ok-found.found c.in_ok-found.ensures.read ∙ ap (λ l. Ok l) (sym same)
