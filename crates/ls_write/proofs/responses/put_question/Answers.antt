use Rattle.ls_write.proofs.Vocabulary.{◌∙◌, Option, ap, joined_names, line_bytes, name_of, question_line, sym}
use Rattle.ls_set.specs.declared.query.Query.{Query}
use Rattle.ls_room.proofs.Saying.{says_as, says_then}
use Rattle.ls_room.proofs.LineBytes.{line-question}
use Rattle.ls_write.proofs.responses.put_question.Goals as goal

pub returns-in-Some : goal.returns-in-Some
returns-in-Some g c =
    let names = c.args.texts.now in
    let r = c.in-Some.query in
    says_as (line-question (joined_names names r.a) (name_of names r.q) ∙ ap (λ (o : Option Query). line_bytes (question_line names o)) (sym c.in-Some.is))
    (says_then (says_then (says_then (says_then c.put.ensures.says c.put_names.ensures) c.put-in-Some.ensures.says) c.put_name.ensures) c.end_line.ensures)
