use Rattle.ls_write.proofs.Vocabulary.{codes, names_of_set}
use Rattle.ls_room.proofs.Saying.{says_as, says_then}
use Rattle.ls_room.proofs.LineBytes.{line-barred}
use Rattle.ls_write.proofs.judging.put_fringes.Goals as goal

pub returns : goal.returns
returns g c =
    let names = c.args.texts.now in
    says_as (line-barred (codes "fringes") (names_of_set names c.args.fringes.inner) (names_of_set names c.args.fringes.outer))
    (says_then (says_then (says_then (says_then c.put.ensures.says c.put_spaced.ensures) c.put-2.ensures.says) c.put_spaced-2.ensures) c.end_line.ensures)
