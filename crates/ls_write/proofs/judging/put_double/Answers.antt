use Rattle.ls_write.proofs.Vocabulary.{name_of, set_text}
use Rattle.ls_room.proofs.Saying.{says_as, says_then}
use Rattle.ls_room.proofs.LineBytes.{end-double}
use Rattle.ls_write.proofs.judging.put_double.Goals as goal

pub returns : goal.returns
returns g c =
    let names = c.args.texts.now in
    says_as (end-double (set_text names c.args.set) (name_of names c.args.first) (name_of names c.args.second))
    (says_then (says_then (says_then c.put_set.ensures c.put_name.ensures) c.put_name-2.ensures) c.end_line.ensures)
