use Rattle.ls_class.proofs.Vocabulary.{◌∙◌, ap, arith, length, length-append, length-map, map, sym}
use Rattle.ls_class.proofs.Kept.{row_kept, put_last}
use Rattle.ls_class.proofs.class_table.ClassTable.push.Goals as goal

pub returns-clause-ok : goal.returns-clause-ok
returns-clause-ok c =
    ap (map row_kept) c.in_ok-insert.ensures.entries ∙ put_last c.self.inside.pupils.entries c.in_ok-text.text c.args.right c.args.self.now c.args.name.now c.self.view_is c.in_ok-text.ensures.ok c.requires.new

pub invariant_of-self-2 : goal.invariant_of-self-2
invariant_of-self-2 c =
    let is = ap (map row_kept) c.in_ok-insert.ensures.entries ∙ put_last c.self.inside.pupils.entries c.in_ok-text.text c.args.right c.args.self.now c.args.name.now c.self.view_is c.in_ok-text.ensures.ok c.requires.new in
    let count = sym (length-map c.insert.new.self.entries row_kept) ∙ ap length is ∙ length-append c.args.self.now _ in
    omega (arith, count, c.requires.room)
