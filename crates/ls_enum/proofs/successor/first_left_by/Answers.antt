use Rattle.ls_enum.proofs.Vocabulary.{◌∙◌, find-any, sym}
use Rattle.ls_enum.proofs.Filled.{first-widest}
use Rattle.ls_enum.proofs.successor.first_left_by.Goals as goal

pub next_by-requires-clause-small : goal.next_by-requires-clause-small
next_by-requires-clause-small g c = c.requires.small c.in-Some.word c.in-Some.is

pub returns-in-None-clause-first : goal.returns-in-None-clause-first
returns-in-None-clause-first g c = rw c.in-None.is (sym c.first-greatest.ensures.first ∙ sym (find-any (g.I.Interior.members c.args.f.now)))

pub returns-in-None-clause-widest : goal.returns-in-None-clause-widest
returns-in-None-clause-widest g c =
    let n = g.I.Interior.item_count c.args.f.now in
    let f = g.I.Interior.members c.args.f.now in
    c.push.ensures f c.requires.widest (first-widest n f c.first-greatest.result (g.met.I.Interior.is_family c.args.f.now) (find-any f ∙ c.first-greatest.ensures.first))
