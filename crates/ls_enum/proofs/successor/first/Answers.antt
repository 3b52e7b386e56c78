use Rattle.ls_enum.proofs.Vocabulary.{◌∙◌, find-any, interior-within, sym}
use Rattle.ls_enum.proofs.Successors.{first-is}
use Rattle.ls_enum.proofs.successor.first.Goals as goal

pub returns-clause-first : goal.returns-clause-first
returns-clause-first g c =
    rw (c.interior.ensures.value, c.full.ensures, c.items.ensures.count) (sym (find-any _) ∙ first-is _ _ (g.met.I.Interior.is_family c.args.f.now))

pub returns-clause-small : goal.returns-clause-small
returns-clause-small g c =
    rw (c.interior.ensures.value, c.full.ensures, c.items.ensures.count) (interior-within (g.I.Interior.members c.args.f.now) _)
