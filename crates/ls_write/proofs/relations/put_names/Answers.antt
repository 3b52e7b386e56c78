use Rattle.ls_write.proofs.Vocabulary.{◌<◌, ◌∙◌, ◌∷◌, ◌≤◌, [], ap, append_assoc, arith, length}
use Rattle.ls_write.proofs.Vocabulary.{name_of, spaced, spaced-next, sym, take, take_all}
use Rattle.ls_room.proofs.Saying.{says_as, says_nothing, says_then}
use Rattle.ls_write.proofs.relations.put_names.Goals as goal

pub loop-item-init : goal.loop-item-init
loop-item-init g c = says_nothing _ _ _

pub loop-item-preserved : goal.loop-item-preserved
loop-item-preserved g c =
    let test : c.loop-item.item-index < length c.args.items.now = omega arith in
    let name = name_of c.args.texts.now in
    let front = spaced name (take c.loop-item.item-index c.args.items.now) in
    says_as
    (sym (append_assoc front (32 ∷ []) (name _)) ∙ spaced-next name c.args.items.now
    c.loop-item.item-index _ test)
    (says_then c.loop-item.invariant c.put_name.ensures)

pub returns : goal.returns
returns g c =
    let test : length c.args.items.now ≤ c.loop-item.item-index = omega arith in
    says_as
    (ap (spaced (name_of c.args.texts.now))
    (take_all c.loop-item.item-index c.args.items.now test)) c.loop-item.invariant
