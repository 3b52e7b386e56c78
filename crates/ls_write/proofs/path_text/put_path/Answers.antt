use Rattle.ls_write.proofs.Vocabulary.{◌++◌, ◌<◌, ◌∙◌, ◌∷◌, ◌≤◌, [], ap, append-nil, arith, codes, length, name_of, spaced, sym, take, take_all}
use Rattle.ls_room.proofs.Saying.{says_as, says_then}
use Rattle.ls_room.proofs.LineBytes.{images-next}
use Rattle.ls_write.proofs.Fronts.{All-behind, line-path}
use Rattle.ls_write.proofs.path_text.put_path.Goals as goal

pub loop-item-init : goal.loop-item-init
loop-item-init g c = says_as (ap (λ l. codes "path" ++ l) c.text.ensures ∙ sym (append-nil (codes "path" ++ c.share-rest.new.shared.text))) (says_then c.put.ensures.says c.put-2.ensures.says)

pub loop-item-preserved : goal.loop-item-preserved
loop-item-preserved g c =
    let rest = c.share-rest.result.now in
    let test : c.loop-item.item-index < length rest = omega arith in
    let front = codes "path" ++ c.share-rest.new.shared.text in
    let name = name_of c.args.texts.now in
    says_as (ap (λ w. (front ++ spaced name (take c.loop-item.item-index rest)) ++ w) c.name_text.ensures ∙ images-next front name rest c.loop-item.item-index 0 test)
    (says_then c.loop-item.invariant c.put-in-loop-item.ensures.says)

pub returns-clause-says : goal.returns-clause-says
returns-clause-says g c =
    let shared = c.share-rest.new.shared in
    let rest = c.share-rest.result.now in
    let names = c.args.texts.now in
    let test : length rest ≤ c.loop-item.item-index = omega arith in
    says_as (ap (λ is. ((codes "path" ++ shared.text) ++ spaced (name_of names) is) ++ 10 ∷ []) (take_all c.loop-item.item-index rest test)
    ∙ line-path names shared rest c.args.order.now c.share-rest.ensures.text c.share-rest.ensures.parts)
    (says_then c.loop-item.invariant c.end_line.ensures)

pub name_text-requires : goal.name_text-requires
name_text-requires g c =
    All-behind (λ i. i < length c.args.texts.now) c.share-rest.new.shared.front c.share-rest.result.now c.args.order.now c.loop-item.item-index 0 c.share-rest.ensures.parts c.requires.order
    (let test : c.loop-item.item-index < length c.share-rest.result.now = omega arith in test)
