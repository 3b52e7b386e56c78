use Rattle.ls_room.proofs.Vocabulary.{◌%◌, ◌*◌, ◌++◌, ◌/◌, ◌∙◌, ◌≡◌, [], ap, arith, common_steps, group_count, group_text, group_texts, length, map, numbers_from}
use Rattle.ls_room.proofs.Groups.{texts-next}
use Rattle.ls_room.proofs.set_texts.texts_of.Goals as goal

pub loop-index-preserved : goal.loop-index-preserved
loop-index-preserved c =
    let k = c.loop-index.index in
    let empty : c.clear.new.self.items ≡ [] = grind (arith, common_steps) in
    let text : c.deref.result.now ≡ group_text c.args.domain.now (k / 256) (k % 256) = c.deref.ensures.value ∙ c.in_ok-push_group.ensures ∙ ap (λ l. l ++ group_text c.args.domain.now (k / 256) (k % 256)) empty in
    c.in_ok-push.ensures ∙ texts-next c.args.domain.now c.loop-index.texts c.deref.result.now k c.loop-index.invariant text

pub returns : goal.returns
unfolding group_texts
returns c =
    let names = c.args.domain.now in
    let all : c.loop-index.index ≡ 256 * group_count (length names) = omega (arith, c.count.ensures.value, c.div_ceil-index-end.ensures) in
    c.loop-index.invariant ∙ ap (λ m. map (λ k. group_text names (k / 256) (k % 256)) (numbers_from 0 m)) all
