use Rattle.ls_rules.proofs.Vocabulary.{◌++◌, ◌∙◌, ◌∷◌, PlaceList, [], ap, get_or_default, least-cases, length-set, no_places, sym}
use Rattle.ls_rules.proofs.Indexing.{room_within, Pushing-more, Pushing-done}
use Rattle.ls_rules.proofs.Rounds.{no_least, len-without_least}
use Rattle.ls_rules.proofs.index.push_each.Goals as goal

pub bounds-lists-i : goal.bounds-lists-i
bounds-lists-i c =
    let here = least-cases c.loop-i.left c.in-Some.i (sym c.least.ensures.value ∙ c.in-Some.is) in
    room_within c.loop-i.lists c.in-Some.i (c.loop-i.invariant.pushing.room c.in-Some.i here.0)

pub push-requires : goal.push-requires
push-requires c =
    let i = c.in-Some.i in
    let here = least-cases c.loop-i.left i (sym c.least.ensures.value ∙ c.in-Some.is) in
    let room = c.loop-i.invariant.pushing.room i here.0 in
    rw (get_or_default c.loop-i.lists i c.index-lists-i.result no_places (room_within c.loop-i.lists i room)) room

pub loop-i-smaller : goal.loop-i-smaller
loop-i-smaller c = rw c.without-left.ensures (len-without_least c.loop-i.left c.in-Some.i (sym c.least.ensures.value ∙ c.in-Some.is))

pub loop-i-preserved : goal.loop-i-preserved
loop-i-preserved c =
    let i = c.in-Some.i in
    let lists = c.loop-i.lists in
    let pushing = c.loop-i.invariant.pushing in
    let here = least-cases c.loop-i.left i (sym c.least.ensures.value ∙ c.in-Some.is) in
    let inside = room_within lists i (pushing.room i here.0) in
    let put = c.push.ensures ∙ ap (λ (l : PlaceList). l.places ++ c.args.place ∷ []) (get_or_default lists i c.index-lists-i.result no_places inside) in
    rw c.without-left.ensures (record {
      pushing = Pushing-more c.args.lists.now lists c.args.set c.loop-i.left c.args.place i c.push.new.self here.0 put pushing;
      same_length = length-set lists i c.push.new.self ∙ c.loop-i.invariant.same_length;
    })

pub returns-clause-places : goal.returns-clause-places
returns-clause-places c =
    Pushing-done c.args.lists.now c.loop-i.lists c.args.set c.loop-i.left c.args.place (no_least c.loop-i.left (sym c.least.ensures.value ∙ c.in_default.is)) c.loop-i.invariant.pushing
