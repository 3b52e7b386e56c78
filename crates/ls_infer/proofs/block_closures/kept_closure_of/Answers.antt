use Rattle.ls_infer.proofs.Vocabulary.{◌∙◌, ◌≡◌, Some, ap, closure, full, has, has-empty, length, position-get, block_sets, slice_get, slice_get-get_or, sym, true≢false}
use Rattle.ls_infer.proofs.Closing.{mapped-at}
use Rattle.ls_infer.proofs.block_closures.kept_closure_of.Goals as goal

pub returns-in_default-clause-set : goal.returns-in_default-clause-set
returns-in_default-clause-set c i h = absurd (true≢false (sym h ∙ ap (λ s. has s i) c.new.ensures.set ∙ has-empty i))

pub returns-in-Some-get-clause-kept : goal.returns-in-Some-get-clause-kept
returns-in-Some-get-clause-kept c f first kept i h =
    let b = c.args.blocks in
    let at : slice_get (block_sets b) c.in-Some.place ≡ Some c.args.set = position-get b.item_count b.largest c.args.set c.in-Some.place (sym c.place_of.ensures ∙ c.in-Some.is) in
    let found = c.in-Some-get.ensures.lookup.3 in
    let closed = c.in-Some-get.closed.now in
    let there : slice_get c.args.first.now c.in-Some.place ≡ Some closed = slice_get-get_or c.args.first.now c.in-Some.place closed found.0 ∙ ap Some (sym (found.1 closed)) in
    mapped-at (closure (full b.item_count) f) (block_sets b) (length c.args.first.now) c.in-Some.place c.args.set closed at (ap (λ l. slice_get l c.in-Some.place) (sym first) ∙ there)

pub returns-in-None-clause-set : goal.returns-in-None-clause-set
returns-in-None-clause-set c i h = absurd (true≢false (sym h ∙ ap (λ s. has s i) c.new-in-None.ensures.set ∙ has-empty i))
