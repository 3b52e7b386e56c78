use Rattle.std.proofs.Common.{◌∙◌, ◌∷◌, ◌++◌, ◌<◌, ◌≤◌, List, [], ap, ap₂, get_or, length}
use Rattle.std.proofs.Common.{refl, subst, sym}
use Rattle.std.proofs.lemmas.List.{get_or_read}
use Rattle.ls_set.specs.ItemSet.{Items, empty}
use Rattle.ls_theory.specs.Clauses.{clauses_of}
use Rattle.ls_order.proofs.Surmised.{mapped-all, mapped-next, some-long}
use Rattle.ls_order.proofs.surmising.first_clauses.Goals as goal

pub loop-item-preserved : goal.loop-item-preserved
loop-item-preserved c =
    let s = c.args.s.now in
    let item = c.loop-item.item in
    let own = c.clauses.result.now in
    let small : item < s.item_count =
    subst (λ n. item < n) c.items-item-end.ensures.count c.loop-item-test.true in
    let many =
    subst (λ (cs : List Items). 0 < length cs) (sym c.clauses.ensures.value)
    (some-long (clauses_of s.clauses item) (c.requires.has_clause item small)) in
    let read =
    get_or_read own 0 c.index-clauses-0.result many c.index-clauses-0.is empty
    ∙ ap (λ (cs : List Items). get_or cs 0 empty) c.clauses.ensures.value in
    c.in_ok-push.ensures.items
    ∙ ap₂ (λ xs x. xs ++ x ∷ []) c.loop-item.invariant read
    ∙ mapped-next (λ (cs : List Items). get_or cs 0 empty) s.clauses item
    (clauses_of s.clauses item) []
    (subst (λ n. item < n) (sym c.requires.each_item) small) refl

pub returns-clause-below : goal.returns-clause-below
returns-clause-below c =
    let s = c.args.s.now in
    let item = c.loop-item.item in
    let all : length s.clauses ≤ item =
    subst (λ n. n ≤ item) (c.items-item-end.ensures.count ∙ sym c.requires.each_item)
    c.loop-item-test.false in
    c.loop-item.invariant
    ∙ mapped-all (λ (cs : List Items). get_or cs 0 empty) s.clauses item all
