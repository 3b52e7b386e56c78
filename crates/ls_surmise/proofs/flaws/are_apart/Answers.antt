use Rattle.ls_surmise.proofs.Vocabulary.{◌+◌, ◌∙◌, ◌≡◌, IsInOrder, Items, List, ap₂, empty, false, get_or_read, is_within, list_any, rules, subst, sym}
use Rattle.ls_surmise.proofs.Jumps.{rest, drop-in_order}
use Rattle.ls_surmise.proofs.Apart.{apart-next}
use Rattle.ls_surmise.proofs.flaws.are_apart.Goals as goal

pub has_within-requires : goal.has_within-requires
has_within-requires c = subst IsInOrder (sym (rest c.args.sets.now (c.loop-i.i + 1))) (drop-in_order c.args.sets.now (c.loop-i.i + 1) c.requires)

pub loop-i-preserved : goal.loop-i-preserved
loop-i-preserved c =
    let sets = c.args.sets.now in
    let i = c.loop-i.i in
    let none : c.has_within.result ≡ false = search rules in
    let at = get_or_read sets i c.index-sets-i.result c.loop-i-test.true c.index-sets-i.is empty in
    apart-next sets i c.requires (sym (ap₂ (λ (g : List Items) s. list_any (λ k. is_within k s) g) (rest sets (i + 1)) at) ∙ sym c.has_within.ensures ∙ none) c.loop-i.invariant
