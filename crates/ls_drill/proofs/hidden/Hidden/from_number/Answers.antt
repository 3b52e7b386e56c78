use Rattle.ls_drill.proofs.Vocabulary.{◌∙◌, All, IsPair, List, ℕ, related, subst, sym}
use Rattle.ls_drill.proofs.Chains.{at-place, are_pairs, related-ordered}
use Rattle.ls_drill.proofs.Closures.{kept}
use Rattle.ls_drill.proofs.hidden.Hidden.from_number.Goals as goal

pub closed-requires-clause-pairs : goal.closed-requires-clause-pairs
closed-requires-clause-pairs c =
    let n = c.args.n in
    let r = related n c.args.s in
    subst (λ (l : List (ℕ × ℕ)). All (IsPair n) l) (sym (c.deref.ensures.value ∙ c.in_ok-pairs.ensures)) (at-place (IsPair n) r (are_pairs n r (related-ordered n c.args.s)))

pub invariant_of-result : goal.invariant_of-result
invariant_of-result c = kept c.args.n c.args.s c.in_ok-after.after.items c.deref.result.now c.requires (c.deref.ensures.value ∙ c.in_ok-pairs.ensures) c.in_ok-after.ensures.items c.in_ok-after.ensures.reached
