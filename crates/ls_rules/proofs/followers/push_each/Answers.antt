use Rattle.ls_rules.proofs.Vocabulary.{◌∙◌, IsIn, List, inl, inr, refl, subst, sym, ℕ}
use Rattle.ls_rules.proofs.Following.{Pushed, Pushed-first, Pushed-more}
use Rattle.ls_rules.proofs.followers.push_each.Goals as goal

pub loop-i-init : goal.loop-i-init
loop-i-init c = rw (c.into_iter-i-iterator.ensures.into_iter_gives ∙ c.items-i-items.ensures) (Pushed-first c.args.sets.now c.args.set c.args.q c.requires.room)

pub put-requires : goal.put-requires
put-requires c = c.loop-i.invariant.room c.in-Some.i (subst (IsIn c.in-Some.i) (sym c.in-Some.ensures.steps) (inl refl))

pub loop-i-preserved : goal.loop-i-preserved
loop-i-preserved c =
    rw (c.put.ensures, c.with-items.ensures, c.of.ensures) (Pushed-more c.args.sets.now c.loop-i.sets c.args.set c.in-Some.i _ c.args.q
    (subst (λ (left : List ℕ). Pushed c.args.sets.now c.loop-i.sets c.args.set left c.args.q) c.in-Some.ensures.steps c.loop-i.invariant))

pub returns-clause-follows : goal.returns-clause-follows
returns-clause-follows c = λ i h. elim (c.loop-i.invariant.follows i h) [ inl x ↦ absurd (subst (IsIn i) c.in-None.ensures.steps.0 x) | inr f ↦ f ]
