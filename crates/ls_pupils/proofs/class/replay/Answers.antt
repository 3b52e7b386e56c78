use Rattle.ls_pupils.proofs.Vocabulary.{◌≤◌, IsFamily, Items, List, compat-IsFamily, family-weighable, length, most_states, subst, sym, yes_queries}
use Rattle.ls_pupils.proofs.class.replay.Given as given
use Rattle.ls_pupils.proofs.class.replay.Goals as goal

module _ (g : given.Over) (c : goal.After-sets-in-Ok-1 g) where
  few_sets : length c.in-Ok.sets ≤ most_states
  few_sets = subst (λ (f : List Items). length f ≤ most_states) (sym c.in-Ok.ensures.sets) c.in-Ok.ensures.fits

  family : IsFamily c.args.inquiry.now.count c.in-Ok.sets
  family = let i = c.args.inquiry.now in subst (IsFamily i.count) (sym c.in-Ok.ensures.sets) (compat-IsFamily i.count i.start (yes_queries i.answers))

pub replay_over-requires-clause-weighable : goal.replay_over-requires-clause-weighable
replay_over-requires-clause-weighable g c =
    let i = c.args.inquiry.now in
    let count = c.items.ensures.count in
    λ _ _. rw count (family-weighable i.count c.in-Ok.sets c.args.settings.now (family g c) (rw count at c.items.ensures.some) (rw count at c.items.ensures.few) c.requires (few_sets g c))
