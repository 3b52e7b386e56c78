use Rattle.ls_pupils.proofs.Vocabulary.{[], ◌∙◌, ◌≡◌, ◌≤◌, IfOk-weaker, IsFamily, Items, List, None, OnOk, Some, Weighing, ap, compat-IsFamily, family-weighable, heavy_after, length, most_states, subst, sym, yes_queries}
use Rattle.ls_pupils.proofs.Rows.{refuses_heavy-new}
use Rattle.ls_pupils.proofs.beginning.listed.Given as given
use Rattle.ls_pupils.proofs.beginning.listed.Goals as goal

module _ (g : given.Over) (c : goal.After-items g) where
  few_sets : length c.in-Ok.sets ≤ most_states
  few_sets = subst (λ (f : List Items). length f ≤ most_states) (sym c.in-Ok.ensures.sets) c.in-Ok.ensures.fits

pub begin-requires : goal.begin-requires
begin-requires g c =
    let i = c.args.inquiry.now in
    let family : IsFamily i.count c.in-Ok.sets = subst (IsFamily i.count) (sym c.in-Ok.ensures.sets) (compat-IsFamily i.count i.start (yes_queries i.answers)) in
    let count = c.items.ensures.count in
    rw count (family-weighable i.count c.in-Ok.sets c.args.settings.now family (rw count at c.items.ensures.some) (rw count at c.items.ensures.few) c.requires (few_sets g c))

pub returns-in-Ok : goal.returns-in-Ok
returns-in-Ok g c =
    let same = c.in-Ok.ensures.sets in
    let s = c.args.settings.now in
    refuses_heavy-new c.args.inquiry.now s c.begin.result c.unless_heavy.result
    c.in-Ok.ensures.fits
    (IfOk-weaker c.begin.result _ _ (λ p e. e ∙ ap (λ (f : List Items). let w : Weighing = record { settings = s; states = f; replies = [] } in w) same) c.begin.ensures.ok)
    (subst (λ (f : List Items). OnOk c.begin.result (heavy_after s (length f) ≡ None)) same c.begin.ensures.light)
    (λ r e. subst (λ (f : List Items). heavy_after s (length f) ≡ Some r) same (c.begin.ensures.heavy r e))
    c.unless_heavy.ensures
