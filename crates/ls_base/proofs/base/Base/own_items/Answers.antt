use Rattle.ls_base.proofs.Vocabulary.{◌<◌, ◌∙◌, ◌≡◌, BaseState, Items, List, ℕ, ap, empty, get_or, get_or_read, length, minus, own_items, refl, spanned, spanned-in_order, subst, sym}
use Rattle.ls_base.proofs.OwnItems.{own-place, own-less, own-atoms}
use Rattle.ls_base.proofs.base.Base.own_items.Goals as goal

below : (read sets : List Items) (p : ℕ) → read ≡ sets → p < length sets → p < length read
below read sets p e l = subst (λ (g : List Items). p < length g) (sym e) l

at : (read sets : List Items) (p : ℕ) (k : Items) → read ≡ sets → k ≡ get_or sets p k → k ≡ get_or read p k
at read sets p k e h = subst (λ (g : List Items). k ≡ get_or g p k) (sym e) h

pub own_items-requires : goal.own_items-requires
own_items-requires c =
    let b = c.self.inside in
    let f = spanned b.n b.sets.items in
    let there = subst (λ (v : BaseState). c.args.place < length v.sets) (sym c.self.view_is) c.requires in
    record { needed = own-less f c.deref.result.now _ c.args.place c.index-set.result.now (spanned-in_order b.n b.sets.items) (c.self.invariant.is_base ∙ sym c.deref.ensures.value) (below c.deref.result.now b.sets.items c.args.place c.deref.ensures.value there) (at c.deref.result.now b.sets.items c.args.place c.index-set.result.now c.deref.ensures.value c.index-set.ensures) refl }

pub returns : goal.returns
returns c =
    let b = c.self.inside in
    let f = spanned b.n b.sets.items in
    let k = c.index-set.result.now in
    let there = subst (λ (v : BaseState). c.args.place < length v.sets) (sym c.self.view_is) c.requires in
    rw (← c.self.view_is)
    (c.own_items.ensures
    ∙ ap (minus k) (own-place f c.deref.result.now _ c.args.place k (spanned-in_order b.n b.sets.items) (c.self.invariant.is_base ∙ sym c.deref.ensures.value) (below c.deref.result.now b.sets.items c.args.place c.deref.ensures.value there) (at c.deref.result.now b.sets.items c.args.place c.index-set.result.now c.deref.ensures.value c.index-set.ensures) refl)
    ∙ own-atoms f k ∙ ap (own_items f) (get_or_read b.sets.items c.args.place k there c.index-set.ensures empty))
