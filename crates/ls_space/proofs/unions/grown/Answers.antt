use Rattle.ls_space.proofs.Vocabulary.{◌<◌, ◌∙◌, ComesWith, IsGrown, Items, List, ap, arith, empty, get_or_default, is_among, length, subst, sym, union}
use Rattle.ls_space.proofs.Adding.{grown-none, grown-more}
use Rattle.ls_space.proofs.unions.grown.Goals.{then-not-has+then-is_found, else-not-has}
use Rattle.ls_space.proofs.unions.grown.Goals as goal

pub loop-item-init : goal.loop-item-init
loop-item-init c g _ = grown-none c.args.f.now.sets g c.args.set c.empty-grown.result c.empty-grown.ensures

pub loop-item-preserved : goal.loop-item-preserved
loop-item-preserved c g t = elim c.if-not-has.branch [
  | then-not-has+then-is_found w ↦
      let f = c.args.f.now.sets in
      let ms = c.args.together.now in
      let k = c.args.set in
      let i = c.loop-item.item in
      let m = w.index-together-place.result in
      let l : i < length ms = omega arith in
      let comes = subst (ComesWith g i) (get_or_default ms i empty m l ∙ sym w.index-together-place.is) (t i l) in
      let there = ap (λ (ss : List Items). is_among ss (union k m)) (sym w.members.ensures.sets) ∙ ap (is_among w.members.result.now) (sym w.union.ensures) ∙ w.is_found.ensures w.if-is_found.true in
      subst (IsGrown f g k) (sym (w.grown-is ∙ w.with-grown.ensures))
      (grown-more f g k c.loop-item.grown m i (c.loop-item.invariant g t) (sym c.has.ensures ∙ w.if-not-has.true) comes there)
  | else-not-has w ↦ subst (IsGrown c.args.f.now.sets g c.args.set) (sym w.grown-is) (c.loop-item.invariant g t)
]
