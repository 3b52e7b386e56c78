use Rattle.ls_infer.proofs.Vocabulary.{◌∙◌, ◌≡◌, ap, closure, full, has, has-empty, has-full, inl, inr, least-cases, ltb-true, single, subst, sym, true, true≢false}
use Rattle.ls_infer.proofs.Outside.{with-cases}
use Rattle.ls_infer.proofs.Sharing.{fewer-hit, left-hit}
use Rattle.ls_infer.proofs.entailing.items_entailing.Goals as goal

pub loop-item-init : goal.loop-item-init
loop-item-init c = record {
  left = λ i h. h;
  part = λ i h. absurd (true≢false (sym h ∙ ap (λ s. has s i) c.empty-entailing.ensures ∙ has-empty i));
  reach = λ n k f small made i h. absurd (true≢false (sym h ∙ ap (λ s. has s i) c.empty-entailing.ensures ∙ has-empty i));
}

pub loop-item-smaller-then-has : goal.loop-item-smaller-then-has
loop-item-smaller-then-has c = fewer-hit c.loop-item.left c.without-left.result c.in-Some.item c.in-Some.ensures.value c.without-left.ensures

pub loop-item-preserved-then-has : goal.loop-item-preserved-then-has
loop-item-preserved-then-has c =
    let item = c.in-Some.item in
    let v = c.loop-item.invariant in
    let is = c.with-entailing.ensures in
    record {
      left = left-hit c.args.among c.loop-item.left c.without-left.result item v.left c.without-left.ensures;
      part = λ i h. elim (with-cases c.loop-item.entailing item i (subst (λ s. has s i ≡ true) is h)) [
        | inl x ↦ v.part i x
        | inr e ↦ subst (λ k. has c.args.among k ≡ true) (sym e) (v.left item (least-cases c.loop-item.left item (sym c.in-Some.ensures.value)).0)
      ];
      reach = λ n k f small made i h. elim (with-cases c.loop-item.entailing item i (subst (λ s. has s i ≡ true) is h)) [
        | inl x ↦ v.reach n k f small made i x
        | inr e ↦ subst (λ k. has (closure (full n) f (single k)) c.args.q ≡ true) (sym e) (c.closed_alone.ensures n k f (ltb-true item n (sym (has-full n item) ∙ small item (v.left item (least-cases c.loop-item.left item (sym c.in-Some.ensures.value)).0))) made c.args.q (sym c.has.ensures ∙ c.if-has.true))
      ];
    }

pub loop-item-smaller : goal.loop-item-smaller
loop-item-smaller c = fewer-hit c.loop-item.left c.without-left.result c.in-Some.item c.in-Some.ensures.value c.without-left.ensures

pub loop-item-preserved : goal.loop-item-preserved
loop-item-preserved c = record {
  left = left-hit c.args.among c.loop-item.left c.without-left.result c.in-Some.item c.loop-item.invariant.left c.without-left.ensures;
  part = c.loop-item.invariant.part;
  reach = c.loop-item.invariant.reach;
}
