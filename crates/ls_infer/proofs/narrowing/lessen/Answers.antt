use Rattle.ls_infer.proofs.Vocabulary.{◌∙◌, ◌≡◌, IsWithin, ap, arith, empty, family_sets, has, is_among, refl, sym, true, with, without}
use Rattle.ls_infer.proofs.Sharing.{meet-left}
use Rattle.ls_infer.proofs.Witnessing.{narrowed-by_state, kept-member}
use Rattle.ls_infer.proofs.narrowing.lessen.Goals as goal

pub loop-rest-preserved-in-Some-interior_without : goal.loop-rest-preserved-in-Some-interior_without
loop-rest-preserved-in-Some-interior_without g c =
    let n = g.I.Interior.item_count c.args.f.now in
    let f = g.I.Interior.members c.args.f.now in
    let smaller = c.in-Some-interior_without.smaller in
    let keep : c.with-keep.result ≡ with empty c.args.q = rw (c.with-keep.ensures, c.empty.ensures) refl in
    let part : IsWithin smaller c.args.outside = λ i h. c.loop-rest.invariant.part i (c.in-Some-interior_without.ensures.part i h) in
    let kept = λ (member : is_among f c.args.state ≡ true).
    kept-member n f (without c.loop-rest.state c.in-Some.item) c.with-keep.result smaller c.args.q (family_sets n f (g.met.I.Interior.is_family c.args.f.now)) keep (c.in-Some-interior_without.ensures.value (c.loop-rest.invariant.member member)) in
    record {
      narrowed = λ member.
          narrowed-by_state n f c.args.outside smaller c.args.rest.now.items c.loop-rest.rest.items c.leave.new.self.items c.args.q (kept member).0 (kept member).1 part c.leave.ensures.items (c.loop-rest.invariant.narrowed member);
      member = λ member. (kept member).0;
      part = part;
      fewer = λ i h. c.loop-rest.invariant.fewer i (meet-left c.loop-rest.rest.items smaller i (ap (λ s. has s i) (sym c.leave.ensures.items) ∙ h));
      cost = omega (arith, c.leave.ensures.fewer, c.interior_without.ensures.cost, c.loop-rest.invariant.cost);
    }
