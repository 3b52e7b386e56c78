use Rattle.std.proofs.Common.{◌≡◌, ◌+◌, ◌-◌, ◌∙◌, sym, ap, subst, arith, true, false}
use Rattle.ls_set.specs.ItemSet.{has, without, is_among}
use Rattle.ls_interior.specs.Keeping.{interior_keeping}
use Rattle.ls_skill.specs.Duals.{lowered_at, lowered}
use Rattle.ls_skill.proofs.Members.{lowered_at-member, lowered_at-absent}
use Rattle.ls_skill.proofs.Lowering.{lowered-next, lowered-some, lowered-none}
use Rattle.ls_skill.proofs.next.lower.Goals as goal
use Rattle.ls_skill.proofs.next.lower.Goals.{then-has+in-Some, then-has+in_default, else-has}

pub loop-j-preserved : goal.loop-j-preserved
loop-j-preserved g c =
    let n = g.I.Interior.item_count c.args.f.now in
    let f = g.I.Interior.members c.args.f.now in
    let family = g.met.I.Interior.is_family c.args.f.now in
    let k = c.loop-j.lowest in
    let j = c.loop-j.j in
    let i = c.loop-j.invariant in
    let next : lowered f (lowered_at f k j) (j + 1) (c.args.n - (j + 1))
    ≡ lowered f c.args.member c.args.first (c.args.n - c.args.first) = sym
    (lowered-next f k j c.args.n (omega arith)) ∙ i.value in
    let member = lowered_at-member n f k j family i.member in
    elim c.if-has.branch [
      | then-has+in-Some w ↦
          let told = sym (w.interior_without.ensures.value i.member) ∙ w.in-Some.is in
          let here : lowered_at f k j ≡ w.in-Some.less =
          lowered-some f k w.in-Some.less j
          (ap (interior_keeping f (without k j)) (sym w.keep_before-keep.ensures) ∙ told) in
          let e : lowered_at f k j ≡ c.if-has.lowest = here ∙ sym w.lowest-is in
          record {
            member = subst (λ t. is_among f t ≡ true) e member;
            value = ap (λ t. lowered f t (j + 1) (c.args.n - (j + 1))) (sym e) ∙ next;
            cost = let s = w.interior_without.ensures.cost in let t = w.steps-is in omega arith;
          }
      | then-has+in_default w ↦
          let told = sym (w.interior_without.ensures.value i.member) ∙ w.in_default.is in
          let here : lowered_at f k j ≡ k =
          lowered-none
          f k j (ap (interior_keeping f (without k j)) (sym w.keep_before-keep.ensures) ∙ told)
          in
          let e : lowered_at f k j ≡ c.if-has.lowest = here ∙ sym w.lowest-is in
          record {
            member = subst (λ t. is_among f t ≡ true) e member;
            value = ap (λ t. lowered f t (j + 1) (c.args.n - (j + 1))) (sym e) ∙ next;
            cost = let s = w.interior_without.ensures.cost in let t = w.steps-is in omega arith;
          }
      | else-has w ↦
          let lacks : has k j ≡ false = sym c.has.ensures ∙ w.if-has.false in
          let e : lowered_at f k j ≡ c.if-has.lowest =
          lowered_at-absent n f k j family i.member lacks ∙ sym w.lowest-is in
          record {
            member = subst (λ t. is_among f t ≡ true) e member;
            value = ap (λ t. lowered f t (j + 1) (c.args.n - (j + 1))) (sym e) ∙ next;
            cost = let t = w.steps-is in omega arith;
          }
    ]
