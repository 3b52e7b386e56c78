use Rattle.std.proofs.Common.{◌≡◌, ◌*◌, ◌-◌, ◌++◌, ◌∙◌, sym, ap, subst, append-nil}
use Rattle.std.proofs.Common.{arith, Some}
use Rattle.ls_set.specs.ItemSet.{full, IsWithin}
use Rattle.ls_enum.specs.Listings.{left_after}
use Rattle.ls_enum.proofs.Left.{left-first, left-none, given-left, take-ended, more-left}
use Rattle.ls_enum.proofs.Left.{more-ended, more_steps}
use Rattle.ls_origins.specs.Skills.{duals}
use Rattle.ls_skill.proofs.Skilled.{duals-in_order}
use Rattle.ls_skill.proofs.Paged.{found-more}
use Rattle.ls_skill.proofs.page.page_dual.Goals as goal

pub returns-in_default-clause-sets : goal.returns-in_default-clause-sets
returns-in_default-clause-sets g c =
    let f = duals (g.I.Interior.item_count c.args.f.now) (g.I.Interior.members c.args.f.now) in
    let none = left-none c.loop-given.cursor f (sym c.first_dual.ensures.first ∙ c.in_default.is) in
    let ended =
    take-ended (left_after c.loop-given.cursor f) (c.args.k - c.loop-given._given) none in
    sym (append-nil c.loop-given.sets) ∙ ap (λ l. c.loop-given.sets ++ l) (sym ended) ∙
    c.loop-given.invariant.sets

pub returns-in_default-clause-more : goal.returns-in_default-clause-more
returns-in_default-clause-more g c =
    let f = duals (g.I.Interior.item_count c.args.f.now) (g.I.Interior.members c.args.f.now) in
    let none = left-none c.loop-given.cursor f (sym c.first_dual.ensures.first ∙ c.in_default.is) in
    sym (more-ended (left_after c.loop-given.cursor f) (c.args.k - c.loop-given._given) none) ∙
    c.loop-given.invariant.more

pub loop-given-preserved : goal.loop-given-preserved
loop-given-preserved g c =
    let n = g.I.Interior.item_count c.args.f.now in
    let members = g.I.Interior.members c.args.f.now in
    let f = duals n members in
    let i = c.loop-given.invariant in
    let set = c.in-Some.set in
    let next =
    left-first c.loop-given.cursor f set (duals-in_order n members)
    (sym c.first_dual.ensures.first ∙ c.in-Some.is) in
    record {
      small = λ w e. let same : set ≡ w =
          cc in subst (λ t. IsWithin t (full n)) same (c.first_dual.ensures.small set c.in-Some.is);
      sets =
          rw c.in_ok-push.ensures.ok
          (given-left c.loop-given.sets (left_after c.loop-given.cursor f) (left_after (Some set) f)
          _ set c.args.k c.loop-given._given next c.loop-given-test.true i.sets);
      more =
          sym
          (more-left (left_after c.loop-given.cursor f) (left_after (Some set) f) set c.args.k
          c.loop-given._given next c.loop-given-test.true) ∙ i.more;
      cost = more_steps _ _ _ c.loop-given._given (2 * n) i.cost c.first_dual.ensures.cost;
    }

pub returns-clause-more : goal.returns-clause-more
returns-clause-more g c =
    let n = g.I.Interior.item_count c.args.f.now in
    let members = g.I.Interior.members c.args.f.now in
    c.is_some-more.ensures ∙ found-more c.loop-given.cursor (duals n members) c.first_dual-2.result
    c.args.k c.loop-given._given (duals-in_order n members) c.first_dual-2.ensures.first
    (omega arith) ∙ c.loop-given.invariant.more
