use Rattle.ls_infer.proofs.Vocabulary.{◌∙◌, ◌≡◌, IsChange, IsWithin, IsWithin-from, Items, List, arith, closure, closure_holds, family_sets, full, has, is_among, minus-within, refl, standing, sym, true}
use Rattle.ls_infer.specs.declared.yes_change.YesChange.TheVariants as YesChange
use Rattle.ls_infer.proofs.Outside.{outside-member}
use Rattle.ls_infer.proofs.States.{good-item, good-several, reached}
use Rattle.ls_infer.proofs.Standing.{kept-parts, kept-again, before-lack, before-among, before-state, standing-from}
use Rattle.ls_infer.proofs.standing_no.StandingNo.before_yes.Given as given
use Rattle.ls_infer.proofs.standing_no.StandingNo.before_yes.Goals as goal
use Rattle.ls_infer.proofs.standing_no.StandingNo.before_yes.Goals.{Joined-is_within, then-is_within, else-is_within}

-- the closure is that in the family after the change
closed_is : (g : given.Over) (c : Joined-is_within g) → (before : List Items) → IsChange YesChange.Removed (g.I.Interior.item_count c.args.f.now) c.args.r.now before (g.I.Interior.members c.args.f.now)
    → c.args.self.now ≡ standing (g.I.Interior.item_count c.args.f.now) before c.args.self.now.no → c.if-is_within.closed ≡ closure (full (g.I.Interior.item_count c.args.f.now)) (g.I.Interior.members c.args.f.now) c.args.self.now.no.query.a
closed_is g c before change e =
    let n = g.I.Interior.item_count c.args.f.now in
    let after = g.I.Interior.members c.args.f.now in
    elim c.if-is_within.branch [
      | then-is_within w ↦ w.closed-is ∙ w.closure-closed.ensures.value
      | else-is_within w ↦ w.closed-is ∙ before-lack n before after c.args.r.now c.args.self.now change (g.met.I.Interior.is_family c.args.f.now) c.requires.good e (sym c.is_within.ensures ∙ w.if-is_within.false)
    ]

-- and is of items alone
closed_within : (g : given.Over) (c : Joined-is_within g) → IsWithin c.if-is_within.closed (full (g.I.Interior.item_count c.args.f.now))
closed_within g c = elim c.if-is_within.branch [
  | then-is_within w ↦ rw (w.closed-is, w.closure-closed.ensures.value) (minus-within _ _)
  | else-is_within w ↦ rw w.closed-is (kept-parts _ c.args.self.now c.requires.kept).closed
]

pub closure-closed-requires : goal.closure-closed-requires
closure-closed-requires g c = (kept-parts _ c.args.self.now c.requires.kept).good.small

pub items_entailing-known-requires : goal.items_entailing-known-requires
items_entailing-known-requires g c = let item = (kept-parts _ c.args.self.now c.requires.kept).good.item in omega (arith, item, c.requires.few)

pub enough_between-enough-requires-clause-item : goal.enough_between-enough-requires-clause-item
enough_between-enough-requires-clause-item g c = (kept-parts _ c.args.self.now c.requires.kept).good.item

pub enough_between-enough-requires-clause-known : goal.enough_between-enough-requires-clause-known
enough_between-enough-requires-clause-known g c i h = (kept-parts _ c.args.self.now c.requires.kept).enough i (c.items_entailing-known.ensures.part i h)

pub enough_between-enough-requires-clause-among : goal.enough_between-enough-requires-clause-among
enough_between-enough-requires-clause-among g c = (kept-parts _ c.args.self.now c.requires.kept).enough

pub returns-then-is_within-2-clause-value : goal.returns-then-is_within-2-clause-value
returns-then-is_within-2-clause-value g c = λ before change e states.
    let n = g.I.Interior.item_count c.args.f.now in
    let after = g.I.Interior.members c.args.f.now in
    let r = c.args.r.now in
    let s = c.args.self.now in
    let closed = c.if-is_within.closed in
    let made = closed_is g (goal.at.returns-then-is_within-2-clause-value g c).Joined-is_within before change e in
    let small = (kept-parts n s c.requires.kept).enough in
    let known = reached n after closed s.no.query.q c.items_entailing-known.result (λ i h. small i (c.items_entailing-known.ensures.part i h)) in
    let among = before-among n before after r s closed change e made in
    let so = c.enough_between-enough.ensures.value (rw made (outside-member n after s.no.query.a (family_sets n after (g.met.I.Interior.is_family c.args.f.now)))) states in
    let within = IsWithin-from s.enough c.enough_between-enough.result (sym c.is_within-then-keeps_state.ensures ∙ c.if-is_within-2.true) in
    (so.0, λ k sets. before-state n before after r s closed c.enough_between-enough.result change e made (so.1 (known (c.items_entailing-known.ensures.closures n k after small sets)) among) within (sym c.keeps_state.ensures ∙ c.if-keeps_state.true))

pub returns-then-is_within-2-clause-kept : goal.returns-then-is_within-2-clause-kept
returns-then-is_within-2-clause-kept g c =
    let s = c.args.self.now in
    kept-again _ s c.if-is_within.closed s.enough s.is_state c.requires.kept (closed_within g (goal.at.returns-then-is_within-2-clause-kept g c).Joined-is_within) (kept-parts _ s c.requires.kept).enough

pub from_enough-requires : goal.from_enough-requires
from_enough-requires g c = c.enough_between-enough.ensures.within

pub returns-clause-value : goal.returns-clause-value
returns-clause-value g c = λ before change e states.
    let n = g.I.Interior.item_count c.args.f.now in
    let after = g.I.Interior.members c.args.f.now in
    let r = c.args.r.now in
    let s = c.args.self.now in
    let closed = c.if-is_within.closed in
    let made = closed_is g (goal.at.returns-clause-value g c).Joined-is_within before change e in
    let small = (kept-parts n s c.requires.kept).enough in
    let known = reached n after closed s.no.query.q c.items_entailing-known.result (λ i h. small i (c.items_entailing-known.ensures.part i h)) in
    let among = before-among n before after r s closed change e made in
    let so = c.enough_between-enough.ensures.value (rw made (outside-member n after s.no.query.a (family_sets n after (g.met.I.Interior.is_family c.args.f.now)))) states in
    (so.0, λ k sets. c.from_enough.ensures.value ∙ standing-from n after s.no closed c.enough_between-enough.result _ made (so.1 (known (c.items_entailing-known.ensures.closures n k after small sets)) among) refl)

pub returns-clause-kept : goal.returns-clause-kept
returns-clause-kept g c =
    let n = g.I.Interior.item_count c.args.f.now in
    let s = c.args.self.now in
    rw c.from_enough.ensures.value (kept-again n s c.if-is_within.closed c.enough_between-enough.result (is_among (g.I.Interior.members c.args.f.now) c.enough_between-enough.result) c.requires.kept (closed_within g (goal.at.returns-clause-kept g c).Joined-is_within) c.enough_between-enough.ensures.within)

pub returns-clause-cost : goal.returns-clause-cost
returns-clause-cost g c =
    let n = g.I.Interior.item_count c.args.f.now in
    let after = g.I.Interior.members c.args.f.now in
    let a = c.args.self.now.no.query.a in
    let good = (kept-parts n c.args.self.now c.requires.kept).good in
    let item = good-item n c.args.self.now.no.query good in
    elim c.if-is_within.branch [
      | then-is_within w ↦
          let here : has c.if-is_within.closed item.0 ≡ true = rw (w.closed-is, w.closure-closed.ensures.value) (closure_holds (full n) after a good.small item.0 item.1) in
          let fewer = c.enough_between-enough.ensures.fewer item.0 here item.2 (good-several n c.args.self.now.no.query good) in
          omega (arith, w.steps-is, w.closure-closed.ensures.cost, fewer, c.from_enough.ensures.cost)
      | else-is_within w ↦ omega (arith, w.steps-is, c.enough_between-enough.ensures.cost, c.from_enough.ensures.cost)
    ]
