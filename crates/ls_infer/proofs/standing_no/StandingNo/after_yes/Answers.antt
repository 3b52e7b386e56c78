use Rattle.ls_infer.proofs.Vocabulary.{◌∙◌, ◌≡◌, IsChange, IsWithin, IsWithin-from, Items, List, ap, arith, closure, closure_holds, enough_for, full, good-from, has, minus-within, standing, sym, true, union-within}
use Rattle.ls_infer.specs.declared.yes_change.YesChange.TheVariants as YesChange
use Rattle.ls_infer.proofs.States.{good-item, reached}
use Rattle.ls_infer.proofs.Standing.{kept-parts, kept-again, after-again, after-lack, after-known, after-state, after-no_state}
use Rattle.ls_infer.proofs.standing_no.StandingNo.after_yes.Given as given
use Rattle.ls_infer.proofs.standing_no.StandingNo.after_yes.Goals as goal
use Rattle.ls_infer.proofs.standing_no.StandingNo.after_yes.Goals.{Joined-is_within, then-is_within, else-is_within}

-- the closure is that in the family after the change
closed_is : (g : given.Over) (c : Joined-is_within g) → (before : List Items) → IsChange YesChange.Added (g.I.Interior.item_count c.args.f.now) c.args.r.now before (g.I.Interior.members c.args.f.now)
    → c.args.self.now ≡ standing (g.I.Interior.item_count c.args.f.now) before c.args.self.now.no → c.if-is_within.closed ≡ closure (full (g.I.Interior.item_count c.args.f.now)) (g.I.Interior.members c.args.f.now) c.args.self.now.no.query.a
closed_is g c before change e =
    let n = g.I.Interior.item_count c.args.f.now in
    let after = g.I.Interior.members c.args.f.now in
    let r = c.args.r.now in
    let s = c.args.self.now in
    elim c.if-is_within.branch [
      | then-is_within w ↦ after-again n before after r s c.if-is_within.closed change c.requires.kept e (w.closed-is ∙ w.closure-closed.ensures.value)
      | else-is_within w ↦ w.closed-is ∙ after-lack n before after r s change c.requires.good e (sym c.is_within.ensures ∙ w.if-is_within.false)
    ]

-- and is of items alone
closed_within : (g : given.Over) (c : Joined-is_within g) → IsWithin c.if-is_within.closed (full (g.I.Interior.item_count c.args.f.now))
closed_within g c = elim c.if-is_within.branch [
  | then-is_within w ↦ rw (w.closed-is, w.closure-closed.ensures.value) (minus-within _ _)
  | else-is_within w ↦ rw w.closed-is (kept-parts _ c.args.self.now c.requires.kept).closed
]

pub closure-closed-requires : goal.closure-closed-requires
closure-closed-requires g c = (kept-parts _ c.args.self.now c.requires.kept).closed

pub with_closed-requires-clause-within : goal.with_closed-requires-clause-within
with_closed-requires-clause-within g c = closed_within g (goal.at.with_closed-requires-clause-within g c).Joined-is_within

pub returns-then-not-self-clause-value : goal.returns-then-not-self-clause-value
returns-then-not-self-clause-value g c = λ before change e states.
    let n = g.I.Interior.item_count c.args.f.now in
    let after = g.I.Interior.members c.args.f.now in
    let r = c.args.r.now in
    let s = c.args.self.now in
    let made = closed_is g (goal.at.returns-then-not-self-clause-value g c).Joined-is_within before change e in
    let so = c.with_closed.ensures.value made states in
    (so.0, λ _ _. so.1 (after-no_state n before after r s change e c.if-not-self.true) (after-known n before after r s c.if-is_within.closed change e made))

pub returns-then-not-self-clause-cost : goal.returns-then-not-self-clause-cost
returns-then-not-self-clause-cost g c = elim c.if-is_within.branch [
  | then-is_within w ↦ omega (arith, w.steps-is, w.closure-closed.ensures.cost, c.with_closed.ensures.cost)
  | else-is_within w ↦ omega (arith, w.steps-is, c.with_closed.ensures.cost)
]

pub returns-then-not-breaks-clause-value : goal.returns-then-not-breaks-clause-value
returns-then-not-breaks-clause-value g c = λ before change e states.
    let n = g.I.Interior.item_count c.args.f.now in
    let after = g.I.Interior.members c.args.f.now in
    let made = closed_is g (goal.at.returns-then-not-breaks-clause-value g c).Joined-is_within before change e in
    (states, λ _ _. after-state n before after c.args.r.now c.args.self.now c.if-is_within.closed change c.requires.kept e made c.if-not-self.false (sym c.breaks.ensures ∙ c.if-not-breaks.true))

pub returns-then-not-breaks-clause-kept : goal.returns-then-not-breaks-clause-kept
returns-then-not-breaks-clause-kept g c =
    let s = c.args.self.now in
    kept-again _ s c.if-is_within.closed s.enough s.is_state c.requires.kept (closed_within g (goal.at.returns-then-not-breaks-clause-kept g c).Joined-is_within) (kept-parts _ s c.requires.kept).enough

pub from_known-requires-clause-within : goal.from_known-requires-clause-within
from_known-requires-clause-within g c = closed_within g (goal.at.from_known-requires-clause-within g c).Joined-is_within

pub from_known-requires-clause-known : goal.from_known-requires-clause-known
from_known-requires-clause-known g c =
    let all : c.full-all.result ≡ full (g.I.Interior.item_count c.args.f.now) = c.full-all.ensures ∙ ap full c.items.ensures.count in
    rw c.union-known.ensures (union-within c.items_entailing.result c.args.self.now.enough (full (g.I.Interior.item_count c.args.f.now)) (rw all at c.items_entailing.ensures.part) (kept-parts _ c.args.self.now c.requires.kept).enough)

pub returns-clause-value : goal.returns-clause-value
returns-clause-value g c = λ before change e states.
    let n = g.I.Interior.item_count c.args.f.now in
    let after = g.I.Interior.members c.args.f.now in
    let s = c.args.self.now in
    let closed = c.if-is_within.closed in
    let made = closed_is g (goal.at.returns-clause-value g c).Joined-is_within before change e in
    let all : c.full-all.result ≡ full n = c.full-all.ensures ∙ ap full c.items.ensures.count in
    let part : IsWithin c.items_entailing.result (full n) = rw all at c.items_entailing.ensures.part in
    let so = c.from_known.ensures.value made states in
    let alone = reached n after closed s.no.query.q c.items_entailing.result part in
    let known = after-known n before after c.args.r.now s closed change e made in
    (so.0, λ k sets. so.1 (rw c.union-known.ensures (union-within c.items_entailing.result s.enough (enough_for n after closed s.no.query.q) (alone (c.items_entailing.ensures.closures n k after (rw all (λ i h. h)) sets)) known)))

pub returns-clause-cost : goal.returns-clause-cost
returns-clause-cost g c =
    let n = g.I.Interior.item_count c.args.f.now in
    let after = g.I.Interior.members c.args.f.now in
    let s = c.args.self.now in
    let item = good-item n c.args.r.now (good-from n c.args.r.now c.requires.good) in
    elim c.if-is_within.branch [
      | then-is_within w ↦
          let old : has s.closed item.0 ≡ true = IsWithin-from c.args.r.now.a s.closed (sym c.is_within.ensures ∙ w.if-is_within.true) item.0 item.1 in
          let here : has c.if-is_within.closed item.0 ≡ true = rw (w.closed-is, w.closure-closed.ensures.value) (closure_holds (full n) after s.closed (kept-parts n s c.requires.kept).closed item.0 old) in
          let fewer = c.from_known.ensures.fewer item.0 here item.2 in
          omega (arith, w.steps-is, w.closure-closed.ensures.cost, fewer)
      | else-is_within w ↦ omega (arith, w.steps-is, c.from_known.ensures.cost)
    ]
