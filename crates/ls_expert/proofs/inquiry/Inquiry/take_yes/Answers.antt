use Rattle.ls_expert.proofs.Vocabulary.{◌++◌, ◌∙◌, ◌∷◌, ◌≡◌, Interview, IsTabled, List, Query, StartOn, TableRoom, [], accepted, ap, ap₂, arith, compat, interview_of, refusal, sym, true}
use Rattle.ls_standing.proofs.Ruling.{ruled-compat}
use Rattle.ls_expert.specs.Told.{told_before}
use Rattle.ls_expert.proofs.Asking.{still-asking}
use Rattle.ls_expert.proofs.Retracting.{steps-over}
use Rattle.ls_expert.proofs.Taking.{held-yes, known-told, tabled-yes, tabled-forced}
use Rattle.ls_expert.proofs.inquiry.Inquiry.take_yes.Goals as goal
use Rattle.ls_expert.proofs.inquiry.Inquiry.take_yes.Goals.{then-not-is_yes, else-not-is_yes}

pub invariant_of-self-2 : goal.invariant_of-self-2
invariant_of-self-2 g c =
    let s = c.self.inside.family.inner in
    let i = interview_of s c.self.inside.block c.self.inside.answers.items c.self.inside.next in
    let r = c.args.query.now in
    let h = c.self.invariant.held in
    let inner : c.push_reserved.new.self.inner ≡ s = c.push_reserved.ensures.inner ∙ c.reserve-2.ensures.inner in
    let ruled : c.push_reserved.new.self.rules ≡ c.self.inside.family.rules ++ r ∷ [] = c.push_reserved.ensures.rules ∙ ap (λ (l : List Query). l ++ r ∷ []) c.reserve-2.ensures.rules in
    let family =
    ruled-compat c.push_reserved.new.self.inner.item_count c.push_reserved.new.self.inner.start c.push_reserved.new.self.rules
    ∙ ap₂ (λ (u : StartOn) (l : List Query). compat u.item_count u.start l) inner (ruled ∙ ap (λ (l : List Query). l ++ r ∷ []) h.ruled) in
    let kept = λ (new : TableRoom) (tabled : IsTabled (accepted i r true) new).
    still-asking i r true c.self.inside.blocks c.self.inside.family.rules c.push_reserved.new.self.rules c.self.inside.table new c.self.inside.from c.self.inside.is_found c.self.invariant
    (held-yes i r c.self.inside.family.rules c.self.inside.table new h c.push_reserved.new.self.rules (ap (λ (j : Interview). refusal j r true) c.self.view_is ∙ c.requires.passes) ruled tabled) in
    elim c.if-not-is_yes.branch [
      | then-not-is_yes w ↦ rw (c.put_last.ensures.last, c.put_last.ensures.next, w.self-inside-is, c.reserve.ensures.items, inner)
          (kept w.yes_added.new.self (tabled-yes i r c.self.inside.table w.yes_added.new.self _ h.tabled (rw w.new.ensures family) w.yes_added.ensures.kept))
      | else-not-is_yes w ↦ rw (c.put_last.ensures.last, c.put_last.ensures.next, w.self-inside-is, c.reserve.ensures.items, inner)
          (let known = known-told i r (sym (ap (λ (j : Interview). told_before j r true) c.self.view_is ∙ sym c.requires.told ∙ c.is_yes.ensures w.if-not-is_yes.false)) in
          kept c.self.inside.table (tabled-forced i r c.self.inside.table h.standing.sound.some_fits known h.tabled))
    ]

pub returns-clause-cost : goal.returns-clause-cost
returns-clause-cost g c =
    let i = interview_of c.self.inside.family.inner c.self.inside.block c.self.inside.answers.items c.self.inside.next in
    let most = steps-over i c.self.inside.table.table c.args.query.now.a c.self.invariant.held.tabled.table in
    rw (← c.self.view_is) (elim c.if-not-is_yes.branch [
      | then-not-is_yes w ↦ rw w.steps-is (omega (arith, w.yes_added.ensures.cost, most))
      | else-not-is_yes w ↦ rw w.steps-is (omega arith)
    ])
