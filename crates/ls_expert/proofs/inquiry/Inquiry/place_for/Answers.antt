use Rattle.ls_expert.proofs.Vocabulary.{◌∙◌, ◌≡◌, BlockRange, Interview, None, PlaceFor, Some, find, block_queries, query_before, refl, subst}
use Rattle.ls_expert.proofs.inquiry.Inquiry.place_for.Goals as goal

pub returns-in-Some : goal.returns-in-Some
returns-in-Some c = rw c.in-Some.is (
    subst (λ (j : Interview). PlaceFor j (Some c.in-Some.field-0.now) c.next_query.result) c.self.view_is
    (subst (λ (b : BlockRange). c.next_query.result ≡ find (query_before c.in-Some.field-0.now) (block_queries b)) c.self.invariant.asked
    (c.next_query.ensures ∙ rw c.in-Some.is refl)))

pub returns-in-None : goal.returns-in-None
returns-in-None c = rw c.in-None.is (subst (λ (j : Interview). PlaceFor j None c.self.inside.from) c.self.view_is c.self.invariant.none_before)
