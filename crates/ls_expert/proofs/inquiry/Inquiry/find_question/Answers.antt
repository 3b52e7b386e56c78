use Rattle.ls_expert.proofs.Vocabulary.{◌∙◌, ◌≡◌, BlockRange, IfSome, Interview, IsIn, None, Option, PlaceFor, Query, RuledState, Some, StartOn, [], ap, blocks_of, breaks_none, compat, filter, interview_of, is_good, next_question, nothing, option_map, block_queries, subst, sym, true}
use Rattle.ls_expert.proofs.Asking.{place-cost, place-in, place-none, place-some}
use Rattle.ls_standing.proofs.Ruling.{ruled-compat}
use Rattle.ls_expert.proofs.Ruling.{own_blocks, question-good}
use Rattle.ls_expert.proofs.inquiry.Inquiry.find_question.Goals as goal

pub returns-in_err-from-clause-value : goal.returns-in_err-from-clause-value
returns-in_err-from-clause-value g c =
    let last = option_map (λ r. r.now) c.args.after in
    c.from_residual.ensures ∙ place-none c.args.self.now last (subst (PlaceFor c.args.self.now last) c.in_err-from.was c.place_for.ensures)

pub find_open-requires-clause-query : goal.find_open-requires-clause-query
find_open-requires-clause-query g c =
    let i = c.args.self.now in
    let last = option_map (λ r. r.now) c.args.after in
    subst (λ (b : BlockRange). IsIn c.in_ok-from.from (block_queries b)) (sym (c.self.invariant.asked ∙ ap (λ (j : Interview). let b : BlockRange = record { item_count = j.count; largest = j.block } in b) c.self.view_is))
    (place-in i last c.in_ok-from.from (subst (PlaceFor i last) c.in_ok-from.was c.place_for.ensures))

pub returns-clause-value : goal.returns-clause-value
returns-clause-value g c =
    let s = c.self.inside.family.inner in
    let i = interview_of s c.self.inside.block c.self.inside.answers.items c.self.inside.next in
    let held = c.self.invariant.held in
    let last = option_map (λ r. r.now) c.args.after in
    c.find_open.ensures.found i held.standing.sound (ap (λ b. b.item_count) (sym c.self.invariant.asked)) (ap (λ b. b.largest) (sym c.self.invariant.asked))
    (ap (λ (f : RuledState StartOn). filter (breaks_none f.rules) (compat f.inner.item_count f.inner.start [])) c.new.ensures ∙ ruled-compat s.item_count s.start c.self.inside.family.rules ∙ ap (compat s.item_count s.start) held.ruled)
    (own_blocks i c.self.inside.table.table held.tabled.table)
    ∙ place-some i last c.in_ok-from.from (subst (λ (j : Interview). PlaceFor j last (Some c.in_ok-from.from)) (sym c.self.view_is) (subst (PlaceFor c.args.self.now last) c.in_ok-from.was c.place_for.ensures))
    ∙ ap (λ (j : Interview). next_question j last) c.self.view_is

pub returns-clause-good : goal.returns-clause-good
returns-clause-good g c =
    let i = c.args.self.now in
    subst (λ (o : Option Query). IfSome o (λ r. is_good i.count r ≡ true)) (sym (returns-clause-value g c)) (question-good i (option_map (λ r. r.now) c.args.after))

pub returns-then-self-clause-value : goal.returns-then-self-clause-value
returns-then-self-clause-value g c = rw (nothing c.args.after c.if-is_none.ensures) (c.self.invariant.found c.if-self.true ∙ ap (λ (j : Interview). next_question j None) c.self.view_is)

pub returns-then-self-clause-good : goal.returns-then-self-clause-good
returns-then-self-clause-good g c =
    let i = c.args.self.now in
    subst (λ (o : Option Query). IfSome o (λ r. is_good i.count r ≡ true)) (sym (returns-then-self-clause-value g c)) (question-good i (option_map (λ r. r.now) c.args.after))

pub returns-clause-cost : goal.returns-clause-cost
returns-clause-cost g c =
    let last = option_map (λ r. r.now) c.args.after in
    place-cost c.args.self.now c.self.inside.blocks last c.in_ok-from.from c.find_open.result c.args.steps.now c.find_open.new.steps (subst (PlaceFor c.args.self.now last) c.in_ok-from.was c.place_for.ensures)
    (c.self.invariant.asked ∙ ap blocks_of c.self.view_is) (returns-clause-value g c) c.find_open.ensures.cost
