use Rattle.ls_pupils.proofs.Vocabulary.{◌<◌, ◌∙◌, ◌≡◌, ◌≤◌, IfOk-weaker, Items, List, OnOk, [], ap, breaks_none, compat, compatible_sets, filter, length, most_states, subst, sym}
use Rattle.ls_pupils.proofs.FewQueries.{few-left}
use Rattle.ls_standing.specs.Starts.{StartOn}
use Rattle.ls_pupils.proofs.states.list_states.Given as given
use Rattle.ls_pupils.proofs.states.list_states.Goals as goal

module _ (g : given.Over) (c : goal.After-drop-3 g) where
  are_states : filter (breaks_none c.new-2.result.rules) (compat c.new-2.result.inner.item_count c.new-2.result.inner.start []) ≡ compatible_sets c.args.inquiry.now
  are_states =
      let first = c.inner.result.now in
      let all = c.family.result.now in
      let left =
      ap (λ r. filter (breaks_none r) (compat first.item_count first.start [])) (c.yes_queries.ensures.value ∙ sym c.family.ensures.rules)
      ∙ ap (λ (s : StartOn). filter (breaks_none all.rules) (compat s.item_count s.start [])) c.inner.ensures
      ∙ c.family.ensures.members in
      ap (λ r. filter (breaks_none r.rules) (compat r.inner.item_count r.inner.start [])) (c.new-2.ensures ∙ c.in_ok-columns.ensures)
      ∙ few-left c.in_ok-family.family.inner first c.in_ok-family.family.rules c.yes_queries.result.now (compatible_sets c.args.inquiry.now) c.in_ok-family.ensures.inner c.in_ok-family.ensures.members left

pub returns-clause-sets : goal.returns-clause-sets
returns-clause-sets g c = IfOk-weaker c.list_all-listed.result _ _ (λ sets e. e ∙ are_states g c) c.list_all-listed.ensures.members

pub returns-clause-fits : goal.returns-clause-fits
returns-clause-fits g c = subst (λ (f : List Items). OnOk c.list_all-listed.result (length f ≤ most_states)) (are_states g c) c.list_all-listed.ensures.fits

pub returns-clause-more : goal.returns-clause-more
returns-clause-more g c = λ e. subst (λ (f : List Items). most_states < length f) (are_states g c) (c.list_all-listed.ensures.more e)
