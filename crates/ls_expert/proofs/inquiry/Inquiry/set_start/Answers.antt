use Rattle.ls_expert.proofs.Vocabulary.{◌∙◌, Interview, IsKeptFor, StartOn, [], ap, compat, single_items, subst, sym}
use Rattle.ls_theory.specs.Starts as theory
use Rattle.ls_expert.proofs.inquiry.Inquiry.set_start.Goals as goal

pub begin_with-requires-clause-table : goal.begin_with-requires-clause-table
begin_with-requires-clause-table g c =
    let table = c.in_ok-family.table in
    let count = c.items.ensures.count ∙ ap (λ (j : Interview). j.count) c.self.view_is in
    subst (λ m. IsKeptFor (single_items m) (compat m c.in_ok-family.family.inner.start []) [] table) count
    (subst (λ (u : theory.Start). IsKeptFor (single_items c.items.result) (compat c.items.result u []) [] table) (sym (ap (λ (s : StartOn). s.start) c.in_ok-family.ensures.inner)) c.in_ok-family.ensures.table)
