use Rattle.ls_infer.proofs.Vocabulary.{◌∙◌, None, Some, ap, good-from, sym}
use Rattle.ls_infer.proofs.Told.{told_yes, told_number, known_from}
use Rattle.ls_infer.proofs.table.Table.answer_of.Goals as goal

pub closure_in-closed-requires-clause-within : goal.closure_in-closed-requires-clause-within
closure_in-closed-requires-clause-within g c = (good-from _ c.args.q.now c.requires.good).small

pub returns-then-has-clause-told : goal.returns-then-has-clause-told
returns-then-has-clause-told g c = told_yes c.args.self.now.table _ _ c.args.q.now c.closure_in-closed.result c.requires.good c.requires.count c.closure_in-closed.ensures.value (sym c.has.ensures ∙ c.if-has.true)

pub returns-then-has-clause-known : goal.returns-then-has-clause-known
returns-then-has-clause-known g c = known_from _ c.args.self.now.table _ c.args.q.now (returns-then-has-clause-told g c) c.requires.good

pub returns-in-Some-clause-told : goal.returns-in-Some-clause-told
returns-in-Some-clause-told g c =
    told_number c.args.self.now.table _ _ c.args.q.now c.closure_in-closed.result _ _ (Some c.in-Some.by) c.requires.good c.requires.count c.closure_in-closed.ensures.value (sym c.has.ensures ∙ c.if-has.false)
    c.forcing.ensures (c.deref.ensures.value ∙ ap (λ t. t.table.standing) c.self.view_is) c.in-Some.is

pub returns-in-Some-clause-known : goal.returns-in-Some-clause-known
returns-in-Some-clause-known g c = known_from _ c.args.self.now.table _ c.args.q.now (returns-in-Some-clause-told g c) c.requires.good

pub returns-in-None-clause-told : goal.returns-in-None-clause-told
returns-in-None-clause-told g c =
    told_number c.args.self.now.table _ _ c.args.q.now c.closure_in-closed.result _ _ None c.requires.good c.requires.count c.closure_in-closed.ensures.value (sym c.has.ensures ∙ c.if-has.false)
    c.forcing.ensures (c.deref.ensures.value ∙ ap (λ t. t.table.standing) c.self.view_is) c.in-None.is

pub returns-in-None-clause-known : goal.returns-in-None-clause-known
returns-in-None-clause-known g c = known_from _ c.args.self.now.table _ c.args.q.now (returns-in-None-clause-told g c) c.requires.good
