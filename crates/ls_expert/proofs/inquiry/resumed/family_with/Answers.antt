use Rattle.ls_expert.proofs.Vocabulary.{◌∙◌, IfOk-weaker, List, Query, StartOn, ℕ, ap₂, is_good, list_all}
use Rattle.ls_theory.specs.Starts as theory
use Rattle.ls_standing.proofs.AnswerLists.{all-told}
use Rattle.ls_expert.proofs.inquiry.resumed.family_with.Goals as goal

pub with_rules-requires : goal.with_rules-requires
with_rules-requires c =
    ap₂ (λ (m : ℕ) (l : List Query). list_all (is_good m) l) c.new.ensures.items (c.deref.ensures.value ∙ c.in_ok-yeses.ensures)
    ∙ all-told (is_good c.args.n) (λ a. a.yes) (λ a. a.query) c.args.answers.now c.requires.good

pub returns-clause-inner : goal.returns-clause-inner
returns-clause-inner c =
    IfOk-weaker c.with_rules.result _ _
    (λ f h. h ∙ ap₂ (λ (m : ℕ) (u : theory.Start). let s : StartOn = record { item_count = m; start = u } in s) c.new.ensures.items c.new.ensures.start)
    c.with_rules.ensures.inner

pub returns-clause-rules : goal.returns-clause-rules
returns-clause-rules c =
    IfOk-weaker c.with_rules.result _ _ (λ f h. h ∙ c.deref.ensures.value ∙ c.in_ok-yeses.ensures) c.with_rules.ensures.rules
