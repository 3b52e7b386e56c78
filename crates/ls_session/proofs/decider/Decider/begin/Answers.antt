use Rattle.ls_session.proofs.Vocabulary.{◌∙◌, ap, changes, items_row-begins, names_of_words, standing_session, sym}
use Rattle.ls_state.proofs.Decided.{makes_as}
use Rattle.ls_session.proofs.decider.Decider.begin.Goals as goal

pub returns : goal.returns
returns g c =
    makes_as (ap changes (items_row-begins (standing_session c.args.self.now.state) c.args.names.now (sym c.has_domain.ensures ∙ c.if-has_domain.false)))
    (c.start.ensures (names_of_words c.args.names.now) (record { names = c.from_names.ensures.read; fault = c.from_names.ensures.fault }))
