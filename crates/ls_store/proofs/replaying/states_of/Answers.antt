use Rattle.ls_store.proofs.Vocabulary.{◌∙◌, IfOk-weaker, Items, List, Some, ap, kept_if, leb, length, most_states, start_of}
use Rattle.ls_store.proofs.PupilStates.{few-states}
use Rattle.ls_store.proofs.replaying.states_of.Goals as goal

pub returns : goal.returns
returns g c =
    let f = c.in_ok-family.family in
    let e = c.in_ok-family.ensures in
    let starts = c.new-first.ensures.start ∙ ap start_of c.in_ok-copy.ensures in
    let is = few-states f.inner c.new-first.result f.rules c.args.yes.now c.args.n (start_of c.args.start.now) e.inner c.new-first.ensures.items starts e.members in
    IfOk-weaker c.listed-states.result _ _ (λ found h. h ∙ ap (λ (f : List Items). kept_if (λ g. leb (length g) most_states) (Some f)) is) c.listed-states.ensures
