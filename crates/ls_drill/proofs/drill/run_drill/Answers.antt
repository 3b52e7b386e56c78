use Rattle.ls_drill.proofs.Vocabulary.{◌∙◌, ◌≡◌, Answer, HiddenOrder, Interview, IsDrill, Items, List, ap, arith, base_verdict, count_by, counted, drilled, is_learning, length, not, refl, subst, sym}
use Rattle.ls_drill.proofs.TurnsTaken.{drilled-is}
use Rattle.ls_drill.proofs.Summing.{summed-as}
use Rattle.ls_drill.proofs.drill.run_drill.Goals as goal

pub count_filled-filled-requires : goal.count_filled-filled-requires
count_filled-filled-requires g c =
    let drill : c.in_ok-inquiry.inquiry ≡ drilled c.args.n c.args.s = c.in_ok-inquiry.ensures ∙ ap (λ (o : HiddenOrder). drilled o.item_count o.number) c.in_ok-hidden.ensures in
    let d = subst (IsDrill c.args.n) (sym drill) (drilled-is c.args.n c.args.s) in
    record { single = d.block; few = omega arith }

pub base_of_states-requires : goal.base_of_states-requires
base_of_states-requires g c =
    let drill : c.in_ok-inquiry.inquiry ≡ drilled c.args.n c.args.s = c.in_ok-inquiry.ensures ∙ ap (λ (o : HiddenOrder). drilled o.item_count o.number) c.in_ok-hidden.ensures in
    let d = subst (IsDrill c.args.n) (sym drill) (drilled-is c.args.n c.args.s) in
    record { drill = record { items = refl; start = d.start; block = d.block; single = d.single }; few = omega arith }

pub returns : goal.returns
returns g c =
    let i = c.in_ok-inquiry.inquiry in
    let drill : i ≡ drilled c.args.n c.args.s = c.in_ok-inquiry.ensures ∙ ap (λ (o : HiddenOrder). drilled o.item_count o.number) c.in_ok-hidden.ensures in
    let answers = c.standing-answers.ensures.value in
    summed-as c.args.s i (drilled c.args.n c.args.s) _ refl drill (record {
      items = sym (ap (λ (i : Interview). i.count) drill ∙ (drilled-is c.args.n c.args.s).items);
      asked_all = ap length answers;
      asked_yes = c.count_yes.ensures ∙ ap (λ (l : List Answer). count_by (λ a. a.yes) l) answers;
      asked_no = c.count_no.ensures ∙ ap (λ (l : List Answer). count_by (λ a. not a.yes) l) answers;
      filled_all = c.count_filled-filled.ensures.all;
      filled_yes = c.count_filled-filled.ensures.yes;
      filled_no = c.count_filled-filled.ensures.no;
      base_sets = ap length (c.sets.ensures.value ∙ c.in_ok-base.ensures.sets);
      is_learned = c.is_learning.ensures ∙ ap (λ (f : List Items). is_learning (base_verdict f)) c.in_ok-base.ensures.family;
      state_count = c.in_ok-states.ensures ∙ ap (λ (f : List Items). counted (length f)) c.in_ok-base.ensures.family;
    })
