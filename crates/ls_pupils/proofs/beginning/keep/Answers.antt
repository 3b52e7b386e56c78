use Rattle.ls_pupils.proofs.Vocabulary.{◌∙◌, ◌≡◌, ArePupils, IsCase, IsStartOn, List, PupilCase, Query, Settings, Start, Weighing, ap, ap₂, case_name, compat, false, is_called, is_good, length, list_all, list_any, start_of, subst, sym}
use Rattle.ls_pupils.proofs.Keeping.{are-more}
use Rattle.ls_pupils.proofs.beginning.keep.Goals as goal

pub returns-clause-pupils : goal.returns-clause-pupils
returns-clause-pupils c = λ h few apart items.
    let i = c.args.inquiry.now in
    let case : PupilCase = record { name = c.in_ok-copy.field-0; start = c.in_ok-copy-2.field-0; yes = c.in_ok-from_slice.field-0; settings = c.in_ok-copy-3.field-0; pupil = c.args.pupil } in
    let is = c.requires.pupil.0 in
    let start = ap start_of c.in_ok-copy-2.ensures ∙ c.start.ensures.value in
    let yes_is = c.in_ok-from_slice.ensures ∙ c.yes_queries.ensures.value in
    let own : IsCase i.count case = record {
      states = ap (λ (w : Weighing). w.states) is ∙ sym (ap₂ (λ (s : Start) (qs : List Query). compat i.count s qs) start yes_is);
      few = c.states.ensures.weighable.few_states;
      settings = ap (λ (w : Weighing). w.settings) is ∙ sym c.in_ok-copy-3.ensures;
      start = subst (IsStartOn i.count) (sym c.in_ok-copy-2.ensures) c.start.ensures.on;
      good = ap (list_all (is_good i.count)) c.in_ok-from_slice.ensures ∙ c.yes_queries.ensures.good;
      items = ap (λ (s : Settings). length s.ratios) c.in_ok-copy-3.ensures ∙ items;
    } in
    let free = subst (λ name. list_any (is_called case_name name) c.args.pupils.now ≡ false) (sym c.in_ok-copy.ensures) apart in
    subst (ArePupils i.count) (sym c.in_ok-push.ensures.ok) (are-more i.count c.args.pupils.now case h few free own)
