use Rattle.ls_pupils.proofs.Vocabulary.{◌<◌, ◌∙◌, ◌≤◌, IfOk-weaker, IsNewPupil, ap, is_some, length, length-map, most_pupils, pupil_of_case, pupils_of, subst, sym}
use Rattle.ls_pupils.proofs.Named.{stands, not_standing}
use Rattle.ls_pupils.proofs.Rows.{begin-stands, begin-many, begin-refused, begin-begins}
use Rattle.ls_pupils.proofs.beginning.begin.Goals as goal

pub returns-then-is_some-clause-row : goal.returns-then-is_some-clause-row
returns-then-is_some-clause-row g c =
    let cases = c.args.pupils.now in
    let p = stands c.args.name.now cases (sym (c.if-is_some.ensures ∙ ap (λ o. is_some o) c.place.ensures)) in
    begin-stands c.args.inquiry.now c.args.settings.now (pupils_of cases) c.args.name.now p.0 p.1

pub returns-then-as_slice-ge-MOST_PUPILS-clause-row : goal.returns-then-as_slice-ge-MOST_PUPILS-clause-row
returns-then-as_slice-ge-MOST_PUPILS-clause-row g c =
    let cases = c.args.pupils.now in
    let none = not_standing c.args.name.now cases (sym (c.if-is_some.ensures ∙ ap (λ o. is_some o) c.place.ensures)) in
    let many : most_pupils ≤ length (pupils_of cases) = rw (length-map cases pupil_of_case, sym c.as_slice.ensures) c.if-as_slice-ge-MOST_PUPILS.true in
    begin-many c.args.inquiry.now c.args.settings.now (pupils_of cases) c.args.name.now none.none many

pub returns-in-Ok-clause-row : goal.returns-in-Ok-clause-row
returns-in-Ok-clause-row g c =
    let cases = c.args.pupils.now in
    let i = c.args.inquiry.now in
    let s = c.args.settings.now in
    let none = not_standing c.args.name.now cases (sym (c.if-is_some.ensures ∙ ap (λ o. is_some o) c.place.ensures)) in
    let few : length (pupils_of cases) < most_pupils = rw (length-map cases pupil_of_case, sym c.as_slice.ensures) c.if-as_slice-ge-MOST_PUPILS.false in
    let new = subst (IsNewPupil i s) c.in-Ok.is c.in_ok-pupil.ensures in
    IfOk-weaker c.keep.result _ _ (λ r e. begin-begins i s (pupils_of cases) c.args.name.now none.none few new.1 ∙ e) c.keep.ensures.row

pub returns-in-Ok-clause-pupils : goal.returns-in-Ok-clause-pupils
returns-in-Ok-clause-pupils g c =
    let cases = c.args.pupils.now in
    let none = not_standing c.args.name.now cases (sym (c.if-is_some.ensures ∙ ap (λ o. is_some o) c.place.ensures)) in
    let few : length cases < most_pupils = rw (sym c.as_slice.ensures) c.if-as_slice-ge-MOST_PUPILS.false in
    c.keep.ensures.pupils c.requires.pupils few none.apart c.requires.items

pub returns-in-Err-clause-row : goal.returns-in-Err-clause-row
returns-in-Err-clause-row g c =
    let cases = c.args.pupils.now in
    let i = c.args.inquiry.now in
    let s = c.args.settings.now in
    let none = not_standing c.args.name.now cases (sym (c.if-is_some.ensures ∙ ap (λ o. is_some o) c.place.ensures)) in
    let few : length (pupils_of cases) < most_pupils = rw (length-map cases pupil_of_case, sym c.as_slice.ensures) c.if-as_slice-ge-MOST_PUPILS.false in
    let first = subst (IsNewPupil i s) c.in-Err.is c.in_ok-pupil.ensures in
    begin-refused i s (pupils_of cases) c.args.name.now c.in-Err.refusal none.none few first
