use Rattle.ls_write.proofs.Vocabulary.{◌++◌, ◌∙◌, CanShow, Items, List, [], agree_line, ap, ap₂}
use Rattle.ls_write.proofs.Vocabulary.{asked_line, atom_items, base_lines, breaks_none, clauses_at}
use Rattle.ls_write.proofs.Vocabulary.{comes_before, compat, compatible_sets, filter, fringes_line}
use Rattle.ls_write.proofs.Vocabulary.{is_lex_before, known_line, learning_line, length, line_bytes}
use Rattle.ls_write.proofs.Vocabulary.{lines_bytes, map, no_relation_line, page, page_lines}
use Rattle.ls_write.proofs.Vocabulary.{path_lines, paths, projection, question_line, set_of}
use Rattle.ls_write.proofs.Vocabulary.{skills_line, state_line, subst, surmise_line, sym}
use Rattle.ls_write.proofs.Vocabulary.{verdict_line}
use Rattle.ls_standing.specs.Starts.{StartOn}
use Rattle.ls_room.proofs.Saying.{says_as, says_then}
use Rattle.ls_room.proofs.LineBytes.{lines-one, lines-last}
use Rattle.ls_write.proofs.Showing.{shown-same}
use Rattle.ls_write.proofs.responses.put_shown.Goals as goal

pub put_surmise-requires : goal.put_surmise-requires
put_surmise-requires g c =
    record {
      items =
          subst (CanShow (length c.args.texts.now) c.args.inquiry.now) c.in-Surmise.is
          c.requires.can;
    }

pub returns-in-Surmise-clause-says : goal.returns-in-Surmise-clause-says
returns-in-Surmise-clause-says g c =
    let names = c.args.texts.now in
    says_as
    (lines-one (surmise_line names c.in-Surmise.clauses) ∙ shown-same names c.args.inquiry.now
    c.in-Surmise.is) c.put_surmise.ensures

pub returns-in-Base-clause-says : goal.returns-in-Base-clause-says
returns-in-Base-clause-says g c =
    let names = c.args.texts.now in
    says_as
    (ap (λ (ks : List Items). lines_bytes (base_lines names ks)) c.as_slice.ensures ∙ shown-same
    names c.args.inquiry.now c.in-Base.is) c.put_base.ensures

pub returns-in-Known-clause-says : goal.returns-in-Known-clause-says
returns-in-Known-clause-says g c =
    says_as
    (lines-one (known_line c.in-Known.known) ∙ shown-same c.args.texts.now c.args.inquiry.now
    c.in-Known.is) c.put_known.ensures

pub returns-in-Question-clause-says : goal.returns-in-Question-clause-says
returns-in-Question-clause-says g c =
    let names = c.args.texts.now in
    says_as
    (lines-one (question_line names c.in-Question.next) ∙ shown-same names c.args.inquiry.now
    c.in-Question.is) c.put_question.ensures

pub returns-in-Learning-clause-says : goal.returns-in-Learning-clause-says
returns-in-Learning-clause-says g c =
    let names = c.args.texts.now in
    says_as
    (lines-one (learning_line names c.in-Learning.verdict) ∙ shown-same names c.args.inquiry.now
    c.in-Learning.is) c.put_learning.ensures

pub returns-in-ProjectedBase-clause-says : goal.returns-in-ProjectedBase-clause-says
returns-in-ProjectedBase-clause-says g c =
    let names = c.args.texts.now in
    let w = c.in-ProjectedBase in
    says_as
    (ap
    (λ (ks : List Items). lines_bytes (base_lines names ks)
    ++ line_bytes (learning_line names w.verdict)) c.as_slice-in-ProjectedBase.ensures
    ∙ lines-last (base_lines names w.base) (learning_line names w.verdict) ∙ shown-same names
    c.args.inquiry.now w.is)
    (says_then c.put_base-in-ProjectedBase.ensures c.put_learning-in-ProjectedBase.ensures)

pub returns-in-Fringes-clause-says : goal.returns-in-Fringes-clause-says
returns-in-Fringes-clause-says g c =
    let names = c.args.texts.now in
    says_as
    (lines-one (fringes_line names c.in-Fringes.fringes) ∙ shown-same names c.args.inquiry.now
    c.in-Fringes.is) c.put_fringes.ensures

pub returns-in-State-clause-says : goal.returns-in-State-clause-says
returns-in-State-clause-says g c =
    let names = c.args.texts.now in
    says_as
    (lines-one (state_line names c.in-State.set) ∙ shown-same names c.args.inquiry.now
    c.in-State.is) c.put_state.ensures

pub returns-in-Tested-clause-says : goal.returns-in-Tested-clause-says
returns-in-Tested-clause-says g c =
    let names = c.args.texts.now in
    says_as
    (lines-one (verdict_line names c.in-Tested.verdict) ∙ shown-same names c.args.inquiry.now
    c.in-Tested.is) c.put_verdict.ensures

pub returns-in-Asked-clause-says : goal.returns-in-Asked-clause-says
returns-in-Asked-clause-says g c =
    let names = c.args.texts.now in
    says_as
    (lines-one (asked_line names c.in-Asked.asked) ∙ shown-same names c.args.inquiry.now
    c.in-Asked.is) c.put_asked.ensures

pub returns-in-Paths-clause-says : goal.returns-in-Paths-clause-says
returns-in-Paths-clause-says g c =
    let names = c.args.texts.now in
    let w = c.in-Paths in
    let fam = c.family-family in
    says_as
    (ap₂
    (λ n (f : List Items). lines_bytes
    (path_lines names (page is_lex_before (paths n f) w.after w.count)))
    (ap (λ (x : StartOn). x.item_count) fam.ensures.inner ∙ sym c.requires.items)
    fam.ensures.members
    ∙ shown-same names c.args.inquiry.now w.is) c.put_paths.ensures

pub returns-in-Projected-clause-says : goal.returns-in-Projected-clause-says
returns-in-Projected-clause-says g c =
    let names = c.args.texts.now in
    let w = c.in-Projected in
    let fam = c.family-family in
    says_as
    (ap
    (λ t.
    lines_bytes
    (page_lines
    names
    (page
    comes_before
    (projection t.inner.inner.item_count t.part
    (filter (breaks_none t.inner.rules)
    (compat t.inner.inner.item_count t.inner.inner.start []))) w.after w.count)))
    c.new-projection.ensures
    ∙ ap₂
    (λ n (f : List Items). lines_bytes
    (page_lines names (page comes_before (projection n w.part f) w.after w.count)))
    (ap (λ (x : StartOn). x.item_count) fam.ensures.inner ∙ sym c.requires.items)
    fam.ensures.members
    ∙ shown-same names c.args.inquiry.now w.is) c.put_page-in-Projected.ensures.says

pub returns-in-SkillMap-clause-says : goal.returns-in-SkillMap-clause-says
returns-in-SkillMap-clause-says g c =
    let names = c.args.texts.now in
    let w = c.in-SkillMap in
    says_as
    (ap (λ (ks : List Items). line_bytes (skills_line names ks)) c.as_slice-in-SkillMap.ensures
    ∙ lines-one (skills_line names w.base) ∙ shown-same names c.args.inquiry.now w.is)
    c.put_skills.ensures

pub returns-in-NoRelation-clause-says : goal.returns-in-NoRelation-clause-says
returns-in-NoRelation-clause-says g c =
    let names = c.args.texts.now in
    let w = c.in-NoRelation in
    says_as (lines-one (no_relation_line names w.fault) ∙ shown-same names c.args.inquiry.now w.is)
    c.put_no_relation.ensures

pub returns-in-Agree-clause-says : goal.returns-in-Agree-clause-says
returns-in-Agree-clause-says g c =
    let w = c.in-Agree in
    says_as
    (lines-one (agree_line w.is_agreed) ∙ shown-same c.args.texts.now c.args.inquiry.now w.is)
    c.put_agreement.ensures

pub put_unions-requires : goal.put_unions-requires
put_unions-requires g c =
    let can =
    subst (CanShow (length c.args.texts.now) c.args.inquiry.now) c.in-Unions.is c.requires.can in
    record { items = can.0; after = can.1 }

pub returns-in-Unions-clause-says : goal.returns-in-Unions-clause-says
returns-in-Unions-clause-says g c =
    says_as (shown-same c.args.texts.now c.args.inquiry.now c.in-Unions.is)
    c.put_unions.ensures.says

pub put_complements-requires : goal.put_complements-requires
put_complements-requires g c =
    let can =
    subst (CanShow (length c.args.texts.now) c.args.inquiry.now) c.in-Duals.is c.requires.can in
    record { items = can.0; after = can.1 }

pub returns-in-Duals-clause-says : goal.returns-in-Duals-clause-says
returns-in-Duals-clause-says g c =
    says_as (shown-same c.args.texts.now c.args.inquiry.now c.in-Duals.is)
    c.put_complements.ensures.says

pub put_mesh-requires : goal.put_mesh-requires
put_mesh-requires g c =
    let can =
    subst (CanShow (length c.args.texts.now) c.args.inquiry.now) c.in-Mesh.is c.requires.can in
    record { items = can.0; after = can.1 }

pub returns-in-Mesh-clause-says : goal.returns-in-Mesh-clause-says
returns-in-Mesh-clause-says g c =
    says_as (shown-same c.args.texts.now c.args.inquiry.now c.in-Mesh.is) c.put_mesh.ensures.says
