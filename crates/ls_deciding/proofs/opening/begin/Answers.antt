use Rattle.std.proofs.Common.{◌≡◌, ◌∙◌, ◌∷◌, List, Option, [], ap, length, sym, subst}
use Rattle.ls_set.specs.{Items}
use Rattle.ls_theory.specs.declared.verdict.BaseVerdict.{BaseVerdict}
use Rattle.ls_standing.specs.Starts.{start_of}
use Rattle.ls_meaning.specs.Effects.{Change}
use Rattle.ls_meaning.specs.declared.response.Response.TheVariants.{Done}
use Rattle.ls_origins.specs.Safe.{SafeInterview}
use Rattle.ls_deciding.specs.Cases.{IsSafeCase, safe_interview}
use Rattle.ls_deciding.specs.declared.case.SafeCase.{SafeCase}
use Rattle.ls_deciding.proofs.Opened.{begins, by_verdict, opened_is, refused_row, row, space}
use Rattle.ls_deciding.proofs.opening.begin.Goals as goal

pub begin-requires : goal.begin-requires
begin-requires c =
    record {
      space =
          space c.args.inquiry.now c.args.base.now c.requires.followed
          c.standing.ensures.standing.sound;
    }

pub returns-in_ok-from_slice-in-Ok-clause-response :
    goal.returns-in_ok-from_slice-in-Ok-clause-response
returns-in_ok-from_slice-in-Ok-clause-response c =
    let i = c.args.inquiry.now in
    let b = c.args.base.now in
    ap (λ (ks : List Items). Done (length ks)) (c.sets.ensures.value ∙ c.requires.followed.is_base)
    ∙ sym (ap (λ (x : Change (Option SafeInterview)). x.response) (row i b c.requires.followed
    ∙ ap (by_verdict i b c.requires.followed) c.in-Ok.ensures.learning))

pub returns-in_ok-from_slice-in-Ok-clause-next : goal.returns-in_ok-from_slice-in-Ok-clause-next
returns-in_ok-from_slice-in-Ok-clause-next c =
    let i = c.args.inquiry.now in
    let b = c.args.base.now in
    opened_is i b c.requires.followed (start_of c.in_ok-copy-in-Ok.field-0)
    c.in_ok-from_slice-in-Ok.field-0 c.in-Ok.begun
    (ap start_of c.in_ok-copy-in-Ok.ensures ∙ c.start.ensures.value)
    (c.in_ok-from_slice-in-Ok.ensures ∙ c.yes_queries.ensures.value) c.in-Ok.ensures.ok
    ∙ sym (ap (λ (x : Change (Option SafeInterview)). x.next) (row i b c.requires.followed
    ∙ ap (by_verdict i b c.requires.followed) c.in-Ok.ensures.learning))

pub returns-in_ok-from_slice-in-Ok-clause-case : goal.returns-in_ok-from_slice-in-Ok-clause-case
returns-in_ok-from_slice-in-Ok-clause-case c = λ x is.
    let i = c.args.inquiry.now in
    let b = c.args.base.now in
    let same :
    record {
      start = c.in_ok-copy-in-Ok.field-0;
      yes = c.in_ok-from_slice-in-Ok.field-0;
      safe = c.in-Ok.begun;
    } ≡ x = cc is in
    subst (λ (y : SafeCase). IsSafeCase i.count y) same
    (begins i b c.requires.followed (start_of c.in_ok-copy-in-Ok.field-0)
    c.in_ok-from_slice-in-Ok.field-0 c.in-Ok.begun
    (ap start_of c.in_ok-copy-in-Ok.ensures ∙ c.start.ensures.value)
    (c.in_ok-from_slice-in-Ok.ensures ∙ c.yes_queries.ensures.value) c.in-Ok.ensures.ok)

pub returns-in_ok-refused-in-Err-clause-response :
    goal.returns-in_ok-refused-in-Err-clause-response
returns-in_ok-refused-in-Err-clause-response c =
    sym (ap (λ (x : Change (Option SafeInterview)). x.response)
    (row c.args.inquiry.now c.args.base.now c.requires.followed
    ∙ refused_row c.args.inquiry.now c.args.base.now c.requires.followed _ _
    (c.in_ok-refused-in-Err.ensures _ c.in-Err.ensures.fault)))

pub returns-in_ok-refused-in-Err-clause-next : goal.returns-in_ok-refused-in-Err-clause-next
returns-in_ok-refused-in-Err-clause-next c =
    ap safe_interview c.requires.none
    ∙ sym (ap (λ (x : Change (Option SafeInterview)). x.next)
    (row c.args.inquiry.now c.args.base.now c.requires.followed
    ∙ refused_row c.args.inquiry.now c.args.base.now c.requires.followed _ _
    (c.in_ok-refused-in-Err.ensures _ c.in-Err.ensures.fault)))
