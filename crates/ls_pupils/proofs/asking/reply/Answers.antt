use Rattle.ls_pupils.proofs.Vocabulary.{◌∙◌, ArePupils, Done, List, PupilCase, Refused, ap, changed_to, subst, sym}
use Rattle.ls_pupils.proofs.Named.{named-at, not_named, at-within}
use Rattle.ls_pupils.proofs.Keeping.{are-replied, reply-taken, reply-refused, reply-none}
use Rattle.ls_meaning.specs.declared.response.Refusal.TheVariants as refusal
use Rattle.ls_pupils.proofs.asking.reply.Goals as goal

pub returns-in-None-clause-row : goal.returns-in-None-clause-row
returns-in-None-clause-row c = λ n are.
    let name = c.args.name.now in
    let cases = c.args.pupils.now in
    reply-none n name cases c.args.item c.args.right (not_named name cases (sym c.place.ensures ∙ c.in-None.is)).none

pub reply-requires : goal.reply-requires
reply-requires c =
    at-within c.args.name.now c.args.pupils.now c.in-Some.place (sym c.place.ensures ∙ c.in-Some.is)

pub returns-in-Ok-clause-row : goal.returns-in-Ok-clause-row
returns-in-Ok-clause-row c = λ n are.
    let name = c.args.name.now in
    let cases = c.args.pupils.now in
    let place = c.in-Some.place in
    let a = named-at name cases place (sym c.place.ensures ∙ c.in-Some.is) in
    reply-taken n name cases place c.args.item c.args.right are a c.reply.new.self
    (c.in-Ok.ensures.taken a.case a.at) (c.in-Ok.ensures.ok a.case a.at)
    ∙ ap (λ number. changed_to c.reply.new.self (Done number)) (sym (c.in-Ok.ensures.number a.case a.at))

pub returns-in-Ok-clause-pupils : goal.returns-in-Ok-clause-pupils
returns-in-Ok-clause-pupils c = λ n are.
    let name = c.args.name.now in
    let cases = c.args.pupils.now in
    let a = named-at name cases c.in-Some.place (sym c.place.ensures ∙ c.in-Some.is) in
    subst (ArePupils n) (sym (c.in-Ok.ensures.ok a.case a.at)) (are-replied n name cases c.in-Some.place c.args.item c.args.right are a)

pub returns-in-Err-clause-row : goal.returns-in-Err-clause-row
returns-in-Err-clause-row c = λ n are.
    let name = c.args.name.now in
    let cases = c.args.pupils.now in
    let a = named-at name cases c.in-Some.place (sym c.place.ensures ∙ c.in-Some.is) in
    reply-refused n name cases c.in-Some.place c.args.item c.args.right are a c.in-Err.fault (c.in-Err.ensures.fault a.case a.at)
    ∙ ap (λ (l : List PupilCase). changed_to l (Refused (refusal.Reply c.in-Err.fault))) (sym c.in-Err.ensures.err)
