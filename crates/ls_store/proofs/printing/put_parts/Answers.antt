use Rattle.ls_store.proofs.Vocabulary.{◌∙◌, ◌≡◌, Answer, List, PupilCase, Start, answer_codec, ap, codes, list_value, lists, no_members, numbers, object, pupil_codec, pupil_of_case, pupils_of, start_codec, view}
use Rattle.ls_files.specs.declared.version.Version.TheVariants as version
use Rattle.std.proofs.lemmas.Result.{on_ok_weaker}
use Rattle.ls_store.proofs.Putting.{then_put, then_settings}
use Rattle.ls_store.proofs.WrittenCases.{case-values}
use Rattle.ls_store.proofs.printing.put_parts.Goals as goal

pub returns : goal.returns
returns c =
    let i = c.args.inquiry.now in
    let n = c.items-n.result in
    let ps = c.args.pupils.now in
    let same : n ≡ i.count = c.items-n.ensures.count in
    let pupils : view c.in_ok-pupils.pupils ≡ (lists (pupil_codec version.Ratios i.count)).write (pupils_of ps) =
    c.in_ok-pupils.ensures ∙ ap (λ (cs : List PupilCase). list_value (λ p. (pupil_codec version.Ratios n).write (pupil_of_case p)) cs) c.as_slice.ensures ∙ case-values n ps
    ∙ ap (λ m. (lists (pupil_codec version.Ratios m)).write (pupils_of ps)) same in
    let answers : view c.in_ok-answers.answers ≡ (lists (answer_codec i.count)).write i.answers =
    c.in_ok-answers.ensures ∙ ap (λ (xs : List Answer). (lists (answer_codec n)).write xs) c.standing.ensures.value ∙ ap (λ m. (lists (answer_codec m)).write i.answers) same in
    let start : view c.in_ok-start.start ≡ (start_codec i.count).write i.start =
    c.in_ok-start.ensures ∙ ap (λ (s : Start). (start_codec n).write s) c.start.ensures.value ∙ ap (λ m. (start_codec m).write i.start) same in
    let next : view c.from.result ≡ numbers.write i.next = c.from.ensures ∙ ap numbers.write c.next_number.ensures in
    let block : view c.from-2.result ≡ numbers.write i.block = c.from-2.ensures ∙ ap numbers.write c.block.ensures in
    let two : view c.from-3.result ≡ numbers.write 2 = c.from-3.ensures in
    on_ok_weaker c.put_at-7.result (λ h. ap object
    (then_put (codes "version") _ _ _ _ _ h two
    (then_put (codes "items") _ _ _ _ _ c.in_ok-put_at-6.ensures c.in_ok-items.ensures
    (then_settings n c.args.settings.now _ _ _ c.in_ok-put_settings.ensures
    (then_put (codes "start") _ _ _ _ _ c.in_ok-put_at-5.ensures start
    (then_put (codes "block") _ _ _ _ _ c.in_ok-put_at-4.ensures block
    (then_put (codes "answers") _ _ _ _ _ c.in_ok-put_at-3.ensures answers
    (then_put (codes "next") _ _ _ _ _ c.in_ok-put_at-2.ensures next
    (then_put (codes "pupils") _ _ _ no_members _ c.in_ok-put_at.ensures pupils c.requires.empty))))))))) c.put_at-7.ensures
