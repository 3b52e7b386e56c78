use Rattle.ls_write.proofs.Vocabulary.{◌++◌, ◌<◌, ◌∙◌, ◌∷◌, ◌≤◌, Text, [], ap, arith, detail_of, detail_word, length, names_in, option_copied, spaced, take, take_all}
use Rattle.ls_meaning.specs.declared.notices.Detail.{Detail}
use Rattle.ls_room.proofs.Saying.{says_as, says_nothing, says_then}
use Rattle.ls_room.proofs.LineBytes.{images-next}
use Rattle.ls_write.proofs.refusals.put_details.Goals as goal

pub loop-detail-init : goal.loop-detail-init
loop-detail-init g c = says_nothing _ _ _

pub loop-detail-preserved : goal.loop-detail-preserved
loop-detail-preserved g c =
    let word : Detail → Text = λ d. detail_word (names_in (option_copied c.args.texts)) (detail_of d) in
    let i = c.loop-detail.detail-index in
    let details = c.args.details.now in
    let test : i < length details = omega arith in
    says_as (ap (λ d. spaced word (take i details) ++ (32 ∷ word d)) c.detail-item.is ∙ images-next [] word details i _ test) (says_then c.loop-detail.invariant c.put_detail.ensures)

pub returns : goal.returns
returns g c =
    let word : Detail → Text = λ d. detail_word (names_in (option_copied c.args.texts)) (detail_of d) in
    let test : length c.args.details.now ≤ c.loop-detail.detail-index = omega arith in
    says_as (ap (spaced word) (take_all c.loop-detail.detail-index c.args.details.now test)) c.loop-detail.invariant
