use Rattle.ls_write.proofs.Vocabulary.{◌++◌, ◌∙◌, ◌∷◌, ◌≡◌, List, Text, [], ap, arith, codes, decimal, detail_of, detail_word, line_of, map-map, names_in, notice_words, option_copied, spaced, sym}
use Rattle.ls_meaning.specs.Told.{Notice}
use Rattle.ls_meaning.specs.declared.notices.Detail.{Detail as Held}
use Rattle.ls_room.proofs.Saying.{says_as, says_then}
use Rattle.ls_room.proofs.LineBytes.{line-spaced}
use Rattle.ls_write.proofs.refusals.put_refusal.Goals as goal

pub returns : goal.returns
returns g c =
    let names = names_in (option_copied c.args.texts) in
    let notice = c.notice-notice.result in
    let word : Held → Text = λ d. detail_word names (detail_of d) in
    let given : c.as_slice.result.now ≡ notice.details.items = c.as_slice.ensures.value in
    says_as
    (ap (λ (ds : List Held). ((codes "no " ++ decimal notice.code) ++ spaced word ds) ++ 10 ∷ []) given
    ∙ line-spaced (codes "no" ∷ decimal notice.code ∷ []) word notice.details.items (omega arith)
    ∙ ap (λ (ws : List Text). line_of (codes "no" ∷ decimal notice.code ∷ ws)) (sym (map-map (detail_word names) detail_of notice.details.items))
    ∙ ap (λ (n : Notice). line_of (codes "no" ∷ notice_words names n)) c.notice-notice.ensures)
    (says_then (says_then (says_then c.put.ensures.says c.put_number.ensures) c.put_details.ensures) c.end_line.ensures)
