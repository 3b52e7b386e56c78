use Rattle.ls_write.proofs.Vocabulary.{◌∙◌, session_with, shown_lines}
use Rattle.ls_room.proofs.Saying.{says_as}
use Rattle.ls_room.proofs.LineBytes.{lines-words}
use Rattle.ls_write.proofs.Showing.{said-same}
use Rattle.ls_write.proofs.responses.put_response.Goals as goal

pub returns-in-Shown-clause-says : goal.returns-in-Shown-clause-says
returns-in-Shown-clause-says g c = λ old.
    let s = session_with old c.args.texts.now c.args.inquiry.now in
    says_as (lines-words (shown_lines c.args.texts.now c.args.inquiry.now c.in-Shown.shown) ∙ said-same s c.in-Shown.is) c.put_shown.ensures.says
