use Rattle.ls_shell.proofs.Vocabulary.{◌∙◌, AnswersFile, AnswersGiven, AnswersWhole, Err, FetchedFrom, Fetches, Folder, IfOk-weaker, IsErrOf, Keeps-refl, List, Status, StopsAt, Text, Write, ℕ, ap, given, lines, on_err_weaker, subst, sym}
use Rattle.std.specs.declared.option.Option.{Option}
use Rattle.std.specs.FinMap as map
use Rattle.ls_shell.proofs.Pieces.{stops_first}
use Rattle.ls_shell.proofs.Fetched.{found-read, whole-earlier, stops-earlier, stays-told, fetched-told}
use Rattle.ls_shell.proofs.Whole.{whole_answered, whole_write, whole_read, whole_usage, whole_only, unread_answered, unread_failed, unread_write, unread_usage}
use Rattle.ls_shell.proofs.named.answer_named.Goals as goal

pub returns-in-Ok-clause-named : goal.returns-in-Ok-clause-named
returns-in-Ok-clause-named g c = λ folder told.
    let name = c.args.name.now in
    let first = g.H.Shelf.files c.args.shelf.now in
    let mid = g.H.Shelf.files c.fetch.new.self in
    let fetches = subst (λ (n : Text). Fetches first mid n c.fetch.result) c.as_str.ensures c.fetch.ensures.files in
    let kept = stays-told first mid folder fetches.0 told in
    let left = g.H.Shelf.files c.answer_whole.new.shelf in
    let hb = g.H.Shelf.faults c.args.shelf.now in
    let hm = g.H.Shelf.faults c.fetch.new.self in
    let hn = g.H.Shelf.faults c.answer_whole.new.shelf in
    let before = g.K.Sink.written c.args.out.now in
    let after = g.K.Sink.written c.answer_whole.new.out in
    let later = c.fetch.ensures.cause.later in
    let script = c.in-Ok.script.items in
    let r = c.answer_whole.result in
    let W = IsErrOf r Write in
    let fetched = subst (FetchedFrom (map.get folder name)) c.in-Ok.is (fetched-told first mid name c.fetch.result folder fetches told) in
    let answered = IfOk-weaker r _ _ (λ b f. whole-earlier folder left hb hm hn later before after script b (subst (λ (bytes : List ℕ). AnswersWhole folder bytes left hm hn before after b) c.deref.ensures.value (f folder kept))) c.answer_whole.ensures.answered in
    let stopped = on_err_weaker r (λ f. stops-earlier folder left hb hm hn later before after W (lines script) (subst (λ (bytes : List ℕ). StopsAt W folder (lines bytes) left hm hn before after) c.deref.ensures.value (f folder kept))) c.answer_whole.ensures.stopped in
    found-read folder left hb hn before after (map.get folder name) c.in-Ok.script c.status_after.result fetched
    (subst (λ (s : Status). AnswersFile folder script left hb hn before after s) (sym c.status_after.ensures) (whole_answered folder script left hb hn before after r answered stopped))

pub returns-in-Ok-clause-read_fault : goal.returns-in-Ok-clause-read_fault
returns-in-Ok-clause-read_fault g c = λ e. absurd (whole_read c.answer_whole.result (sym c.status_after.ensures ∙ e))

pub returns-in-Ok-clause-unread : goal.returns-in-Ok-clause-unread
returns-in-Ok-clause-unread g c = λ done refused write memory. absurd (whole_only c.answer_whole.result (λ e. done (c.status_after.ensures ∙ e)) (λ e. refused (c.status_after.ensures ∙ e)) (λ e. write (c.status_after.ensures ∙ e)) (λ e. memory (c.status_after.ensures ∙ e)))

pub returns-in-Ok-clause-write_fault : goal.returns-in-Ok-clause-write_fault
returns-in-Ok-clause-write_fault g c = λ e. c.answer_whole.ensures.sink.cause (whole_write c.answer_whole.result (sym c.status_after.ensures ∙ e))

pub returns-in-Ok-clause-understood : goal.returns-in-Ok-clause-understood
returns-in-Ok-clause-understood g c = λ e. whole_usage c.answer_whole.result (sym c.status_after.ensures ∙ e)

pub returns-in-Err-clause-named : goal.returns-in-Err-clause-named
returns-in-Err-clause-named g c = λ folder told.
    let name = c.args.name.now in
    let first = g.H.Shelf.files c.args.shelf.now in
    let mid = g.H.Shelf.files c.fetch.new.self in
    let fetches = subst (λ (n : Text). Fetches first mid n c.fetch.result) c.as_str.ensures c.fetch.ensures.files in
    let kept = stays-told first mid folder fetches.0 told in
    let hb = g.H.Shelf.faults c.args.shelf.now in
    let hn = g.H.Shelf.faults c.fetch.new.self in
    let written = g.K.Sink.written c.args.out.now in
    let fetched = subst (FetchedFrom (map.get folder name)) c.in-Err.is (fetched-told first mid name c.fetch.result folder fetches told) in
    subst (λ (s : Status). AnswersGiven (given (map.get folder name)) folder mid hb hn written written s) (sym c.status_unread.ensures)
    (unread_answered folder mid hb hn written written (map.get folder name) c.in-Err.fault fetched (kept, Keeps-refl written) (λ e. c.fetch.ensures.cause.failed (c.in-Err.is ∙ ap Err e)) (λ bytes.
    stops-earlier folder mid hb hn hn c.fetch.ensures.cause.later written written ⊥ (lines bytes)
    (subst (λ (o : Option Folder). StopsAt ⊥ folder (lines bytes) o hn hn written written) (sym kept) (stops_first ⊥ (λ e. e) folder bytes hn written))))

pub returns-in-Err-clause-read_fault : goal.returns-in-Err-clause-read_fault
returns-in-Err-clause-read_fault g c = λ e. c.fetch.ensures.cause.failed (c.in-Err.is ∙ ap Err (unread_failed c.in-Err.fault (sym c.status_unread.ensures ∙ e)))

pub returns-in-Err-clause-write_fault : goal.returns-in-Err-clause-write_fault
returns-in-Err-clause-write_fault g c = λ e. absurd (unread_write c.in-Err.fault (sym c.status_unread.ensures ∙ e))

pub returns-in-Err-clause-understood : goal.returns-in-Err-clause-understood
returns-in-Err-clause-understood g c = λ e. unread_usage c.in-Err.fault (sym c.status_unread.ensures ∙ e)
