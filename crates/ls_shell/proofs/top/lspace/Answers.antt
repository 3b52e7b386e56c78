use Rattle.ls_shell.proofs.Vocabulary.{◌∙◌, ◌≡◌, AnswersNamed, AnswersScript, Consumes-nil, Drill, File, Folder, Keeps-refl, MarksScript, Mode, Some, Status, StopsAt, TakesAndStops, Text, WriteFault, WritesDrill, [], ap, arith, lines, longest_script, subst, sym}
use Rattle.std.specs.declared.option.Option.{Option}
use Rattle.std.specs.FinMap as map
use Rattle.ls_drill.specs.Summaries.{drill_text}
use Rattle.ls_shell.proofs.Pieces.{stops_first}
use Rattle.ls_shell.proofs.Asked.{input-none, none-mapped}
use Rattle.ls_shell.proofs.Fetched.{script-answered, named-script, found-none}
use Rattle.ls_shell.proofs.Input.{input_done, input_refused, input_answered, input_marked, input_read, input_long, input_write, input_memory, input_many, never_usage, never_missing}
use Rattle.ls_shell.proofs.Scripts.{took_few}
use Rattle.ls_shell.proofs.top.lspace.Goals as goal

pub returns-in-Ok-Input-clause-headline : goal.returns-in-Ok-Input-clause-headline
returns-in-Ok-Input-clause-headline g c = λ none script folder told files few read written quiet.
    subst (λ (s : Status). AnswersScript folder script (g.H.Shelf.files c.answer_source.new.shelf) (g.K.Sink.written c.args.out.now) (g.K.Sink.written c.answer_source.new.out) s) (sym c.status_after.ensures) (input_answered script folder told files few read written c.answer_source.result c.answer_source.ensures quiet)

pub returns-in-Ok-Input-clause-complete : goal.returns-in-Ok-Input-clause-complete
returns-in-Ok-Input-clause-complete g c = λ none script folder told files few read written.
    subst (λ (s : Status). MarksScript folder script (g.H.Shelf.files c.answer_source.new.shelf) (g.H.Shelf.faults c.args.shelf.now) (g.H.Shelf.faults c.answer_source.new.shelf) (g.K.Sink.written c.args.out.now) (g.K.Sink.written c.answer_source.new.out) s) (sym c.status_after.ensures) (input_marked script folder told files few read written c.answer_source.result c.answer_source.ensures)

pub returns-in-Ok-Input-clause-done : goal.returns-in-Ok-Input-clause-done
returns-in-Ok-Input-clause-done g c = λ e none. input_done c.answer_source.result c.answer_source.ensures (sym c.status_after.ensures ∙ e)

pub returns-in-Ok-Input-clause-refused : goal.returns-in-Ok-Input-clause-refused
returns-in-Ok-Input-clause-refused g c = λ e none. input_refused c.answer_source.result c.answer_source.ensures (sym c.status_after.ensures ∙ e)

pub returns-in-Ok-Input-clause-usage : goal.returns-in-Ok-Input-clause-usage
returns-in-Ok-Input-clause-usage g c = λ e. absurd (never_usage c.answer_source.result (sym c.status_after.ensures ∙ e))

pub returns-in-Ok-Input-clause-unread : goal.returns-in-Ok-Input-clause-unread
returns-in-Ok-Input-clause-unread g c = λ some. absurd (some (none-mapped _ c.args.words.now (input-none _ (c.in-Ok-Input.ensures.read ∙ ap (λ (m : Mode). Some m) c.in-Ok-Input.field-0-is))))

pub returns-in-Ok-Input-clause-read_fault : goal.returns-in-Ok-Input-clause-read_fault
returns-in-Ok-Input-clause-read_fault g c = λ e none. input_read c.answer_source.result c.answer_source.ensures (sym c.status_after.ensures ∙ e)

pub returns-in-Ok-Input-clause-fetch_fault : goal.returns-in-Ok-Input-clause-fetch_fault
returns-in-Ok-Input-clause-fetch_fault g c = λ e some. absurd (some (none-mapped _ c.args.words.now (input-none _ (c.in-Ok-Input.ensures.read ∙ ap (λ (m : Mode). Some m) c.in-Ok-Input.field-0-is))))

pub returns-in-Ok-Input-clause-write_fault : goal.returns-in-Ok-Input-clause-write_fault
returns-in-Ok-Input-clause-write_fault g c = λ e. (input_write c.answer_source.result c.answer_source.ensures (sym c.status_after.ensures ∙ e)).0

pub returns-in-Ok-Input-clause-write_stops : goal.returns-in-Ok-Input-clause-write_stops
returns-in-Ok-Input-clause-write_stops g c = λ e none. (input_write c.answer_source.result c.answer_source.ensures (sym c.status_after.ensures ∙ e)).1 _

pub returns-in-Ok-Input-clause-memory : goal.returns-in-Ok-Input-clause-memory
returns-in-Ok-Input-clause-memory g c = λ e none.
    subst (λ (s : Status). TakesAndStops (s ≡ WriteFault) (g.S.Source.left c.args.src.now) (g.S.Source.left c.answer_source.new.src) (g.H.Shelf.files c.args.shelf.now) (g.H.Shelf.files c.answer_source.new.shelf) (g.H.Shelf.faults c.args.shelf.now) (g.H.Shelf.faults c.answer_source.new.shelf) (g.K.Sink.written c.args.out.now) (g.K.Sink.written c.answer_source.new.out)) (sym c.status_after.ensures)
    (input_memory c.answer_source.result c.answer_source.ensures (sym c.status_after.ensures ∙ e))

pub returns-in-Ok-Input-clause-long : goal.returns-in-Ok-Input-clause-long
returns-in-Ok-Input-clause-long g c = λ e none. input_long c.answer_source.result c.answer_source.ensures (sym c.status_after.ensures ∙ e)

pub returns-in-Ok-Input-clause-too_long : goal.returns-in-Ok-Input-clause-too_long
returns-in-Ok-Input-clause-too_long g c = λ taken rest first then many. c.status_after.ensures ∙ input_many c.answer_source.result c.answer_source.ensures taken rest first then many

pub returns-in-Ok-Input-clause-no_script : goal.returns-in-Ok-Input-clause-no_script
returns-in-Ok-Input-clause-no_script g c = λ e. absurd (never_missing c.answer_source.result (sym c.status_after.ensures ∙ e))

pub returns-in-Ok-Input-clause-kept : goal.returns-in-Ok-Input-clause-kept
returns-in-Ok-Input-clause-kept g c = c.answer_source.ensures.kept

pub returns-in-Ok-File-clause-too_long : goal.returns-in-Ok-File-clause-too_long
returns-in-Ok-File-clause-too_long g c = λ taken rest before after many.
    absurd (took_few (g.S.Source.left c.args.src.now) (g.S.Source.left c.args.src.now) [] taken rest longest_script (Consumes-nil (g.S.Source.left c.args.src.now)) (omega arith) before after many)

pub returns-in-Ok-Drill-clause-too_long : goal.returns-in-Ok-Drill-clause-too_long
returns-in-Ok-Drill-clause-too_long g c = λ taken rest before after many.
    absurd (took_few (g.S.Source.left c.args.src.now) (g.S.Source.left c.args.src.now) [] taken rest longest_script (Consumes-nil (g.S.Source.left c.args.src.now)) (omega arith) before after many)

pub returns-in-Err-Usage-clause-too_long : goal.returns-in-Err-Usage-clause-too_long
returns-in-Err-Usage-clause-too_long g c = λ taken rest before after many.
    absurd (took_few (g.S.Source.left c.args.src.now) (g.S.Source.left c.args.src.now) [] taken rest longest_script (Consumes-nil (g.S.Source.left c.args.src.now)) (omega arith) before after many)

pub returns-in-Err-Memory-clause-too_long : goal.returns-in-Err-Memory-clause-too_long
returns-in-Err-Memory-clause-too_long g c = λ taken rest before after many.
    absurd (took_few (g.S.Source.left c.args.src.now) (g.S.Source.left c.args.src.now) [] taken rest longest_script (Consumes-nil (g.S.Source.left c.args.src.now)) (omega arith) before after many)

pub returns-in-Ok-File-clause-named : goal.returns-in-Ok-File-clause-named
returns-in-Ok-File-clause-named g c = λ name mode script folder told got short sink shelf.
    let left = g.H.Shelf.files c.answer_named.new.shelf in
    let hb = g.H.Shelf.faults c.args.shelf.now in
    let hn = g.H.Shelf.faults c.answer_named.new.shelf in
    let before = g.K.Sink.written c.args.out.now in
    let after = g.K.Sink.written c.answer_named.new.out in
    let both : Some (File c.in-Ok-File.name) ≡ Some (File name) = sym (c.in-Ok-File.ensures.read ∙ ap (λ (m : Mode). Some m) c.in-Ok-File.field-0-is) ∙ mode in
    let same : c.in-Ok-File.name ≡ name = cc both in
    let answered = subst (λ (n : Text). AnswersNamed n folder left hb hn before after c.answer_named.result) same (c.answer_named.ensures.named folder told) in
    script-answered folder script left hb hn before after c.answer_named.result (named-script folder name script left hb hn before after c.answer_named.result answered got short) shelf (λ e. sink (c.answer_named.ensures.write_fault e))

pub returns-in-Ok-Drill-clause-drill : goal.returns-in-Ok-Drill-clause-drill
returns-in-Ok-Drill-clause-drill g c = λ n s mode.
    let before = g.K.Sink.written c.args.out.now in
    let after = g.K.Sink.written c.drill.new.out in
    let both : Some (Drill c.in-Ok-Drill.n c.in-Ok-Drill.number) ≡ Some (Drill n s) = sym (c.in-Ok-Drill.ensures.read ∙ ap (λ (m : Mode). Some m) c.in-Ok-Drill.field-0-is) ∙ mode in
    let a : c.in-Ok-Drill.n ≡ n = cc both in
    let b : c.in-Ok-Drill.number ≡ s = cc both in
    subst (λ k. WritesDrill (drill_text k s) before after (g.K.Sink.faults c.args.out.now) (g.K.Sink.faults c.drill.new.out) c.drill.result) a
    (subst (λ k. WritesDrill (drill_text c.in-Ok-Drill.n k) before after (g.K.Sink.faults c.args.out.now) (g.K.Sink.faults c.drill.new.out) c.drill.result) b c.drill.ensures.writes)

pub returns-in-Err-Memory-clause-named_status : goal.returns-in-Err-Memory-clause-named_status
returns-in-Err-Memory-clause-named_status g c = λ name mode folder told.
    let faults = g.H.Shelf.faults c.args.shelf.now in
    let written = g.K.Sink.written c.args.out.now in
    found-none folder (g.H.Shelf.files c.args.shelf.now) faults faults written written (map.get folder name) (told, Keeps-refl written)
    (λ bytes. subst (λ (o : Option Folder). StopsAt ⊥ folder (lines bytes) o faults faults written written) (sym told) (stops_first ⊥ (λ e. e) folder bytes faults written))
