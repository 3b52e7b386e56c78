use Rattle.ls_shell.proofs.Vocabulary.{Answers, Err, Folder, IfOk-weaker, IsErrOf, List, StopsAt, Write, ℕ, [], append-nil, lines, on_err_weaker, refl, subst, sym}
use Rattle.std.specs.declared.option.Option.{Option}
use Rattle.ls_shell.proofs.Followed.{OnErr_from}
use Rattle.ls_shell.proofs.Moves.{moves_more, moves_same}
use Rattle.ls_shell.proofs.Answered.{stops_if}
use Rattle.ls_shell.proofs.Fetched.{told_same}
use Rattle.ls_shell.proofs.named.answer_by.Goals as goal

pub returns-in_err-take-clause-stopped : goal.returns-in_err-take-clause-stopped
returns-in_err-take-clause-stopped g c =
    let faults = g.H.Shelf.faults c.args.shelf.now in
    let written = g.K.Sink.written c.args.out.now in
    let script = c.args.script.now in
    let e = c.in_err-take.field-0.0 in
    let W = IsErrOf {T = Unit {0}} (Err e) Write in
    OnErr_from c.from_residual.result (λ m told.
    let fresh = subst (λ (o : Option Folder). Answers m (lines []) [] c.args.run.now o faults faults written written) (sym told) (c.requires.fresh m faults written) in
    let stops = c.in_err-take.ensures.stopped m [] [] faults written c.requires.short fresh in
    stops_if W (IsErrOf c.from_residual.result Write) m _ _ _ _ _ _ (told_same c.from_residual.result (Err e) e refl c.from_residual.ensures.1)
    (subst (λ (bytes : List ℕ). StopsAt W m (lines bytes) (g.H.Shelf.files c.take.new.shelf) faults (g.H.Shelf.faults c.take.new.shelf) written (g.K.Sink.written c.take.new.out)) (append-nil script) stops))

pub returns-in_err-take-clause-sink : goal.returns-in_err-take-clause-sink
returns-in_err-take-clause-sink g c =
    moves_same Write _ _ _ _ c.take.result c.from_residual.result (told_same c.from_residual.result c.take.result c.in_err-take.field-0.0 c.in_err-take.was c.from_residual.ensures.1) c.take.ensures.sink

pub returns-clause-answered : goal.returns-clause-answered
returns-clause-answered g c =
    let faults = g.H.Shelf.faults c.args.shelf.now in
    let written = g.K.Sink.written c.args.out.now in
    IfOk-weaker c.finish.result _ _ (λ b f m told.
    let fresh = subst (λ (o : Option Folder). Answers m (lines []) [] c.args.run.now o faults faults written written) (sym told) (c.requires.fresh m faults written) in
    f m c.args.script.now faults written c.requires.short (c.in_ok-take.ensures.answered m [] faults written c.requires.short fresh)) c.finish.ensures.answered

pub returns-clause-stopped : goal.returns-clause-stopped
returns-clause-stopped g c =
    let faults = g.H.Shelf.faults c.args.shelf.now in
    let written = g.K.Sink.written c.args.out.now in
    on_err_weaker c.finish.result (λ f m told.
    let fresh = subst (λ (o : Option Folder). Answers m (lines []) [] c.args.run.now o faults faults written written) (sym told) (c.requires.fresh m faults written) in
    f m c.args.script.now faults written c.requires.short (c.in_ok-take.ensures.answered m [] faults written c.requires.short fresh)) c.finish.ensures.stopped

pub returns-clause-sink : goal.returns-clause-sink
returns-clause-sink g c =
    let k = c.take.ensures.sink in
    moves_more Write _ _ _ _ _ _ c.finish.result k.kept.0 k.kept.1 k.later c.finish.ensures.sink
