use Rattle.ls_shell.proofs.Vocabulary.{◌++◌, ◌∙◌, Answers, IsErrOf, IsTaken, StepFault, [], appends_none, arith, bare_lines, common_steps, drop, lines, refl, subst, sym}
use Rattle.ls_session.specs.declared.step_fault.StepFault.TheVariants as fault
use Rattle.ls_shell.proofs.Joined.{few_pending}
use Rattle.ls_shell.proofs.Followed.{OnErr_from}
use Rattle.ls_shell.proofs.Answered.{answers_on, answers_kept, stops_if}
use Rattle.ls_shell.proofs.Taken.{taken_more, taken_stops}
use Rattle.ls_shell.proofs.Moves.{moves_more, moves_same, extended}
use Rattle.ls_shell.proofs.run.Run.take.Goals as goal

pub loop-rest-init : goal.loop-rest-init
loop-rest-init g c = record {
  answered = λ m taken faults start few a. answers_on m taken c.args.piece.now c.args.self.now _ faults _ start _ a;
  shelf_later = omega arith;
  kept = ([], appends_none (g.K.Sink.written c.args.out.now));
  later = omega arith;
}

pub returns-in_default-clause-answered : goal.returns-in_default-clause-answered
returns-in_default-clause-answered g c = λ m taken faults start few a.
    let bytes = taken ++ c.args.piece.now in
    let rest = c.loop-rest.rest.now in
    let b = c.loop-rest.invariant.answered m taken faults start few a in
    let taken_by = subst (λ o. IsTaken c.take-count.new.self b.pending rest c.take-count.result.0 o) c.in_default.is (c.take-count.ensures.taken b.pending b.held (omega (arith, few, few_pending (bare_lines b.ended) b.pending rest bytes b.all_lines))) in
    answers_kept m (lines bytes) rest c.take-count.result.0 c.loop-rest.self (record c.loop-rest.self { cutter = c.take-count.new.self }) _ faults _ start _ refl refl b taken_by

pub loop-rest-preserved : goal.loop-rest-preserved
loop-rest-preserved g c =
    let before = c.loop-rest.invariant in
    let rest = c.loop-rest.rest.now in
    record {
      answered = λ m taken faults start few a.
          let bytes = taken ++ c.args.piece.now in
          let b = before.answered m taken faults start few a in
          let taken_by = subst (λ o. IsTaken c.take-count.new.self b.pending rest c.take-count.result.0 o) c.in-Some.is (c.take-count.ensures.taken b.pending b.held (omega (arith, few, few_pending (bare_lines b.ended) b.pending rest bytes b.all_lines))) in
          subst (λ r. Answers m (lines bytes) r c.answer.new.self (g.H.Shelf.files c.answer.new.shelf) faults (g.H.Shelf.faults c.answer.new.shelf) start (g.K.Sink.written c.answer.new.out)) {x = drop c.take-count.result.0 rest} (sym c.split_at.ensures.back)
          (taken_more m bytes rest c.in-Some.ended c.loop-rest.self (record c.loop-rest.self { cutter = c.take-count.new.self }) c.answer.new.self (g.H.Shelf.files c.loop-rest.shelf) (g.H.Shelf.files c.answer.new.shelf) faults _ _ start _ _ refl refl b c.take-count.result.0 taken_by StepFault fault.Write
          c.in_ok-answer.ensures.answered);
      shelf_later = omega (arith, before.shelf_later, c.answer.ensures.later);
      kept = extended (g.K.Sink.written c.args.out.now) (g.K.Sink.written c.loop-rest.out) (g.K.Sink.written c.answer.new.out) before.kept c.answer.ensures.sink.kept;
      later = omega (arith, before.later, c.answer.ensures.sink.later);
    }

pub returns-in_err-answer-clause-stopped : goal.returns-in_err-answer-clause-stopped
returns-in_err-answer-clause-stopped g c = OnErr_from c.from_residual.result (λ m taken more faults start few a.
    let bytes = taken ++ c.args.piece.now in
    let rest = c.loop-rest.rest.now in
    let b = c.loop-rest.invariant.answered m taken faults start few a in
    let taken_by = subst (λ o. IsTaken c.take-count.new.self b.pending rest c.take-count.result.0 o) c.in-Some.is (c.take-count.ensures.taken b.pending b.held (omega (arith, few, few_pending (bare_lines b.ended) b.pending rest bytes b.all_lines))) in
    stops_if _ _ m _ _ _ _ _ _ (λ e. let wrote : IsErrOf c.answer.result fault.Write = grind (arith, common_steps) in sym c.in_err-answer.was ∙ wrote)
    (taken_stops m bytes rest c.in-Some.ended c.loop-rest.self (record c.loop-rest.self { cutter = c.take-count.new.self }) c.answer.new.self (g.H.Shelf.files c.loop-rest.shelf) (g.H.Shelf.files c.answer.new.shelf) faults _ _ start _ _ refl refl b c.take-count.result.0 taken_by StepFault fault.Write more
    c.in_err-answer.field-0.0 c.in_err-answer.ensures.answered))

pub returns-in_err-answer-clause-sink : goal.returns-in_err-answer-clause-sink
returns-in_err-answer-clause-sink g c =
    moves_more fault.Write _ _ _ _ _ _ _ _ c.loop-rest.invariant.kept.1 c.loop-rest.invariant.later (moves_same fault.Write _ _ _ _ c.answer.result c.from_residual.result (λ e. grind (arith, common_steps)) c.answer.ensures.sink)
