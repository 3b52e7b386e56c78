use Rattle.ls_shell.proofs.Vocabulary.{◌++◌, ◌+◌, ◌<◌, ◌∙◌, ◌≡◌, ◌≤◌, Consumes, Err, [], ap, appends_none, arith, common_steps, drop, length, longest_script, refl, subst, sym, take, take-append-le}
use Rattle.ls_shell.proofs.Pieces.{read_none, read_fails, read_end, stops_end, read_long, read_more, stops_more}
use Rattle.ls_shell.proofs.Taking.{takes_done, takes_read, takes_long, takes_stopped}
use Rattle.ls_shell.proofs.Moves.{rose_since, extended}
use Rattle.ls_shell.proofs.reading.answer_pieces.Goals as goal

pub pieces-init : goal.pieces-init
pieces-init g c = record {
  read = read_none (g.S.Source.left c.args.src.now) c.args.run.now (g.H.Shelf.files c.args.shelf.now) (g.H.Shelf.faults c.args.shelf.now) (g.K.Sink.written c.args.out.now) c.requires;
  few = omega arith;
  shelf_later = omega arith;
  kept = ([], appends_none (g.K.Sink.written c.args.out.now));
  source_later = omega arith;
  sink_later = omega arith;
}

pub returns-in-Err-clause-takes : goal.returns-in-Err-clause-takes
returns-in-Err-clause-takes g c =
    let before = c.pieces.invariant in
    takes_read
    (rose_since (g.S.Source.faults c.args.src.now) (g.S.Source.faults c.pieces.src) (g.S.Source.faults c.read.new.self) before.source_later c.in-Err.ensures.cause.failed)
    (read_fails (g.S.Source.left c.args.src.now) (g.H.Shelf.files c.args.shelf.now) (g.H.Shelf.faults c.args.shelf.now) (g.K.Sink.written c.args.out.now) (g.S.Source.left c.pieces.src) (g.S.Source.left c.read.new.self) c.pieces.count c.pieces.run
    (g.H.Shelf.files c.pieces.shelf) (g.H.Shelf.files c.pieces.shelf) (g.H.Shelf.faults c.pieces.shelf) (g.H.Shelf.faults c.pieces.shelf) (g.K.Sink.written c.pieces.out) (g.K.Sink.written c.pieces.out) before.read before.few c.in-Err.ensures.bytes)
    before.kept

pub returns-in_err-finish-clause-takes : goal.returns-in_err-finish-clause-takes
returns-in_err-finish-clause-takes g c =
    let before = c.pieces.invariant in
    let some : 0 < length c.read.new.buf = grind (arith, common_steps) in
    takes_stopped c.from_residual.result c.in_err-finish.field-0.0 c.from_residual.ensures.1 (λ w. ap Err w)
    (λ w. rose_since (g.K.Sink.faults c.args.out.now) (g.K.Sink.faults c.pieces.out) (g.K.Sink.faults c.finish.new.out) before.sink_later (c.finish.ensures.sink.cause (c.in_err-finish.was ∙ ap Err w)))
    (stops_end (g.S.Source.left c.args.src.now) (g.H.Shelf.files c.args.shelf.now) (g.H.Shelf.faults c.args.shelf.now) (g.K.Sink.written c.args.out.now) (g.S.Source.left c.pieces.src) (g.S.Source.left c.read.new.self) c.pieces.count c.pieces.run
    (g.H.Shelf.files c.pieces.shelf) (g.H.Shelf.files c.finish.new.shelf) (g.H.Shelf.faults c.pieces.shelf) (g.H.Shelf.faults c.finish.new.shelf) (g.K.Sink.written c.pieces.out) (g.K.Sink.written c.finish.new.out) before.read before.few
    (subst (λ k. Consumes (g.S.Source.left c.pieces.src) (g.S.Source.left c.read.new.self) (take k c.read.new.buf)) c.if-taken-eq0.true c.in-Ok.ensures.bytes.0) (c.in-Ok.ensures.bytes.1 c.if-taken-eq0.true some) _ c.in_err-finish.ensures.stopped)
    (extended (g.K.Sink.written c.args.out.now) (g.K.Sink.written c.pieces.out) (g.K.Sink.written c.finish.new.out) before.kept c.finish.ensures.sink.kept)

pub returns-then-taken-eq0-clause-takes : goal.returns-then-taken-eq0-clause-takes
returns-then-taken-eq0-clause-takes g c =
    let before = c.pieces.invariant in
    let some : 0 < length c.read.new.buf = grind (arith, common_steps) in
    takes_done _
    (read_end (g.S.Source.left c.args.src.now) (g.H.Shelf.files c.args.shelf.now) (g.H.Shelf.faults c.args.shelf.now) (g.K.Sink.written c.args.out.now) (g.S.Source.left c.pieces.src) (g.S.Source.left c.read.new.self) c.pieces.count c.pieces.run
    (g.H.Shelf.files c.pieces.shelf) (g.H.Shelf.files c.finish.new.shelf) (g.H.Shelf.faults c.pieces.shelf) (g.H.Shelf.faults c.finish.new.shelf) (g.K.Sink.written c.pieces.out) (g.K.Sink.written c.finish.new.out) before.read before.few
    (subst (λ k. Consumes (g.S.Source.left c.pieces.src) (g.S.Source.left c.read.new.self) (take k c.read.new.buf)) c.if-taken-eq0.true c.in-Ok.ensures.bytes.0) (c.in-Ok.ensures.bytes.1 c.if-taken-eq0.true some) _ c.in_ok-finish.ensures.answered)
    (extended (g.K.Sink.written c.args.out.now) (g.K.Sink.written c.pieces.out) (g.K.Sink.written c.finish.new.out) before.kept c.finish.ensures.sink.kept)

pub returns-then-count-gt-LONGEST_SCRIPT-clause-takes : goal.returns-then-count-gt-LONGEST_SCRIPT-clause-takes
returns-then-count-gt-LONGEST_SCRIPT-clause-takes g c =
    let before = c.pieces.invariant in
    let n = c.in-Ok.taken in
    let over : c.pieces.count + n ≡ longest_script + 1 = grind (arith, common_steps) in
    let one : n ≡ 1 = grind (arith, common_steps) in
    takes_long
    (read_long (g.S.Source.left c.args.src.now) (g.H.Shelf.files c.args.shelf.now) (g.H.Shelf.faults c.args.shelf.now) (g.K.Sink.written c.args.out.now) (g.S.Source.left c.pieces.src) (g.S.Source.left c.read.new.self) c.pieces.count c.pieces.run
    (g.H.Shelf.files c.pieces.shelf) (g.H.Shelf.files c.pieces.shelf) (g.H.Shelf.faults c.pieces.shelf) (g.H.Shelf.faults c.pieces.shelf) (g.K.Sink.written c.pieces.out) (g.K.Sink.written c.pieces.out) before.read before.few n (take n c.read.new.buf) c.in-Ok.ensures.bytes.0 (omega (arith, c.in-Ok.ensures.bound.1)) over one)
    before.kept

pub pieces-preserved : goal.pieces-preserved
pieces-preserved g c =
    let n = c.in-Ok.taken in
    let buf = c.read.new.buf in
    let before = c.pieces.invariant in
    let within : n ≤ length buf = c.in-Ok.ensures.bound.0 in
    let piece = take n (buf ++ drop c.max-offered.result c.pieces.piece) in
    let front : take n (buf ++ drop c.max-offered.result c.pieces.piece) ≡ take n buf = rw take-append-le refl in
    record {
      read = read_more (g.S.Source.left c.args.src.now) (g.H.Shelf.files c.args.shelf.now) (g.H.Shelf.faults c.args.shelf.now) (g.K.Sink.written c.args.out.now) (g.S.Source.left c.pieces.src) (g.S.Source.left c.read.new.self) c.pieces.count c.pieces.run
          (g.H.Shelf.files c.pieces.shelf) (g.H.Shelf.files c.take.new.shelf) (g.H.Shelf.faults c.pieces.shelf) (g.H.Shelf.faults c.take.new.shelf) (g.K.Sink.written c.pieces.out) (g.K.Sink.written c.take.new.out) before.read before.few n piece
          (subst (Consumes (g.S.Source.left c.pieces.src) (g.S.Source.left c.read.new.self)) (sym front) c.in-Ok.ensures.bytes.0) (omega (arith, ap length front, c.in-Ok.ensures.bound.1)) (omega arith) c.take.new.self c.in_ok-take.ensures.answered;
      few = omega arith;
      shelf_later = omega (arith, before.shelf_later, c.take.ensures.later);
      kept = extended (g.K.Sink.written c.args.out.now) (g.K.Sink.written c.pieces.out) (g.K.Sink.written c.take.new.out) before.kept c.take.ensures.sink.kept;
      source_later = omega (arith, before.source_later, c.read.ensures.cause.later);
      sink_later = omega (arith, before.sink_later, c.take.ensures.sink.later);
    }

pub returns-in_err-take-clause-takes : goal.returns-in_err-take-clause-takes
returns-in_err-take-clause-takes g c =
    let n = c.in-Ok.taken in
    let buf = c.read.new.buf in
    let before = c.pieces.invariant in
    let within : n ≤ length buf = c.in-Ok.ensures.bound.0 in
    let piece = take n (buf ++ drop c.max-offered.result c.pieces.piece) in
    let front : take n (buf ++ drop c.max-offered.result c.pieces.piece) ≡ take n buf = rw take-append-le refl in
    takes_stopped c.from_residual-in_err-take.result c.in_err-take.field-0.0 c.from_residual-in_err-take.ensures.1 (λ w. ap Err w)
    (λ w. rose_since (g.K.Sink.faults c.args.out.now) (g.K.Sink.faults c.pieces.out) (g.K.Sink.faults c.take.new.out) before.sink_later (c.take.ensures.sink.cause (c.in_err-take.was ∙ ap Err w)))
    (stops_more (g.S.Source.left c.args.src.now) (g.H.Shelf.files c.args.shelf.now) (g.H.Shelf.faults c.args.shelf.now) (g.K.Sink.written c.args.out.now) (g.S.Source.left c.pieces.src) (g.S.Source.left c.read.new.self) c.pieces.count c.pieces.run
    (g.H.Shelf.files c.pieces.shelf) (g.H.Shelf.files c.take.new.shelf) (g.H.Shelf.faults c.pieces.shelf) (g.H.Shelf.faults c.take.new.shelf) (g.K.Sink.written c.pieces.out) (g.K.Sink.written c.take.new.out) before.read before.few n piece
    (subst (Consumes (g.S.Source.left c.pieces.src) (g.S.Source.left c.read.new.self)) (sym front) c.in-Ok.ensures.bytes.0) (omega (arith, ap length front, c.in-Ok.ensures.bound.1)) (omega arith) _ c.in_err-take.ensures.stopped)
    (extended (g.K.Sink.written c.args.out.now) (g.K.Sink.written c.pieces.out) (g.K.Sink.written c.take.new.out) before.kept c.take.ensures.sink.kept)
