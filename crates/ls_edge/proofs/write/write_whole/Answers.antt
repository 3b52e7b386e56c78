use Rattle.std.proofs.Common.{◌≡◌, ◌+◌, ◌-◌, ◌≤◌, length, take, drop, arith, ◌∙◌, ap}
use Rattle.std.proofs.lemmas.List.{drop-drop, length-drop, take_rest}
use Rattle.std.specs.Io.KnownBytes.{Appends}
use Rattle.ls_edge.proofs.Known.{appends_front}
use Rattle.ls_edge.proofs.write.write_whole.Goals as goal

pub loop-rest-preserved : goal.loop-rest-preserved
loop-rest-preserved g c =
    let i = c.loop-rest.invariant.0 in
    let so_far = c.loop-rest.invariant.1 in
    let n = c.in_ok-count.count in
    let le : n ≤ length c.loop-rest.rest.now = c.in_ok-count.ensures.bound in
    let left : length c.loop-rest.rest.now ≡ length c.args.bytes.now - i = ap length so_far.follows ∙ length-drop i c.args.bytes.now in
    let more : Appends (g.K.Sink.written c.loop-rest.out) (g.K.Sink.written c.write.new.self) (take n c.loop-rest.rest.now) = c.in_ok-count.ensures.bytes in (
      i + n,
      record {
        within = omega arith;
        follows = take_rest c.loop-rest.rest.now n ∙ ap (drop n) so_far.follows ∙ drop-drop n i c.args.bytes.now;
        wrote = appends_front _ (g.K.Sink.written c.loop-rest.out) _ i n c.args.bytes.now so_far.wrote (rw so_far.follows at more);
        later = omega (arith, c.write.ensures.cause.later);
      },
    )
