use Rattle.ls_infer.proofs.Vocabulary.{◌∙◌, ◌≡◌, all-at, ap, arith, has, is_among, list_all, sym, true}
use Rattle.ls_infer.proofs.Sharing.{meet-left}
use Rattle.ls_infer.proofs.Witnessing.{narrowed-by_state}
use Rattle.ls_infer.proofs.narrowing.narrow.Goals as goal
use Rattle.ls_infer.proofs.narrowing.narrow.Goals.{then-is_of_use, else-is_of_use}

pub loop-state-preserved : goal.loop-state-preserved
loop-state-preserved c = elim c.if-is_of_use.branch [
  | then-is_of_use w ↦ rw w.rest-is (record {
    narrowed = λ n f family states.
        let member : is_among f c.state-item.result ≡ true =
        all-at (is_among f) c.states-state-items.result.now c.loop-state.state-index c.state-item.result
        (ap (list_all (is_among f)) c.states-state-items.ensures ∙ all-at (list_all (is_among f)) c.args.witnesses.now c.args.q c.in-Some.kept.now states c.in-Some.ensures.lookup.3.0 c.in-Some.ensures.lookup.1)
        c.loop-state-test.true c.state-item.is in
        narrowed-by_state n f c.args.outside c.state-item.result c.args.rest.now.items c.loop-state.rest.items w.leave.new.self.items c.args.q member (c.is_of_use.ensures.item w.if-is_of_use.true) (c.is_of_use.ensures.within w.if-is_of_use.true)
        w.leave.ensures.items (c.loop-state.invariant.narrowed n f family states);
    part = λ i h. c.loop-state.invariant.part i (meet-left c.loop-state.rest.items c.state-item.result i (ap (λ s. has s i) (sym w.leave.ensures.items) ∙ h));
    fewer = omega (arith, w.leave.ensures.fewer, c.loop-state.invariant.fewer);
  })
  | else-is_of_use w ↦ rw w.rest-is (record { narrowed = c.loop-state.invariant.narrowed; part = c.loop-state.invariant.part; fewer = c.loop-state.invariant.fewer })
]
