use Rattle.ls_columns.proofs.Vocabulary.{sym, ◌∙◌}
use Rattle.ls_columns.proofs.Rounds.{Going-done, Going-first, Going-more, Going-none, fewer_left}
use Rattle.ls_columns.proofs.columns.Columns.settle_within.Goals as goal

pub rounds-init : goal.rounds-init
rounds-init g c =
    let s = c.args.self.now in
    record {
      going = λ _ a k. Going-first (g.F.Inside.members s.inner) s.rules c.args.set c.args.keep c.args.fallen a k;
      part = λ i h. h;
    }

pub returns-then-is_within-clause-value : goal.returns-then-is_within-clause-value
returns-then-is_within-clause-value g c = λ m a k.
    let s = c.args.self.now in
    Going-done (g.F.Inside.item_count s.inner) (g.F.Inside.members s.inner) s.rules c.args.set c.args.keep c.rounds.fallen c.rounds.kept c.narrowed-next.result (g.met.F.Inside.is_family s.inner) (c.narrowed-next.ensures.narrows m)
    (sym c.is_within.ensures ∙ c.if-is_within.true) (c.rounds.invariant.going m a k)

pub returns-then-not-is_within-clause-value : goal.returns-then-not-is_within-clause-value
returns-then-not-is_within-clause-value g c = λ m a k.
    let s = c.args.self.now in
    Going-none (g.F.Inside.item_count s.inner) (g.F.Inside.members s.inner) s.rules c.args.set c.args.keep c.rounds.fallen c.rounds.kept c.narrowed-next.result (g.met.F.Inside.is_family s.inner) (c.narrowed-next.ensures.narrows m)
    (sym c.is_within-in-rounds.ensures ∙ c.if-not-is_within.true) (c.rounds.invariant.going m a k)

pub rounds-smaller : goal.rounds-smaller
rounds-smaller g c = fewer_left c.rounds.kept c.narrowed-next.result c.narrowed-next.ensures.within (sym c.is_within.ensures ∙ c.if-is_within.false)

pub rounds-preserved : goal.rounds-preserved
rounds-preserved g c =
    let s = c.args.self.now in
    rw c.minus-fallen.ensures (record {
      going = λ m a k. Going-more (g.F.Inside.item_count s.inner) (g.F.Inside.members s.inner) s.rules c.args.set c.args.keep c.rounds.fallen c.rounds.kept c.narrowed-next.result (g.met.F.Inside.is_family s.inner) (c.narrowed-next.ensures.narrows m)
          (sym c.is_within-in-rounds.ensures ∙ c.if-not-is_within.false) (c.rounds.invariant.going m a k);
      part = λ i h. c.rounds.invariant.part i (c.narrowed-next.ensures.within i h);
    })
