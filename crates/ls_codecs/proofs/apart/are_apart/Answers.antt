use Rattle.ls_codecs.proofs.Vocabulary.{◌∙◌, ◌≡◌, ap, cond, contains, false, is_eq, not-false, not-true, query_order, sym, true}
use Rattle.ls_codecs.proofs.ApartQueries.{apart-next, again-next, seen-next}
use Rattle.ls_codecs.proofs.apart.are_apart.Goals as goal

pub returns-then-not-branch : goal.returns-then-not-branch
returns-then-not-branch c =
    let l = c.loop-query in
    let r = c.query-item.result in
    let was : contains query_order l.seen r ≡ true =
    ap (contains query_order l.seen) (sym c.new.ensures) ∙ not-false _ (sym c.in_ok-insert.ensures.added ∙ c.if-not-branch.true) in
    sym (again-next c.args.queries.now l.query-index r c.loop-query-test.true c.query-item.is (sym (l.invariant.seen r) ∙ was))

pub loop-query-preserved : goal.loop-query-preserved
loop-query-preserved c =
    let l = c.loop-query in
    let all = c.args.queries.now in
    let r = c.query-item.result in
    let new : contains query_order l.seen r ≡ false =
    ap (contains query_order l.seen) (sym c.new.ensures) ∙ not-true _ (sym c.in_ok-insert.ensures.added ∙ c.if-not-branch.false) in
    record {
      seen = λ s.
          c.in_ok-insert.ensures.updates.0 s
          ∙ ap (λ q. cond (is_eq (query_order q s)) true (contains query_order l.seen s)) c.new.ensures
          ∙ seen-next all l.query-index r c.loop-query-test.true c.query-item.is (contains query_order l.seen) l.invariant.seen s;
      apart = apart-next all l.query-index r c.loop-query-test.true c.query-item.is l.invariant.apart (sym (l.invariant.seen r) ∙ new);
    }
