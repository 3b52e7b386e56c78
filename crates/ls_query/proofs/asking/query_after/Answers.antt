use Rattle.ls_query.proofs.Vocabulary.{◌∙◌, arith, good-from, sym}
use Rattle.ls_query.proofs.QuerySets.{find-larger}
use Rattle.ls_query.proofs.Passing.{find-with_same, find-no_more}
use Rattle.ls_query.proofs.asking.query_after.Goals as goal

pub returns-then-len-k : goal.returns-then-len-k
returns-then-len-k c = sym (find-larger c.args.n c.args.k c.args.r (omega (arith, c.if-len-k.true, c.len.ensures)))

pub query_after_set-requires-clause-within : goal.query_after_set-requires-clause-within
query_after_set-requires-clause-within c = (good-from c.args.n c.args.r c.requires.good).small

pub returns-in-Some : goal.returns-in-Some
returns-in-Some c =
    sym (find-with_same c.args.n c.args.k c.args.r c.in-Some.q (good-from c.args.n c.args.r c.requires.good) (omega (arith, c.if-len-k.false, c.len.ensures))
    (rw (← c.full.ensures, ← c.minus.ensures) (sym c.next_member.ensures.value ∙ c.in-Some.is)))

pub returns-in-None : goal.returns-in-None
returns-in-None c =
    c.query_after_set.ensures
    ∙ find-no_more c.args.n c.args.k c.args.r (good-from c.args.n c.args.r c.requires.good) (rw (← c.full.ensures, ← c.minus.ensures) (sym c.next_member.ensures.value ∙ c.in-None.is))
