use Rattle.ls_surmise.proofs.Vocabulary.{◌∙◌, IsInOrder, ap, is_within, list_any, subst, sym}
use Rattle.ls_surmise.proofs.Orderings.{put-within}
use Rattle.ls_surmise.proofs.flaws.has_clause_within.Goals as goal

pub has_within-requires : goal.has_within-requires
has_within-requires c = subst IsInOrder (sym c.clauses_of.ensures) (c.requires.in_order c.args.r)

pub returns : goal.returns
returns c = c.has_within.ensures ∙ ap (list_any (λ k. is_within k c.args.set)) c.clauses_of.ensures ∙ put-within c.args.clauses.now c.args.ordered.now c.requires c.args.r c.args.set
