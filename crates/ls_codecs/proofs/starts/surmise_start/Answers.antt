use Rattle.ls_codecs.proofs.Vocabulary.{AreOn, Items, List, all_clauses, subst, sym, view}
use Rattle.ls_codecs.proofs.ClauseStarts.{lists-on}
use Rattle.ls_codecs.proofs.starts.surmise_start.Goals as goal

pub from_clauses-requires-clause-within : goal.from_clauses-requires-clause-within
from_clauses-requires-clause-within c =
    subst (λ (cs : List (List Items)). AreOn c.args.n (all_clauses cs)) (sym c.deref.ensures.value) (lists-on c.args.n (view c.args.value.now) c.in_ok-clauses.clauses.items c.in_ok-clauses.ensures)
