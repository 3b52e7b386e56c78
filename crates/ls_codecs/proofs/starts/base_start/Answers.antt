use Rattle.ls_codecs.proofs.Vocabulary.{AreOn, subst, sym, view}
use Rattle.ls_codecs.proofs.Read.{on-from}
use Rattle.ls_codecs.proofs.starts.base_start.Goals as goal

pub base_of-requires-clause-within : goal.base_of-requires-clause-within
base_of-requires-clause-within c = subst (AreOn c.args.n) (sym c.deref.ensures.value) (on-from c.args.n (view c.args.value.now) c.in_ok-sets.sets.items c.in_ok-sets.ensures)
