use Rattle.std.proofs.lemmas.List.Elements.{All-from_recursion}
use Rattle.ls_set.specs.{IsWithin, full}
use Rattle.ls_codecs.proofs.WrittenStarts.{Each-within}
use Rattle.ls_codecs.proofs.starts.sets_value.Goals as goal

pub write_list-requires-clause-fine : goal.write_list-requires-clause-fine
write_list-requires-clause-fine c = All-from_recursion (λ s. IsWithin s (full c.args.n)) c.args.sets.now (Each-within c.args.n c.args.sets.now c.requires.small)
