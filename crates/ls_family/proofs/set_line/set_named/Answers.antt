use Rattle.ls_family.proofs.Vocabulary.{◌∙◌, sym, words_within}
use Rattle.ls_family.proofs.Words.{set-bad, set-known, set-unknown}
use Rattle.ls_family.proofs.set_line.set_named.Goals as goal

pub returns-in-Some : goal.returns-in-Some
returns-in-Some c = sym (set-known c.args.d.now (words_within c.args.part.now) c.in-Some.set (sym c.items_known.ensures ∙ c.in-Some.is))

pub returns-in-None : goal.returns-in-None
returns-in-None c = sym (set-unknown c.args.d.now (words_within c.args.part.now) (sym c.items_known.ensures ∙ c.in-None.is) (sym c.are_names.ensures ∙ c.if-are_names.true))

pub returns-in-None-2 : goal.returns-in-None-2
returns-in-None-2 c = sym (set-bad c.args.d.now (words_within c.args.part.now) (sym c.are_names.ensures ∙ c.if-are_names.false))
