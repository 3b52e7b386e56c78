use Rattle.ls_infer.proofs.Vocabulary.{◌∙◌, ap, has, has-empty, sym, true≢false}
use Rattle.ls_infer.proofs.block_closures.KeptClosure.new.Goals as goal

pub returns-clause-kept : goal.returns-clause-kept
returns-clause-kept c n f i h = absurd (true≢false (sym h ∙ ap (λ s. has s i) c.empty.ensures ∙ has-empty i))
