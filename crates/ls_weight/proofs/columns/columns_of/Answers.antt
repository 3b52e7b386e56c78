use Rattle.ls_weight.proofs.Vocabulary.{◌*◌, ◌≡◌, arith, words_of}
use Rattle.ls_weight.proofs.Columned.{columns-are}
use Rattle.ls_weight.proofs.columns.columns_of.Goals as goal

pub returns : goal.returns
returns c =
    let all : c.loop-at.at ≡ words_of c.args.count * c.args.n = omega arith in
    columns-are c.args.n c.args.count c.args.bytes.now c.loop-at.columns.items c.requires.few_states (omega (arith, c.loop-at.invariant.long)) (λ k l. c.loop-at.invariant.words k (omega arith))
