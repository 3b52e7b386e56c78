use Rattle.ls_infer.proofs.Vocabulary.{◌∙◌, IsGood, IsKeptFor, ap, good-from, has, left-IsPart, refl, subst, sym}
use Rattle.ls_infer.proofs.Changes.{yes-given}
use Rattle.ls_infer.proofs.KeptStates.{states-part}
use Rattle.ls_infer.proofs.table.Table.yes_removed.Goals as goal

pub closure-requires : goal.closure-requires
closure-requires g c = rw c.requires.items ((good-from c.args.self.now.table.blocks.item_count c.args.r.now c.requires.good).small)

pub returns-then-has-clause-kept : goal.returns-then-has-clause-kept
returns-then-has-clause-kept g c = λ b nos k.
    let n = g.I.Interior.item_count c.args.f.now in
    let f = g.I.Interior.members c.args.f.now in
    let good : IsGood n c.args.r.now = rw c.requires.items (good-from c.args.self.now.table.blocks.item_count c.args.r.now c.requires.good) in
    subst (λ f. IsKeptFor b f nos c.args.self.now)
    (yes-given n f c.args.r.now (g.met.I.Interior.is_family c.args.f.now) good (ap (λ s. has s c.args.r.now.q) (sym c.closure.ensures.value) ∙ sym c.has.ensures ∙ c.if-has.true)) k

pub returns-clause-kept : goal.returns-clause-kept
returns-clause-kept g c = λ b nos k. c.change.ensures.kept b _ nos refl k.table (states-part (g.I.Interior.members c.args.f.now) _ c.args.self.now.witnesses (left-IsPart _ c.args.r.now) k.states)
