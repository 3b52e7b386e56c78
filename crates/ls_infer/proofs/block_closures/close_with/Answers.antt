use Rattle.ls_infer.proofs.Vocabulary.{◌∙◌, ◌≡◌, ap, empty, family_sets, full, has, interior_keeping, is_among, minus, minus-within, subst, sym, true, unwrap_or, without}
use Rattle.ls_infer.proofs.Closing.{closed-already, closed-further}
use Rattle.ls_infer.proofs.block_closures.close_with.Goals as goal

pub returns-then-not-has-clause-value : goal.returns-then-not-has-clause-value
returns-then-not-has-clause-value g c set w e =
    let n = g.I.Interior.item_count c.args.f.now in
    let all : c.full-all.result ≡ full n = c.full-all.ensures ∙ ap full c.items.ensures.count in
    let outside : c.minus-outside.result ≡ minus (full n) c.args.closed = c.minus-outside.ensures ∙ ap (λ s. minus s c.args.closed) all in
    c.minus.ensures ∙ ap (λ s. minus s c.minus-outside.result) all ∙ ap (minus (full n)) outside
    ∙ closed-already n (g.I.Interior.members c.args.f.now) c.args.closed set c.args.item (family_sets n (g.I.Interior.members c.args.f.now) (g.met.I.Interior.is_family c.args.f.now)) e (ap (λ s. has s c.args.item) (sym outside) ∙ sym c.has.ensures ∙ c.if-not-has.true)

pub returns-then-not-has-clause-within : goal.returns-then-not-has-clause-within
returns-then-not-has-clause-within g c = rw (c.minus.ensures, c.full-all.ensures, c.items.ensures.count) (minus-within (full (g.I.Interior.item_count c.args.f.now)) c.minus-outside.result)

pub interior_without-left-requires-clause-within : goal.interior_without-left-requires-clause-within
interior_without-left-requires-clause-within g c = rw (c.minus-outside.ensures, c.full-all.ensures, c.items.ensures.count) (minus-within (full (g.I.Interior.item_count c.args.f.now)) c.args.closed)

pub returns-clause-value : goal.returns-clause-value
returns-clause-value g c set w e =
    let n = g.I.Interior.item_count c.args.f.now in
    let f = g.I.Interior.members c.args.f.now in
    let found = c.interior_without-left.result in
    let all : c.full-all.result ≡ full n = c.full-all.ensures ∙ ap full c.items.ensures.count in
    let outside : c.minus-outside.result ≡ minus (full n) c.args.closed = c.minus-outside.ensures ∙ ap (λ s. minus s c.args.closed) all in
    let keeping = subst (λ k. is_among f c.minus-outside.result ≡ true → found ≡ interior_keeping f (without c.minus-outside.result c.args.item) k) c.empty.ensures c.interior_without-left.ensures.value in
    c.minus-2.ensures ∙ ap (λ s. minus s c.unwrap_or.result) all
    ∙ closed-further n f c.args.closed set c.unwrap_or.result c.args.item found (family_sets n f (g.met.I.Interior.is_family c.args.f.now)) e
    (subst (λ o. is_among f o ≡ true → found ≡ interior_keeping f (without o c.args.item) empty) outside keeping)
    (λ k s. c.unwrap_or.ensures ∙ ap (λ o. unwrap_or o c.empty-2.result) s)

pub returns-clause-within : goal.returns-clause-within
returns-clause-within g c = rw (c.minus-2.ensures, c.full-all.ensures, c.items.ensures.count) (minus-within (full (g.I.Interior.item_count c.args.f.now)) c.unwrap_or.result)
