use Rattle.ls_columns.proofs.Vocabulary.{Decides-is_same, ap, arith, empty, get_or_default, has, is_same, length, sym, true, with, ◌<◌, ◌∙◌, ◌≡◌}
use Rattle.ls_columns.proofs.Falls.{FallsWith-all, FallsWith-rule, with-single}
use Rattle.ls_columns.proofs.falling.add_rule.Goals as goal

pub returns-then-eq-clause-sound : goal.returns-then-eq-clause-sound
unfolding is_same
returns-then-eq-clause-sound c = λ rs in_rules a.
    let i = c.in-Some.i in
    let r = c.args.rule.now in
    let sets = c.args.falling.now in
    let same : is_same r.a c.with.result ≡ true = sym c.eq.ensures ∙ c.if-eq.true in
    let alone = (Decides-is_same r.a c.with.result).0 same ∙ c.with.ensures ∙ ap (λ s. with s i) c.empty.ensures ∙ with-single i in
    let bound : r.q < length sets = omega (arith, c.if-rule-lt-PLACES.true, c.requires.count) in
    let read = c.with-more.ensures ∙ ap (λ s. with s r.q) (c.index-falling-rule.is ∙ get_or_default sets r.q c.index-falling-rule.result empty bound) in
    let falls_with = FallsWith-rule rs r i in_rules alone in
    c.add.ensures.sound rs a (λ j h. FallsWith-all rs sets i r.q a falls_with j (ap (λ s. has s j) (sym read) ∙ h))
