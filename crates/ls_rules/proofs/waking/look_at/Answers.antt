use Rattle.ls_rules.proofs.Vocabulary.{◌+◌, ◌∙◌, drop, get_or, refl, rules_at, sym}
use Rattle.ls_rules.proofs.Rounds.{look_at-step}
use Rattle.ls_rules.proofs.Over.{looks-over}
use Rattle.ls_rules.proofs.waking.look_at.Goals as goal

pub returns-then-is_over : goal.returns-then-is_over
returns-then-is_over c =
    let i = c.loop-place.place-index in
    let places = c.args.places.now in
    let rest = look_at-step c.args.rules.now places i (get_or places i 0) c.index-rules-place.result c.loop-place.round _ c.loop-place-test.true refl
    (c.requires.places i 0 c.loop-place-test.true) c.index-rules-place.is c.loop-place.invariant in
    sym (looks-over c.look.new.self (rules_at c.args.rules.now (drop (i + 1) places)) (sym c.is_over.ensures ∙ c.if-is_over.true)) ∙ rw c.look.ensures.round rest

pub loop-place-preserved : goal.loop-place-preserved
loop-place-preserved c =
    let i = c.loop-place.place-index in
    let places = c.args.places.now in
    rw c.look.ensures.round
    (look_at-step c.args.rules.now places i (get_or places i 0) c.index-rules-place.result c.loop-place.round _ c.loop-place-test.true refl
    (c.requires.places i 0 c.loop-place-test.true) c.index-rules-place.is c.loop-place.invariant)
