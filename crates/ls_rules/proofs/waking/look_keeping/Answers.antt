use Rattle.ls_rules.proofs.Vocabulary.{◌+◌, ◌∙◌, drop, get_or, refl, rules_at, sym}
use Rattle.ls_rules.proofs.Rounds.{look_at-step, look-broken, look-unbroken, gone, keeps-without}
use Rattle.ls_rules.proofs.Over.{looks-over}
use Rattle.ls_rules.proofs.waking.look_keeping.Goals as goal
use Rattle.ls_rules.proofs.waking.look_keeping.Goals.{then-breaks+else-has+else-is_over, else-breaks}

pub returns-then-has : goal.returns-then-has
returns-then-has c =
    let i = c.loop-place.place-index in
    let places = c.args.places.now in
    let r = c.index-rules-place.result in
    let s = c.loop-place.round in
    let rest = look_at-step c.args.rules.now places i (get_or places i 0) r s _ c.loop-place-test.true refl
    (c.requires.places i 0 c.loop-place-test.true) c.index-rules-place.is c.loop-place.invariant.rest in
    (r.q, sym c.has.ensures ∙ c.if-has.true, gone s _ r (rules_at c.args.rules.now (drop (i + 1) places)) (sym c.breaks.ensures ∙ c.if-breaks.true) rest)

pub returns-then-is_over : goal.returns-then-is_over
returns-then-is_over c =
    let i = c.loop-place.place-index in
    let places = c.args.places.now in
    let r = c.index-rules-place.result in
    let s = c.loop-place.round in
    let rest = look_at-step c.args.rules.now places i (get_or places i 0) r s _ c.loop-place-test.true refl
    (c.requires.places i 0 c.loop-place-test.true) c.index-rules-place.is c.loop-place.invariant.rest in
    let looked = look-broken s c.lose.new.self r (sym c.breaks.ensures ∙ c.if-breaks.true) c.lose.ensures.kept c.lose.ensures.fallen in
    let over = looks-over c.lose.new.self (rules_at c.args.rules.now (drop (i + 1) places)) (sym c.is_over.ensures ∙ c.if-is_over.true) in
    (sym over ∙ rw looked rest, λ h. rw c.lose.ensures.kept (keeps-without c.args.keep s.kept r.q (sym c.has.ensures ∙ c.if-has.false) (c.loop-place.invariant.keeps h)))

pub loop-place-preserved : goal.loop-place-preserved
loop-place-preserved c =
    let i = c.loop-place.place-index in
    let places = c.args.places.now in
    let r = c.index-rules-place.result in
    let s = c.loop-place.round in
    let rest = look_at-step c.args.rules.now places i (get_or places i 0) r s _ c.loop-place-test.true refl
    (c.requires.places i 0 c.loop-place-test.true) c.index-rules-place.is c.loop-place.invariant.rest in
    elim c.if-breaks.branch [
      | then-breaks+else-has+else-is_over w ↦
          let looked = w.round-is ∙ look-broken s w.lose.new.self r (sym c.breaks.ensures ∙ w.if-breaks.true) w.lose.ensures.kept w.lose.ensures.fallen in
          record {
            rest = rw looked rest;
            keeps = λ h. rw (w.round-is, w.lose.ensures.kept) (keeps-without c.args.keep s.kept r.q (sym w.has.ensures ∙ w.if-has.false) (c.loop-place.invariant.keeps h));
          }
      | else-breaks w ↦ record {
        rest = rw (look-unbroken s c.if-breaks.round r (sym c.breaks.ensures ∙ w.if-breaks.false) w.round-is) rest;
        keeps = λ h. rw w.round-is (c.loop-place.invariant.keeps h);
      }
    ]
