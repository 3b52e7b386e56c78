use Rattle.ls_columns.proofs.Vocabulary.{List, Query, arith, empty, false, get_or, is_same, least-cases, len-without_least, length, meet, no_least, refl, slice_get_read, subst, sym, true, true≢false, ◌∙◌, ◌≡◌}
use Rattle.ls_columns.proofs.Asked.{Asking-asked, Asking-done, Asking-first, Asking-passed}
use Rattle.ls_columns.proofs.block.Block.asked.Goals as goal
use Rattle.ls_columns.proofs.block.Block.asked.Goals.{else-rule-lt-PLACES-via-then-rule-lt-PLACES+else-eq, else-rule-lt-PLACES-via-else-rule-lt-PLACES}

pub loop-place-init : goal.loop-place-init
loop-place-init c = rw c.empty-asked.ensures (Asking-first c.args.self.now c.args.places c.args.kept)

pub index-rule-requires : goal.index-rule-requires
index-rule-requires c =
    let here = least-cases c.loop-place.left c.in-Some.place (sym c.least.ensures.value ∙ c.in-Some.is) in
    let bound = c.requires c.in-Some.place (c.loop-place.invariant.part c.in-Some.place here.0) in
    omega (arith, rw (← c.self.view_is) at bound)

pub loop-place-smaller-then-eq : goal.loop-place-smaller-then-eq
loop-place-smaller-then-eq c = rw c.without-left.ensures (len-without_least c.loop-place.left c.in-Some.place (sym c.least.ensures.value ∙ c.in-Some.is))

pub loop-place-preserved-then-eq : goal.loop-place-preserved-then-eq
unfolding is_same
loop-place-preserved-then-eq c =
    let rs = c.args.self.now in
    let place = c.in-Some.place in
    let r = c.index-rule.result.now in
    let here = least-cases c.loop-place.left place (sym c.least.ensures.value ∙ c.in-Some.is) in
    let read = subst (λ (rs : List Query). r ≡ get_or rs place r) c.self.view_is c.index-rule.ensures in
    let found = slice_get_read rs (length rs) place r refl (c.requires place (c.loop-place.invariant.part place here.0)) read in
    let test : is_same c.meet.result c.empty.result ≡ true = sym c.eq.ensures ∙ c.if-eq.true in
    rw (c.without-left.ensures, c.with-asked.ensures)
    (Asking-asked rs c.args.places c.args.kept c.loop-place.left c.loop-place.asked place r here.0 found c.if-rule-lt-PLACES.true (rw (c.meet.ensures, c.empty.ensures) at test) c.loop-place.invariant)

pub loop-place-smaller : goal.loop-place-smaller
loop-place-smaller c = rw c.without-left.ensures (len-without_least c.loop-place.left c.in-Some.place (sym c.least.ensures.value ∙ c.in-Some.is))

pub loop-place-preserved : goal.loop-place-preserved
unfolding is_same
loop-place-preserved c =
    let rs = c.args.self.now in
    let place = c.in-Some.place in
    let r = c.index-rule.result.now in
    let kept = c.args.kept in
    let here = least-cases c.loop-place.left place (sym c.least.ensures.value ∙ c.in-Some.is) in
    let read = subst (λ (rs : List Query). r ≡ get_or rs place r) c.self.view_is c.index-rule.ensures in
    let found = slice_get_read rs (length rs) place r refl (c.requires place (c.loop-place.invariant.part place here.0)) read in
    let passed = Asking-passed rs c.args.places kept c.loop-place.left c.loop-place.asked place r found in
    rw c.without-left.ensures (elim c.else-rule-lt-PLACES.branch [
      | else-rule-lt-PLACES-via-then-rule-lt-PLACES+else-eq w ↦
          let test : is_same w.meet.result w.empty.result ≡ false = sym w.eq.ensures ∙ w.if-eq.false in
          let met : is_same (meet kept r.a) empty ≡ false = rw (w.meet.ensures, w.empty.ensures) at test in
          passed (λ _ e. true≢false (sym e ∙ met)) c.loop-place.invariant
      | else-rule-lt-PLACES-via-else-rule-lt-PLACES w ↦ passed (λ l _. absurd (omega (arith, l, w.if-rule-lt-PLACES.false))) c.loop-place.invariant
    ])

pub returns-clause-all : goal.returns-clause-all
returns-clause-all c = Asking-done c.args.self.now c.args.places c.args.kept c.loop-place.left c.loop-place.asked (no_least c.loop-place.left (sym c.least.ensures.value ∙ c.in_default.is)) c.loop-place.invariant
