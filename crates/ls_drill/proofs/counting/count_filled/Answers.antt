use Rattle.ls_drill.proofs.Vocabulary.{arith, good-from, ◌*◌, ◌+◌, ◌∙◌, ◌≡◌, ◌≤◌, Answer, IfOk, Known, List, Result, Some, ap, cond, is_good, is_no, is_same_query, is_yes, known, list_any, not, rules, subst, sym, true}
use Rattle.ls_expert.specs.declared.bad_query.BadQuery.{BadQuery}
use Rattle.ls_drill.specs.declared.counting.Filled.{Filled}
use Rattle.ls_drill.proofs.CountedQueries.{IsCounted, none-counted, next-good, counted-asked, counted-filled, counted-end, counted-last, met, met-none}
use Rattle.ls_drill.proofs.SettledDrills.{filled-any}
use Rattle.ls_drill.proofs.counting.count_filled.Goals as goal
use Rattle.ls_drill.proofs.counting.count_filled.Goals.{then-not-has, else-not-has}

pub loop-init : goal.loop-init
loop-init g c = record { counted = none-counted c.args.inquiry.now; asked = c.new-asked.ensures.asked }

pub returns-in_default : goal.returns-in_default
returns-in_default g c =
    let i = c.args.inquiry.now in
    let h = counted-end i c.loop.counter c.loop.last c.loop.filled.all c.loop.filled.yes c.loop.filled.no c.loop.invariant.counted
    (sym c.loop.invariant.counted.turn ∙ met-none i c.blocks-blocks.result c.loop.last c.query_after.result c.blocks-blocks.ensures c.query_after.ensures c.in_default.not-Some) in
    record { all = h.all_filled; yes = h.yes_filled; no = h.no_filled }

pub unwrap-requires : goal.unwrap-requires
unwrap-requires g c =
    let i = c.args.inquiry.now in
    let r = c.in-Some.query in
    let q = sym (met i c.blocks-blocks.result c.loop.last c.query_after.result c.blocks-blocks.ensures c.query_after.ensures) ∙ c.in-Some.is in
    let good : is_good i.count r ≡ true = next-good i c.loop.counter c.loop.last c.loop.filled.all c.loop.filled.yes c.loop.filled.no c.loop.invariant.counted r q in
    search rules

pub has-requires-clause-item : goal.has-requires-clause-item
has-requires-clause-item g c =
    let i = c.args.inquiry.now in
    let r = c.in-Some.query in
    let q = sym (met i c.blocks-blocks.result c.loop.last c.query_after.result c.blocks-blocks.ensures c.query_after.ensures) ∙ c.in-Some.is in
    let good = good-from i.count r (next-good i c.loop.counter c.loop.last c.loop.filled.all c.loop.filled.yes c.loop.filled.no c.loop.invariant.counted r q) in
    omega (arith, good.item, c.items-n.ensures)

pub loop-preserved : goal.loop-preserved
loop-preserved g c =
    let i = c.args.inquiry.now in
    let f = c.loop.filled in
    let r = c.in-Some.query in
    let q = sym (met i c.blocks-blocks.result c.loop.last c.query_after.result c.blocks-blocks.ensures c.query_after.ensures) ∙ c.in-Some.is in
    let filled = filled-any i r ∙ sym (ap not (c.has.ensures.value ∙ ap (λ (answers : List Answer). list_any (λ a. is_same_query a.query r) answers) c.standing-answers.ensures.value)) in
    let counted = elim c.if-not-has.branch as (λ _. IsCounted i (c.loop.counter + 1) (Some r) c.if-not-has.filled.all c.if-not-has.filled.yes c.if-not-has.filled.no) [
      | then-not-has w ↦
          let told = subst (λ (o : Result Known BadQuery). IfOk o (λ (k : Known). k ≡ known i r)) w.unwrap.ensures w.known.ensures.value in
          subst (λ (x : Filled). IsCounted i (c.loop.counter + 1) (Some r) x.all x.yes x.no) (sym w.filled-is)
          (counted-filled i c.loop.counter c.loop.last f.all f.yes f.no c.loop.invariant.counted r q _ _ _ (filled ∙ ap not w.if-not-has.true) w.add.ensures.all
          (w.add.ensures.yes ∙ ap (λ (k : Known). f.yes + cond (is_yes k) 1 0) told) (w.add.ensures.no ∙ ap (λ (k : Known). f.no + cond (is_no k) 1 0) told))
      | else-not-has w ↦
          subst (λ (x : Filled). IsCounted i (c.loop.counter + 1) (Some r) x.all x.yes x.no) (sym w.filled-is)
          (counted-asked i c.loop.counter c.loop.last f.all f.yes f.no c.loop.invariant.counted r q (filled ∙ ap not w.if-not-has.false))
    ] in
    record { counted = counted; asked = c.has.ensures.asked }

pub returns : goal.returns
returns g c =
    let h = counted-last c.args.inquiry.now c.loop.counter c.loop.last c.loop.filled.all c.loop.filled.yes c.loop.filled.no c.loop.invariant.counted c.requires.single
    (subst (λ m. m * m ≤ c.loop.counter) c.items-n.ensures.count c.loop-test.false) in
    record { all = h.all_filled; yes = h.yes_filled; no = h.no_filled }
