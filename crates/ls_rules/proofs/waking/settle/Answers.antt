use Rattle.ls_rules.proofs.Vocabulary.{◌∙◌, ◌≡◌, IsIndexOf, Items, List, PlaceList, Query, Round, ℕ, ap, least-cases, lose_all, lost_with, map, places_at, refl, several, sym, wake, without}
use Rattle.ls_rules.proofs.Indexing.{small_items}
use Rattle.ls_rules.proofs.Rounds.{turned, turn, woken, lighter, After-turn, NoneKeeps-lost, Settling-more, Settling-done}
use Rattle.ls_rules.proofs.Over.{Settling-over}
use Rattle.ls_rules.proofs.waking.settle.Goals as goal

-- the rules that the item wakes are those that have it in their A
woken_rules : (rules : List Query) (singles : List Items) (wakes : List PlaceList) (s : Round) (i : ℕ) (fallen : Items) → IsIndexOf wakes (map (λ r. several r.a) rules) → fallen ≡ without s.fallen i
    → wake rules singles wakes i (record { kept = s.kept; fallen = fallen }) ≡ turn rules singles i (woken s i)
woken_rules rules singles wakes s i fallen index f =
    turned rules (λ r. several r.a) wakes i (places_at wakes i) (lose_all (woken s i) (lost_with singles s.kept i)) _ index refl (ap (λ (l : Items). wake rules singles wakes i (record { kept = s.kept; fallen = l })) f)

pub wake-requires-clause-items : goal.wake-requires-clause-items
wake-requires-clause-items c = small_items c.args.n c.args.rules.now c.requires.few c.requires.good

pub returns-then-not-wake-clause-value : goal.returns-then-not-wake-clause-value
returns-then-not-wake-clause-value c =
    let s = c.loop-i.round in
    let i = c.in-Some.i in
    let singles = c.args.singles.now in
    let woken_are = woken_rules c.args.rules.now singles c.args.wakes.now s i c.without-round.result c.requires.wakes c.without-round.ensures in
    let gone = rw (woken_are, c.if-not-wake.true) at c.wake.ensures in
    λ first a _. (NoneKeeps-lost c.args.rules.now singles first c.args.keep s i gone.0 c.requires.singles (c.loop-i.invariant.settling first a) gone.1 gone.2)

pub loop-i-smaller : goal.loop-i-smaller
loop-i-smaller c =
    let s = c.loop-i.round in
    let i = c.in-Some.i in
    let singles = c.args.singles.now in
    let here = least-cases s.fallen i (sym c.least.ensures.value ∙ c.in-Some.is) in
    let woken_are = woken_rules c.args.rules.now singles c.args.wakes.now s i c.without-round.result c.requires.wakes c.without-round.ensures in
    let kept = rw c.if-not-wake.false at c.wake.ensures in
    rw (kept.0 ∙ woken_are) (lighter c.args.rules.now singles s i here.0)

pub loop-i-preserved : goal.loop-i-preserved
loop-i-preserved c =
    let s = c.loop-i.round in
    let i = c.in-Some.i in
    let rules = c.args.rules.now in
    let singles = c.args.singles.now in
    let kept = rw c.if-not-wake.false at c.wake.ensures in
    let looked = kept.0 ∙ woken_rules rules singles c.args.wakes.now s i c.without-round.result c.requires.wakes c.without-round.ensures in
    let after = After-turn rules singles i (woken s i) in
    record {
      settling = λ first a. rw looked (Settling-more rules singles first s i c.requires.singles (c.loop-i.invariant.settling first a));
      keeps = λ h. kept.1 (c.loop-i.invariant.keeps h);
      part = rw looked (λ j h. c.loop-i.invariant.part j (after.within j h));
    }

pub returns-clause-value : goal.returns-clause-value
returns-clause-value c = λ first a w. (
  Settling-done c.args.rules.now first c.loop-i.round (sym c.least.ensures.value ∙ c.in_default.is) (c.loop-i.invariant.settling first a),
  c.loop-i.invariant.keeps w,
)

pub returns-then-is_over-clause-value : goal.returns-then-is_over-clause-value
returns-then-is_over-clause-value c = λ first a w. (
  Settling-over c.args.rules.now first c.loop-i.round (sym c.is_over.ensures ∙ c.if-is_over.true) (c.loop-i.invariant.settling first a),
  c.loop-i.invariant.keeps w,
)
