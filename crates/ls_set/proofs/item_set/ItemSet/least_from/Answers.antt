use Rattle.ls_set.proofs.Vocabulary.{◌*◌, ◌∙◌, ◌≡◌, AreShort, IsLowest, ap, arith, bit_at-trailing_zeros, cases_lt, full, get_or, inl, inr, least, length, minus, rules, set_of_lanes, subst, sym}
use Rattle.ls_set.proofs.Lanes.{least_of_lanes, least_of_none}
use lib.Count.{count_trailing_zeros}
use mir.Syntax.{w64}
use Rattle.ls_set.proofs.item_set.ItemSet.least_from.Goals as goal

pub loop-place-init : goal.loop-place-init
loop-place-init c = λ k m l. omega arith

pub loop-place-preserved : goal.loop-place-preserved
loop-place-preserved c = λ k m l. elim (cases_lt k c.loop-place.place) [
  | inl q ↦ c.loop-place.invariant k m q
  | inr q ↦ let e : k ≡ c.loop-place.place = omega arith in rw e c.if-lane-ne0.false
]

pub returns-then-lane-ne0-clause-value : goal.returns-then-lane-ne0-clause-value
returns-then-lane-ne0-clause-value c =
    let lanes = c.as_array-lanes.result.now in
    let e = c.as_array-lanes.ensures in
    let short = subst AreShort (sym e) c.self.invariant.1 in
    let lane = get_or lanes c.loop-place.place 0 in
    let h = bit_at-trailing_zeros w64 lane (omega arith) (search rules) in
    let low : IsLowest lane (count_trailing_zeros 64 lane) = record { here = h.1; none_below = h.2 } in
    sym (least_of_lanes lanes short c.args.first c.loop-place.place _ c.loop-place.auto.place c.loop-place.invariant h.0 low)
    ∙ ap (λ s. least (minus s (full (64 * c.args.first)))) (ap set_of_lanes e ∙ c.self.view_is)

pub returns-clause-value : goal.returns-clause-value
returns-clause-value c =
    let lanes = c.as_array-lanes.result.now in
    let e = c.as_array-lanes.ensures in
    let short = subst AreShort (sym e) c.self.invariant.1 in
    let many : length lanes ≡ 8 = ap length e ∙ c.self.invariant.0 in
    sym (least_of_none lanes short c.args.first (λ k m l. c.loop-place.invariant k m (omega arith)))
    ∙ ap (λ s. least (minus s (full (64 * c.args.first)))) (ap set_of_lanes e ∙ c.self.view_is)
