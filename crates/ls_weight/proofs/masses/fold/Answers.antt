use Rattle.ls_weight.proofs.Vocabulary.{◌*◌, ◌+◌, ◌∙◌, ◌≡◌, ap₂, arith, cases_lt, get_or, get_or-set_other, get_or-set_same, inl, inr, length, length-map, map, map-set, refl, sym}
use Rattle.ls_weight.proofs.SumsBelow.{sum_below-next, sum_below-none}
use Rattle.ls_weight.proofs.Folding.{pair-fits, seconds-fit}
use Rattle.ls_weight.proofs.Passing.{number-at}
use Rattle.ls_weight.proofs.masses.fold.Goals as goal

pub loop-v-init : goal.loop-v-init
loop-v-init g c = record { all = c.zero-all.ensures ∙ sym (sum_below-none _); done = λ k l. absurd (omega arith); left = λ k l. refl }

pub plus-all-requires : goal.plus-all-requires
plus-all-requires g c =
    let number = g.T.Amount.number in
    let at = c.args.start + (2 * c.loop-v.v + 1) in
    let with = number-at number c.loop-v.tables at c.index-tables-start-in-loop-v.result (omega arith) c.index-tables-start-in-loop-v.is ∙ c.loop-v.invariant.left at (omega arith) in
    let fits = seconds-fit c.args.half c.loop-v.v (λ k. get_or (map number c.args.tables.now) (c.args.start + k) 0) c.loop-v-test.true in
    omega (arith, c.loop-v.invariant.all, c.requires.fits)

pub plus-requires : goal.plus-requires
plus-requires g c =
    let number = g.T.Amount.number in
    let one = c.args.start + 2 * c.loop-v.v in
    let two = c.args.start + (2 * c.loop-v.v + 1) in
    let without = number-at number c.loop-v.tables one c.index-tables-start.result (omega arith) c.index-tables-start.is ∙ c.loop-v.invariant.left one (omega arith) in
    let with = number-at number c.loop-v.tables two c.index-tables-start-in-loop-v.result (omega arith) c.index-tables-start-in-loop-v.is ∙ c.loop-v.invariant.left two (omega arith) in
    let fits = pair-fits c.args.half c.loop-v.v (λ k. get_or (map number c.args.tables.now) (c.args.start + k) 0) c.loop-v-test.true in
    omega (arith, c.requires.fits)

pub loop-v-preserved : goal.loop-v-preserved
loop-v-preserved g c =
    let number = g.T.Amount.number in
    let v = c.loop-v.v in
    let at = c.args.start + v in
    let one = c.args.start + 2 * v in
    let two = c.args.start + (2 * v + 1) in
    let old = map number c.args.tables.now in
    let cells = map number c.loop-v.tables in
    let long : length cells ≡ length c.loop-v.tables = length-map c.loop-v.tables number in
    let without = number-at number c.loop-v.tables one c.index-tables-start.result (omega arith) c.index-tables-start.is ∙ c.loop-v.invariant.left one (omega arith) in
    let with = number-at number c.loop-v.tables two c.index-tables-start-in-loop-v.result (omega arith) c.index-tables-start-in-loop-v.is ∙ c.loop-v.invariant.left two (omega arith) in
    let pair = c.plus.result in
    rw (map-set number c.loop-v.tables at pair) (record {
      all = c.plus-all.ensures ∙ ap₂ (λ x y. x + y) c.loop-v.invariant.all with ∙ sym (sum_below-next v (λ k. get_or old (c.args.start + (2 * k + 1)) 0));
      done = λ k l. elim (cases_lt k v) [
        | inl lt ↦ get_or-set_other cells at (c.args.start + k) (number pair) 0 (omega arith) ∙ c.loop-v.invariant.done k lt
        | inr ge ↦
            let same : k ≡ v = omega arith in
            rw same (get_or-set_same cells at (number pair) 0 (omega arith) ∙ c.plus.ensures ∙ ap₂ (λ x y. x + y) without with)
      ];
      left = λ k l. get_or-set_other cells at k (number pair) 0 (omega arith) ∙ c.loop-v.invariant.left k (omega arith);
    })
