use Rattle.ls_infer.proofs.Vocabulary.{◌∙◌, ◌≡◌, ap, arith, family_sets, full, good-from, has, interior, is_among, is_within, is_within-interior, refl, sym, true, with}
use Rattle.ls_infer.proofs.Kept.{with-within}
use Rattle.ls_infer.proofs.Outside.{outside-member}
use Rattle.ls_infer.proofs.States.{enough-within, with-itself, good-several}
use Rattle.ls_infer.proofs.Standing.{kept-from, standing-from, standing-only}
use Rattle.ls_infer.proofs.standing_no.StandingNo.from_known.Goals as goal
use Rattle.ls_infer.proofs.standing_no.StandingNo.from_known.Goals.{then-not-has+else-has, else-not-has}

pub with-known-requires : goal.with-known-requires
with-known-requires g c = let item = (good-from _ c.args.no.query c.requires.good).item in omega (arith, item, c.items.ensures.count, c.items.ensures.few)

pub has-requires : goal.has-requires
has-requires g c = let item = (good-from _ c.args.no.query c.requires.good).item in omega (arith, item, c.items.ensures.count, c.items.ensures.few)

pub interior-left-requires : goal.interior-left-requires
interior-left-requires g c = rw c.with-known.ensures (with-within _ c.args.known c.args.no.query.q c.requires.known (good-from _ c.args.no.query c.requires.good).item)

pub has-requires-then-not-has : goal.has-requires-then-not-has
has-requires-then-not-has g c = let item = (good-from _ c.args.no.query c.requires.good).item in omega (arith, item, c.items.ensures.count, c.items.ensures.few)

pub returns-then-has-clause-value : goal.returns-then-has-clause-value
returns-then-has-clause-value g c = λ made states.
    let n = g.I.Interior.item_count c.args.f.now in
    let f = g.I.Interior.members c.args.f.now in
    let q = c.args.no.query.q in
    let sets = family_sets n f (g.met.I.Interior.is_family c.args.f.now) in
    let left : c.interior-left.result ≡ interior f (with c.args.known q) = c.interior-left.ensures.value ∙ ap (interior f) c.with-known.ensures in
    let inside : has (interior f (with c.args.known q)) q ≡ true = ap (λ s. has s q) (sym left) ∙ sym c.has-then-not-has.ensures ∙ c.if-has.true in
    let is_state = c.is_within.ensures ∙ ap (is_within c.with-known.result) c.interior-left.ensures.value ∙ is_within-interior f sets.holds_empty sets.holds_unions c.with-known.result ∙ ap (is_among f) c.with-known.ensures in
    (states, λ sound. rw c.with-known.ensures (standing-only n f c.args.no c.args.closed c.args.known c.is_within.result sets (good-from n c.args.no.query c.requires.good).item made sound (sym c.has.ensures ∙ c.if-not-has.true) inside is_state))

pub returns-then-has-clause-kept : goal.returns-then-has-clause-kept
returns-then-has-clause-kept g c =
    let n = g.I.Interior.item_count c.args.f.now in
    let good = good-from n c.args.no.query c.requires.good in
    kept-from n (record { no = c.args.no; closed = c.args.closed; enough = c.with-known.result; is_state = c.is_within.result })
    (record { good = good; closed = c.requires.within; enough = rw c.with-known.ensures (with-within n c.args.known c.args.no.query.q c.requires.known good.item) })

pub enough_between-enough-requires-clause-known : goal.enough_between-enough-requires-clause-known
enough_between-enough-requires-clause-known g c = rw c.with-known.ensures (with-within _ c.args.known c.args.no.query.q c.requires.known (good-from _ c.args.no.query c.requires.good).item)

pub returns-clause-value : goal.returns-clause-value
returns-clause-value g c = λ made states.
    let n = g.I.Interior.item_count c.args.f.now in
    let f = g.I.Interior.members c.args.f.now in
    let a = c.args.no in
    let all : c.full-all.result ≡ full n = c.full-all.ensures ∙ ap full c.items.ensures.count in
    let so = c.enough_between-enough.ensures.value (rw made (outside-member n f a.query.a (family_sets n f (g.met.I.Interior.is_family c.args.f.now)))) states in
    (so.0, λ sound. c.from_enough.ensures.value ∙ standing-from n f a c.args.closed c.enough_between-enough.result _ made (so.1 (rw c.with-known.ensures (with-itself n f c.args.closed a.query.q c.args.known (good-from n a.query c.requires.good).item sound)) (rw all (enough-within n f _ _))) refl)

pub returns-clause-kept : goal.returns-clause-kept
returns-clause-kept g c =
    let n = g.I.Interior.item_count c.args.f.now in
    let f = g.I.Interior.members c.args.f.now in
    rw c.from_enough.ensures.value
    (kept-from n (record { no = c.args.no; closed = c.args.closed; enough = c.enough_between-enough.result; is_state = is_among f c.enough_between-enough.result })
    (record { good = good-from n c.args.no.query c.requires.good; closed = c.requires.within; enough = c.enough_between-enough.ensures.within }))

pub returns-clause-cost : goal.returns-clause-cost
returns-clause-cost g c = elim c.if-not-has.branch [
  | then-not-has+else-has w ↦ omega (arith, w.steps-is, w.interior-left.ensures.cost, c.enough_between-enough.ensures.cost, c.from_enough.ensures.cost)
  | else-not-has w ↦ omega (arith, w.steps-is, c.enough_between-enough.ensures.cost, c.from_enough.ensures.cost)
]

pub returns-clause-fewer : goal.returns-clause-fewer
returns-clause-fewer g c i here l =
    let fewer = c.enough_between-enough.ensures.fewer i here l (good-several _ _ (good-from _ c.args.no.query c.requires.good)) in
    elim c.if-not-has.branch [
      | then-not-has+else-has w ↦ omega (arith, w.steps-is, w.interior-left.ensures.cost, fewer, c.from_enough.ensures.cost)
      | else-not-has w ↦ omega (arith, w.steps-is, fewer, c.from_enough.ensures.cost)
    ]
