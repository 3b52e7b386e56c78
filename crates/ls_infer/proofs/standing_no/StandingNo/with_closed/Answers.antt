use Rattle.ls_infer.proofs.Vocabulary.{◌∙◌, ◌≡◌, IsWithin-from, ap, arith, enough_for, false, family_sets, full, is_among, refl, same_within, sym}
use Rattle.ls_infer.proofs.Outside.{outside-member}
use Rattle.ls_infer.proofs.States.{enough-within, good-several}
use Rattle.ls_infer.proofs.Standing.{kept-parts, kept-again, standing-from}
use Rattle.ls_infer.proofs.standing_no.StandingNo.with_closed.Goals as goal

pub enough_between-enough-requires-clause-item : goal.enough_between-enough-requires-clause-item
enough_between-enough-requires-clause-item g c = (kept-parts _ c.args.self.now c.requires.kept).good.item

pub enough_between-enough-requires-clause-known : goal.enough_between-enough-requires-clause-known
enough_between-enough-requires-clause-known g c = (kept-parts _ c.args.self.now c.requires.kept).enough

pub enough_between-enough-requires-clause-among : goal.enough_between-enough-requires-clause-among
enough_between-enough-requires-clause-among g c = rw (c.full-all.ensures, c.items.ensures.count) (λ i h. h)

pub returns-then-is_within-clause-value : goal.returns-then-is_within-clause-value
returns-then-is_within-clause-value g c = λ made states.
    let n = g.I.Interior.item_count c.args.f.now in
    let f = g.I.Interior.members c.args.f.now in
    let s = c.args.self.now in
    let all : c.full-all.result ≡ full n = c.full-all.ensures ∙ ap full c.items.ensures.count in
    let so = c.enough_between-enough.ensures.value (rw made (outside-member n f s.no.query.a (family_sets n f (g.met.I.Interior.is_family c.args.f.now)))) states in
    let within = IsWithin-from c.enough_between-enough.result s.enough (sym c.is_within.ensures ∙ c.if-is_within.true) in
    (so.0, λ none known. standing-from n f s.no c.args.closed s.enough _ made (same_within s.enough (enough_for n f c.args.closed s.no.query.q) known (rw (so.1 known (rw all (enough-within n f _ _))) at within)) (sym none))

pub returns-then-is_within-clause-kept : goal.returns-then-is_within-clause-kept
returns-then-is_within-clause-kept g c =
    let s = c.args.self.now in
    let k = kept-parts _ s c.requires.kept in
    kept-again _ s c.args.closed s.enough false c.requires.kept c.requires.within k.enough

pub from_enough-requires : goal.from_enough-requires
from_enough-requires g c = c.enough_between-enough.ensures.within

pub returns-clause-value : goal.returns-clause-value
returns-clause-value g c = λ made states.
    let n = g.I.Interior.item_count c.args.f.now in
    let f = g.I.Interior.members c.args.f.now in
    let s = c.args.self.now in
    let all : c.full-all.result ≡ full n = c.full-all.ensures ∙ ap full c.items.ensures.count in
    let so = c.enough_between-enough.ensures.value (rw made (outside-member n f s.no.query.a (family_sets n f (g.met.I.Interior.is_family c.args.f.now)))) states in
    (so.0, λ none known. c.from_enough.ensures.value ∙ standing-from n f s.no c.args.closed c.enough_between-enough.result _ made (so.1 known (rw all (enough-within n f _ _))) refl)

pub returns-clause-kept : goal.returns-clause-kept
returns-clause-kept g c =
    let n = g.I.Interior.item_count c.args.f.now in
    rw c.from_enough.ensures.value (kept-again n c.args.self.now c.args.closed c.enough_between-enough.result (is_among (g.I.Interior.members c.args.f.now) c.enough_between-enough.result) c.requires.kept c.requires.within
    c.enough_between-enough.ensures.within)

pub returns-then-is_within-clause-fewer : goal.returns-then-is_within-clause-fewer
returns-then-is_within-clause-fewer g c i here l =
    let fewer = c.enough_between-enough.ensures.fewer i here l (good-several _ _ (kept-parts _ c.args.self.now c.requires.kept).good) in
    omega arith

pub returns-clause-fewer : goal.returns-clause-fewer
returns-clause-fewer g c i here l =
    let fewer = c.enough_between-enough.ensures.fewer i here l (good-several _ _ (kept-parts _ c.args.self.now c.requires.kept).good) in
    omega (arith, c.from_enough.ensures.cost)
