use Rattle.std.proofs.Common.{◌≡◌, ◌+◌, ◌-◌, ◌∙◌, sym, ap, subst, arith, true, false, true≢false, inl, inr, Some}
use Rattle.std.proofs.lemmas.Bool.{and_from, and_parts, cases_eq}
use Rattle.ls_set.specs.ItemSet.{has, full, minus, with, keep_before, is_within, is_among, IsWithin}
use Rattle.ls_set.proofs.Sets.{minus-within}
use Rattle.ls_theory.specs.Families.{interior}
use Rattle.ls_skill.specs.Duals.{dual_reach, parts_at, lowered}
use Rattle.ls_skill.proofs.Members.{begins-member}
use Rattle.ls_skill.proofs.Lowering.{found, none-found, reach-within}
use Rattle.ls_skill.proofs.next.next_dual.Goals as goal

pub interior-inside-requires : goal.interior-inside-requires
interior-inside-requires g c =
    let n = g.I.Interior.item_count c.args.f.now in
    let e =
    c.dual_reach.ensures ∙ ap (λ m. dual_reach m c.args.word (c.loop-i.i - 1))
    c.items-n.ensures.count in
    subst (λ s. IsWithin s (full n)) (sym e) (reach-within n c.args.word (c.loop-i.i - 1))

-- the interior that was formed
pub lower-member-requires-clause-member : goal.lower-member-requires-clause-member
lower-member-requires-clause-member g c =
    let n = g.I.Interior.item_count c.args.f.now in
    let f = g.I.Interior.members c.args.f.now in
    let e =
    c.interior-inside.ensures.value ∙ ap (interior f)
    (c.dual_reach.ensures ∙ ap (λ m. dual_reach m c.args.word (c.loop-i.i - 1))
    c.items-n.ensures.count) in
    subst (λ s. is_among f s ≡ true) (sym e)
    (begins-member n f c.args.word (c.loop-i.i - 1) (g.met.I.Interior.is_family c.args.f.now))

pub returns-then-is_within-clause-next : goal.returns-then-is_within-clause-next
returns-then-is_within-clause-next g c =
    let n = g.I.Interior.item_count c.args.f.now in
    let f = g.I.Interior.members c.args.f.now in
    let i = c.loop-i.i - 1 in
    let count = c.items-n.ensures.count in
    let inside =
    c.interior-inside.ensures.value ∙ ap (interior f)
    (c.dual_reach.ensures ∙ ap (λ m. dual_reach m c.args.word i) count) in
    let agreed =
    c.agreed.ensures ∙ ap (λ m. with (keep_before (minus (full m) c.args.word) i) i) count in
    let here : parts_at n f c.args.word i ≡ true =
    and_from
    (has c.args.word i)
    (is_within (with (keep_before (minus (full n) c.args.word) i) i)
    (interior f (dual_reach n c.args.word i)))
    (sym c.has.ensures ∙ c.if-has.true)
    (ap (λ s. is_within s (interior f (dual_reach n c.args.word i))) (sym agreed) ∙ ap
    (is_within c.agreed.result) (sym inside) ∙ sym c.is_within.ensures ∙ c.if-is_within.true) in
    let value =
    c.lower-member.ensures.value ∙ ap (λ k. lowered f k (i + 1) (c.items-n.result - (i + 1)))
    inside ∙ ap (λ m. lowered f (interior f (dual_reach n c.args.word i)) (i + 1) (m - (i + 1)))
    count in
    let whole =
    c.minus.ensures ∙ ap (λ s. minus s c.lower-member.result) (c.full.ensures ∙ ap full count) ∙
    ap (minus (full n)) value in
    ap Some whole ∙ found n f c.args.word i (g.met.I.Interior.is_family c.args.f.now) c.requires
    (omega arith) here (λ j a b. c.loop-i.invariant.none j (omega arith) b)

pub returns-then-is_within-clause-small : goal.returns-then-is_within-clause-small
returns-then-is_within-clause-small g c = λ k e.
    let n = g.I.Interior.item_count c.args.f.now in
    let same : c.minus.result ≡ k = cc in
    subst (λ t. IsWithin t (full n)) same
    (subst (λ t. IsWithin t (full n))
    (sym
    (c.minus.ensures ∙ ap (λ s. minus s c.lower-member.result)
    (c.full.ensures ∙ ap full c.items-n.ensures.count)))
    (minus-within (full n) c.lower-member.result))

pub returns-clause-next : goal.returns-clause-next
returns-clause-next g c =
    none-found (g.I.Interior.item_count c.args.f.now) (g.I.Interior.members c.args.f.now)
    c.args.word (g.met.I.Interior.is_family c.args.f.now) c.requires
    (λ j l. c.loop-i.invariant.none j (omega arith) l)

pub loop-i-preserved-else-is_within : goal.loop-i-preserved-else-is_within
loop-i-preserved-else-is_within g c =
    let n = g.I.Interior.item_count c.args.f.now in
    let f = g.I.Interior.members c.args.f.now in
    let i = c.loop-i.i - 1 in
    let count = c.items-n.ensures.count in
    let inside =
    c.interior-inside.ensures.value ∙ ap (interior f)
    (c.dual_reach.ensures ∙ ap (λ m. dual_reach m c.args.word i) count) in
    let agreed =
    c.agreed.ensures ∙ ap (λ m. with (keep_before (minus (full m) c.args.word) i) i) count in
    let not_here : is_within (with (keep_before (minus (full n) c.args.word) i) i)
    (interior f (dual_reach n c.args.word i)) ≡ false =
    ap (λ s. is_within s (interior f (dual_reach n c.args.word i))) (sym agreed) ∙ ap
    (is_within c.agreed.result) (sym inside) ∙ sym c.is_within.ensures ∙ c.if-is_within.false in
    record {
      none = λ j a l p. elim (cases_eq j i) [
        | inl e ↦ true≢false
            (sym (and_parts (has c.args.word i) _ (subst (λ k. parts_at n f c.args.word k ≡ true) e p)).1 ∙ not_here)
        | inr e ↦ c.loop-i.invariant.none j (omega arith) l p
      ];
      cost = omega arith;
    }
