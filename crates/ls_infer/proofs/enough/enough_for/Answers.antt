use Rattle.ls_infer.proofs.Vocabulary.{◌&&◌, ◌||◌, ◌∙◌, ◌≡◌, Bool, ℕ, ap, arith, closure, empty, enough_for, eqb, eqb-true, full, has, has-with, is_among, ltb, members, minus, nat_tests, refl, same_set, sym, true, with}
use Rattle.ls_infer.proofs.Kept.{has-enough, taken, left, left-out}
use Rattle.ls_infer.proofs.Sharing.{told}
use Rattle.ls_infer.proofs.States.{enough-itself}
use Rattle.ls_infer.proofs.enough.enough_for.Goals as goal
use Rattle.ls_infer.proofs.enough.enough_for.Goals.{then-r-q+then-is_none, else-r-q, else-r-q-via-then-r-q+else-is_none, else-r-q-via-else-r-q}

pub loop-r-init : goal.loop-r-init
loop-r-init g c = record { enough = λ i. rw (c.with-itself.ensures, c.empty.ensures) (grind (arith, members, nat_tests)); before = λ h. omega arith; past = λ h. omega (arith, h) }

pub loop-r-preserved : goal.loop-r-preserved
loop-r-preserved g c =
    let n = g.I.Interior.item_count c.args.f.now in
    let f = g.I.Interior.members c.args.f.now in
    let q = c.args.q in
    let r = c.loop-r.r in
    let v = c.loop-r.invariant in
    let passes = λ (i : ℕ). has (closure (full n) f (with c.args.closed i)) q in
    let outside : c.minus-outside.result ≡ minus (full n) c.args.closed = rw (c.minus-outside.ensures, c.full.ensures, c.items.ensures.count) refl in
    let itself : c.with-itself.result ≡ with empty q = rw (c.with-itself.ensures, c.empty.ensures) refl in
    let member : is_among f c.minus-outside.result ≡ true = rw outside c.requires.member in
    record {
      enough = λ i. elim c.if-r-q.branch [
        | then-r-q+then-is_none w ↦
            let enough : w.is_none.result ≡ passes r = told n f c.args.closed c.minus-outside.result c.with-itself.result q r w.interior_without.result w.is_none.result c.requires.item outside itself (w.interior_without.ensures.value member) w.is_none.ensures in
            rw (w.enough-is, w.with-enough.ensures) (has-with c.loop-r.enough r i ∙ ap (λ b. b || eqb i r) (v.enough i) ∙ taken r i q (passes i) (λ e. ap passes e ∙ sym enough ∙ w.if-is_none.true))
        | else-r-q w ↦ elim w.else-r-q.branch [
          | else-r-q-via-then-r-q+else-is_none x ↦
              let enough : x.is_none.result ≡ passes r = told n f c.args.closed c.minus-outside.result c.with-itself.result q r x.interior_without.result x.is_none.result c.requires.item outside itself (x.interior_without.ensures.value member) x.is_none.ensures in
              rw w.enough-is (v.enough i ∙ left r i q (passes i) (λ e. ap passes e ∙ sym enough ∙ x.if-is_none.false))
          | else-r-q-via-else-r-q x ↦ rw w.enough-is (v.enough i ∙ left-out r i q (passes i) x.if-r-q.false)
        ]
      ];
      before = λ h. elim c.if-r-q.branch [
        | then-r-q+then-is_none w ↦ omega (arith, h, w.steps-is, w.interior_without.ensures.cost, v.before (omega (arith, h)))
        | else-r-q w ↦ elim w.else-r-q.branch [
          | else-r-q-via-then-r-q+else-is_none x ↦ omega (arith, h, w.steps-is, x.steps-is, x.interior_without.ensures.cost, v.before (omega (arith, h)))
          | else-r-q-via-else-r-q x ↦ absurd (omega (arith, h, x.if-r-q.false))
        ]
      ];
      past = λ h. elim c.if-r-q.branch [
        | then-r-q+then-is_none w ↦ omega (arith, h, w.steps-is, w.interior_without.ensures.cost, v.past (omega (arith, h, w.if-r-q.true)))
        | else-r-q w ↦ elim w.else-r-q.branch [
          | else-r-q-via-then-r-q+else-is_none x ↦ omega (arith, h, w.steps-is, x.steps-is, x.interior_without.ensures.cost, v.past (omega (arith, h, x.if-r-q.true)))
          | else-r-q-via-else-r-q x ↦ omega (arith, h, w.steps-is, x.steps-is, x.if-r-q.false, v.before (omega (arith, x.if-r-q.false)))
        ]
      ];
    }

itself-absorbed : (a b : Bool) → (b ≡ true → a ≡ true) → (a || b) ≡ a
itself-absorbed a b h = grind arith

pub returns-clause-value : goal.returns-clause-value
returns-clause-value g c =
    let n = g.I.Interior.item_count c.args.f.now in
    let f = g.I.Interior.members c.args.f.now in
    let q = c.args.q in
    let end : c.loop-r.r ≡ n = omega (arith, c.loop-r-test.false, c.items-r-end.ensures.count) in
    same_set c.loop-r.enough (enough_for n f c.args.closed q) (λ i.
    c.loop-r.invariant.enough i ∙ ap (λ m. ltb i m && has (closure (full n) f (with c.args.closed i)) q || eqb i q) end ∙ ap (λ b. b || eqb i q) (sym (has-enough n f c.args.closed q i))
    ∙ itself-absorbed (has (enough_for n f c.args.closed q) i) (eqb i q) (λ e. ap (has (enough_for n f c.args.closed q)) (eqb-true i q e) ∙ enough-itself n f c.args.closed q c.requires.item))

pub returns-clause-cost : goal.returns-clause-cost
returns-clause-cost g c =
    let n = g.I.Interior.item_count c.args.f.now in
    let end : c.loop-r.r ≡ n = omega (arith, c.loop-r-test.false, c.items-r-end.ensures.count) in
    omega (arith, end, c.loop-r.invariant.past (omega (arith, end, c.requires.item)))
