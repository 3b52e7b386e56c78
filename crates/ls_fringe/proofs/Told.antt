-- The member that two fringes tell, by looking at the fringes of one.
use Rattle.ls_fringe.proofs.Vocabulary.{◌&&◌, ◌∙◌, ◌≡◌, FringePair, Items, List, None, Some, ℕ, ap, ap₂, cond, eqb, fringes, full, interior, is_learning_space, is_same, learning-parts, minus, state_of, state_of-is, sym, true}
use Rattle.ls_laws.specs.Spans.{AreOn}

-- the greatest member without the outer items, where its fringes are the given ones
pub told : (n : ℕ) (f : List Items) (inner outer k : Items) (x : FringePair) → AreOn n f → is_learning_space (full n) f ≡ true → k ≡ interior f (minus (full n) outer) → x ≡ fringes n f k
    → cond (eqb x.inner.digits inner.digits && eqb x.outer.digits outer.digits) (Some k) None ≡ state_of n f inner outer
unfolding is_same
told n f inner outer k x small learning at is =
    let p = learning-parts n f small learning in
    ap₂ (λ (y : FringePair) (l : Items). cond (eqb y.inner.digits inner.digits && eqb y.outer.digits outer.digits) (Some l) None) (is ∙ ap (fringes n f) at) at
    ∙ sym (state_of-is n f p.0 p.1 inner outer)
