-- Truth values.
use Rattle.ls_lists.proofs.Vocabulary.{◌&&◌, ◌∙◌, ◌≡◌, ◌⊎◌, Bool, and_from, ap, arith, false, inl, inr, not, not-false, refl, sym, true, true≢false}
use Rattle.std.specs.Cmp.{booleans_Decides}
use Rattle.std.proofs.Math.Bool.{and-false}
use mathlib.Core.Bool.{beq}

pub never : {A : Type 0} → false ≡ true → A
never e = absurd (true≢false (sym e))

-- ---- two that agree or differ

pub beq-same : (p q : Bool) → not (beq p q) ≡ false → p ≡ q
beq-same p q e = (booleans_Decides p q).0 (not-false (beq p q) e)

pub beq-self : (p q : Bool) → p ≡ q → not (beq p q) ≡ false
beq-self p q e = ap not ((booleans_Decides p q).1 e)

pub beq-other : (p q : Bool) → not (beq p q) ≡ true → p ≡ true → q ≡ false
beq-other p q e h = grind arith

pub beq-cases : (p q : Bool) → not (beq p q) ≡ true → ((p ≡ true) × (q ≡ false)) ⊎ ((q ≡ true) × (p ≡ false))
beq-cases true true e = absurd (true≢false (sym e))
beq-cases true false e = inl (refl, refl)
beq-cases false true e = inr (refl, refl)
beq-cases false false e = absurd (true≢false (sym e))

pub same_truth : (p q : Bool) → (p ≡ true → q ≡ true) → (q ≡ true → p ≡ true) → p ≡ q
same_truth p q g h = grind arith

-- ---- one that follows from another

pub absorbed : (p q : Bool) → (p ≡ true → q ≡ true) → (p && q) ≡ p
absorbed p q h = grind arith

pub absorbed_last : (a b c : Bool) → (c ≡ true → a ≡ true) → (a && b && c) ≡ (b && c)
absorbed_last true b c h = refl
absorbed_last false b true h = absurd (true≢false (sym (h refl)))
absorbed_last false b false h = sym (and-false b)

pub both_out : (w s : Bool) → (s ≡ true → w ≡ true) → (w && not (w && not s)) ≡ s
both_out true true h = refl
both_out true false h = refl
both_out false true h = h refl
both_out false false h = refl

-- ---- two of which not both hold

pub none_common : (p q : Bool) → (p && q) ≡ false → p ≡ true → q ≡ false
none_common p q e h = sym (ap (λ b. b && q) h) ∙ e

pub no_common : (p q : Bool) → (p ≡ true → q ≡ false) → (p && q) ≡ false
no_common true q h = h refl
no_common false q h = refl

pub not_both_ways : (b c : Bool) → (b ≡ true → c ≡ false) → c ≡ true → b ≡ false
not_both_ways true c h e = absurd (true≢false (sym e ∙ h refl))
not_both_ways false c h e = refl

pub outside : (k h a : Bool) → (k ≡ true → h ≡ true) → (k ≡ true → (h && not a) ≡ true) → (k && a) ≡ false
outside true h true _ w = absurd (true≢false (sym (w refl) ∙ and-false h))
outside true h false _ w = refl
outside false h a _ w = refl

-- ---- one without another

pub left_out : (a b : Bool) → b ≡ true → (a && not b) ≡ false
left_out true b e = rw e refl
left_out false b e = refl

pub back_in : (a b : Bool) → a ≡ true → (a && not b) ≡ false → b ≡ true
back_in a true h e = refl
back_in a false h e = absurd (true≢false (sym (and_from a true h refl) ∙ e))
