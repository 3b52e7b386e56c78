-- The base of a projection, by the meets of the part with the base sets.
use Rattle.std.proofs.Common.{◌≡◌, ℕ, List, sym, ap, ◌∙◌, subst}
use Rattle.std.proofs.lemmas.Bool.{and_parts}
use Rattle.ls_set.specs.{IsWithin, Items, full, has}
use Rattle.ls_set.proofs.Sets.{has-meet}
use Rattle.ls_theory.specs.{base, projection}
use Rattle.ls_laws.specs.Spans.{AreOn, spanned}
use Rattle.ls_clauses.specs.Traces.{meets_with}
use Rattle.ls_clauses.proofs.Traces.{from-meets, projection-of_spanned}
use Rattle.ls_base.proofs.Spanned.{base-on}

pub meets-on : (n : ℕ) (p : Items) (g made : List Items) → base (spanned n g) ≡ g → made ≡ meets_with p g → AreOn n made
meets-on n p g made is e = subst (AreOn n) (sym e) (λ k c.
    let r = from-meets p g k c in
    subst (λ t. IsWithin t (full n)) (sym r.2) (λ i h. base-on n g is r.0 r.1 i (and_parts (has p i) (has r.0 i) (sym (has-meet p r.0 i) ∙ h)).1))

pub traced-base : (n : ℕ) (p : Items) (g made : List Items) → base (spanned n g) ≡ g → made ≡ meets_with p g → base (spanned n made) ≡ base (projection n p (spanned n g))
traced-base n p g made is e = ap (λ m. base (spanned n m)) e ∙ ap base (sym (projection-of_spanned n p g (base-on n g is)))
