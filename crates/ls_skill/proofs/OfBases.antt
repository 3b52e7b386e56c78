-- Skill maps and bases.
use Rattle.std.proofs.Common.{ℕ, ◌≡◌, List, sym, ap, ap₂, ◌∙◌}
use Rattle.ls_set.specs.ItemSet.{Items}
use Rattle.ls_theory.specs.Bases.{base}
use Rattle.ls_laws.specs.Spans.{AreOn, spanned}
use Rattle.ls_laws.proofs.Families.{family_sets, spanned-IsFamily}
use Rattle.ls_laws.proofs.Spans.{spanned-base}
use Rattle.ls_base.specs.Bases.{BaseState, family}
use Rattle.ls_origins.specs.Skills.{any}
use Rattle.ls_skill.proofs.Skilled.{any-spanned}

pub based-sets : (n : ℕ) (m given sets : List Items) → given ≡ m → AreOn n m
    → sets ≡ base (spanned n given) → sets ≡ base (any n m)
based-sets n m given sets e on is =
    is ∙ ap (λ g. base (spanned n g)) e ∙ ap base (sym (any-spanned n m on))

pub based-family : (n : ℕ) (m given : List Items) (b : BaseState) → given ≡ m → AreOn n m
    → b.item_count ≡ n → b.sets ≡ base (spanned n given) → family b ≡ any n m
based-family n m given b e on items is =
    let whole = spanned-IsFamily n m in
    ap₂ spanned items (is ∙ ap (λ g. base (spanned n g)) e)
    ∙ spanned-base n (spanned n m) whole.in_order (family_sets n (spanned n m) whole)
    ∙ sym (any-spanned n m on)
