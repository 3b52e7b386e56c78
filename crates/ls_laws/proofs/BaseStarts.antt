-- What is compatible with a start by the sets of a base.
use Rattle.ls_laws.proofs.Vocabulary.{◌&&◌, ◌∙◌, ◌≡◌, IsFamily, Items, List, Query, Sets, Start, ℕ, [], ap, base, breaks_none, compat, filter, filter-both, filter_agree, interior, is_compatible, is_same, meets, spanned, subsets, sym}
use Rattle.std.proofs.Math.Bool.{and-true}
use Rattle.ls_laws.proofs.Spans.{spanned-base}
use Rattle.ls_laws.proofs.Families.{family_sets}

-- Yes answers leave the sets that break none of them
pub compat-unbroken : (n : ℕ) (start : Start) (yeses : List Query) → compat n start yeses ≡ filter (breaks_none yeses) (compat n start [])
unfolding compat
compat-unbroken n start yeses =
    filter_agree (is_compatible start yeses) (λ k. is_compatible start [] k && breaks_none yeses k) (λ k. ap (λ b. b && breaks_none yeses k) (sym (and-true (meets start k)))) (subsets n)
    ∙ sym (filter-both (is_compatible start []) (breaks_none yeses) (subsets n))

pub compat-sets : (n : ℕ) (sets : List Items) → compat n (Sets sets) [] ≡ spanned n sets
unfolding compat spanned
compat-sets n sets = filter_agree (is_compatible (Sets sets) []) (λ k. is_same (interior sets k) k) (λ k. and-true (is_same (interior sets k) k)) (subsets n)

pub compat-base : (n : ℕ) (f : List Items) → IsFamily n f → compat n (Sets (base f)) [] ≡ f
compat-base n f family = compat-sets n (base f) ∙ spanned-base n f family.in_order (family_sets n f family)

pub compat-base_after : (n : ℕ) (f : List Items) (yeses : List Query) → IsFamily n f → compat n (Sets (base f)) yeses ≡ filter (breaks_none yeses) f
compat-base_after n f yeses family = compat-unbroken n (Sets (base f)) yeses ∙ ap (filter (breaks_none yeses)) (compat-base n f family)
