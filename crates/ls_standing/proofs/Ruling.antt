-- The sets that meet a start as a family with rules.
use Rattle.ls_standing.proofs.Vocabulary.{BaseState, HasItems, IsWithin, Items, List, Query, [], among-compat, and-true, and_from, ap, ap₂, base, breaks_none, compat, family, filter, filter-both, filter_agree, full, interior, interior-member, is_among, is_compatible, is_within, is_within-from, meets, minus, refl, spanned, start_of, subsets, subst, sym, true, ℕ, ◌&&◌, ◌∙◌, ◌∷◌, ◌≡◌}
use Rattle.ls_theory.specs.Starts as theory
use Rattle.ls_theory.specs.{outer_fringe}
use Rattle.ls_interior.proofs.Chosen.{free-outer}
use Rattle.ls_laws.proofs.BaseStarts.{compat-sets}
use Rattle.ls_standing.specs.declared.start.Start.{Start}
use Rattle.ls_standing.specs.declared.start.Start.TheVariants.{Sets}

-- the sets of the start that break none of the queries are the compatible ones
pub ruled-compat : (n : ℕ) (start : theory.Start) (yeses : List Query) → filter (breaks_none yeses) (compat n start []) ≡ compat n start yeses
unfolding compat
ruled-compat n start yeses =
    filter-both (is_compatible start []) (breaks_none yeses) (subsets n)
    ∙ filter_agree (λ k. is_compatible start [] k && breaks_none yeses k) (is_compatible start yeses) (λ k. ap (λ b. b && breaks_none yeses k) (and-true (meets start k))) (subsets n)

all_pass : (f : List Items) → filter (λ k. true && true) f ≡ f
all_pass [] = refl
all_pass (k ∷ f) = ap (λ l. k ∷ l) (all_pass f)

-- every set of the items meets the free start
pub free-inside : (n : ℕ) (s : Items) → IsWithin s (full n) → s ≡ interior (compat n theory.Free []) s
free-inside n s w =
    sym (interior-member (compat n theory.Free []) s (among-compat n theory.Free [] s ∙ and_from (is_within s (full n)) true (is_within-from s (full n) w) refl))

-- any item outside a set can be added where all sets meet the start
pub free-added : (n : ℕ) (k : Items) → is_among (compat n theory.Free []) k ≡ true → minus (full n) k ≡ outer_fringe n (compat n theory.Free []) k
unfolding compat
free-added n k = subst (λ (f : List Items). is_among f k ≡ true → minus (full n) k ≡ outer_fringe n f k) (sym (all_pass (subsets n))) (free-outer n k)

-- the sets that meet the start by a base are its family
pub sets-family : (start : Start) (n : ℕ) (b : BaseState) → start ≡ Sets b → HasItems n start → family b ≡ compat n (start_of start) []
sets-family start n b e h =
    let items : b.item_count ≡ n = subst (HasItems n) e h in
    rw e (ap (λ m. spanned m b.sets) items ∙ sym (compat-sets n b.sets))

-- the base of all sets is that of the free start
pub free-base : (n : ℕ) → base (subsets n) ≡ base (compat n theory.Free [])
unfolding compat
free-base n = ap base (sym (all_pass (subsets n)))

-- its outer fringes are those of the start
pub sets-outer : (start : Start) (n : ℕ) (b : BaseState) (k out : Items) → start ≡ Sets b → HasItems n start → (is_among (family b) k ≡ true → out ≡ outer_fringe b.item_count (family b) k)
    → is_among (compat n (start_of start) []) k ≡ true → out ≡ outer_fringe n (compat n (start_of start) []) k
sets-outer start n b k out e h found m =
    let same = sets-family start n b e h in
    let items : b.item_count ≡ n = subst (HasItems n) e h in
    found (ap (λ f. is_among f k) same ∙ m) ∙ ap₂ (λ n f. outer_fringe n f k) items same
