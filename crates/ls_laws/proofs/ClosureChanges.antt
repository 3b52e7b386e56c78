-- Closures: how they grow with the set and where members go, and what a Yes changes of them.
use Rattle.ls_laws.proofs.Vocabulary.{◌&&◌, ◌∙◌, ◌≡◌, IsPart, IsWithin, IsWithin-from, Items, List, Query, ℕ, and_from, and_parts, ap, both_out, closure, false, false_from_ne_true, full, has, has-minus, interior, is_within, is_within-from, left_by, minus, minus-within, not, not-true, not_from_false, same_set, same_within, sym, true, true≢false}
use Rattle.ls_laws.proofs.Interiors.{IsUnionFamily, from-interior, to-interior, interior-within, interior_grows, interior_again}
use Rattle.ls_laws.proofs.Breaks.{IsGood, among-left_parts}
use Rattle.ls_laws.proofs.Closures.{closure_stays}

-- ---- complements

pub minus_shrinks : (whole s t : Items) → IsWithin s t → IsWithin (minus whole t) (minus whole s)
minus_shrinks whole s t w i h =
    let p = and_parts (has whole i) (not (has t i)) (sym (has-minus whole t i) ∙ h) in
    has-minus whole s i ∙ and_from (has whole i) (not (has s i)) p.0 (not_from_false (has s i) (false_from_ne_true (has s i) (λ a. true≢false (sym (w i a) ∙ not-true (has t i) p.1))))

outside_each_other : (whole s t : Items) → IsWithin s whole → IsWithin t (minus whole s) → IsWithin s (minus whole t)
outside_each_other whole s t w out i h =
    has-minus whole t i ∙ and_from (has whole i) (not (has t i)) (w i h) (not_from_false (has t i) (false_from_ne_true (has t i) (λ a.
    true≢false (sym h ∙ not-true (has s i) (and_parts (has whole i) (not (has s i)) (sym (has-minus whole s i) ∙ out i a)).1))))

minus_twice : (whole s : Items) → IsWithin s whole → minus whole (minus whole s) ≡ s
minus_twice whole s w = same_set (minus whole (minus whole s)) s (λ i. has-minus whole (minus whole s) i ∙ ap (λ b. has whole i && not b) (has-minus whole s i) ∙ both_out (has whole i) (has s i) (w i))

-- ---- closures of different sets, and in different families

-- a set is within its closure
pub closure_holds : (whole : Items) (f : List Items) (s : Items) → IsWithin s whole → IsWithin s (closure whole f s)
closure_holds whole f s w = outside_each_other whole s (interior f (minus whole s)) w (interior-within f (minus whole s))

-- the closure grows with the set
pub closure_grows : (whole : Items) (f : List Items) (s t : Items) → IsWithin s t → IsWithin (closure whole f s) (closure whole f t)
closure_grows whole f s t w = minus_shrinks whole (interior f (minus whole t)) (interior f (minus whole s)) (interior_grows f (minus whole t) (minus whole s) (minus_shrinks whole s t w))

-- and where members go
pub closure_widens : (whole : Items) (f g : List Items) (s : Items) → IsPart g f → IsWithin (closure whole f s) (closure whole g s)
closure_widens whole f g s part = minus_shrinks whole (interior g (minus whole s)) (interior f (minus whole s)) (λ i h.
    let r = from-interior g (minus whole s) i h in to-interior f (minus whole s) r.0 i (part r.0 r.1) r.2 r.3)

-- the closure is its own closure
pub closure_again : (whole : Items) (f : List Items) (s : Items) → closure whole f (closure whole f s) ≡ closure whole f s
closure_again whole f s =
    let inside = interior f (minus whole s) in
    ap (λ t. minus whole (interior f t)) (minus_twice whole inside (λ i h. minus-within whole s i (interior-within f (minus whole s) i h))) ∙ ap (minus whole) (interior_again f (minus whole s))

-- where members go, the new closure is that of the old one
pub closure_from_old : (whole : Items) (f g : List Items) (s : Items) → IsPart g f → IsWithin s whole → closure whole g (closure whole f s) ≡ closure whole g s
closure_from_old whole f g s part w =
    same_within (closure whole g (closure whole f s)) (closure whole g s)
    (λ i h. ap (λ t. has t i) (sym (closure_again whole g s)) ∙ closure_grows whole g (closure whole f s) (closure whole g s) (closure_widens whole f g s part) i h)
    (closure_grows whole g s (closure whole f s) (closure_holds whole f s w))

-- ---- a Yes that comes, and one that goes

pub left-IsPart : (f : List Items) (r : Query) → IsPart (left_by r f) f
left-IsPart f r k c = (among-left_parts f r k c).0

-- a closure that lacks an item of A is the same without the Yes
pub closure_before_yes : (n : ℕ) (f : List Items) (r : Query) (s : Items) → IsUnionFamily n f → IsGood n r → is_within r.a (closure (full n) (left_by r f) s) ≡ false
    → closure (full n) (left_by r f) s ≡ closure (full n) f s
closure_before_yes n f r s family good out =
    let lacks : is_within r.a (closure (full n) f s) ≡ false = false_from_ne_true (is_within r.a (closure (full n) f s)) (λ a.
    true≢false (sym (is_within-from r.a (closure (full n) (left_by r f) s) (λ i h. closure_widens (full n) f (left_by r f) s (left-IsPart f r) i (IsWithin-from r.a (closure (full n) f s) a i h))) ∙ out)) in
    closure_stays n f r s family good (ap (λ b. b && not (has (closure (full n) f s) r.q)) lacks)
