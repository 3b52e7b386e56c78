-- The union of the sets of a list below a set.
use Rattle.ls_base.proofs.Vocabulary.{◌∙◌, ◌∷◌, ◌≡◌, Items, List, [], and_parts, ap, empty, false, filter, from-interior, has, interior, interior-whole, interior-within, is_among, is_proper, is_same, is_within, not, refl, same_within, sym, to-interior, true, union, union_below}
use Rattle.ls_base.proofs.Turns.{Unites}

-- ---- interiors in a list, set by set

interior-none : (s : Items) → interior [] s ≡ empty
unfolding interior
interior-none s = refl

interior-with : (k s : Items) → is_within k s ≡ true → (f : List Items) → interior (k ∷ f) s ≡ union k (interior f s)
unfolding interior
interior-with k s h f = rw h refl

interior-without : (k s : Items) → is_within k s ≡ false → (f : List Items) → interior (k ∷ f) s ≡ interior f s
unfolding interior
interior-without k s h f = rw h refl

-- ---- the same of the sets below

below-with : (k s : Items) → is_proper k s ≡ true → (f : List Items) → union_below (k ∷ f) s ≡ union k (union_below f s)
below-with k s h f = rw h (interior-with k s (and_parts (is_within k s) (not (is_same k s)) h).0 (filter (λ l. is_proper l s) f))

below-without : (k s : Items) → is_proper k s ≡ false → (f : List Items) → union_below (k ∷ f) s ≡ union_below f s
below-without k s h f = rw h refl

-- ---- loops that join the sets that lie within s, or below it

pub within-unites : (s : Items) → Unites (λ k. is_within k s) (λ f. interior f s) s
within-unites s = record { none = interior-none s; taken = λ k h. interior-with k s h; passed = λ k h. interior-without k s h; within = λ f. interior-within f s }

pub below-unites : (s : Items) → Unites (λ k. is_proper k s) (λ f. union_below f s) s
below-unites s = record { none = interior-none s; taken = λ k h. below-with k s h; passed = λ k h. below-without k s h; within = λ f. interior-within (filter (λ l. is_proper l s) f) s }

-- ---- unions of the sets of another list

-- a union of sets that are unions of sets of g is one
pub interior-through : (f g : List Items) (k : Items) → ((l : Items) → is_among f l ≡ true → interior g l ≡ l) → interior f k ≡ k → interior g k ≡ k
interior-through f g k each whole = interior-whole g k (λ q a.
    let r = from-interior f k q (ap (λ s. has s q) whole ∙ a) in
    let x = from-interior g r.0 q (ap (λ s. has s q) (each r.0 r.1) ∙ r.3) in
    (x.0, x.1, (λ i y. r.2 i (x.2 i y)), x.3))

-- two lists with the same sets have the same interiors
pub interior-same : (f g : List Items) (s : Items) → ((k : Items) → is_among f k ≡ is_among g k) → interior f s ≡ interior g s
interior-same f g s e = same_within (interior f s) (interior g s)
    (λ i h. let r = from-interior f s i h in to-interior g s r.0 i (sym (e r.0) ∙ r.1) r.2 r.3)
    (λ i h. let r = from-interior g s i h in to-interior f s r.0 i (e r.0 ∙ r.1) r.2 r.3)
