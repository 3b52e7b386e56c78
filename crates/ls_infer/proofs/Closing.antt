-- Closures of sets with one more item, and those that a loop over the blocks finds again.
use Rattle.ls_infer.proofs.Vocabulary.{◌+◌, ◌<◌, ◌∙◌, ◌∷◌, ◌≡◌, ◌≤◌, AreFirst, BlockRange, IsChange, IsFamily, IsGood, IsUnionFamily, Items, List, None, Option, Query, Some, YesChange, ℕ, [], add-one, and_parts, ap, ap₂, arith, closure, closure_before_yes, closure_stays, empty, false, family_sets, full, get_or, has, has-empty, images, images-at, inl, inr, interior_keeping, is_among, is_stale, is_within, least, least-none, length, list_any, map, minus, not, or_parts, refl, block_sets, slice_get, slice_get-get_or, some_item, subst, suc, sym, take, true, with, without, zero}
use Rattle.ls_infer.proofs.Outside.{outside-same, outside-left, outside-closed}

-- ---- with one more item

-- an item that is not outside
pub closed-already : (n : ℕ) (f : List Items) (closed set : Items) (i : ℕ) → IsUnionFamily n f → closed ≡ closure (full n) f set → has (minus (full n) closed) i ≡ false → minus (full n) (minus (full n) closed) ≡ closure (full n) f (with set i)
closed-already n f closed set i family e out =
    let same = outside-closed n f closed set e in
    ap (minus (full n)) (same ∙ outside-same n f set i family (ap (λ s. has s i) (sym same) ∙ out))

-- an item that is outside, by what it leaves of the member outside
pub closed-further : (n : ℕ) (f : List Items) (closed set left : Items) (i : ℕ) (found : Option Items) → IsUnionFamily n f → closed ≡ closure (full n) f set
    → (is_among f (minus (full n) closed) ≡ true → found ≡ interior_keeping f (without (minus (full n) closed) i) empty)
    → ((k : Items) → found ≡ Some k → left ≡ k) → minus (full n) left ≡ closure (full n) f (with set i)
closed-further n f closed set left i found family e keeping taken =
    ap (minus (full n)) (outside-left n f set (minus (full n) closed) empty left i found family (outside-closed n f closed set e) refl keeping taken)

-- ---- the first ones of a list

module _ {X Y : Type 0} where
  pub mapped-at : (h : X → Y) (xs : List X) (k i : ℕ) (x : X) (y : Y) → slice_get xs i ≡ Some x → slice_get (map h (take k xs)) i ≡ Some y → y ≡ h x
  mapped-at h [] k i x y e d = cc
  mapped-at h (z ∷ xs) zero i x y e d = cc
  mapped-at h (z ∷ xs) (suc k) zero x y e d = let same : z ≡ x = cc in let there : h z ≡ y = cc in sym there ∙ ap h same
  mapped-at h (z ∷ xs) (suc k) (suc i) x y e d = mapped-at h xs k i x y e d

  take-mapped : (h : X → Y) (xs : List X) (k : ℕ) → take (length (map h (take k xs))) xs ≡ take k xs
  take-mapped h [] zero = refl
  take-mapped h [] (suc k) = refl
  take-mapped h (x ∷ xs) zero = refl
  take-mapped h (x ∷ xs) (suc k) = ap (λ l. x ∷ l) (take-mapped h xs k)

  pub first-mapped : (h : X → Y) (xs : List X) (ys : List Y) (k : ℕ) → ys ≡ map h (take k xs) → ys ≡ map h (take (length ys) xs)
  first-mapped h xs ys k e = e ∙ ap (map h) (sym (take-mapped h xs k)) ∙ ap (λ l. map h (take (length l) xs)) (sym e)

  take-images : (g h : X → Y) (xs : List X) (i : ℕ) → i ≤ length xs → take i (images g h xs i) ≡ map g (take i xs)
  take-images g h [] zero l = refl
  take-images g h [] (suc i) l = absurd (omega arith)
  take-images g h (x ∷ xs) zero l = refl
  take-images g h (x ∷ xs) (suc i) l = ap (λ l. g x ∷ l) (take-images g h xs i (omega arith))

  images-same : (g h : X → Y) (xs : List X) (i : ℕ) (x : X) → slice_get xs i ≡ Some x → g x ≡ h x → images g h xs i ≡ images g h xs (suc i)
  images-same g h [] i x e same = cc
  images-same g h (y ∷ xs) zero x e same = let it : y ≡ x = cc in ap (λ z. z ∷ map h xs) (ap h it ∙ sym same ∙ ap g (sym it))
  images-same g h (y ∷ xs) (suc i) x e same = ap (λ l. g y ∷ l) (images-same g h xs i x e same)

  pub images-stay : (g h : X → Y) (xs : List X) (ys : List Y) (i : ℕ) (x : X) → slice_get xs i ≡ Some x → ys ≡ images g h xs i → g x ≡ h x → ys ≡ images g h xs (i + 1)
  images-stay g h xs ys i x e made same = made ∙ images-same g h xs i x e same ∙ ap (images g h xs) (sym (add-one i))

-- the closures so far are those of the first sets
pub first-images : (n m : ℕ) (f before : List Items) (b : BlockRange) (closures : List Items) (i : ℕ) → n ≡ m → i ≤ length (block_sets b)
    → closures ≡ images (closure (full n) f) (closure (full n) before) (block_sets b) i → AreFirst m f b (take i closures)
first-images n m f before b closures i same l made =
    subst (λ k. take i closures ≡ map (closure (full k) f) (take (length (take i closures)) (block_sets b))) same
    (first-mapped (closure (full n) f) (block_sets b) (take i closures) i (ap (take i) made ∙ take-images (closure (full n) f) (closure (full n) before) (block_sets b) i l))

-- ---- after a change

-- a closure that is not stale is the same after the change
pub fresh_stays : (c : YesChange) (n : ℕ) (r : Query) (before after : List Items) (set : Items) → IsFamily n after → IsGood n r → IsChange c n r before after → is_stale c r (closure (full n) before set) ≡ false
    → closure (full n) after set ≡ closure (full n) before set
fresh_stays YesChange.Added n r before after set family good change fresh = ap (λ f. closure (full n) f set) change.1 ∙ closure_stays n before r set (family_sets n before change.0) good fresh
fresh_stays YesChange.Removed n r before after set family good change fresh =
    sym (ap (λ f. closure (full n) f set) change ∙ closure_before_yes n after r set (family_sets n after family) good (ap (λ f. is_within r.a (closure (full n) f set)) (sym change) ∙ fresh))

-- where the first closures are not stale, they are those after the change
pub fresh-first : (c : YesChange) (n : ℕ) (r : Query) (before after sets closures : List Items) (i : ℕ) → IsFamily n after → IsGood n r → IsChange c n r before after → i ≤ length sets
    → ((k : ℕ) → k < i → is_stale c r (get_or closures k empty) ≡ false) → closures ≡ map (closure (full n) before) sets → closures ≡ images (closure (full n) after) (closure (full n) before) sets i
fresh-first c n r before after sets closures zero family good change l fresh e = e
fresh-first c n r before after sets closures (suc i) family good change l fresh e =
    let g = closure (full n) after in
    let h = closure (full n) before in
    let set = get_or sets i empty in
    let at : slice_get sets i ≡ Some set = slice_get-get_or sets i empty (omega arith) in
    let made = fresh-first c n r before after sets closures i family good change (omega arith) (λ k m. fresh k (omega arith)) e in
    let closed : get_or closures i empty ≡ h set = ap (λ l. get_or l i empty) made ∙ images-at g h sets i set empty at in
    images-stay g h sets closures i set at made (fresh_stays c n r before after set family good change (ap (is_stale c r) (sym closed) ∙ fresh i (omega arith)))
    ∙ ap (images g h sets) (add-one i)

-- a stale closure has the items of A
pub stale_has : (c : YesChange) (r : Query) (closed : Items) → is_stale c r closed ≡ true → is_within r.a closed ≡ true
stale_has YesChange.Added r closed h = (and_parts (is_within r.a closed) (not (has closed r.q)) h).0
stale_has YesChange.Removed r closed h = h

-- ---- one item at least

-- a set with a least item has one
pub has_some : (s : Items) → (least s ≡ None → ⊥) → (i : ℕ) × (has s i ≡ true)
has_some s h = elim (some_item s) [ inl e ↦ absurd (h (least-none s (λ i. ap (λ t. has t i) e ∙ has-empty i))) | inr p ↦ p ]

-- where none is stale, all are the same
pub all_fresh : (c : YesChange) (n : ℕ) (r : Query) (before after : List Items) (sets : List Items) → IsFamily n after → IsGood n r → IsChange c n r before after
    → list_any (is_stale c r) (map (closure (full n) before) sets) ≡ false → map (closure (full n) before) sets ≡ map (closure (full n) after) sets
all_fresh c n r before after [] family good change fresh = refl
all_fresh c n r before after (set ∷ sets) family good change fresh =
    let parts = or_parts (is_stale c r (closure (full n) before set)) (list_any (is_stale c r) (map (closure (full n) before) sets)) fresh in
    ap₂ (λ d ds. d ∷ ds) (sym (fresh_stays c n r before after set family good change parts.0)) (all_fresh c n r before after sets family good change parts.1)
