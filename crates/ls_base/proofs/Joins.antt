-- Joins below a set.
use Rattle.ls_base.proofs.Vocabulary.{◌&&◌, ◌++◌, ◌<◌, ◌||◌, ◌∙◌, ◌∷◌, ◌≡◌, ◌≤◌, Bool, Decides-is_same, IsWithin-from, Items, List, ℕ, [], and_parts, ap, ap₂, arith, as_many, cases_lt, false, false_from_ne_true, inl, inr, is_proper, is_same, is_within, is_within-from, joins, least_size, len, list_any, map, min, not, not-true, refl, sym, true, true≢false, union, union-left}

any-append : (p : Items → Bool) (xs ys : List Items) → list_any p (xs ++ ys) ≡ (list_any p xs || list_any p ys)
any-append p [] ys = refl
any-append p (x ∷ xs) ys = ap (λ b. p x || b) (any-append p xs ys) ∙ or_regroup (p x) (list_any p xs) (list_any p ys)
  where
    or_regroup : (a b c : Bool) → (a || (b || c)) ≡ (a || b || c)
    or_regroup true b c = refl
    or_regroup false b c = refl

any-map : (p : Items → Bool) (f : Items → Items) (xs : List Items) → list_any p (map f xs) ≡ list_any (λ x. p (f x)) xs
any-map p f [] = refl
any-map p f (x ∷ xs) = ap (λ b. p (f x) || b) (any-map p f xs)

-- no union with a set that is not within k is below it
any-outside : (s k : Items) (gs : List Items) → is_within s k ≡ false → list_any (λ g. is_proper (union s g) k) gs ≡ false
any-outside s k [] h = refl
any-outside s k (g ∷ gs) h = ap₂ (λ a b. a || b) (false_from_ne_true (is_proper (union s g) k) (λ p.
    let w = IsWithin-from (union s g) k (and_parts (is_within (union s g) k) (not (is_same (union s g) k)) p).0 in
    true≢false (sym (is_within-from s k (λ i a. w i (union-left s g i a))) ∙ h))) (any-outside s k gs h)

any-union : (s k : Items) (gs : List Items) → (is_within s k && list_any (λ g. is_proper (union s g) k) gs) ≡ list_any (λ g. is_proper (union s g) k) gs
any-union s k gs = elim (is_within s k) as (λ b. is_within s k ≡ b → (b && list_any (λ g. is_proper (union s g) k) gs) ≡ list_any (λ g. is_proper (union s g) k) gs) [
  | true ↦ λ e. refl
  | false ↦ λ e. sym (any-outside s k gs e)
] refl

pub any-joins : (k : Items) (ss gs : List Items) → list_any (λ s. is_within s k && list_any (λ g. is_proper (union s g) k) gs) ss ≡ list_any (λ l. is_proper l k) (joins ss gs)
any-joins k [] gs = refl
any-joins k (s ∷ ss) gs =
    ap₂ (λ a b. a || b) (any-union s k gs ∙ sym (any-map (λ l. is_proper l k) (union s) gs)) (any-joins k ss gs)
    ∙ sym (any-append (λ l. is_proper l k) (map (union s) gs) (joins ss gs))

-- ---- joins of the least size

pub less-proper : (l k : Items) → is_proper l k ≡ true → len l < len k
less-proper l k p =
    let both = and_parts (is_within l k) (not (is_same l k)) p in
    elim (cases_lt (len l) (len k)) [
      | inl less ↦ less
      | inr more ↦ let same = (Decides-is_same l k).1 (as_many l k (IsWithin-from l k both.0) more) in
          absurd (true≢false (sym same ∙ not-true (is_same l k) both.1))
    ]

least_size-most : (m : ℕ) (ks : List Items) → least_size m ks ≤ m
least_size-most m [] = omega arith
least_size-most m (k ∷ ks) = let h = least_size-most (min m (len k)) ks in omega arith

-- no other set of the list lies within one that has no more items than the least of them
pub none-below : (k : Items) (m : ℕ) (ks : List Items) → len k ≤ least_size m ks → list_any (λ l. is_proper l k) ks ≡ false
none-below k m [] h = refl
none-below k m (l ∷ ls) h = ap₂ (λ a b. a || b) (false_from_ne_true (is_proper l k) (λ p.
    let less = less-proper l k p in
    let most = least_size-most (min m (len l)) ls in
    absurd (omega arith))) (none-below k (min m (len l)) ls h)

pub least_size-append : (m : ℕ) (xs ys : List Items) → least_size m (xs ++ ys) ≡ least_size (least_size m xs) ys
least_size-append m [] ys = refl
least_size-append m (x ∷ xs) ys = least_size-append (min m (len x)) xs ys
