-- Families, and their interiors: the union of the members within a set is the greatest of them.
use Rattle.ls_laws.proofs.Vocabulary.{◌&&◌, ◌||◌, ◌∙◌, ◌∷◌, ◌≡◌, Bool, AreOn, IsPart, IsUnionClosed, IsWithin, IsWithin-from, Items, List, ℕ, [], among-filter, among-here, among-subsets, among-there, and_from, and_parts, ap, empty, empty-within, filter, full, has, has-empty, has-union, interior, is_among, is_space, is_union_closed, is_within, is_within-from, list_all, list_any, refl, same_set, same_truth, same_within, subsets, subst, sym, true, union, union-within, unions}
use Rattle.ls_laws.proofs.Lists.{every-among, every-from, some-among, some-from, some-filter}

-- ---- families

-- sets of items below n, with the empty set, and with any two members their union; the list needs no order
pub record IsUnionFamily (n : ℕ) (f : List Items) : Type 0 where
  pub small : AreOn n f
  pub holds_empty : is_among f empty ≡ true
  pub holds_unions : IsUnionClosed f

pub closed-from : (f : List Items) → is_union_closed f ≡ true → IsUnionClosed f
closed-from f h s t a b = every-among (λ l. is_among f (union s l)) f t (every-among (λ k. list_all (λ l. is_among f (union k l)) f) f s h a) b

pub closed-to : (f : List Items) → IsUnionClosed f → is_union_closed f ≡ true
closed-to f u = every-from (λ k. list_all (λ l. is_among f (union k l)) f) f (λ k a. every-from (λ l. is_among f (union k l)) f (λ l b. u k l a b))

-- a space holds the empty set and the whole, and is closed under union
pub record IsSpace (whole : Items) (f : List Items) : Type 0 where
  pub holds_empty : is_among f empty ≡ true
  pub holds_whole : is_among f whole ≡ true
  pub holds_unions : IsUnionClosed f

pub space-from : (whole : Items) (f : List Items) → is_space whole f ≡ true → IsSpace whole f
space-from whole f h =
    let a = and_parts (is_among f empty && is_among f whole) (is_union_closed f) h in
    let b = and_parts (is_among f empty) (is_among f whole) a.0 in
    record { holds_empty = b.0; holds_whole = b.1; holds_unions = closed-from f a.1 }

pub space-to : (whole : Items) (f : List Items) → is_among f empty ≡ true → is_among f whole ≡ true → IsUnionClosed f → is_space whole f ≡ true
space-to whole f e w u = and_from (is_among f empty && is_among f whole) (is_union_closed f) (and_from (is_among f empty) (is_among f whole) e w) (closed-to f u)

pub family-from : (n : ℕ) (f : List Items) → AreOn n f → is_space (full n) f ≡ true → IsUnionFamily n f
family-from n f small h = let s = space-from (full n) f h in record { small = small; holds_empty = s.holds_empty; holds_unions = s.holds_unions }

pub subsets-IsUnionFamily : (n : ℕ) → IsUnionFamily n (subsets n)
subsets-IsUnionFamily n = record {
  small = λ s c. IsWithin-from s (full n) (sym (among-subsets n s) ∙ c);
  holds_empty = among-subsets n empty ∙ is_within-from empty (full n) (empty-within (full n));
  holds_unions = λ s t a b. among-subsets n (union s t) ∙ is_within-from (union s t) (full n) (union-within s t (full n) (IsWithin-from s (full n) (sym (among-subsets n s) ∙ a)) (IsWithin-from t (full n) (sym (among-subsets n t) ∙ b)));
}

-- the members that pass a test that the empty set and unions pass
pub filter-IsUnionFamily : (n : ℕ) (f : List Items) (p : Items → Bool) → p empty ≡ true → ((s t : Items) → p s ≡ true → p t ≡ true → p (union s t) ≡ true) → IsUnionFamily n f → IsUnionFamily n (filter p f)
filter-IsUnionFamily n f p e u family = record {
  small = λ s c. family.small s (and_parts (is_among f s) (p s) (sym (among-filter p f s) ∙ c)).0;
  holds_empty = among-filter p f empty ∙ and_from (is_among f empty) (p empty) family.holds_empty e;
  holds_unions = λ s t a b.
      let x = and_parts (is_among f s) (p s) (sym (among-filter p f s) ∙ a) in
      let y = and_parts (is_among f t) (p t) (sym (among-filter p f t) ∙ b) in
      among-filter p f (union s t) ∙ and_from (is_among f (union s t)) (p (union s t)) (family.holds_unions s t x.0 y.0) (u s t x.1 y.1);
}

-- ---- which items unions and interiors have

pub has-unions : (ss : List Items) (i : ℕ) → has (unions ss) i ≡ list_any (λ s. has s i) ss
has-unions [] i = has-empty i
has-unions (s ∷ ss) i = has-union s (unions ss) i ∙ ap (λ b. has s i || b) (has-unions ss i)

-- an item is in the interior where some member within has it
pub has-interior : (f : List Items) (s : Items) (i : ℕ) → has (interior f s) i ≡ list_any (λ k. is_within k s && has k i) f
unfolding interior
has-interior f s i = has-unions (filter (λ k. is_within k s) f) i ∙ some-filter (λ k. is_within k s) (λ k. has k i) f

pub from-interior : (g : List Items) (s : Items) (i : ℕ) → has (interior g s) i ≡ true → (l : Items) × (is_among g l ≡ true) × IsWithin l s × (has l i ≡ true)
from-interior g s i h =
    let r = some-from (λ l. is_within l s && has l i) g (sym (has-interior g s i) ∙ h) in
    let x = and_parts (is_within r.0 s) (has r.0 i) r.2 in
    (r.0, r.1, IsWithin-from r.0 s x.0, x.1)

pub to-interior : (g : List Items) (s l : Items) (i : ℕ) → is_among g l ≡ true → IsWithin l s → has l i ≡ true → has (interior g s) i ≡ true
to-interior g s l i c w h = has-interior g s i ∙ some-among (λ l. is_within l s && has l i) g l c (and_from (is_within l s) (has l i) (is_within-from l s w) h)

-- a set is the union of the sets of g within it where each of its items is in one of those
pub interior-whole : (g : List Items) (k : Items) → ((q : ℕ) → has k q ≡ true → (l : Items) × (is_among g l ≡ true) × IsWithin l k × (has l q ≡ true)) → interior g k ≡ k
interior-whole g k h = same_set (interior g k) k (λ i. same_truth (has (interior g k) i) (has k i)
    (λ a. let r = from-interior g k i a in r.2 i r.3)
    (λ a. let r = h i a in to-interior g k r.0 i r.1 r.2 r.3))

-- a set of the list is the union of those within it
pub interior-member : (g : List Items) (k : Items) → is_among g k ≡ true → interior g k ≡ k
interior-member g k c = interior-whole g k (λ q h. (k, c, (λ i a. a), h))

-- ---- the greatest member within

pub record IsInterior (f : List Items) (s inside : Items) : Type 0 where
  pub member : is_among f inside ≡ true
  pub within : IsWithin inside s
  pub greatest : (k : Items) → is_among f k ≡ true → IsWithin k s → IsWithin k inside

-- the union of members is one
pub unions-member : (f : List Items) → is_among f empty ≡ true → IsUnionClosed f → (ss : List Items) → IsPart ss f → is_among f (unions ss) ≡ true
unions-member f e u [] part = e
unions-member f e u (t ∷ ss) part = u t (unions ss) (part t (among-here t t ss refl)) (unions-member f e u ss (λ k c. part k (among-there k t ss c)))

-- so is the union of those of g that lie within s, where all of g are members
pub interior-among : (f g : List Items) → is_among f empty ≡ true → IsUnionClosed f → IsPart g f → (s : Items) → is_among f (interior g s) ≡ true
unfolding interior
interior-among f g e u part s = unions-member f e u (filter (λ k. is_within k s) g) (λ k c. part k (and_parts (is_among g k) (is_within k s) (sym (among-filter (λ k. is_within k s) g k) ∙ c)).0)

pub interior-within : (f : List Items) (s : Items) → IsWithin (interior f s) s
interior-within f s i h = let r = from-interior f s i h in r.2 i r.3

pub interior-greatest : (f : List Items) (s k : Items) → is_among f k ≡ true → IsWithin k s → IsWithin k (interior f s)
interior-greatest f s k c w i h = to-interior f s k i c w h

pub interior-is : (f : List Items) → is_among f empty ≡ true → IsUnionClosed f → (s : Items) → IsInterior f s (interior f s)
interior-is f e u s = record { member = interior-among f f e u (λ k c. c) s; within = interior-within f s; greatest = interior-greatest f s }

pub IsInterior-interior : (f : List Items) → is_among f empty ≡ true → IsUnionClosed f → (s inside : Items) → IsInterior f s inside → inside ≡ interior f s
IsInterior-interior f e u s inside h = same_within inside (interior f s) (interior-greatest f s inside h.member h.within) (h.greatest (interior f s) (interior-is f e u s).member (interior-within f s))

-- a set within its interior is a member, and a member is
pub is_within-interior : (f : List Items) → is_among f empty ≡ true → IsUnionClosed f → (s : Items) → is_within s (interior f s) ≡ is_among f s
is_within-interior f e u s = same_truth (is_within s (interior f s)) (is_among f s)
    (λ w. subst (λ t. is_among f t ≡ true) (sym (same_within s (interior f s) (IsWithin-from s (interior f s) w) (interior-within f s))) (interior-is f e u s).member)
    (λ c. is_within-from s (interior f s) (interior-greatest f s s c (λ i a. a)))

-- ---- interiors of different sets

-- the interior grows with the set
pub interior_grows : (f : List Items) (s t : Items) → IsWithin s t → IsWithin (interior f s) (interior f t)
interior_grows f s t w i h = let r = from-interior f s i h in to-interior f t r.0 i r.1 (λ j a. w j (r.2 j a)) r.3

-- the interior is its own interior
pub interior_again : (f : List Items) (s : Items) → interior f (interior f s) ≡ interior f s
interior_again f s = same_within (interior f (interior f s)) (interior f s) (interior-within f (interior f s))
    (λ i h. let r = from-interior f s i h in to-interior f (interior f s) r.0 i r.1 (interior-greatest f s r.0 r.1 r.2) r.3)
