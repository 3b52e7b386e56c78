-- The mesh of two families: its members, its interiors, and its projections.
use Rattle.std.proofs.Common.{ℕ, zero, suc, ◌≡◌, ◌≢◌, ◌<◌, ◌≤◌, inl, inr, true, ◌&&◌, List, refl}
use Rattle.std.proofs.Common.{sym, ap, ◌∙◌, subst, arith, true≢false}
use Rattle.std.proofs.lemmas.Bool.{and_parts, and_from}
use Rattle.ls_set.specs.ItemSet.{Items, has, empty, full, union, meet, is_within, is_among, subsets}
use Rattle.ls_set.specs.ItemSet.{len, IsInOrder, IsWithin}
use Rattle.ls_set.proofs.Sets.{members, same_set, same_within, IsWithin-from, is_within-from}
use Rattle.ls_set.proofs.Members.{among-filter}
use Rattle.ls_set.proofs.Order.{among-subsets, subsets_from-in_order}
use Rattle.ls_set.proofs.Sizes.{len-less}
use Rattle.ls_theory.specs.Families.{interior, is_space}
use Rattle.ls_laws.specs.Families.{IsFamily}
use Rattle.ls_laws.proofs.Lists.{IsInOrder-filter}
use Rattle.ls_laws.proofs.Interiors.{IsInterior-interior, space-from, space-to, interior-is}
use Rattle.ls_laws.proofs.Interiors.{interior-within, interior-greatest, interior-among}
use Rattle.ls_laws.proofs.Interiors.{interior-member}
use Rattle.ls_laws.proofs.Families.{subsets-IsFamily, filter-IsFamily}
use Rattle.ls_laws.proofs.Counts.{some_missing}
use Rattle.ls_origins.specs.Meshes.{mesh, is_meshed}
use Rattle.ls_mesh.specs.Sides.{IsClosed, side_interior, both_sides, turns}

-- ---- members

pub among-mesh : (n : ℕ) (x : Items) (f : List Items) (y : Items) (g : List Items) (k : Items)
    → is_among (mesh n x f y g) k ≡ (is_within k (full n) && is_meshed x f y g k)
unfolding mesh
among-mesh n x f y g k =
    among-filter (is_meshed x f y g) (subsets n) k ∙ ap (λ b. b && is_meshed x f y g k)
    (among-subsets n k)

pub record IsMeshed (n : ℕ) (x : Items) (f : List Items) (y : Items) (g : List Items) (k : Items) :
    Type 0 where
  pub small : IsWithin k (full n)
  pub left : is_among f (meet x k) ≡ true
  pub right : is_among g (meet y k) ≡ true

pub mesh-from : (n : ℕ) (x : Items) (f : List Items) (y : Items) (g : List Items) (k : Items)
    → is_among (mesh n x f y g) k ≡ true → IsMeshed n x f y g k
mesh-from n x f y g k c =
    let a =
    and_parts (is_within k (full n)) (is_meshed x f y g k) (sym (among-mesh n x f y g k) ∙ c) in
    let b = and_parts (is_among f (meet x k)) (is_among g (meet y k)) a.1 in
    record { small = IsWithin-from k (full n) a.0; left = b.0; right = b.1 }

pub mesh-to : (n : ℕ) (x : Items) (f : List Items) (y : Items) (g : List Items) (k : Items)
    → IsMeshed n x f y g k → is_among (mesh n x f y g) k ≡ true
mesh-to n x f y g k m =
    among-mesh n x f y g k ∙ and_from (is_within k (full n)) (is_meshed x f y g k)
    (is_within-from k (full n) m.small)
    (and_from (is_among f (meet x k)) (is_among g (meet y k)) m.left m.right)

pub mesh-in_order : (n : ℕ) (x : Items) (f : List Items) (y : Items) (g : List Items)
    → IsInOrder (mesh n x f y g)
unfolding mesh
mesh-in_order n x f y g = IsInOrder-filter _ (subsets n) (subsets_from-in_order 0 n)

meet-empty : (p : Items) → meet p empty ≡ empty
meet-empty p = same_set (meet p empty) empty (λ i. grind (arith, members))

meet-union : (p k l : Items) → meet p (union k l) ≡ union (meet p k) (meet p l)
meet-union p k l =
    same_set (meet p (union k l)) (union (meet p k) (meet p l)) (λ i. grind (arith, members))

meet-left_part : (x y : Items) → meet x (union x y) ≡ x
meet-left_part x y = same_set (meet x (union x y)) x (λ i. grind (arith, members))

meet-right_part : (x y : Items) → meet y (union x y) ≡ y
meet-right_part x y = same_set (meet y (union x y)) y (λ i. grind (arith, members))

meshed-union : (f : List Items) (x s t : Items) → IsClosed f → is_among f (meet x s) ≡ true
    → is_among f (meet x t) ≡ true → is_among f (meet x (union s t)) ≡ true
meshed-union f x s t h a b =
    ap (is_among f) (meet-union x s t) ∙ h.holds_unions (meet x s) (meet x t) a b

pub mesh-IsFamily : (n : ℕ) (x : Items) (f : List Items) (y : Items) (g : List Items) → IsClosed f
    → IsClosed g → IsFamily n (mesh n x f y g)
unfolding mesh
mesh-IsFamily n x f y g a b = filter-IsFamily n (subsets n) (is_meshed x f y g)
    (and_from (is_among f (meet x empty)) (is_among g (meet y empty))
    (ap (is_among f) (meet-empty x) ∙ a.holds_empty)
    (ap (is_among g) (meet-empty y) ∙ b.holds_empty))
    (λ s t c d.
    let p = and_parts (is_among f (meet x s)) (is_among g (meet y s)) c in
    let q = and_parts (is_among f (meet x t)) (is_among g (meet y t)) d in
    and_from (is_among f (meet x (union s t))) (is_among g (meet y (union s t)))
    (meshed-union f x s t a p.0 q.0) (meshed-union g y s t b p.1 q.1))
    (subsets-IsFamily n)

pub closed-space : (x : Items) (f : List Items) → is_space x f ≡ true → IsClosed f
closed-space x f h =
    let s = space-from x f h in record
    { holds_empty = s.holds_empty; holds_unions = s.holds_unions }

pub mesh-space : (n : ℕ) (x : Items) (f : List Items) (y : Items) (g : List Items) → union x y
    ≡ full n → is_space x f ≡ true → is_space y g ≡ true → is_space (full n) (mesh n x f y g) ≡ true
mesh-space n x f y g cover a b =
    let m = mesh-IsFamily n x f y g (closed-space x f a) (closed-space y g b) in
    space-to (full n) (mesh n x f y g) m.holds_empty
    (mesh-to n x f y g (full n) (record {
      small = λ i h. h;
      left =
          subst (λ s. is_among f (meet x s) ≡ true) cover
          (ap (is_among f) (meet-left_part x y) ∙ (space-from x f a).holds_whole);
      right =
          subst (λ s. is_among g (meet y s) ≡ true) cover
          (ap (is_among g) (meet-right_part x y) ∙ (space-from y g b).holds_whole);
    }))
    m.holds_unions

-- ---- interiors

pub side-within : (x : Items) (f : List Items) (s : Items) → IsWithin (side_interior x f s) s
side-within x f s i h = let w = interior-within f (meet x s) i in grind (arith, members)

-- a set whose meet with x is a member, within s, is within the interior on that side
pub side-keeps : (x : Items) (f : List Items) (s k : Items) → is_among f (meet x k) ≡ true
    → IsWithin k s → IsWithin k (side_interior x f s)
side-keeps x f s k c w i h =
    let inside : IsWithin (meet x k) (meet x s) = meet-within x k s w in
    let a = interior-greatest f (meet x s) (meet x k) c inside i in
    let b : has s i ≡ true = w i h in
    grind (arith, members)
  where
    meet-within : (x k s : Items) → IsWithin k s → IsWithin (meet x k) (meet x s)
    meet-within x k s w i h = let a = w i in grind (arith, members)

-- on a side a set is its own interior exactly where its meet with the part is a member
pub side-fixed : (x : Items) (f : List Items) (s : Items) → IsClosed f → side_interior x f s ≡ s
    → is_among f (meet x s) ≡ true
side-fixed x f s closed e =
    subst (λ t. is_among f t ≡ true)
    (same_within (interior f (meet x s)) (meet x s) (interior-within f (meet x s))
    (λ i h. let d = ap (λ t. has t i) e in grind (arith, members)))
    (interior-among f f closed.holds_empty closed.holds_unions (λ k c. c) (meet x s))

pub side-member : (x : Items) (f : List Items) (s : Items) → is_among f (meet x s) ≡ true
    → side_interior x f s ≡ s
side-member x f s c =
    same_within (side_interior x f s) s (side-within x f s) (side-keeps x f s s c (λ i h. h))

-- a set within another that is not the same has fewer items
pub fewer : (t s : Items) → IsWithin t s → t ≢ s → len t < len s
fewer t s within other = elim (some_missing t s) [
  | inl w ↦ absurd (other (same_within t s within w))
  | inr r ↦ len-less t s r.0 within r.2 r.1
]

pub side-fewer : (x : Items) (f : List Items) (s : Items) → side_interior x f s ≢ s
    → len (side_interior x f s) < len s
side-fewer x f s other = fewer (side_interior x f s) s (side-within x f s) other

-- a set between s and its interior has the same interior
pub interior-inside : (f : List Items) (s t : Items) → IsWithin t s
    → ((k : Items) → is_among f k ≡ true → IsWithin k s → IsWithin k t) → IsClosed f → interior f t
    ≡ interior f s
interior-inside f s t w keeps closed =
    let a = interior-is f closed.holds_empty closed.holds_unions t in
    IsInterior-interior f closed.holds_empty closed.holds_unions s (interior f t) (record {
      member = a.member;
      within = λ i h. w i (a.within i h);
      greatest = λ k c h. a.greatest k c (keeps k c h);
    })

-- ---- turns

pub both-within : (x : Items) (f : List Items) (y : Items) (g : List Items) (s : Items)
    → IsWithin (both_sides x f y g s) s
both-within x f y g s i h = side-within x f s i (side-within y g (side_interior x f s) i h)

pub closed-family : (n : ℕ) (f : List Items) → IsFamily n f → IsClosed f
closed-family n f h = record { holds_empty = h.holds_empty; holds_unions = h.holds_unions }

pub mesh-closed : (n : ℕ) (x : Items) (f : List Items) (y : Items) (g : List Items) → IsClosed f
    → IsClosed g → IsClosed (mesh n x f y g)
mesh-closed n x f y g a b = closed-family n (mesh n x f y g) (mesh-IsFamily n x f y g a b)

pub left-same : (n : ℕ) (x : Items) (f : List Items) (y : Items) (g : List Items) (s : Items)
    → IsClosed f → IsClosed g → interior (mesh n x f y g) (side_interior x f s)
    ≡ interior (mesh n x f y g) s
left-same n x f y g s a b =
    interior-inside (mesh n x f y g) s (side_interior x f s) (side-within x f s)
    (λ k c w. side-keeps x f s k (mesh-from n x f y g k c).left w) (mesh-closed n x f y g a b)

pub right-same : (n : ℕ) (x : Items) (f : List Items) (y : Items) (g : List Items) (s : Items)
    → IsClosed f → IsClosed g → interior (mesh n x f y g) (side_interior y g s)
    ≡ interior (mesh n x f y g) s
right-same n x f y g s a b =
    interior-inside (mesh n x f y g) s (side_interior y g s) (side-within y g s)
    (λ k c w. side-keeps y g s k (mesh-from n x f y g k c).right w) (mesh-closed n x f y g a b)

-- where neither side changes the set, it is a member, and so its own interior
pub fixed-member : (n : ℕ) (x : Items) (f : List Items) (y : Items) (g : List Items) (s : Items)
    → IsClosed f → IsClosed g → IsWithin s (full n) → side_interior x f s ≡ s → side_interior y g s
    ≡ s → is_among (mesh n x f y g) s ≡ true
fixed-member n x f y g s a b small c d =
    mesh-to
    n x
    f y g s (record { small = small; left = side-fixed x f s a c; right = side-fixed y g s b d })

-- a turn that does not change the set: neither side does
both-fixed : (x : Items) (f : List Items) (y : Items) (g : List Items) (s : Items)
    → both_sides x f y g s ≡ s → (side_interior x f s ≡ s) × (side_interior y g s ≡ s)
both-fixed x f y g s e =
    let t = side_interior x f s in
    let same : t ≡ s =
    same_within t s (side-within x f s) (λ i h. side-within y g t i (ap (λ u. has u i) e ∙ h))
    in
    (same, ap (side_interior y g) (sym same) ∙ e)

-- as many turns as the set has items reach the interior
pub turns-interior : (n : ℕ) (x : Items) (f : List Items) (y : Items) (g : List Items) (m : ℕ)
    (s : Items) → IsClosed f → IsClosed g → IsWithin s (full n) → len s ≤ m → turns x f y g m s
    ≡ interior (mesh n x f y g) s
turns-interior n x f y g zero s a b small few = elim (some_missing empty s) [
  | inl
      w ↦
      sym
      (interior-member (mesh n x f y g) s
      (subst (λ t. is_among (mesh n x f y g) t ≡ true)
      (same_within empty s (λ i h. absurd (true≢false (grind (arith, members)))) w)
      (mesh-closed n x f y g a b).holds_empty))
  | inr r ↦ let l : len empty < len s =
      len-less empty s r.0 (λ i h. absurd (true≢false (grind (arith, members)))) r.2 r.1 in absurd
      (omega arith)
]
turns-interior n x f y g (suc m) s a b small few =
    let t = both_sides x f y g s in
    let same : interior (mesh n x f y g) t ≡ interior (mesh n x f y g) s =
    right-same n x f y g (side_interior x f s) a b ∙ left-same n x f y g s a b in
    elim (some_missing t s) [
      | inl w ↦
          let e : t ≡ s = same_within t s (both-within x f y g s) w in
          let d = both-fixed x f y g s e in
          ap (turns x f y g m) e ∙ turns-stay x f y g m s e ∙ sym
          (interior-member (mesh n x f y g) s (fixed-member n x f y g s a b small d.0 d.1))
      | inr r ↦
          let l : len t < len s = len-less t s r.0 (both-within x f y g s) r.2 r.1 in
          turns-interior n x f y g m t a b (λ i h. small i (both-within x f y g s i h))
          (omega arith) ∙ same
    ]
  where
    turns-stay : (x : Items) (f : List Items) (y : Items) (g : List Items) (m : ℕ) (s : Items)
        → both_sides x f y g s ≡ s → turns x f y g m s ≡ s
    turns-stay x f y g zero s e = refl
    turns-stay x f y g (suc m) s e = ap (turns x f y g m) e ∙ turns-stay x f y g m s e
