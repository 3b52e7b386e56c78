-- Where two families agree on the items of both parts, the projections of their mesh are the
-- families.
use Rattle.std.proofs.Common.{ℕ, ◌≡◌, ◌↔◌, true, List, sym, ap, ◌∙◌, subst, arith}
use Rattle.ls_set.specs.ItemSet.{Items, has, full, union, meet, is_within, is_among, subsets}
use Rattle.ls_set.specs.ItemSet.{IsInOrder, IsWithin}
use Rattle.ls_set.proofs.Sets.{members, same_set, is_within-from, union-within}
use Rattle.ls_set.proofs.Order.{subsets_from-in_order}
use Rattle.ls_theory.specs.Projections.{projection}
use Rattle.ls_laws.specs.Spans.{IsPart}
use Rattle.ls_laws.proofs.Lists.{IsInOrder-filter, same_members}
use Rattle.ls_laws.proofs.Projecting.{projection-has, projection-from}
use Rattle.ls_origins.specs.Meshes.{mesh}
use Rattle.ls_mesh.specs.Sides.{AreSides}
use Rattle.ls_mesh.proofs.Meshed.{mesh-from, mesh-to}

pub projection-in_order : (n : ℕ) (p : Items) (f : List Items) → IsInOrder (projection n p f)
projection-in_order n p f = IsInOrder-filter _ (subsets n) (subsets_from-in_order 0 n)

left-within : (p q : Items) → IsWithin (meet p q) p
left-within p q i h = grind (arith, members)

-- two projections on one part, where each member of the first looks like one of the second
projection-part : (n : ℕ) (p : Items) (f g : List Items) → is_within p (full n) ≡ true
    → ((k : Items) → is_among f k ≡ true → (l : Items) × (is_among g l ≡ true)
    × (meet p k ≡ meet p l)) → IsPart (projection n p f) (projection n p g)
projection-part n p f g small match s c =
    let r = projection-from n p f s c in
    let t = match r.0 r.1 in
    subst (λ u. is_among (projection n p g) u ≡ true) (sym (r.2 ∙ t.2))
    (projection-has n p g t.0 small t.1)

-- two sets, each within its part, that are the same on the shared items, put together
record AreAlike (x y k l : Items) : Type 0 where
  pub in_left : IsWithin k x
  pub in_right : IsWithin l y
  pub alike : meet (meet x y) k ≡ meet (meet x y) l

alike-at : (x y k l : Items) → AreAlike x y k l → (i : ℕ) → has x i ≡ true → has y i ≡ true
    → has k i ≡ has l i
alike-at x y k l a i b c = let e = ap (λ s. has s i) a.alike in grind (arith, members)

joined-left : (x y k l : Items) → AreAlike x y k l → meet x (union k l) ≡ k
joined-left x y k l a = same_set (meet x (union k l)) k (λ i.
    let e = alike-at x y k l a i in
    let v = a.in_left i in
    let w = a.in_right i in
    grind (arith, members))

joined-right : (x y k l : Items) → AreAlike x y k l → meet y (union k l) ≡ l
joined-right x y k l a = same_set (meet y (union k l)) l (λ i.
    let e = alike-at x y k l a i in
    let v = a.in_left i in
    let w = a.in_right i in
    grind (arith, members))

joined-member : (n : ℕ) (x : Items) (f : List Items) (y : Items) (g : List Items) (k l : Items)
    → AreSides n x f y g → is_among f k ≡ true → is_among g l ≡ true → AreAlike x y k l
    → is_among (mesh n x f y g) (union k l) ≡ true
joined-member n x f y g k l s c d a = mesh-to n x f y g (union k l) (record {
  small =
      union-within k l (full n) (λ i h. s.left.small i (a.in_left i h))
      (λ i h. s.right.small i (a.in_right i h));
  left = ap (is_among f) (joined-left x y k l a) ∙ c;
  right = ap (is_among g) (joined-right x y k l a) ∙ d;
})

shared-small : (n : ℕ) (x y : Items) → IsWithin x (full n) → is_within (meet x y) (full n) ≡ true
shared-small n x y small = is_within-from (meet x y) (full n) (λ i h. small i (left-within x y i h))

-- ---- from the shared items to the mesh

-- a set that looks to the part like a member of f
projection-of : (n : ℕ) (x : Items) (f : List Items) (y : Items) (g : List Items)
    → AreSides n x f y g → IsPart (projection n x (mesh n x f y g)) f
projection-of n x f y g s t c =
    let r = projection-from n x (mesh n x f y g) t c in
    subst (λ u. is_among f u ≡ true) (sym r.2) (mesh-from n x f y g r.0 r.1).left

projection-of_right : (n : ℕ) (x : Items) (f : List Items) (y : Items) (g : List Items)
    → AreSides n x f y g → IsPart (projection n y (mesh n x f y g)) g
projection-of_right n x f y g s t c =
    let r = projection-from n y (mesh n x f y g) t c in
    subst (λ u. is_among g u ≡ true) (sym r.2) (mesh-from n x f y g r.0 r.1).right

-- the two families look the same on the shared items
abbrev Agree : ℕ → Items → List Items → Items → List Items → Type 0
Agree n x f y g = projection n (meet x y) f ≡ projection n (meet x y) g

partner-right : (n : ℕ) (x : Items) (f : List Items) (y : Items) (g : List Items) (k : Items)
    → AreSides n x f y g → Agree n x f y g → is_among f k ≡ true → (l : Items)
    × (is_among g l ≡ true) × AreAlike x y k l
partner-right n x f y g k s same c =
    let p = meet x y in
    let r =
    projection-from n p g (meet p k)
    (ap (λ h. is_among h (meet p k)) (sym same) ∙ projection-has n p f k
    (shared-small n x y s.left.small) c) in (
      r.0,
      r.1,
      record { in_left = s.left.inside k c; in_right = s.right.inside r.0 r.1; alike = r.2 },
    )

partner-left : (n : ℕ) (x : Items) (f : List Items) (y : Items) (g : List Items) (l : Items)
    → AreSides n x f y g → Agree n x f y g → is_among g l ≡ true → (k : Items)
    × (is_among f k ≡ true) × AreAlike x y k l
partner-left n x f y g l s same c =
    let p = meet x y in
    let r =
    projection-from n p f (meet p l)
    (ap (λ h. is_among h (meet p l)) same ∙ projection-has n p g l
    (shared-small n x y s.left.small) c) in (
      r.0,
      r.1,
      record { in_left = s.left.inside r.0 r.1; in_right = s.right.inside l c; alike = sym r.2 },
    )

whole-left : (n : ℕ) (x : Items) (f : List Items) (y : Items) (g : List Items) → AreSides n x f y g
    → Agree n x f y g → projection n x (mesh n x f y g) ≡ f
whole-left n x f y g s same =
    same_members (projection n x (mesh n x f y g)) f (projection-in_order n x (mesh n x f y g))
    s.left.in_order (projection-of n x f y g s)
    (λ k c.
    let r = partner-right n x f y g k s same c in
    subst (λ u. is_among (projection n x (mesh n x f y g)) u ≡ true) (joined-left x y k r.0 r.2)
    (projection-has n x (mesh n x f y g) (union k r.0) (is_within-from x (full n) s.left.small)
    (joined-member n x f y g k r.0 s c r.1 r.2)))

whole-right : (n : ℕ) (x : Items) (f : List Items) (y : Items) (g : List Items) → AreSides n x f y g
    → Agree n x f y g → projection n y (mesh n x f y g) ≡ g
whole-right n x f y g s same =
    same_members (projection n y (mesh n x f y g)) g (projection-in_order n y (mesh n x f y g))
    s.right.in_order (projection-of_right n x f y g s)
    (λ l c.
    let r = partner-left n x f y g l s same c in
    subst (λ u. is_among (projection n y (mesh n x f y g)) u ≡ true) (joined-right x y r.0 l r.2)
    (projection-has n y (mesh n x f y g) (union r.0 l) (is_within-from y (full n) s.right.small)
    (joined-member n x f y g r.0 l s r.1 c r.2)))

-- ---- and back

shared-left : (x y m : Items) → meet (meet x y) (meet x m) ≡ meet (meet x y) (meet y m)
shared-left x y m =
    same_set (meet (meet x y) (meet x m)) (meet (meet x y) (meet y m)) (λ i. grind (arith, members))

agree-from : (n : ℕ) (x : Items) (f : List Items) (y : Items) (g : List Items) → AreSides n x f y g
    → projection n x (mesh n x f y g) ≡ f → projection n y (mesh n x f y g) ≡ g → Agree n x f y g
agree-from n x f y g s a b =
    let p = meet x y in
    let m = mesh n x f y g in
    same_members (projection n p f) (projection n p g) (projection-in_order n p f)
    (projection-in_order n p g)
    (projection-part n p f g (shared-small n x y s.left.small) (λ k c.
    let r = projection-from n x m k (ap (λ h. is_among h k) a ∙ c) in
    (meet y r.0, (mesh-from n x f y g r.0 r.1).right, ap (meet p) r.2 ∙ shared-left x y r.0)))
    (projection-part n p g f (shared-small n x y s.left.small) (λ k c.
    let r = projection-from n y m k (ap (λ h. is_among h k) b ∙ c) in
    (meet x r.0, (mesh-from n x f y g r.0 r.1).left, ap (meet p) r.2 ∙ sym (shared-left x y r.0))))

pub agree-projections : (n : ℕ) (x : Items) (f : List Items) (y : Items) (g : List Items)
    → AreSides n x f y g
    → (projection n (meet x y) f ≡ projection n (meet x y) g) ↔
    ((projection n x (mesh n x f y g) ≡ f) × (projection n y (mesh n x f y g) ≡ g))
agree-projections n x f y g s = (
  λ same. (whole-left n x f y g s same, whole-right n x f y g s same),
  λ h. agree-from n x f y g
      s h.0 h.1,
)
