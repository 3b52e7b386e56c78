-- A side of a mesh by sets alone: those that it was given, and each single item outside it.
use Rattle.std.proofs.Common.{ℕ, ◌≡◌, ◌↔◌, inl, inr, true, ◌&&◌, ◌||◌, List, [], ◌∷◌, map, refl}
use Rattle.std.proofs.Common.{sym, ap, ◌∙◌, subst, arith}
use Rattle.std.specs.List.{list_any}
use Rattle.std.proofs.lemmas.Bool.{and_parts, and_from, or_cases, or_left, or_right}
use Rattle.std.proofs.lemmas.Bool.Decides.{nat_tests}
use Rattle.ls_set.specs.ItemSet.{Items, has, full, union, meet, minus, single, is_same, is_within}
use Rattle.ls_set.specs.ItemSet.{is_among, items, IsWithin}
use Rattle.ls_set.proofs.Sets.{members, has-union, has-meet, same_set, same_within, both_ways}
use Rattle.ls_set.proofs.Sets.{is_within-from, Decides-is_same}
use Rattle.ls_set.proofs.Members.{among-append}
use Rattle.ls_theory.specs.Families.{unions, interior, is_space}
use Rattle.ls_theory.specs.Bases.{base}
use Rattle.ls_laws.specs.Spans.{AreOn, spanned}
use Rattle.ls_laws.specs.Families.{IsFamily}
use Rattle.ls_laws.proofs.Lists.{some-among, some-from}
use Rattle.ls_laws.proofs.Interiors.{has-unions, from-interior, to-interior, interior-whole}
use Rattle.ls_laws.proofs.Interiors.{interior-member, interior_grows, space-to}
use Rattle.ls_laws.proofs.Families.{family_sets, spanned-IsFamily}
use Rattle.ls_laws.proofs.Spans.{among-spanned, spanned-base, spanned-in_order, spanned-whole}
use Rattle.ls_origins.proofs.ItemLists.{from-items, among-items}
use Rattle.ls_clauses.proofs.Spanning.{interior-spanned}
use Rattle.ls_origins.specs.Meshes.{mesh, side}
use Rattle.ls_mesh.specs.Sides.{IsInside, IsSide, side_interior}
use Rattle.ls_mesh.proofs.Meshed.{mesh-from, mesh-to, side-member, side-fixed, closed-family}

-- ---- single items

among-listed : {X : Type 0} (set : X → Items) (xs : List X) (l : Items) → is_among (map set xs) l
    ≡ list_any (λ i. is_same l (set i)) xs
among-listed set [] l = refl
among-listed set (x ∷ xs) l = ap (λ b. is_same l (set x) || b) (among-listed set xs l)

pub single-from : (t l : Items) → is_among (map single (items t)) l ≡ true → (i : ℕ)
    × (has t i ≡ true) × (l ≡ single i)
single-from t l c =
    let r = from-items (λ i. is_same l (single i)) t (sym (among-listed single (items t) l) ∙ c) in
    (r.0, r.1, (Decides-is_same l (single r.0)).0 r.2)

single-among : (t : Items) (i : ℕ) → has t i ≡ true → is_among (map single (items t)) (single i)
    ≡ true
single-among t i h =
    among-listed single (items t) (single i) ∙ among-items (λ j. is_same (single i) (single j)) t i
    h ((Decides-is_same (single i) (single i)).1 refl)

-- ---- the interior on a side, by its sets

inside-part : (x s l : Items) → IsWithin l x → IsWithin l s → IsWithin l (meet x s)
inside-part x s l a b i h = has-meet x s i ∙ and_from (has x i) (has s i) (a i h) (b i h)

pub side-interior : (n : ℕ) (x : Items) (sets : List Items) (s : Items) → IsInside x sets
    → IsWithin s (full n) → interior (side n x sets) s ≡ side_interior x sets s
side-interior n x sets s inside small =
    same_set (interior (side n x sets) s) (side_interior x sets s)
    (λ i. both_ways (has (interior (side n x sets) s) i) (has (side_interior x sets s) i)
    (λ h.
    let r = from-interior (side n x sets) s i h in
    elim
    (or_cases (is_among sets r.0) (is_among (map single (items (minus (full n) x))) r.0)
    (sym (among-append sets (map single (items (minus (full n) x))) r.0) ∙ r.1)) [
      | inl a ↦
          let b : has (interior sets (meet x s)) i ≡ true =
          to-interior sets (meet x s) r.0 i a (inside-part x s r.0 (inside r.0 a) r.2) r.3 in
          has-union (interior sets (meet x s)) (minus s x) i ∙ or_left
          (has (interior sets (meet x s)) i) (has (minus s x) i) b
      | inr a ↦
          let q = single-from (minus (full n) x) r.0 a in
          let e : has (single q.0) i ≡ true = subst (λ l. has l i ≡ true) q.2 r.3 in
          let c : has s i ≡ true = r.2 i r.3 in
          let o = q.1 in
          has-union (interior sets (meet x s)) (minus s x) i ∙ or_right
          (has (interior sets (meet x s)) i) (has (minus s x) i)
          (grind (arith, members, nat_tests))
    ])
    (λ h.
    elim
    (or_cases (has (interior sets (meet x s)) i) (has (minus s x) i)
    (sym (has-union (interior sets (meet x s)) (minus s x) i) ∙ h)) [
      | inl a ↦
          let r = from-interior sets (meet x s) i a in
          to-interior (side n x sets) s r.0 i
          (among-append sets (map single (items (minus (full n) x))) r.0 ∙ or_left
          (is_among sets r.0) (is_among (map single (items (minus (full n) x))) r.0) r.1)
          (λ j b. (and_parts (has x j) (has s j) (sym (has-meet x s j) ∙ r.2 j b)).1)
          r.3
      | inr a ↦
          let b : has s i ≡ true = grind (arith, members) in
          let c : has (full n) i ≡ true = small i b in
          to-interior (side n x sets) s (single i) i
          (among-append sets (map single (items (minus (full n) x))) (single i)
          ∙ or_right (is_among sets (single i))
          (is_among (map single (items (minus (full n) x))) (single i))
          (single-among (minus (full n) x) i (grind (arith, members))))
          (λ j d. let e : j ≡ i = grind (arith, members, nat_tests) in ap (has s) e ∙ b)
          (grind (arith, members, nat_tests))
    ]))

pub side-spanned : (n : ℕ) (x : Items) (sets : List Items) (s : Items) → AreOn n sets
    → side_interior x (spanned n sets) s ≡ side_interior x sets s
side-spanned n x sets s on = ap (λ t. union t (minus s x)) (interior-spanned n sets on (meet x s))

-- ---- members of the mesh, by the sets of its sides

-- the interior of a set of the n items in what a list spans is that in the list
pub interior-small : (n : ℕ) (sets : List Items) (s : Items) → IsWithin s (full n)
    → interior (spanned n sets) s ≡ interior sets s
interior-small n sets s small =
    same_within (interior (spanned n sets) s) (interior sets s)
    (λ i h.
    let r = from-interior (spanned n sets) s i h in
    interior_grows sets r.0 s r.2 i (ap (λ t. has t i) (spanned-whole n sets r.0 r.1) ∙ r.3))
    (λ i h.
    let r = from-interior sets s i h in
    to-interior (spanned n sets) s r.0 i (among-spanned n sets r.0 ∙ and_from
    (is_within r.0 (full n)) (is_same (interior sets r.0) r.0)
    (is_within-from r.0 (full n) (λ j a. small j (r.2 j a)))
    ((Decides-is_same (interior sets r.0) r.0).1 (interior-member sets r.0 r.1))) r.2 r.3)

-- on one side: a set within the n items is spanned where its meet with the part is
pub spanned-side : (n : ℕ) (x : Items) (sets : List Items) (k : Items) → IsInside x sets
    → IsWithin k (full n) → is_among (spanned n (side n x sets)) k
    ≡ is_among (spanned n sets) (meet x k)
spanned-side n x sets k inside small =
    let e : interior (side n x sets) k ≡ side_interior x (spanned n sets) k =
    side-interior n x sets k inside small
    ∙ ap (λ t. union t (minus k x)) (sym (interior-small n sets (meet x k) (λ i h. small i
    (and_parts (has x i) (has k i) (sym (has-meet x k i) ∙ h)).1))) in
    both_ways (is_among (spanned n (side n x sets)) k) (is_among (spanned n sets) (meet x k))
    (λ c. side-fixed x (spanned n sets) k
    (closed-family n (spanned n sets) (spanned-IsFamily n sets))
    (sym e ∙ spanned-whole n (side n x sets) k c))
    (λ c. among-spanned n (side n x sets) k ∙ and_from (is_within k (full n))
    (is_same (interior (side n x sets) k) k) (is_within-from k (full n) small)
    ((Decides-is_same (interior (side n x sets) k) k).1 (e ∙ side-member x (spanned n sets) k c)))

pub mesh-by_sides : (n : ℕ) (x : Items) (left : List Items) (y : Items) (right : List Items)
    (k : Items) → IsInside x left → IsInside y right
    → is_among (mesh n x (spanned n left) y (spanned n right)) k
    ≡ (is_among (spanned n (side n x left)) k && is_among (spanned n (side n y right)) k)
mesh-by_sides n x left y right k a b =
    let m = mesh n x (spanned n left) y (spanned n right) in
    both_ways
    (is_among m k)
    (is_among (spanned n (side n x left)) k && is_among (spanned n (side n y right)) k)
    (λ c.
    let r = mesh-from n x (spanned n left) y (spanned n right) k c in
    and_from (is_among (spanned n (side n x left)) k) (is_among (spanned n (side n y right)) k)
    (spanned-side n x left k a r.small ∙ r.left) (spanned-side n y right k b r.small ∙ r.right))
    (λ c.
    let r =
    and_parts (is_among (spanned n (side n x left)) k) (is_among (spanned n (side n y right)) k)
    c in
    let small = (spanned-IsFamily n (side n x left)).small k r.0 in
    mesh-to n x (spanned n left) y (spanned n right) k (record {
      small = small;
      left = sym (spanned-side n x left k a small) ∙ r.0;
      right = sym (spanned-side n y right k b small) ∙ r.1;
    }))

-- ---- parts by their sets

unions-within : (sets : List Items) (t : Items)
    → ((k : Items) → is_among sets k ≡ true → IsWithin k t) → IsWithin (unions sets) t
unions-within sets t h i a = let r =
    some-from (λ k. has k i) sets (sym (has-unions sets i) ∙ a) in h r.0 r.1 i r.2

pub within-unions : (sets : List Items) → IsInside (unions sets) sets
within-unions sets k c i h = has-unions sets i ∙ some-among (λ k. has k i) sets k c h

-- what sets within the part span lies within it
pub part-inside : (n : ℕ) (x : Items) (sets : List Items) → IsInside x sets
    → IsInside x (spanned n sets)
part-inside n x sets inside k c i h =
    let r = from-interior sets k i (ap (λ s. has s i) (spanned-whole n sets k c) ∙ h) in
    inside r.0 r.1 i r.3

pub part-side : (n : ℕ) (sets : List Items) → AreOn n sets → IsSide n (unions sets) (spanned n sets)
part-side n sets on = record {
  in_order = spanned-in_order n sets;
  small = unions-within sets (full n) on;
  inside = part-inside n (unions sets) sets (within-unions sets);
}

pub part-whole : (n : ℕ) (sets : List Items) → AreOn n sets → interior sets (full n) ≡ unions sets
part-whole n sets on = same_within (interior sets (full n)) (unions sets)
    (λ i h. let r = from-interior sets (full n) i h in within-unions sets r.0 r.1 i r.3)
    (λ i h. let r = some-from (λ k. has k i) sets (sym (has-unions sets i) ∙ h) in
    to-interior sets (full n) r.0 i r.1 (on r.0 r.1) r.2)

pub part-own : (sets : List Items) → interior sets (unions sets) ≡ unions sets
part-own sets = interior-whole sets (unions sets) (λ q h.
    let r = some-from (λ k. has k q) sets (sym (has-unions sets q) ∙ h) in
    (r.0, r.1, within-unions sets r.0 r.1, r.2))

pub part-space : (n : ℕ) (sets : List Items) → AreOn n sets
    → is_space (unions sets) (spanned n sets) ≡ true
part-space n sets on =
    let f = spanned-IsFamily n sets in
    space-to (unions sets) (spanned n sets) f.holds_empty
    (among-spanned n sets (unions sets) ∙ and_from (is_within (unions sets) (full n))
    (is_same (interior sets (unions sets)) (unions sets))
    (is_within-from (unions sets) (full n) (unions-within sets (full n) on))
    ((Decides-is_same (interior sets (unions sets)) (unions sets)).1 (part-own sets)))
    f.holds_unions

-- families are the same where their bases are
pub same-bases : (n : ℕ) (f g : List Items) → IsFamily n f → IsFamily n g
    → (f ≡ g) ↔ (base f ≡ base g)
same-bases n f g a b = (
  ap base,
  λ e. sym (spanned-base n f a.in_order (family_sets n f a)) ∙ ap (spanned n) e ∙
      spanned-base n g b.in_order (family_sets n g b),
)
