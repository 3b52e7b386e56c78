-- Meshes of parts that are given by sets, by the bases of their sides.
use Rattle.std.proofs.Common.{ℕ, ◌≡◌, ◌↔◌, inl, inr, true, List, [], map, filter, Option, Some}
use Rattle.std.proofs.Common.{None, option_map, refl, sym, ap, ap₂, ◌∙◌, ◌++◌, append-nil, subst}
use Rattle.std.proofs.Common.{arith}
use Rattle.std.specs.List.{list_all}
use Rattle.std.specs.Option.{option_or}
use Rattle.std.proofs.lemmas.Bool.{and_parts, and_from, or_cases}
use Rattle.std.proofs.lemmas.Bool.Decides.{nat_tests}
use Rattle.ls_lists.proofs.Options.{none_from_map}
use Rattle.ls_set.specs.ItemSet.{Items, has, full, union, meet, minus, single, items, is_among}
use Rattle.ls_set.specs.ItemSet.{IsInOrder, IsWithin, bound, empty, is_same, is_within}
use Rattle.ls_set.proofs.Sets.{members, same_set, is_within-from, Decides-is_same}
use Rattle.ls_set.proofs.Members.{among-append}
use Rattle.ls_theory.specs.Families.{unions, interior, is_space}
use Rattle.ls_theory.specs.Starts.{Sets}
use Rattle.ls_theory.specs.Bases.{base}
use Rattle.ls_theory.specs.Projections.{projection}
use Rattle.ls_laws.specs.Spans.{AreOn, spanned}
use Rattle.ls_laws.specs.Families.{IsFamily}
use Rattle.ls_laws.proofs.Atoms.{base-member}
use Rattle.ls_laws.proofs.Lists.{every-among, every-from, same_members}
use Rattle.ls_laws.proofs.BaseStarts.{compat-sets}
use Rattle.ls_laws.proofs.Families.{family_sets, compat-IsFamily, spanned-IsFamily}
use Rattle.ls_laws.proofs.Spans.{spanned-base, spanned-whole, among-spanned}
use Rattle.ls_clauses.proofs.Traces.{projection-IsFamily}
use Rattle.ls_origins.specs.declared.mesh_fault.MeshFault.TheVariants.{NotCovered}
use Rattle.ls_origins.specs.Meshes.{mesh, part_items, part_family, mesh_of, uncovered, side}
use Rattle.ls_origins.specs.Meshes.{wide_side, mesh_fault, has_same_sets, agree}
use Rattle.ls_mesh.specs.Sides.{IsSide, AreSides, both, common}
use Rattle.ls_origins.specs.Meshes.{side_base}
use Rattle.ls_mesh.proofs.Meshed.{mesh-IsFamily, mesh-space, closed-family, mesh-from, mesh-to}
use Rattle.ls_mesh.proofs.Meshed.{mesh-in_order}
use Rattle.ls_mesh.proofs.Agreement.{agree-projections, projection-in_order}
use Rattle.ls_mesh.proofs.Sides.{within-unions, part-side, part-space, part-own, part-whole}
use Rattle.ls_mesh.proofs.Sides.{same-bases, single-from, side-interior, interior-small}
use Rattle.ls_mesh.proofs.Common.{mesh-common, side-shows, covered-least, common-both}
use Rattle.ls_mesh.proofs.Common.{among-both, both-IsFamily}

-- what the base of a list's unions spans is what the list spans
spanned-again : (n : ℕ) (b : List Items) → spanned n (base (spanned n b)) ≡ spanned n b
spanned-again n b =
    let f = spanned-IsFamily n b in spanned-base n (spanned n b) f.in_order
    (family_sets n (spanned n b) f)

pub common-bases : (n : ℕ) (b c : List Items) → common n (base (spanned n b)) (base (spanned n c))
    ≡ common n b c
unfolding common
common-bases n b c =
    ap₂ (λ f g. filter (λ k. is_among g k) f) (spanned-again n b) (spanned-again n c)

-- the sets of a side are sets of the n items
pub side-on : (n : ℕ) (sets : List Items) → AreOn n sets → AreOn n (side n (part_items sets) sets)
side-on n sets on k c =
    let outside = minus (full n) (unions sets) in
    elim
    (or_cases (is_among sets k) (is_among (map single (items outside)) k)
    (sym (among-append sets (map single (items outside)) k) ∙ c)) [
      | inl a ↦ on k a
      | inr a ↦ λ i h.
          let r = single-from outside k a in
          let e : has (single r.0) i ≡ true = ap (λ s. has s i) (sym r.2) ∙ h in
          let same : i ≡ r.0 = grind (arith, members, nat_tests) in
          let o = r.1 in
          let there : has (full n) r.0 ≡ true = grind (arith, members) in
          ap (has (full n)) same ∙ there
    ]

side_base-spans : (n : ℕ) (sets : List Items) → spanned n (side_base n sets)
    ≡ spanned n (side n (part_items sets) sets)
side_base-spans n sets =
    let s = side n (part_items sets) sets in
    ap (λ f. spanned n (base f)) (compat-sets n s) ∙ spanned-again n s

-- a mesh of parts, by what their sets span
mesh-spanned : (n : ℕ) (left right : List Items) → mesh_of n left right
    ≡ mesh n (part_items left) (spanned n left) (part_items right) (spanned n right)
mesh-spanned n left right =
    ap₂ (λ f g. mesh n (part_items left) f (part_items right) g) (compat-sets n left)
    (compat-sets n right)

pub mesh-by_bases : (n : ℕ) (left right : List Items) → mesh_of n left right
    ≡ common n (side_base n left) (side_base n right)
mesh-by_bases n left right =
    let x = side n (part_items left) left in
    let y = side n (part_items right) right in
    mesh-spanned n left right
    ∙ mesh-common n (part_items left) left (part_items right) right (within-unions left)
    (within-unions right)
    ∙ sym (common-bases n x y)
    ∙ ap₂ (λ f g. common n (base f) (base g)) (sym (compat-sets n x)) (sym (compat-sets n y))

-- ---- the bases of the sides, as parts

part-small : (n : ℕ) (sets : List Items) → AreOn n sets → IsWithin (part_items sets) (full n)
part-small n sets on = (part-side n sets on).small

-- the interior of a set in what a list spans is the union of the list's sets within it
pub part-interior : (n : ℕ) (sets : List Items) (s : Items) → IsWithin s (full n)
    → interior sets s ≡ interior (part_family n sets) s
part-interior n sets s small =
    sym (interior-small n sets s small) ∙ ap (λ f. interior f s) (sym (compat-sets n sets))

pub side_base-on : (n : ℕ) (sets : List Items) → AreOn n (side_base n sets)
side_base-on n sets k c =
    let s = side n (part_items sets) sets in
    (compat-IsFamily n (Sets s) []).small k (base-member (part_family n s) k c)

-- a side has all items
side-full : (n : ℕ) (sets : List Items) → AreOn n sets
    → interior (side n (part_items sets) sets) (full n) ≡ full n
side-full n sets on =
    let x = part_items sets in
    let small = part-small n sets on in
    let meets : meet x (full n) ≡ x =
    same_set (meet x (full n)) x (λ i. let a = small i in grind (arith, members)) in
    side-interior n x sets (full n) (within-unions sets) (λ i h. h)
    ∙ ap (λ t. union t (minus (full n) x))
    (ap (interior sets) meets ∙ part-own sets)
    ∙ same_set (union x (minus (full n) x)) (full n)
    (λ i. let a = small i in grind (arith, members))

pub side_base-full : (n : ℕ) (sets : List Items) → AreOn n sets
    → part_items (side_base n sets) ≡ full n
side_base-full n sets on =
    let s = side n (part_items sets) sets in
    let b = side_base n sets in
    sym (part-whole n b (side_base-on n sets)) ∙ spanned-whole n b (full n)
    (ap (λ f. is_among f (full n)) (side_base-spans n sets) ∙ among-spanned n s (full n)
    ∙ and_from (is_within (full n) (full n)) (is_same (interior s (full n)) (full n))
    (is_within-from (full n) (full n) (λ i h. h))
    ((Decides-is_same (interior s (full n)) (full n)).1 (side-full n sets on)))

items-empty : items empty ≡ []
unfolding items bound empty
items-empty = refl

-- where no item is outside, none is added
side-none : (n : ℕ) (b : List Items) → side n (full n) b ≡ b
side-none n b =
    ap (λ t. b ++ map single (items t))
    (same_set (minus (full n) (full n)) empty (λ i. grind (arith, members)))
    ∙ ap (λ l. b ++ map single l) items-empty ∙ append-nil b

-- the base of a side is the base of its own side
pub side_base-again : (n : ℕ) (sets : List Items) → AreOn n sets
    → side_base n (side_base n sets) ≡ side_base n sets
side_base-again n sets on =
    let b = side_base n sets in
    let s = side n (part_items sets) sets in
    ap (λ x. base (part_family n (side n x b))) (side_base-full n sets on)
    ∙ ap (λ t. base (part_family n t)) (side-none n b)
    ∙ ap base (compat-sets n b ∙ side_base-spans n sets ∙ sym (compat-sets n s))

-- the mesh of the bases of both sides is that of the parts
pub mesh-again : (n : ℕ) (left right : List Items) → AreOn n left → AreOn n right
    → mesh_of n (side_base n left) (side_base n right) ≡ mesh_of n left right
mesh-again n left right a b =
    mesh-by_bases n (side_base n left) (side_base n right)
    ∙ ap₂ (common n) (side_base-again n left a) (side_base-again n right b)
    ∙ sym (mesh-by_bases n left right)

-- and what is in the families of both
pub mesh-both : (n : ℕ) (left right : List Items) → mesh_of n left right
    ≡ both (part_family n (side_base n left)) (part_family n (side_base n right))
mesh-both n left right =
    mesh-by_bases n left right ∙ common-both n (side_base n left) (side_base n right)
    ∙ ap₂ both (sym (compat-sets n (side_base n left))) (sym (compat-sets n (side_base n right)))

-- so is the mesh of any two parts that have all items
pub mesh-whole : (n : ℕ) (left right : List Items) → part_items left ≡ full n
    → part_items right ≡ full n
    → mesh_of n left right ≡ both (part_family n left) (part_family n right)
mesh-whole n left right a b =
    let f = part_family n left in
    let g = part_family n right in
    let x = part_items left in
    let y = part_items right in
    let family = compat-IsFamily n (Sets left) [] in
    same_members (mesh_of n left right) (both f g) (mesh-in_order n x f y g)
    (both-IsFamily n f g family (compat-IsFamily n (Sets right) [])).in_order
    (λ k c. let r = mesh-from n x f y g k c in
    among-both f g k ∙ and_from (is_among f k) (is_among g k)
    (ap (is_among f) (sym (whole x k a r.small)) ∙ r.left)
    (ap (is_among g) (sym (whole y k b r.small)) ∙ r.right))
    (λ k c.
    let r = and_parts (is_among f k) (is_among g k) (sym (among-both f g k) ∙ c) in
    let small = family.small k r.0 in
    mesh-to n x f y g k (record {
      small = small;
      left = ap (is_among f) (whole x k a small) ∙ r.0;
      right = ap (is_among g) (whole y k b small) ∙ r.1;
    }))
  where
    whole : (x k : Items) → x ≡ full n → IsWithin k (full n) → meet x k ≡ k
    whole x k e small =
        ap (λ t. meet t k) e
        ∙ same_set (meet (full n) k) k (λ i. let a = small i in grind (arith, members))

pub mesh_of-IsFamily : (n : ℕ) (left right : List Items) → IsFamily n (mesh_of n left right)
mesh_of-IsFamily n left right =
    mesh-IsFamily n (part_items left) (part_family n left) (part_items right) (part_family n right)
    (closed-family n (part_family n left) (compat-IsFamily n (Sets left) []))
    (closed-family n (part_family n right) (compat-IsFamily n (Sets right) []))

pub covered-parts : (n : ℕ) (left right : List Items) → AreOn n left → AreOn n right
    → (uncovered n left right ≡ None) ↔ (union (part_items left) (part_items right) ≡ full n)
covered-parts n left right a b =
    let e =
    covered-least n (part_items left) (part_items right) (part-small n left a)
    (part-small n right b) in
    (e.1, e.0)

none-first : {X : Type 0} (a b : Option X) → option_or a b ≡ None → a ≡ None
none-first None b e = refl
none-first (Some x) b e = absurd (cc e)

pub mesh_of-space : (n : ℕ) (left right : List Items) → AreOn n left → AreOn n right
    → mesh_fault n left right ≡ None → is_space (full n) (mesh_of n left right) ≡ true
unfolding mesh_fault
mesh_of-space n left right a b e =
    let none =
    none_from_map NotCovered (uncovered n left right)
    (none-first (option_map NotCovered (uncovered n left right))
    (option_or (wide_side n 1 left) (wide_side n 2 right)) e) in
    mesh-space n (part_items left) (part_family n left) (part_items right) (part_family n right)
    ((covered-parts n left right a b).0 none)
    (subst (λ f. is_space (part_items left) f ≡ true) (sym (compat-sets n left))
    (part-space n left a))
    (subst (λ f. is_space (part_items right) f ≡ true) (sym (compat-sets n right))
    (part-space n right b))

-- ---- agreement

same-sets : (f g : List Items) → IsInOrder f → IsInOrder g → (has_same_sets f g ≡ true) ↔ (f ≡ g)
same-sets f g a b = (
  λ h.
      let c = and_parts (list_all (is_among g) f) (list_all (is_among f) g) h in
      same_members f g a b (λ k d. every-among (is_among g) f k c.0 d)
      (λ k d. every-among (is_among f) g k c.1 d),
  λ e. and_from (list_all (is_among g) f) (list_all (is_among f) g)
      (every-from (is_among g) f (λ k d. ap (λ h. is_among h k) (sym e) ∙ d))
      (every-from (is_among f) g (λ k d. ap (λ h. is_among h k) e ∙ d)),
)

pub agree-parts : (n : ℕ) (left right : List Items) → (agree n left right ≡ true)
    ↔ (projection n (meet (part_items left) (part_items right)) (part_family n left)
    ≡ projection n (meet (part_items left) (part_items right)) (part_family n right))
unfolding agree
agree-parts n left right =
    let p = meet (part_items left) (part_items right) in
    same-sets (projection n p (part_family n left)) (projection n p (part_family n right))
    (projection-in_order n p (part_family n left))
    (projection-in_order n p (part_family n right))

through : {A B C : Type 0} → A ↔ B → B ↔ C → A ↔ C
through p q = (λ a. q.0 (p.0 a), λ c. p.1 (q.1 c))

sides-of : (n : ℕ) (left right : List Items) → AreOn n left → AreOn n right
    → AreSides n (part_items left) (part_family n left) (part_items right) (part_family n right)
sides-of n left right a b = record {
  left = subst (IsSide n (part_items left)) (sym (compat-sets n left)) (part-side n left a);
  right = subst (IsSide n (part_items right)) (sym (compat-sets n right)) (part-side n right b);
}

pub agree-mesh : (n : ℕ) (left right : List Items) → AreOn n left → AreOn n right
    → (agree n left right ≡ true)
    ↔ ((projection n (part_items left) (mesh_of n left right) ≡ part_family n left)
    × (projection n (part_items right) (mesh_of n left right) ≡ part_family n right))
agree-mesh n left right a b =
    through (agree-parts n left right)
    (agree-projections n (part_items left) (part_family n left) (part_items right)
    (part_family n right) (sides-of n left right a b))

meet-left : (x y : Items) → IsWithin (meet x y) x
meet-left x y i h = grind (arith, members)

meet-right : (x y : Items) → IsWithin (meet x y) y
meet-right x y i h = grind (arith, members)

-- what a side shows of shared items
shown : (n : ℕ) (sets : List Items) (p : Items) → IsWithin p (part_items sets)
    → projection n p (spanned n (side_base n sets)) ≡ projection n p (part_family n sets)
shown n sets p w =
    ap (projection n p) (side_base-spans n sets) ∙ side-shows n (part_items sets) sets p
    (within-unions sets) w ∙ ap (projection n p) (sym (compat-sets n sets))

pub agree-bases : (n : ℕ) (left right : List Items) → (agree n left right ≡ true)
    ↔ (base
    (projection n (meet (part_items left) (part_items right)) (spanned n (side_base n left)))
    ≡ base
    (projection n (meet (part_items left) (part_items right)) (spanned n (side_base n right))))
agree-bases n left right =
    let p = meet (part_items left) (part_items right) in
    let f = spanned n (side_base n left) in
    let g = spanned n (side_base n right) in
    let e = shown n left p (meet-left (part_items left) (part_items right)) in
    let d = shown n right p (meet-right (part_items left) (part_items right)) in
    let same =
    same-bases n (projection n p f) (projection n p g)
    (projection-IsFamily n p f (spanned-IsFamily n (side_base n left)))
    (projection-IsFamily n p g (spanned-IsFamily n (side_base n right))) in
    through (agree-parts n left right) (λ h. same.0 (e ∙ h ∙ sym d), λ h. sym e ∙ same.1 h ∙ d)
