-- What a mesh means, and its faults.
use Rattle.std.proofs.Common.{ℕ, ◌≤◌, ◌≡◌, ◌∙◌, Bool, cond, List, length, Option, Some, None}
use Rattle.std.proofs.Common.{option_map, refl, sym, ap, ap₂, lt-ltb, le-ltb, nat_lt, Decides}
use Rattle.std.specs.Option.{option_or}
use Rattle.ls_lists.proofs.Bools.{same_truth}
use Rattle.ls_set.specs.ItemSet.{Items, full, union, meet, minus, least}
use Rattle.ls_theory.specs.Bases.{base, most_base_sets}
use Rattle.ls_theory.specs.Projections.{projection}
use Rattle.ls_laws.specs.Spans.{spanned}
use Rattle.ls_laws.proofs.BaseStarts.{compat-sets}
use Rattle.ls_base.specs.Bases.{IsPastOf}
use Rattle.ls_base.specs.declared.fault.PastFault.TheVariants as Limit
use Rattle.ls_origins.specs.Meshes.{mesh_of, part_items, uncovered, side, wide_side, mesh_fault}
use Rattle.ls_origins.specs.Meshes.{agree}
use Rattle.ls_origins.specs.declared.mesh_fault.MeshFault.{MeshFault}
use Rattle.ls_origins.specs.declared.mesh_fault.MeshFault.TheVariants.{NotCovered, Wide, Memory}
use Rattle.ls_mesh.specs.Sides.{both}
use Rattle.ls_origins.specs.Meshes.{side_base}
use Rattle.ls_mesh.proofs.Common.{common-both}
use Rattle.ls_mesh.proofs.SetParts.{mesh-by_bases, agree-bases}
use Rattle.ls_mesh.specs.Meshed.{MeshState, meshed, IsMeshOf, IsMeshFaultOf}

pub meshed-is : (n : ℕ) (left right : List Items) (m : MeshState) → IsMeshOf n left right m
    → meshed m ≡ mesh_of n left right
meshed-is n left right m h =
    ap₂ both (ap₂ spanned h.items h.left_base) (ap₂ spanned h.items h.right_base)
    ∙ sym (common-both n (side_base n left) (side_base n right))
    ∙ sym (mesh-by_bases n left right)

-- ---- faults

pub fault-uncovered : (n : ℕ) (left right : List Items) (q : ℕ) → uncovered n left right ≡ Some q
    → mesh_fault n left right ≡ Some (NotCovered q)
unfolding mesh_fault
fault-uncovered n left right q e =
    ap (λ o. option_or (option_map NotCovered o)
    (option_or (wide_side n 1 left) (wide_side n 2 right))) e

pub fault-left : (n : ℕ) (left right : List Items) (fault : MeshFault) → uncovered n left right
    ≡ None → IsMeshFaultOf (wide_side n 1 left) fault
    → IsMeshFaultOf (mesh_fault n left right) fault
unfolding mesh_fault
fault-left n left right (Memory e) none h = tt
fault-left n left right (NotCovered q) none h =
    ap₂ (λ o w. option_or (option_map NotCovered o) (option_or w (wide_side n 2 right))) none h
fault-left n left right (Wide number count) none h =
    ap₂ (λ o w. option_or (option_map NotCovered o) (option_or w (wide_side n 2 right))) none h

pub fault-right : (n : ℕ) (left right : List Items) (fault : MeshFault) → uncovered n left right
    ≡ None → wide_side n 1 left ≡ None → IsMeshFaultOf (wide_side n 2 right) fault
    → IsMeshFaultOf (mesh_fault n left right) fault
unfolding mesh_fault
fault-right n left right (Memory e) none few h = tt
fault-right n left right (NotCovered q) none few h =
    ap₂ (λ o w. option_or (option_map NotCovered o) (option_or w (wide_side n 2 right))) none few ∙
    h
fault-right n left right (Wide number count) none few h =
    ap₂ (λ o w. option_or (option_map NotCovered o) (option_or w (wide_side n 2 right))) none few ∙
    h

pub fault-none : (n : ℕ) (left right : List Items) → uncovered n left right ≡ None
    → wide_side n 1 left ≡ None → wide_side n 2 right ≡ None → mesh_fault n left right ≡ None
unfolding mesh_fault
fault-none n left right none few fewer =
    ap₂ (λ o w. option_or (option_map NotCovered o) (option_or w (wide_side n 2 right))) none few ∙
    fewer

pub uncovered-is : (n : ℕ) (left right : List Items) (x y all joined outside : Items)
    (found : Option ℕ) → x ≡ part_items left → y ≡ part_items right → all ≡ full n
    → joined ≡ union x y → outside ≡ minus all joined → found ≡ least outside
    → found ≡ uncovered n left right
uncovered-is n left right x y all joined outside found a b f j o e =
    e ∙ ap least (o ∙ ap₂ minus f (j ∙ ap₂ union a b))

-- ---- sides

pub side-made : (n : ℕ) (sets made : List Items) (part : Items) → part ≡ part_items sets → made
    ≡ side n part sets → made ≡ side n (part_items sets) sets
side-made n sets made part e d = d ∙ ap (λ p. side n p sets) e

pub side-spanned : (n : ℕ) (sets made : List Items) → made ≡ side n (part_items sets) sets
    → base (spanned n made) ≡ side_base n sets
side-spanned n sets made e =
    ap (λ m. base (spanned n m)) e ∙ ap base (sym (compat-sets n (side n (part_items sets) sets)))

pub side-few : (n number : ℕ) (sets put : List Items) → put ≡ side_base n sets
    → length put ≤ most_base_sets → wide_side n number sets ≡ None
side-few n number sets put e few =
    ap (λ (g : List Items). cond (nat_lt most_base_sets (length g)) (Some (Wide number (length g)))
    None) (sym e) ∙ rw (le-ltb most_base_sets (length put) few) refl

pub side-wide : (n number : ℕ) (sets put : List Items) (count : ℕ) → put ≡ side_base n sets
    → IsPastOf put (Limit.Past count) → wide_side n number sets ≡ Some (Wide number count)
side-wide n number sets put count e past =
    ap (λ (g : List Items). cond (nat_lt most_base_sets (length g)) (Some (Wide number (length g)))
    None) (sym e)
    ∙ rw (lt-ltb most_base_sets (length put) past.0) (ap (λ k. Some (Wide number k)) (sym past.1))

-- ---- agreement

pub agreed : (n : ℕ) (left right : List Items) (m : MeshState) (b c : List Items) (p : Items)
    (r : Bool) → IsMeshOf n left right m
    → p ≡ meet m.left_items m.right_items
    → b ≡ base (projection m.item_count p (spanned m.item_count m.left))
    → c ≡ base (projection m.item_count p (spanned m.item_count m.right))
    → Decides r (b ≡ c)
    → r ≡ agree n left right
agreed n left right m b c p r h shared is_left is_right told =
    let same = agree-bases n left right in
    let both_items = shared ∙ ap₂ meet h.left_items h.right_items in
    let own = is_left ∙ shown both_items h.items h.left_base in
    let other = is_right ∙ shown both_items h.items h.right_base in
    same_truth r (agree n left right) (λ t. same.1 (sym own ∙ told.0 t ∙ other))
    (λ t. told.1 (own ∙ same.0 t ∙ sym other))
  where
    shown : {k n : ℕ} {p q : Items} {s t : List Items} → p ≡ q → k ≡ n → s ≡ t
        → base (projection k p (spanned k s)) ≡ base (projection n q (spanned n t))
    shown {k} {n} {p} {q} {s} {t} e d u =
        ap (λ k. base (projection k p (spanned k s))) d ∙ ap
        (λ p. base (projection n p (spanned n s))) e ∙ ap (λ s. base (projection n q (spanned n s)))
        u
