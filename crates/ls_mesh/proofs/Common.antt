-- The sets that two lists span, and what a side of a mesh shows of the items of both parts.
use Rattle.std.proofs.Common.{ℕ, ◌<◌, ◌≡◌, ◌≢◌, true, ◌&&◌, List, refl, sym, ap, ◌∙◌, subst}
use Rattle.std.proofs.Common.{arith, ◌↔◌, None}
use Rattle.std.proofs.lemmas.Bool.{and_parts, and_from}
use Rattle.ls_set.specs.ItemSet.{Items, has, full, least, minus, union, meet, is_same, is_within}
use Rattle.ls_set.specs.ItemSet.{is_among, len, IsInOrder, IsWithin}
use Rattle.ls_set.proofs.Sets.{members, same_set, Decides-is_same, is_within-from}
use Rattle.ls_set.proofs.Members.{among-filter}
use Rattle.ls_theory.specs.Families.{interior}
use Rattle.ls_theory.specs.Projections.{projection}
use Rattle.ls_laws.specs.Spans.{AreOn, needed, spanned}
use Rattle.ls_laws.specs.Families.{IsFamily}
use Rattle.ls_laws.proofs.Lists.{same_members}
use Rattle.ls_laws.proofs.Interiors.{interior-is, interior-within, interior-greatest}
use Rattle.ls_laws.proofs.Interiors.{interior_grows, interior-member}
use Rattle.ls_laws.proofs.Families.{filter-IsFamily, spanned-IsFamily}
use Rattle.ls_laws.proofs.Spans.{among-spanned, spanned-has, spanned-whole}
use Rattle.ls_laws.proofs.Projecting.{projection-from}
use Rattle.ls_set.proofs.Ascending.{least-none}
use Rattle.ls_set.proofs.Listed.{least-none_left}
use Rattle.ls_clauses.specs.Traces.{meets_with}
use Rattle.ls_clauses.proofs.Traces.{among-trace, projection-base, projection-IsFamily}
use Rattle.ls_origins.specs.Meshes.{mesh, side}
use Rattle.ls_mesh.specs.Sides.{IsInside, IsClosed, common, both}
use Rattle.ls_mesh.proofs.Meshed.{mesh-in_order, interior-inside, closed-family, fewer}
use Rattle.ls_mesh.proofs.Sides.{same-bases, mesh-by_sides, spanned-side, part-inside}
use Rattle.ls_mesh.proofs.Agreement.{projection-in_order}

-- ---- the members of any two families

pub among-both : (f g : List Items) (k : Items) → is_among (both f g) k
    ≡ (is_among f k && is_among g k)
among-both f g k = among-filter (λ k. is_among g k) f k

both-parts : (f g : List Items) (k : Items) → is_among (both f g) k ≡ true → (is_among f k ≡ true)
    × (is_among g k ≡ true)
both-parts f g k h = and_parts (is_among f k) (is_among g k) (sym (among-both f g k) ∙ h)

both-from : (f g : List Items) (k : Items) → is_among f k ≡ true → is_among g k ≡ true
    → is_among (both f g) k ≡ true
both-from f g k a b = among-both f g k ∙ and_from (is_among f k) (is_among g k) a b

pub both-IsFamily : (n : ℕ) (f g : List Items) → IsFamily n f → IsFamily n g → IsFamily n (both f g)
both-IsFamily n f g a b =
    filter-IsFamily n f (λ k. is_among g k) b.holds_empty b.holds_unions a

both-closed : (n : ℕ) (f g : List Items) → IsFamily n f → IsFamily n g → IsClosed (both f g)
both-closed n f g a b = closed-family n (both f g) (both-IsFamily n f g a b)

pub both-left : (n : ℕ) (f g : List Items) (s : Items) → IsFamily n f → IsFamily n g
    → interior (both f g) (interior f s) ≡ interior (both f g) s
both-left n f g s a b =
    interior-inside (both f g) s (interior f s) (interior-within f s)
    (λ k h w. interior-greatest f s k (both-parts f g k h).0 w) (both-closed n f g a b)

pub both-right : (n : ℕ) (f g : List Items) (s : Items) → IsFamily n f → IsFamily n g
    → interior (both f g) (interior g s) ≡ interior (both f g) s
both-right n f g s a b =
    interior-inside (both f g) s (interior g s) (interior-within g s)
    (λ k h w. interior-greatest g s k (both-parts f g k h).1 w) (both-closed n f g a b)

own-member : (n : ℕ) (f : List Items) (s : Items) → IsFamily n f → interior f s ≡ s → is_among f s
    ≡ true
own-member n f s a e =
    subst (λ t. is_among f t ≡ true) e (interior-is f a.holds_empty a.holds_unions s).member

pub both-fixed : (n : ℕ) (f g : List Items) (s : Items) → IsFamily n f → IsFamily n g → interior f s
    ≡ s → interior g s ≡ s → interior (both f g) s ≡ s
both-fixed n f g s a b d e =
    interior-member (both f g) s (both-from f g s (own-member n f s a d) (own-member n g s b e))

-- ---- the sets that two lists span

pub common-both : (n : ℕ) (b c : List Items) → common n b c ≡ both (spanned n b) (spanned n c)
unfolding common
common-both n b c = refl

pub among-common : (n : ℕ) (b c : List Items) (k : Items) → is_among (common n b c) k
    ≡ (is_among (spanned n b) k && is_among (spanned n c) k)
unfolding common
among-common n b c k = among-both (spanned n b) (spanned n c) k

pub common-IsFamily : (n : ℕ) (b c : List Items) → IsFamily n (common n b c)
unfolding common
common-IsFamily n b c =
    both-IsFamily n (spanned n b) (spanned n c) (spanned-IsFamily n b) (spanned-IsFamily n c)

common-parts : (n : ℕ) (b c : List Items) (k : Items) → is_among (common n b c) k ≡ true
    → (is_among (spanned n b) k ≡ true) × (is_among (spanned n c) k ≡ true)
unfolding common
common-parts n b c k h = both-parts (spanned n b) (spanned n c) k h

common-from : (n : ℕ) (b c : List Items) (k : Items) → is_among (spanned n b) k ≡ true
    → is_among (spanned n c) k ≡ true → is_among (common n b c) k ≡ true
unfolding common
common-from n b c k g h = both-from (spanned n b) (spanned n c) k g h

common-closed : (n : ℕ) (b c : List Items) → IsClosed (common n b c)
common-closed n b c = closed-family n (common n b c) (common-IsFamily n b c)

-- a set that the list spans, within s, is within the interior of s
spanned-keeps : (n : ℕ) (b : List Items) (s k : Items) → is_among (spanned n b) k ≡ true
    → IsWithin k s → IsWithin k (interior b s)
spanned-keeps n b s k c w i h =
    interior_grows b k s w i (ap (λ t. has t i) (spanned-whole n b k c) ∙ h)

pub common-left : (n : ℕ) (b c : List Items) (s : Items) → interior (common n b c) (interior b s)
    ≡ interior (common n b c) s
common-left n b c s =
    interior-inside (common n b c) s (interior b s) (interior-within b s)
    (λ k h w. spanned-keeps n b s k (common-parts n b c k h).0 w) (common-closed n b c)

pub common-right : (n : ℕ) (b c : List Items) (s : Items) → interior (common n b c) (interior c s)
    ≡ interior (common n b c) s
common-right n b c s =
    interior-inside (common n b c) s (interior c s) (interior-within c s)
    (λ k h w. spanned-keeps n c s k (common-parts n b c k h).1 w) (common-closed n b c)

fixed-spanned : (n : ℕ) (b : List Items) (s : Items) → IsWithin s (full n) → interior b s ≡ s
    → is_among (spanned n b) s ≡ true
fixed-spanned n b s small e =
    among-spanned n b s ∙ and_from (is_within s (full n)) (is_same (interior b s) s)
    (is_within-from s (full n) small) ((Decides-is_same (interior b s) s).1 e)

pub common-fixed : (n : ℕ) (b c : List Items) (s : Items) → IsWithin s (full n) → interior b s ≡ s
    → interior c s ≡ s → interior (common n b c) s ≡ s
common-fixed n b c s small d e =
    interior-member (common n b c) s
    (common-from n b c s (fixed-spanned n b s small d) (fixed-spanned n c s small e))

pub interior-fewer : (b : List Items) (s : Items) → interior b s ≢ s → len (interior b s) < len s
interior-fewer b s other = fewer (interior b s) s (interior-within b s) other

-- the mesh is what both sides span
pub mesh-common : (n : ℕ) (x : Items) (left : List Items) (y : Items) (right : List Items)
    → IsInside x left → IsInside y right
    → mesh n x (spanned n left) y (spanned n right) ≡ common n (side n x left) (side n y right)
mesh-common n x left y right a b =
    let m = mesh n x (spanned n left) y (spanned n right) in
    let both = common n (side n x left) (side n y right) in
    let e =
    λ (k : Items). mesh-by_sides n x left y right k a b ∙ sym
    (among-common n (side n x left) (side n y right) k) in
    same_members m both (mesh-in_order n x (spanned n left) y (spanned n right))
    (common-IsFamily n (side n x left) (side n y right)).in_order
    (λ k c. sym (e k) ∙ c) (λ k c. e k ∙ c)

-- on items of the part, a side shows what its sets show
pub side-shows : (n : ℕ) (x : Items) (sets : List Items) (p : Items) → IsInside x sets
    → IsWithin p x → projection n p (spanned n (side n x sets)) ≡ projection n p (spanned n sets)
side-shows n x sets p within w =
    let f = spanned n (side n x sets) in
    let g = spanned n sets in
    let on_f = (spanned-IsFamily n (side n x sets)).small in
    let on_g = (spanned-IsFamily n sets).small in
    same_members (projection n p f) (projection n p g) (projection-in_order n p f)
    (projection-in_order n p g)
    (λ s c.
    let r = projection-from n p f s c in
    let e : meet p (meet x r.0) ≡ meet p r.0 = twice p x r.0 w in
    let d = sym (spanned-side n x sets r.0 within (on_f r.0 r.1)) ∙ r.1 in
    subst (λ t. is_among (projection n p g) t ≡ true) (e ∙ sym r.2)
    (among-trace n p g (meet x r.0) on_g d))
    (λ s c.
    let r = projection-from n p g s c in
    let e : meet x r.0 ≡ r.0 = inside x r.0 (part-inside n x sets within r.0 r.1) in
    let d =
    spanned-side n x sets r.0 within (on_g r.0 r.1) ∙ ap (is_among g) e ∙ r.1 in
    subst (λ t. is_among (projection n p f) t ≡ true) (sym r.2) (among-trace n p f r.0 on_f d))
  where
    twice : (p x k : Items) → IsWithin p x → meet p (meet x k) ≡ meet p k
    twice p x k w =
        same_set (meet p (meet x k)) (meet p k) (λ i. let a = w i in grind (arith, members))

    inside : (x k : Items) → IsWithin k x → meet x k ≡ k
    inside x k w = same_set (meet x k) k (λ i. let a = w i in grind (arith, members))

-- ---- agreement by bases

-- two projections are equal where what is needed of the meets is
pub shared-bases : (n : ℕ) (p : Items) (b c g h : List Items) → AreOn n b → AreOn n c → IsInOrder g
    → IsInOrder h
    → ((k : Items) → is_among g k ≡ is_among (meets_with p b) k)
    → ((k : Items) → is_among h k ≡ is_among (meets_with p c) k)
    → (projection n p (spanned n b) ≡ projection n p (spanned n c)) ↔ (needed g ≡ needed h)
shared-bases n p b c g h on_b on_c order_g order_h same_g same_h =
    let f = spanned n b in
    let d = spanned n c in
    let f_family = spanned-IsFamily n b in
    let d_family = spanned-IsFamily n c in
    let x =
    projection-base n p f b g f_family.small (spanned-has n b on_b) (spanned-whole n b) order_g
    same_g in
    let y =
    projection-base n p d c h d_family.small (spanned-has n c on_c) (spanned-whole n c) order_h
    same_h in
    let e =
    same-bases n (projection n p f) (projection n p d) (projection-IsFamily n p f f_family)
    (projection-IsFamily n p d d_family) in
    (λ q. sym x ∙ e.0 q ∙ y, λ q. e.1 (x ∙ q ∙ sym y))

-- ---- parts with all items

pub covered-least : (n : ℕ) (x y : Items) → IsWithin x (full n) → IsWithin y (full n)
    → (union x y ≡ full n) ↔ (least (minus (full n) (union x y)) ≡ None)
covered-least n x y small_x small_y = (
  λ e. least-none (minus (full n) (union x y))
      (λ i. let a = ap (λ s. has s i) e in grind (arith, members)),
  λ e.
      same_set
      (union x y)
      (full n)
      (λ i. let a = least-none_left (minus (full n) (union x y)) i e in let b = small_x i in let
      c = small_y i in grind (arith, members)),
)
