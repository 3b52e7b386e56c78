-- What laws say of the sides of a mesh.
use Rattle.std.specs.Prelude.{ℕ, zero, suc, ◌≡◌, true, List, filter}
use Rattle.ls_set.specs.ItemSet.{Items, empty, full, union, meet, minus, is_among, IsInOrder}
use Rattle.ls_set.specs.ItemSet.{IsWithin}
use Rattle.ls_theory.specs.Families.{interior}
use Rattle.ls_laws.specs.Spans.{spanned}
use Rattle.ls_laws.specs.Families.{IsUnionClosed}

-- each set of the list lies within the part
abbrev pub IsInside : Items → List Items → Type 0
IsInside x f = (k : Items) → is_among f k ≡ true → IsWithin k x

-- a list with the empty set and the union of any two of its sets
pub record IsClosed (f : List Items) : Type 0 where
  pub holds_empty : is_among f empty ≡ true
  pub holds_unions : IsUnionClosed f

-- the interior of s on one side: that of its part in x, with the items of s outside x free
abbrev pub side_interior : Items → List Items → Items → Items
side_interior x f s = union (interior f (meet x s)) (minus s x)

-- one turn: the interior on one side, and then that on the other
abbrev pub both_sides : Items → List Items → Items → List Items → Items → Items
both_sides x f y g s = side_interior y g (side_interior x f s)

-- m turns
abbrev pub turns : Items → List Items → Items → List Items → ℕ → Items → Items
turns x f y g zero s = s
turns x f y g (suc m) s = turns x f y g m (both_sides x f y g s)

-- a family on a part of the n items: sets within the part, in the order
pub record IsSide (n : ℕ) (x : Items) (f : List Items) : Type 0 where
  pub in_order : IsInOrder f
  pub small : IsWithin x (full n)
  pub inside : IsInside x f

-- one such family on each part
pub record AreSides (n : ℕ) (x : Items) (f : List Items) (y : Items) (g : List Items) : Type 0 where
  pub left : IsSide n x f
  pub right : IsSide n y g

-- the members of both families
abbrev pub both : List Items → List Items → List Items
both f g = filter (λ k. is_among g k) f

-- the sets of the n items that both lists span
unfoldable pub common : ℕ → List Items → List Items → List Items
common n b c = filter (λ k. is_among (spanned n c) k) (spanned n b)
