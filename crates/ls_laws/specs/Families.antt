-- Families: lists of sets in the order, closed under union.
use Rattle.std.specs.Prelude.{ℕ, ◌≡◌, true, List}
use Rattle.ls_set.specs.{IsInOrder, IsInOrder-prop, Items, empty, is_among, union}
use Rattle.ls_laws.specs.Spans.{AreOn}
use mathlib.Core.Bool.{Bool-set}

-- with any two members their union is one
abbrev pub IsUnionClosed : List Items → Type 0
IsUnionClosed f = (s t : Items)
    → is_among f s ≡ true
    → is_among f t ≡ true
    → is_among f (union s t) ≡ true

-- sets of items below n, in the order, with the empty set, and with any two members their union
pub record IsFamily (n : ℕ) (f : List Items) : Type 0 where
  pub in_order : IsInOrder f
  pub small : AreOn n f
  pub holds_empty : is_among f empty ≡ true
  pub holds_unions : IsUnionClosed f

-- any two proofs that a list is a family are equal
pub IsFamily-prop : (n : ℕ) (f : List Items) → IsProp (IsFamily n f)
IsFamily-prop n f = hlevel (IsInOrder-prop, Bool-set)
