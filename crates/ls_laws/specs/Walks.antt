-- Sequences of members, by which a family is well graded. (Well-gradedness, as a relation.)
use Rattle.std.specs.Prelude.{◌≡◌, true, List, [], ◌∷◌, length}
use Rattle.ls_set.specs.{Items, differing, is_among, len}

-- From k through the sets of the list to l: each of them is a member, and differs
-- from the one before it in exactly one item.
abbrev pub LeadsTo : List Items → Items → List Items → Items → Type 0
LeadsTo f k [] l = k ≡ l
LeadsTo f k (s ∷ ss) l = (is_among f s ≡ true) × (len (differing k s) ≡ 1) × LeadsTo f s ss l

-- a list of members that leads from k to l, in as many steps as there are items
-- in exactly one of the two
pub record TightPath (f : List Items) (k l : Items) : Type 0 where
  pub steps : List Items
  pub leads : LeadsTo f k steps l
  pub shortest : length steps ≡ len (differing k l)

-- any two members are joined by such a list
abbrev pub IsWellGraded : List Items → Type 0
IsWellGraded f = (k l : Items) → is_among f k ≡ true → is_among f l ≡ true → TightPath f k l
