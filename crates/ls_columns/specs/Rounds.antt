-- Rounds in which items fall out of a set.
use Rattle.std.specs.Prelude.{ℕ, ◌≡◌, ◌≤◌, true, false, List, [], ◌∷◌, ◌++◌, length}
use Rattle.std.specs.List.{AllByRecursion}
use Rattle.ls_set.specs.{IsWithin, Items, has, is_among, most_items}
use Rattle.ls_set.specs.declared.query.Query.{Query}
use Rattle.ls_theory.specs.{breaks, breaks_none}
use Rattle.ls_columns.specs.Falling.{IsFalling}
use Rattle.ls_columns.specs.Places.{meets}

-- the rules of blocks, one block after another
abbrev pub joined : List (List Query) → List Query
joined [] = []
joined (b ∷ bs) = b ++ joined bs

-- for rules on n items: what falls with each item, and the rules in blocks
pub record IsColumned (n : ℕ) (rules : List Query) (count : ℕ) (falling : List Items)
    (blocks : List (List Query)) : Type 0 where
  pub counted : count ≡ n
  pub few : count ≤ most_items
  pub whole : length falling ≡ most_items
  pub sound : IsFalling rules falling
  pub all : joined blocks ≡ rules

-- the two sets have no item in common
abbrev pub IsApart : Items → Items → Type 0
IsApart s t = (i : ℕ) → has s i ≡ true → has t i ≡ false

-- the items that fell are not kept, and each rule that the kept set breaks has one of them in A
pub record Falling (rules : List Query) (fallen kept : Items) : Type 0 where
  pub apart : IsApart kept fallen
  pub awake : AllByRecursion (λ r. breaks kept r ≡ true → meets r.a fallen ≡ true) rules

-- what a round leaves of a kept set, in the inner family f. Each rule that was broken and has a
-- fallen item in A loses its item, no member that breaks no rule loses one, and where nothing
-- is lost the set is a member
pub record Narrows (f : List Items) (rules : List Query) (fallen kept next : Items) : Type 0 where
  pub within : IsWithin next kept
  pub taken : AllByRecursion (λ r. breaks kept r ≡ true → meets r.a fallen ≡ true →
      has next r.q ≡ false) rules
  pub greatest : (t : Items) → is_among f t ≡ true → breaks_none rules t ≡ true →
      IsWithin t kept → IsApart t fallen → IsWithin t next
  pub stays : next ≡ kept → is_among f kept ≡ true
