-- What the spaces within a family force, in which Nos are broken.
use Rattle.std.specs.Prelude.{ℕ, ◌≡◌, true, ◌&&◌, List, filter}
use Rattle.std.specs.List.{list_all}
use Rattle.ls_set.specs.{Items, full, is_among, is_good}
use Rattle.ls_theory.specs.declared.no.No.{No}
use Rattle.ls_theory.specs.{is_space, some_breaks, sublists}
use Rattle.ls_laws.specs.Families.{IsFamily}

-- the spaces of members of the family f of which some member breaks each No
abbrev pub spaces_within : ℕ → List Items → List No → List (List Items)
spaces_within n f nos =
    filter (λ g. is_space (full n) g && list_all (λ a. some_breaks g a.query) nos) (sublists f)

-- a family with the full set, of which some member breaks each No; the queries of the Nos are good
pub record FitsNos (n : ℕ) (f : List Items) (nos : List No) : Type 0 where
  pub is_family : IsFamily n f
  pub holds_full : is_among f (full n) ≡ true
  pub are_good : list_all (λ a. is_good n a.query) nos ≡ true
  pub are_broken : list_all (λ a. some_breaks f a.query) nos ≡ true
