-- The place of the first word that names no item.
use Rattle.std.proofs.Common.{◌≡◌, ℕ, suc, ◌+◌, inl, inr, Bool, cond, not, List, [], ◌∷◌, ◌++◌, map, filter, Some, None, is_some, option_map, slice_get, refl, sym, ap, ◌∙◌, arith}
use Rattle.std.specs.declared.option.Option.{Option}
use Rattle.std.proofs.lemmas.Bool.{cases_Bool}
use Rattle.std.proofs.lemmas.List.{map-append}
use Rattle.std.proofs.lemmas.List.Elements.{filter-append}
use Rattle.ls_lists.proofs.Places.{first-front, position-here, position-later, is_some-position}
use Rattle.ls_lines.specs.{Text}
use Rattle.ls_domain.specs.Meanings.{is_named, number_of, first_unnamed}
use Rattle.ls_meaning.specs.{placed, unnamed}

next_place : (n : ℕ) (o : Option ℕ) → option_map (λ i. suc n + i) o ≡ option_map (λ i. n + i) (option_map (λ i. 1 + i) o)
next_place n None = refl
next_place n (Some i) = ap Some (omega arith)

module _ (names : List Text) where
  abbrev names_none : Text → Bool
  names_none w = not (is_named names w)

  -- of words that stand from place n on
  pub unnamed-placed : (ws : List Text) (n : ℕ) → slice_get (unnamed names (placed n ws)) 0 ≡ option_map (λ i. n + i) (first_unnamed names ws)
  unnamed-placed [] n = refl
  unnamed-placed (w ∷ ws) n =
      elim (cases_Bool (names_none w)) [
        | inl e ↦ rw (position-here names_none w ws e, e) (ap Some (omega arith))
        | inr e ↦ rw (position-later names_none w ws e, e) (unnamed-placed ws (suc n) ∙ next_place n (first_unnamed names ws))
      ]

  -- ---- words, one after the other

  module _ (front rest : List (ℕ × Text)) where
    unnamed-both : unnamed names (front ++ rest) ≡ unnamed names front ++ unnamed names rest
    unnamed-both =
        ap (map (λ w. w.0)) (filter-append (λ w. names_none w.1) front rest)
        ∙ map-append (λ w. w.0) (filter (λ w. names_none w.1) front) (filter (λ w. names_none w.1) rest)

    -- the first at fault is in front
    pub in_front : (place : ℕ) → slice_get (unnamed names front) 0 ≡ Some place → slice_get (unnamed names (front ++ rest)) 0 ≡ Some place
    in_front place e = ap (λ ps. slice_get ps 0) unnamed-both ∙ first-front (unnamed names front) _ place e

  -- ---- the word of an item

  module _ (p : ℕ) (item : Text) where
    named-is : (o : Option ℕ) → o ≡ number_of names item → is_named names item ≡ is_some o
    named-is o e = sym (ap is_some e ∙ is_some-position _ names)

    -- it is at fault where no item has the name
    pub unnamed-item : (o : Option ℕ) → o ≡ number_of names item → unnamed names ((p, item) ∷ []) ≡ cond (is_some o) [] (p ∷ [])
    unnamed-item None f = rw (named-is None f) refl
    unnamed-item (Some i) f = rw (named-is (Some i) f) refl
