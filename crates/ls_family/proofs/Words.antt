-- The words of a line, one by one.
use Rattle.ls_family.proofs.Vocabulary.{◌∙◌, ◌∷◌, ◌≡◌, ◌&&◌, Bad, Bool, Items, List, None, Set, Some, Text, Unknown, ℕ, [], ap, arith, cases_Bool, cond, empty, false, first_unnamed, fold, inl, inr, is_name, is_named, is_named-none, is_named-some, is_some, is_some-position, items_known, items_of, list_all, list_any, members, nat_tests, none-some, not, number_of, refl, same_Some, same_set, set_named, sym, true, union, union-empty_left, union-empty_right, with, with_word}

-- where one word gives no set, the others give none
from_none : (names ws : List Text) → fold (with_word names) None ws ≡ None
from_none names [] = refl
from_none names (w ∷ ws) = from_none names ws

-- an item may be put in on either side of a union
with-either : (s t : Items) (i : ℕ) → union (with s i) t ≡ union s (with t i)
with-either s t i = same_set _ _ (λ k. grind (arith, members, nat_tests))

never : {X : Type 0} (b : Bool) (x y : X) → cond (b && false) x y ≡ y
never true x y = refl
never false x y = refl

-- the set after more words, where those so far have the items of s
from_some : (names ws : List Text) (s : Items) → fold (with_word names) (Some s) ws
    ≡ cond (list_all is_name ws && not (list_any (λ w. not (is_named names w)) ws)) (Some (union s (items_of names ws))) None
from_some names [] s = ap Some (sym (union-empty_right s))
from_some names (w ∷ ws) s = elim (cases_Bool (is_name w)) [
  | inr e ↦ rw e (from_none names ws)
  | inl e ↦ elim (number_of names w) as (λ o. number_of names w ≡ o → fold (with_word names) (Some s) (w ∷ ws)
      ≡ cond (list_all is_name (w ∷ ws) && not (list_any (λ v. not (is_named names v)) (w ∷ ws))) (Some (union s (items_of names (w ∷ ws)))) None) [
        | None ↦ λ f. rw (e, f, is_named-none names w f) (from_none names ws ∙ sym (never (list_all is_name ws) _ None))
        | Some i ↦ λ f. rw (e, f, is_named-some names w i f) (from_some names ws (with s i) ∙ ap (λ t. cond (list_all is_name ws && not (list_any (λ v. not (is_named names v)) ws)) (Some t) None) (with-either s (items_of names ws) i))
      ] refl
]

-- the words of a line one by one, from the empty set on, make the set of their items
pub words-known : (names ws : List Text) → fold (with_word names) (Some empty) ws ≡ items_known names ws
words-known names ws =
    let first = is_some-position (λ w. not (is_named names w)) ws in
    from_some names ws empty ∙ rw (union-empty_left (items_of names ws), first) refl

-- ---- what a line is

pub set-known : (names ws : List Text) (s : Items) → items_known names ws ≡ Some s
    → set_named names ws ≡ Set s
set-known names ws s e = elim (cases_Bool (list_all is_name ws)) [
  | inr bad ↦ absurd (none-some s (rw bad at e))
  | inl good ↦ elim (cases_Bool (is_some (first_unnamed names ws))) [
    | inl some ↦ absurd (none-some s (rw (good, some) at e))
    | inr none ↦
        let same : Some (items_of names ws) ≡ Some s = rw (good, none) at e in
        rw (good, none) (ap Set (same_Some _ _ same))
  ]
]

pub set-unknown : (names ws : List Text) → items_known names ws ≡ None
    → list_all is_name ws ≡ true → set_named names ws ≡ Unknown
set-unknown names ws e good = elim (cases_Bool (is_some (first_unnamed names ws))) [
  | inl some ↦ rw (good, some) refl
  | inr none ↦
      let bad : Some (items_of names ws) ≡ None = rw (good, none) at e in
      absurd (none-some (items_of names ws) (sym bad))
]

pub set-bad : (names ws : List Text) → list_all is_name ws ≡ false → set_named names ws ≡ Bad
set-bad names ws e = rw e refl
