-- The items of the queries of a set that were asked, one answer after another.
use Rattle.ls_drill.proofs.Vocabulary.{◌<◌, ◌+◌, ◌||◌, ◌∙◌, ◌∷◌, ◌≡◌, ◌&&◌, Answer, Bool, Items, List, Query, ℕ, add-one, ap, ap₂, arith, cond, drop, eqb, drop-cons, get_or, has, has-with, is_same, is_same_query, length, false, list_any, nat_tests, refl, sym, true, with}

-- the query of the set and the item is that of the answer
abbrev pub asks : Items → ℕ → Answer → Bool
asks set q a = let r : Query = record { a = set; q = q } in is_same_query a.query r

any-step : {X : Type 0} (p : X → Bool) (xs : List X) (k : ℕ) (x : X) → k < length xs → x ≡ get_or xs k x → list_any p (drop k xs) ≡ (p x || list_any p (drop (k + 1) xs))
any-step p xs k x l e = ap (list_any p) (drop-cons xs k x l ∙ ap₂ (λ y n. y ∷ drop n xs) (sym e) (sym (add-one k)))

more : (items : Items) (k q : ℕ) (b rest : Bool) → (has (cond b (with items k) items) q || rest) ≡ (has items q || ((b && eqb k q) || rest))
more items k q true rest = grind (arith, nat_tests, has-with items k q)
more items k q false rest = refl

-- one more answer is looked at
pub asked-step : (answers : List Answer) (set items : Items) (k q : ℕ) (a : Answer) (all : Bool) → k < length answers → a ≡ get_or answers k a
    → (has items q || list_any (asks set q) (drop k answers)) ≡ all
    → (has (cond (is_same a.query.a set) (with items a.query.q) items) q || list_any (asks set q) (drop (k + 1) answers)) ≡ all
asked-step answers set items k q a all l e h =
    more items a.query.q q (is_same a.query.a set) (list_any (asks set q) (drop (k + 1) answers))
    ∙ ap (λ b. has items q || b) (sym (any-step (asks set q) answers k a l e)) ∙ h
