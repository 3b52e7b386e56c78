-- The single items of a side, one after another.
use Rattle.std.proofs.Common.{ℕ, ◌<◌, ◌≡◌, ◌∙◌, true, eqb, eq-eqb, eqb-true, List, [], ◌∷◌, ◌++◌}
use Rattle.std.proofs.Common.{map, append_assoc, refl, sym, ap, ap₂, arith, ltb-true}
use Rattle.std.specs.List.{list_any}
use Rattle.std.proofs.lemmas.Bool.{or_left, or_right}
use Rattle.std.proofs.lemmas.Bool.Decides.{nat_tests}
use Rattle.ls_set.specs.ItemSet.{Items, has, empty, full, with, single, minus, items}
use Rattle.ls_set.proofs.Sets.{members, same_set}
use Rattle.ls_origins.proofs.ItemLists.{from-items}

any-middle : (ys : List ℕ) (i : ℕ) (rest : List ℕ) → list_any (eqb i) (ys ++ i ∷ rest) ≡ true
any-middle [] i rest = or_left (eqb i i) (list_any (eqb i) rest) (eq-eqb i i refl)
any-middle (y ∷ ys) i rest =
    or_right (eqb i y) (list_any (eqb i) (ys ++ i ∷ rest)) (any-middle ys i rest)

pub listed-has : (t : Items) (ys : List ℕ) (i : ℕ) (rest : List ℕ) → ys ++ i ∷ rest ≡ items t
    → has t i ≡ true
listed-has t ys i rest e =
    let r = from-items (eqb i) t (ap (list_any (eqb i)) (sym e) ∙ any-middle ys i rest) in
    ap (has t) (eqb-true i r.0 r.2) ∙ r.1

-- an item outside a part of n items
pub outside-below : (n : ℕ) (part : Items) (ys : List ℕ) (i : ℕ) (rest : List ℕ) → ys ++ i ∷ rest
    ≡ items (minus (full n) part) → i < n
outside-below n part ys i rest e =
    let h = listed-has (minus (full n) part) ys i rest e in
    ltb-true i n (grind (arith, members))

with-empty : (i : ℕ) → with empty i ≡ single i
with-empty i = same_set (with empty i) (single i) (λ j. grind (arith, members, nat_tests))

pub single-next : (sets made : List Items) (ys : List ℕ) (i : ℕ) (s : Items) → made ≡ sets
    ++ map single ys → s ≡ with empty i → made ++ s ∷ [] ≡ sets ++ map single (ys ++ i ∷ [])
single-next sets made ys i s e d =
    ap₂ (λ l t. l ++ t ∷ []) e (d ∙ with-empty i) ∙ append_assoc sets (map single ys)
    (single i ∷ []) ∙ ap (λ l. sets ++ l) (sym (map-more ys i))
  where
    map-more : (ys : List ℕ) (i : ℕ) → map single (ys ++ i ∷ []) ≡ map single ys ++ single i ∷ []
    map-more [] i = refl
    map-more (y ∷ ys) i = ap (λ l. single y ∷ l) (map-more ys i)
