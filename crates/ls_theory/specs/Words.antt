-- Words on lists that the definitions share.
use Rattle.std.specs.Prelude.{ℕ, ◌*◌, Bool, true, false, ◌&&◌, ◌||◌, ◌==◌, nat_lt, nat_le}
use Rattle.std.specs.Prelude.{List, [], ◌∷◌, ◌++◌, map, find, Option}
use Rattle.std.specs.List.{list_all}

-- the sublists: the elements of each stand in the order of the list
abbrev pub sublists : {X : Type 0} → List X → List (List X)
sublists [] = [] ∷ []
sublists (x ∷ xs) = map (λ ys. x ∷ ys) (sublists xs) ++ sublists xs

-- each element with each later one: by the first, then by the second
abbrev pub pairs : {X : Type 0} → List X → List (X × X)
pairs [] = []
pairs (x ∷ xs) = map (λ y. (x, y)) xs ++ pairs xs

-- whether xs comes before ys in the lexicographic order
abbrev pub is_lex_before : List ℕ → List ℕ → Bool
is_lex_before xs [] = false
is_lex_before [] (y ∷ ys) = true
is_lex_before (x ∷ xs) (y ∷ ys) = nat_lt x y || (x == y && is_lex_before xs ys)

-- the first element whose value is least
abbrev pub first_least : {X : Type 0} → (X → ℕ) → List X → Option X
first_least value xs = find (λ x. list_all (λ y. nat_le (value x) (value y)) xs) xs

-- the first element whose value is greatest
abbrev pub first_greatest : {X : Type 0} → (X → ℕ) → List X → Option X
first_greatest value xs = find (λ x. list_all (λ y. nat_le (value y) (value x)) xs) xs

-- the product of the numbers, 1 of none
abbrev pub product : List ℕ → ℕ
product [] = 1
product (x ∷ xs) = x * product xs
