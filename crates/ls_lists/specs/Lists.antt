-- Words for lists: their elements, their order, and how they are joined and written over.
use Rattle.std.specs.Prelude.{◌≡◌, ◌⊎◌, ℕ, ◌+◌, ◌<◌, Bool, true, List, [], ◌∷◌, ◌++◌}
use Rattle.std.specs.Prelude.{map, take, drop, Option, Some, None}
use Rattle.std.specs.List.{AllByRecursion, flat_map}

-- x is an element of the list
abbrev pub IsIn : {X : Type 0} → X → List X → Type 0
IsIn x [] = ⊥
IsIn x (y ∷ ys) = (x ≡ y) ⊎ IsIn x ys

-- each element comes before each later one
abbrev pub IsSorted : {X : Type 0} → (X → X → Bool) → List X → Type 0
IsSorted before [] = Unit {0}
IsSorted {X} before (x ∷ xs) = ((y : X) → IsIn y xs → before x y ≡ true) × IsSorted before xs

-- each later number is greater
abbrev pub IsRising : List ℕ → Type 0
IsRising [] = Unit {0}
IsRising (x ∷ xs) = AllByRecursion (λ y. x < y) xs × IsRising xs

-- what parts a further word from those before it
abbrev pub gap : {X : Type 0} → List X → List ℕ
gap [] = []
gap (x ∷ xs) = 32 ∷ []

-- the bytes of each, behind a space
abbrev pub spaced : {X : Type 0} → (X → List ℕ) → List X → List ℕ
spaced f xs = flat_map (λ x. 32 ∷ f x) xs

-- the images by g of the elements before the place, and then those by h
abbrev pub images : {X Y : Type 0} → (X → Y) → (X → Y) → List X → ℕ → List Y
images g h xs i = map g (take i xs) ++ map h (drop i xs)

-- where the place that was found in what follows the first n elements stands in the whole list
unfoldable pub shifted : ℕ → Option ℕ → Option ℕ
shifted n None = None
shifted n (Some i) = Some (n + i)
