-- Lists that are parted by a test, and put together again.
use Rattle.ls_class.proofs.Vocabulary.{◌++◌, ◌+◌, ◌<◌, ◌∙◌, ◌∷◌, ◌≡◌, Bool, List, ℕ, [], ap, ap₂, arith, count_by, eqb, eqb-true, filter, get_or, inl, inr, length, length-filter, map, map_more, not, refl, suc, sym, take, true, zero}
use Rattle.std.proofs.lemmas.Bool.{cases_Bool}

-- of those that pass, the one at the place has as many before it as pass there
pub place_of : {X Y : Type 0} (p : X → Bool) (h : X → Y) (xs : List X) (i : ℕ) (d : X) (e : Y) → i < length xs → p (get_or xs i d) ≡ true → get_or (map h (filter p xs)) (length (filter p (take i xs))) e ≡ h (get_or xs i d)
place_of p h [] i d e l t = absurd (omega arith)
place_of p h (x ∷ xs) zero d e l t = rw t refl
place_of p h (x ∷ xs) (suc i) d e l t = elim (cases_Bool (p x)) [
  | inl in_p ↦ rw in_p (place_of p h xs i d e (omega arith) t)
  | inr out ↦ rw out (place_of p h xs i d e (omega arith) t)
]

-- where none fails, all pass
pub none_fails : {X : Type 0} (p : X → Bool) (xs : List X) → filter (λ x. not (p x)) xs ≡ [] → filter p xs ≡ xs
none_fails p [] e = refl
none_fails p (x ∷ xs) e = elim (cases_Bool (p x)) [
  | inl in_p ↦ rw in_p (ap (λ l. x ∷ l) (none_fails p xs (rw in_p at e)))
  | inr out ↦ absurd (let some = rw out at e in grind (arith, some))
]

-- where none passes, all fail
pub none_passes : {X : Type 0} (p : X → Bool) (xs : List X) → filter p xs ≡ [] → filter (λ x. not (p x)) xs ≡ xs
none_passes p [] e = refl
none_passes p (x ∷ xs) e = elim (cases_Bool (p x)) [
  | inl in_p ↦ absurd (let some = rw in_p at e in grind (arith, some))
  | inr out ↦ rw out (ap (λ l. x ∷ l) (none_passes p xs (rw out at e)))
]

-- images of those that pass
pub map_passing : {X Y : Type 0} (p : X → Bool) (g h : X → Y) (xs : List X) → ((x : X) → p x ≡ true → g x ≡ h x) → map g (filter p xs) ≡ map h (filter p xs)
map_passing p g h [] e = refl
map_passing p g h (x ∷ xs) e = elim (cases_Bool (p x)) [
  | inl in_p ↦ rw in_p (ap (λ y. y ∷ map g (filter p xs)) (e x in_p) ∙ ap (λ l. h x ∷ l) (map_passing p g h xs e))
  | inr out ↦ rw out (map_passing p g h xs e)
]

-- one more is put behind what is known so far, if it is the next of those that pass
pub next_known : {X Y : Type 0} (known : X → Y) (p : X → Bool) (xs : List X) (i : ℕ) (x : X) (passing so_far : List Y) (n : ℕ) (y : Y) → i < length xs → p (get_or xs i x) ≡ true → n ≡ count_by p (take i xs) → y ≡ get_or passing n y → passing ≡ map known (filter p xs) → so_far ≡ map known (take i xs) → so_far ++ y ∷ [] ≡ map known (take (i + 1) xs)
next_known known p xs i x passing so_far n y l t count own is before =
    let here : y ≡ known (get_or xs i x) = own ∙ ap₂ (λ ys m. get_or ys m y) is (count ∙ sym (length-filter p (take i xs))) ∙ place_of p known xs i x y l t in
    ap₂ (λ ys z. ys ++ z ∷ []) before here ∙ sym (map_more known xs i x l)

-- a list without an element
pub none_left : {X : Type 0} (xs : List X) → eqb (length xs) 0 ≡ true → xs ≡ []
none_left [] e = refl
none_left (x ∷ xs) e = absurd (omega (arith, eqb-true (length (x ∷ xs)) 0 e))
