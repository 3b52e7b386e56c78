-- Lists that a loop writes over, element by element.
use Rattle.ls_lists.proofs.Vocabulary.{◌+◌, ◌<◌, ◌∙◌, ◌∷◌, ◌≡◌, ◌≤◌, Bool, List, Some, ℕ, [], add-one, ap, ap₂, arith, cond, count_by, drop, drop-set-lt, drop_more_same, get_or, get_or-drop, images, length, list_all, map, refl, set, slice_get, suc, sum_by_more, sym, take, true, true_from_ne_false, true≢false, zero}
use Rattle.std.proofs.lemmas.List.Folds.{list_all_at}

-- an element passes what all do
pub all-at : {X : Type 0} (p : X → Bool) (xs : List X) (i : ℕ) (x : X) → list_all p xs ≡ true → i < length xs → x ≡ get_or xs i x → p x ≡ true
all-at p xs i x h l e = true_from_ne_false (p x) (λ n. true≢false (sym h ∙ list_all_at p xs i x l (ap p (sym e) ∙ n)))

-- one more is counted where it passes
pub count-next : {X : Type 0} (p : X → Bool) (xs : List X) (i : ℕ) (x : X) → i < length xs → x ≡ get_or xs i x → count_by p (take (i + 1) xs) ≡ count_by p (take i xs) + cond (p x) 1 0
count-next p xs i x l e = sum_by_more (λ y. cond (p y) 1 0) xs i x l ∙ ap (λ y. count_by p (take i xs) + cond (p y) 1 0) (sym e)

-- what is left stands as it did
pub left-at : {X : Type 0} (xs ys : List X) (i : ℕ) (x : X) → drop i ys ≡ drop i xs → x ≡ get_or ys i x → x ≡ get_or xs i x
left-at xs ys i x left e =
    let here : i + 0 ≡ i = omega arith in
    e ∙ ap (λ j. get_or ys j x) (sym here) ∙ sym (get_or-drop i ys 0 x) ∙ ap (λ zs. get_or zs 0 x) left ∙ get_or-drop i xs 0 x ∙ ap (λ j. get_or xs j x) here

pub left-next : {X : Type 0} (xs ys : List X) (i : ℕ) (x : X) → drop i ys ≡ drop i xs → drop (i + 1) (set ys i x) ≡ drop (i + 1) xs
left-next xs ys i x left = drop-set-lt (i + 1) ys i x (omega arith) ∙ drop_more_same ys xs i left

-- ---- the images by one map, and then those by another

pub images-at : {X Y : Type 0} (g h : X → Y) (xs : List X) (i : ℕ) (x : X) (d : Y) → slice_get xs i ≡ Some x → get_or (images g h xs i) i d ≡ h x
images-at g h [] i x d e = cc
images-at g h (y ∷ xs) zero x d e = let same : y ≡ x = cc in ap h same
images-at g h (y ∷ xs) (suc i) x d e = images-at g h xs i x d e

pub images-set : {X Y : Type 0} (g h : X → Y) (xs : List X) (i : ℕ) (x : X) → slice_get xs i ≡ Some x → set (images g h xs i) i (g x) ≡ images g h xs (suc i)
images-set g h [] i x e = cc
images-set g h (y ∷ xs) zero x e = let same : y ≡ x = cc in ap (λ z. g z ∷ map h xs) (sym same)
images-set g h (y ∷ xs) (suc i) x e = ap (λ l. g y ∷ l) (images-set g h xs i x e)

pub images-next : {X Y : Type 0} (g h : X → Y) (xs : List X) (ys : List Y) (i : ℕ) (x : X) (y : Y) → slice_get xs i ≡ Some x → ys ≡ images g h xs i → y ≡ g x → set ys i y ≡ images g h xs (i + 1)
images-next g h xs ys i x y e made same = ap₂ (λ zs z. set zs i z) made same ∙ images-set g h xs i x e ∙ ap (images g h xs) (sym (add-one i))

pub images-end : {X Y : Type 0} (g h : X → Y) (xs : List X) (i : ℕ) → length xs ≤ i → images g h xs i ≡ map g xs
images-end g h [] zero l = refl
images-end g h [] (suc i) l = refl
images-end g h (x ∷ xs) zero l = absurd (omega arith)
images-end g h (x ∷ xs) (suc i) l = ap (λ l. g x ∷ l) (images-end g h xs i (omega arith))
