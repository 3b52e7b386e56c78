-- What stands at a place of a list, and the first place whose element passes.
use Rattle.ls_lists.proofs.Vocabulary.{◌++◌, ◌+◌, ◌-◌, ◌<◌, ◌∙◌, ◌∷◌, ◌≡◌, ◌≤◌, Bool, List, None, Option, Some, ℕ, [], add-one, ap, ap₂, arith, cases_Bool, cases_lt, cond, drop, drop-append-le, drop-map, drop_all, drop_more, false, get_or, inl, inr, is_some, le-ltb, length, length-append, length-drop, list_any, lt-ltb, ltb, map, map-append, map_push, shifted, option_map, position, position_or_len, refl, remove, slice_get, slice_get-map, slice_range, suc, sym, take, take-append-le, take-map, true, true≢false, zero}
use Rattle.std.proofs.lemmas.Bool.Decides.{nat_tests}
use Rattle.std.proofs.Math.Seq.{take-length, drop-append_seam, take-append_seam}
use Rattle.ls_lists.proofs.Options.{is_some-mapped}

-- ---- the first element

pub no_first : {X : Type 0} (xs : List X) → slice_get xs 0 ≡ None → xs ≡ []
no_first [] e = refl
no_first (x ∷ xs) e = absurd (cc e)

pub begun-some : {X : Type 0} (xs : List X) (x : X) → Some x ≡ slice_get xs 0 → 0 < length xs
begun-some [] x e = cc
begun-some (y ∷ xs) x e = omega arith

-- the first of what is joined is that of the front, or else that of the rest
pub first-front : {X : Type 0} (xs ys : List X) (x : X) → slice_get xs 0 ≡ Some x → slice_get (xs ++ ys) 0 ≡ Some x
first-front [] ys x e = absurd (cc e)
first-front (z ∷ zs) ys x e = e

-- ---- one more element

pub get-map : {X Y : Type 0} (h : X → Y) (xs : List X) (i : ℕ) (x : X) → slice_get xs i ≡ Some x → slice_get (map h xs) i ≡ Some (h x)
get-map h xs i x e = slice_get-map h xs i ∙ ap (option_map h) e

pub take-next : {X : Type 0} (xs : List X) (i : ℕ) (x : X) → slice_get xs i ≡ Some x → take (suc i) xs ≡ take i xs ++ x ∷ []
take-next [] i x e = cc
take-next (y ∷ xs) zero x e = let same : y ≡ x = cc in rw same refl
take-next (y ∷ xs) (suc i) x e = ap (λ l. y ∷ l) (take-next xs i x e)

pub take-none : {X : Type 0} (xs : List X) (i : ℕ) → slice_get xs i ≡ None → take i xs ≡ xs
take-none [] zero e = refl
take-none [] (suc i) e = refl
take-none (y ∷ xs) zero e = cc
take-none (y ∷ xs) (suc i) e = ap (λ l. y ∷ l) (take-none xs i e)

pub mapped-next : {X Y : Type 0} (h : X → Y) (xs : List X) (i : ℕ) (x : X) → slice_get xs i ≡ Some x → map h (take i xs) ++ h x ∷ [] ≡ map h (take (i + 1) xs)
mapped-next h xs i x e = sym (map_push h (take i xs) x) ∙ ap (map h) (sym (take-next xs i x e) ∙ ap (λ j. take j xs) (sym (add-one i)))

pub drop-next : {X : Type 0} (xs : List X) (i : ℕ) (x : X) → i < length xs → x ≡ get_or xs i x → drop i xs ≡ x ∷ drop (i + 1) xs
drop-next xs i x l e = drop_more xs i x l ∙ ap (λ y. y ∷ drop (i + 1) xs) (sym e)

-- what stands at a place, and after it
pub at_place : {X : Type 0} (all : List X) (p : ℕ) (x : X) (rest : List X) → drop p all ≡ x ∷ rest → (slice_get all p ≡ Some x) × (drop (suc p) all ≡ rest)
at_place [] zero x rest e = cc
at_place [] (suc p) x rest e = cc
at_place (y ∷ all) zero x rest e = (let q : y ≡ x = cc in ap Some q, let q : all ≡ rest = cc in q)
at_place (y ∷ all) (suc p) x rest e = at_place all p x rest e

-- ---- parts

pub map-remove : {X Y : Type 0} (f : X → Y) (xs : List X) (m : ℕ) → map f (remove xs m) ≡ remove (map f xs) m
map-remove f xs m = map-append f (take m xs) (drop (suc m) xs) ∙ ap₂ (λ a b. a ++ b) (sym (take-map f m xs)) (sym (drop-map f (suc m) xs))

pub drop-parts : {X : Type 0} (k : ℕ) (xs ys : List X) → drop k xs ++ drop (k - length xs) ys ≡ drop k (xs ++ ys)
drop-parts zero xs ys = ap (λ n. xs ++ drop n ys) (let e : 0 - length xs ≡ 0 = omega arith in e)
drop-parts (suc k) [] ys = ap (λ n. drop n ys) (let e : suc k - 0 ≡ suc k = omega arith in e)
drop-parts (suc k) (x ∷ xs) ys = ap (λ n. drop k xs ++ drop n ys) (let e : suc k - suc (length xs) ≡ k - length xs = omega arith in e) ∙ drop-parts k xs ys

pub without_last : {X : Type 0} (xs : List X) (x : X) → take (length (xs ++ x ∷ []) - 1) (xs ++ x ∷ []) ≡ xs
without_last xs x =
    let shorter : length (xs ++ x ∷ []) - 1 ≡ length xs = omega (arith, length-append xs (x ∷ [])) in
    rw shorter (take-append_seam xs (x ∷ []))

pub part-kept : {X : Type 0} (bs xs : List X) (i j : ℕ) → i ≤ j → j ≤ length bs → slice_range (bs ++ xs) i j ≡ slice_range bs i j
part-kept bs xs i j h l =
    ap (take (j - i)) (drop-append-le i bs xs (omega arith)) ∙ take-append-le (j - i) (drop i bs) xs (omega (arith, length-drop i bs))

pub part-last : {X : Type 0} (bs xs : List X) → slice_range (bs ++ xs) (length bs) (length (bs ++ xs)) ≡ xs
part-last bs xs =
    let n : length (bs ++ xs) - length bs ≡ length xs = omega (arith, length-append bs xs) in
    ap₂ take n (drop-append_seam bs xs) ∙ take-length xs

-- ---- the first place whose element passes

first : (l : ℕ) → cond {A = Option ℕ} (ltb 0 (suc l)) (Some 0) None ≡ Some 0
first l = grind (arith, nat_tests)

pub position-here : {X : Type 0} (p : X → Bool) (x : X) (xs : List X) → p x ≡ true → position p (x ∷ xs) ≡ Some 0
position-here p x xs e = rw e (first (length xs))

later : (m l : ℕ) → cond (ltb (1 + m) (suc l)) (Some (1 + m)) None ≡ option_map (λ i. 1 + i) (cond (ltb m l) (Some m) None)
later m l = elim (cases_lt m l) [ inl h ↦ grind (arith, nat_tests) | inr h ↦ grind (arith, nat_tests) ]

pub position-later : {X : Type 0} (p : X → Bool) (x : X) (xs : List X) → p x ≡ false → position p (x ∷ xs) ≡ option_map (λ i. 1 + i) (position p xs)
position-later p x xs e = rw e (later (position_or_len p xs) (length xs))

-- some element passes exactly where there is such a place
pub is_some-position : {X : Type 0} (p : X → Bool) (xs : List X) → is_some (position p xs) ≡ list_any p xs
is_some-position p [] = refl
is_some-position p (x ∷ xs) =
    elim (cases_Bool (p x)) [
      | inl e ↦ ap is_some (position-here p x xs e) ∙ rw e refl
      | inr e ↦ ap is_some (position-later p x xs e) ∙ is_some-mapped (λ i. 1 + i) (position p xs) ∙ is_some-position p xs ∙ rw e refl
    ]

pub position-map : {X Y : Type 0} (f : X → Y) (p : Y → Bool) (xs : List X) → position (λ x. p (f x)) xs ≡ position p (map f xs)
position-map f p [] = refl
position-map f p (x ∷ xs) =
    elim (cases_Bool (p (f x))) [
      | inl e ↦ position-here (λ a. p (f a)) x xs e ∙ sym (position-here p (f x) (map f xs) e)
      | inr e ↦ position-later (λ a. p (f a)) x xs e ∙ ap (option_map (λ i. 1 + i)) (position-map f p xs) ∙ sym (position-later p (f x) (map f xs) e)
    ]

pub position-lt : {X : Type 0} (p : X → Bool) (xs : List X) (i : ℕ) → position p xs ≡ Some i → i < length xs
position-lt p xs i e = elim (cases_lt (position_or_len p xs) (length xs)) [
  | inl l ↦ let f : Some (position_or_len p xs) ≡ Some i = rw (lt-ltb _ _ l) at e in let same : position_or_len p xs ≡ i = cc in omega arith
  | inr g ↦ absurd (let f : None ≡ Some i = rw (le-ltb _ _ g) at e in cc)
]

pub first_within : {X : Type 0} (p : X → Bool) (xs : List X) → list_any p xs ≡ true → position_or_len p xs < length xs
first_within p [] e = absurd (true≢false (sym e))
first_within p (x ∷ xs) e = grind (arith, first_within p xs)

-- ---- the place in the whole list

pub moved-zero : (o : Option ℕ) → o ≡ shifted 0 o
unfolding shifted
moved-zero None = refl
moved-zero (Some i) = ap Some (omega arith)

pub moved-one : (n : ℕ) (o : Option ℕ) → shifted n (option_map (λ i. 1 + i) o) ≡ shifted (n + 1) o
unfolding shifted
moved-one n None = refl
moved-one n (Some i) = ap Some (omega arith)

module _ {X : Type 0} (p : X → Bool) (xs : List X) where
  pub moved-here : (n : ℕ) (d : X) → n < length xs → p (get_or xs n d) ≡ true → shifted n (position p (drop n xs)) ≡ Some n
  unfolding shifted
  moved-here n d lt e = ap (λ l. shifted n (position p l)) (drop_more xs n d lt) ∙ ap (shifted n) (position-here p (get_or xs n d) (drop (n + 1) xs) e) ∙ ap Some (omega arith)

  pub moved-next : (n : ℕ) (d : X) → n < length xs → p (get_or xs n d) ≡ false → shifted n (position p (drop n xs)) ≡ shifted (n + 1) (position p (drop (n + 1) xs))
  moved-next n d lt e =
      ap (λ l. shifted n (position p l)) (drop_more xs n d lt) ∙ ap (shifted n) (position-later p (get_or xs n d) (drop (n + 1) xs) e) ∙ moved-one n (position p (drop (n + 1) xs))

  pub moved-none : (n : ℕ) → length xs ≤ n → shifted n (position p (drop n xs)) ≡ None
  unfolding shifted
  moved-none n le = ap (λ l. shifted n (position p l)) (drop_all n xs le) ∙ refl
