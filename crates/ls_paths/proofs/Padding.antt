-- Orders of all items, and the zeros behind a list in an array.
use Rattle.ls_paths.proofs.Vocabulary.{◌++◌, ◌-◌, ◌<◌, ◌∙◌, ◌∷◌, ◌≡◌, ◌≤◌, Bool, Decides-is_same, IsWithin, Items, List, None, Some, ℕ, [], and_from, ap, arith, drop, drop-replicate, empty, eq-eqb, eqb, eqb-true, false, false_from_ne_true, filter, find, first_growth, full, has, has-full, is_order, is_same, length, length-append, length-drop, length-replicate, length-take-le, lt-ltb, ltb, ltb-true, not, grown_to, refl, replicate, set_of, slice_get, slice_get-filter, subst, sym, take, true, true≢false}
use Rattle.std.specs.List.{All}
use Rattle.std.proofs.lemmas.List.Elements.{All-from_get_or}
use Rattle.std.proofs.lemmas.Slice.{drop-append-drop}
use Rattle.ls_paths.proofs.Levels.{first-long, order-parts, reached-all}
use Rattle.ls_paths.proofs.Written.{place-small}

-- ---- zeros behind a list

pub zeros-behind : (most k : ℕ) (ys : List ℕ) → length ys ≡ k → drop k (ys ++ drop k (replicate most 0)) ≡ replicate (most - k) 0
zeros-behind most k ys e = drop-append-drop k (replicate most 0) ys k (omega arith) e ∙ drop-replicate k most 0

pub as-long : (most k : ℕ) (ys : List ℕ) → length ys ≡ k → k ≤ most → length (ys ++ drop k (replicate most 0)) ≡ most
as-long most k ys e l =
    let zeros : List ℕ = replicate most 0 in
    let all : length zeros ≡ most = length-replicate most (let z : ℕ = 0 in z) in
    let left : length (drop k zeros) ≡ length zeros - k = length-drop k zeros in
    length-append ys (drop k zeros) ∙ omega (arith, e, l, all, left)

-- the first growth from a set, as long as the part that it is written into
pub grown-length : (most k n : ℕ) (f : List Items) (s : Items) (ys : List ℕ) → (let zeros : List ℕ = replicate most 0 in ys ≡ first_growth n f (length (take k zeros)) s) → k ≤ most → length ys ≡ k
grown-length most k n f s ys e l =
    let zeros : List ℕ = replicate most 0 in
    let all : length zeros ≡ most = length-replicate most (let z : ℕ = 0 in z) in
    ap length e ∙ first-long n f (length (take k zeros)) s ∙ length-take-le k zeros (omega arith)

-- ---- orders of all items

pub order-within : (n : ℕ) (order : List ℕ) → is_order n order ≡ true → IsWithin (grown_to empty order) (full n)
order-within n order h i a = subst (λ (s : Items). has s i ≡ true) (reached-all order ∙ (order-parts n order h).all) a

pub order-small : (n most : ℕ) (order : List ℕ) → n ≤ most → is_order n order ≡ true → IsWithin (set_of order) (full most)
order-small n most order l h i a =
    let e : has (full n) i ≡ true = subst (λ (s : Items). has s i ≡ true) (order-parts n order h).all a in
    wider (sym (has-full n i) ∙ e)
  where
    wider : ltb i n ≡ true → has (full most) i ≡ true
    wider b = let m = ltb-true i n b in has-full most i ∙ lt-ltb i most (omega arith)

-- each of its items is one of the n
pub order-items : (n : ℕ) (order : List ℕ) → is_order n order ≡ true → All (λ i. i < n) order
order-items n order h = All-from_get_or (λ i. i < n) order 0 (λ i l. place-small n order i (order-within n order h) l)

-- a list with another set is none
pub no-order : (n : ℕ) (order : List ℕ) → (is_order n order ≡ true → false ≡ true) → false ≡ is_order n order
no-order n order h = sym (false_from_ne_true (is_order n order) (λ a. true≢false (sym (h a))))

pub other-set : (n : ℕ) (order : List ℕ) (s t : Items) (r : Bool) → s ≡ set_of order → t ≡ full n → r ≡ not (eqb s.digits t.digits) → r ≡ true → false ≡ is_order n order
other-set n order s t r e h d a =
    no-order n order (λ o.
    let same : s ≡ t = e ∙ (order-parts n order o).all ∙ sym h in
    sym (ap not (eq-eqb s.digits t.digits (ap (λ (x : Items). x.digits) same))) ∙ sym d ∙ a)

pub an-order : (n m : ℕ) (order : List ℕ) (s t : Items) (r : Bool) → m ≡ length order → m ≡ n → s ≡ set_of order → t ≡ full n → r ≡ not (eqb s.digits t.digits) → r ≡ false → true ≡ is_order n order
an-order n m order s t r e k d h q a =
    let same : s ≡ t = ap (λ (x : ℕ). record { digits = x }) (eqb-true s.digits t.digits (held (eqb s.digits t.digits) (sym q ∙ a))) in
    sym (and_from (eqb (length order) n) (is_same (set_of order) (full n)) (eq-eqb (length order) n (sym e ∙ k)) ((Decides-is_same (set_of order) (full n)).1 (sym d ∙ same ∙ h)))
  where
    held : (b : Bool) → not b ≡ false → b ≡ true
    held true z = refl
    held false z = absurd (true≢false z)

-- ---- the first of those that are left

pub find-first_left : (p : List ℕ → Bool) (xs rest : List (List ℕ)) (y : List ℕ) → y ∷ rest ≡ filter p xs → Some y ≡ find p xs
find-first_left p xs rest y e = ap (λ l. slice_get l 0) e ∙ slice_get-filter p xs

pub find-none_left : (p : List ℕ → Bool) (xs : List (List ℕ)) → [] ≡ filter p xs → None ≡ find p xs
find-none_left p xs e = ap (λ l. slice_get l 0) e ∙ slice_get-filter p xs
