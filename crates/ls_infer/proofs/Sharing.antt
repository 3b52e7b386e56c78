-- What the interior without an item tells of the closure with it, and what one such closure tells of the items in it.
use Rattle.ls_infer.proofs.Vocabulary.{◌&&◌, ◌<◌, ◌∙◌, ◌∷◌, ◌≡◌, ◌≤◌, ◌⊎◌, Bool, IsWithin, IsWithin-from, Items, List, None, Option, Some, ℕ, [], and_from, and_parts, ap, ap₂, arith, closure, closure_again, cond, empty, enough_for, eqb, false, false_from_ne_true, filter, full, has, has-empty, has-full, has-meet, has-minus, has-with, has-without, inl, inr, interior, interior-within, interior_grows, interior_keeping, is_some, is_within, is_within-from, items-within, least, least-cases, len, len-less, len-within, length, lt-ltb, ltb, ltb-true, meet, members, minus, minus_shrinks, nat_tests, not, not-false, not-true, not_from_false, numbers_from, or_right, refl, same_set, same_within, subst, suc, sym, true, true_from_ne_false, true≢false, with, without, without-within, zero}
use Rattle.ls_lists.proofs.Filters.{filter-fewer}
use Rattle.ls_set.proofs.Listed.{least-none_left}
use Rattle.ls_infer.proofs.Kept.{has-enough}
use Rattle.ls_infer.proofs.Outside.{out-parts, out-from, with-left, with-here, with-cases}

pub outside-with : (n : ℕ) (closed : Items) (r : ℕ) → minus (full n) (with closed r) ≡ without (minus (full n) closed) r
outside-with n closed r = same_set (minus (full n) (with closed r)) (without (minus (full n) closed) r) (λ i. grind (arith, members, nat_tests))

-- ---- the closure with an item, and the interior without it

abbrev pub inside_without : ℕ → List Items → Items → ℕ → Items
inside_without n f closed r = interior f (without (minus (full n) closed) r)

-- an item is in the closure with r where it is not in the interior without r
pub has-closure_with : (n : ℕ) (f : List Items) (closed : Items) (r i : ℕ) → i < n → has (closure (full n) f (with closed r)) i ≡ not (has (inside_without n f closed r) i)
has-closure_with n f closed r i l =
    has-minus (full n) (interior f (minus (full n) (with closed r))) i
    ∙ ap (λ b. b && not (has (interior f (minus (full n) (with closed r))) i)) (has-full n i ∙ lt-ltb i n l)
    ∙ ap (λ s. not (has (interior f s) i)) (outside-with n closed r)

pub is_within-one : (q : ℕ) (s : Items) → is_within (with empty q) s ≡ has s q
is_within-one q s = elim (has s q) as (λ b. has s q ≡ b → is_within (with empty q) s ≡ b) [
  | true ↦ λ h. is_within-from (with empty q) s (λ i a. elim (with-cases empty q i a) [
    | inl e ↦ absurd (true≢false (sym e ∙ has-empty i))
    | inr e ↦ subst (λ j. has s j ≡ true) (sym e) h
  ])
  | false ↦ λ h. false_from_ne_true (is_within (with empty q) s) (λ w. true≢false (sym (IsWithin-from (with empty q) s w q (with-here empty q)) ∙ h))
] refl

none-chosen : (b : Bool) (x : Items) → cond b (Some x) None ≡ None → b ≡ false
none-chosen true x h = cc
none-chosen false x h = refl

pub some-chosen : (b : Bool) (x k : Items) → cond b (Some x) None ≡ Some k → (b ≡ true) × (k ≡ x)
some-chosen true x k h = (refl, cc)
some-chosen false x k h = cc

-- where the interior that keeps q is none, q is in the closure
pub hit : (n : ℕ) (f : List Items) (closed outside keep : Items) (q r : ℕ) → q < n → outside ≡ minus (full n) closed → keep ≡ with empty q → None ≡ interior_keeping f (without outside r) keep
    → has (closure (full n) f (with closed r)) q ≡ true
hit n f closed outside keep q r l o k h =
    let inside = inside_without n f closed r in
    let told : interior_keeping f (without (minus (full n) closed) r) (with empty q) ≡ None = sym (h ∙ ap₂ (λ s t. interior_keeping f (without s r) t) o k) in
    has-closure_with n f closed r q l ∙ ap not (sym (is_within-one q inside) ∙ none-chosen (is_within (with empty q) inside) inside told)

-- and where it is one, q is not, and that is the interior
pub miss : (n : ℕ) (f : List Items) (closed outside keep : Items) (q r : ℕ) (missed : Items) → q < n → outside ≡ minus (full n) closed → keep ≡ with empty q → Some missed ≡ interior_keeping f (without outside r) keep
    → (has (closure (full n) f (with closed r)) q ≡ false) × (missed ≡ inside_without n f closed r)
miss n f closed outside keep q r missed l o k h =
    let inside = inside_without n f closed r in
    let told : interior_keeping f (without (minus (full n) closed) r) (with empty q) ≡ Some missed = sym (h ∙ ap₂ (λ s t. interior_keeping f (without s r) t) o k) in
    let p = some-chosen (is_within (with empty q) inside) inside missed told in
    (has-closure_with n f closed r q l ∙ ap not (sym (is_within-one q inside) ∙ p.0), p.1)

-- so q is in the closure with r where nothing is kept without r
pub told : (n : ℕ) (f : List Items) (closed outside keep : Items) (q r : ℕ) (kept : Option Items) (none : Bool) → q < n → outside ≡ minus (full n) closed → keep ≡ with empty q
    → kept ≡ interior_keeping f (without outside r) keep → is_some kept ≡ not none → none ≡ has (closure (full n) f (with closed r)) q
told n f closed outside keep q r None none l o k h e = not-false none (sym e) ∙ sym (hit n f closed outside keep q r l o k h)
told n f closed outside keep q r (Some missed) none l o k h e = not-true none (sym e) ∙ sym (miss n f closed outside keep q r missed l o k h).0

-- ---- what the closure with one item tells of the items in it

closure-shared : (n : ℕ) (f : List Items) (c : Items) (r s : ℕ) → has (closure (full n) f (with c r)) s ≡ true → IsWithin (closure (full n) f (with c s)) (closure (full n) f (with c r))
closure-shared n f c r s h i a =
    let whole = full n in
    let inside = interior f (minus whole (with c r)) in
    let wide = closure whole f (with c r) in
    subst (λ d. has d i ≡ true) (closure_again whole f (with c r)) (minus_shrinks whole (interior f (minus whole wide)) (interior f (minus whole (with c s))) (interior_grows f (minus whole wide) (minus whole (with c s)) (λ j b.
    let p = out-parts whole wide j b in
    out-from whole (with c s) j p.0 (false_from_ne_true (has (with c s) j) (λ e. elim (with-cases c s j e) [
      | inl x ↦ true≢false (sym (out-from whole inside j p.0 (false_from_ne_true (has inside j) (λ y.
          true≢false (sym (with-left c r j x) ∙ (out-parts whole (with c r) j (interior-within f (minus whole (with c r)) j y)).1)))) ∙ p.1)
      | inr x ↦ true≢false (sym (subst (λ k. has wide k ≡ true) (sym x) h) ∙ p.1)
    ])))) i a)

-- where r is not enough, what is enough is in the interior without r
pub enough-missed : (n : ℕ) (f : List Items) (closed : Items) (q r : ℕ) → has (closure (full n) f (with closed r)) q ≡ false → IsWithin (enough_for n f closed q) (inside_without n f closed r)
enough-missed n f closed q r lacks i h =
    let p = and_parts (ltb i n) (has (closure (full n) f (with closed i)) q) (sym (has-enough n f closed q i) ∙ h) in
    let l : i < n = grind (arith, nat_tests, p.0) in
    true_from_ne_false (has (inside_without n f closed r) i) (λ e.
    true≢false (sym (closure-shared n f closed r i (has-closure_with n f closed r i l ∙ ap not e) q p.1) ∙ lacks))

-- ---- what is enough, as far as it is found

-- the items found are enough, and all that are enough are found or left
pub record IsFound (enough found left : Items) : Type 0 where
  pub sound : IsWithin found enough
  pub complete : (i : ℕ) → has enough i ≡ true → (has found i ≡ true) ⊎ (has left i ≡ true)

pub found-hit : (n : ℕ) (f : List Items) (closed : Items) (q r : ℕ) (found left : Items) → r < n → has (closure (full n) f (with closed r)) q ≡ true → IsFound (enough_for n f closed q) found left
    → IsFound (enough_for n f closed q) (with found r) (without left r)
found-hit n f closed q r found left l h so = record {
  sound = λ i a. elim (with-cases found r i a) [
    | inl x ↦ so.sound i x
    | inr e ↦ subst (λ j. has (enough_for n f closed q) j ≡ true) (sym e) (has-enough n f closed q r ∙ and_from (ltb r n) (has (closure (full n) f (with closed r)) q) (lt-ltb r n l) h)
  ];
  complete = λ i a. elim (so.complete i a) [
    | inl x ↦ inl (with-left found r i x)
    | inr y ↦ elim (eqb i r) as (λ b. eqb i r ≡ b → (has (with found r) i ≡ true) ⊎ (has (without left r) i ≡ true)) [
      | true ↦ λ e. inl (has-with found r i ∙ or_right (has found i) (eqb i r) e)
      | false ↦ λ e. inr (has-without left r i ∙ and_from (has left i) (not (eqb i r)) y (not_from_false (eqb i r) e))
    ] refl
  ];
}

pub found-miss : (n : ℕ) (f : List Items) (closed : Items) (q r : ℕ) (found left missed : Items) → has (closure (full n) f (with closed r)) q ≡ false → missed ≡ inside_without n f closed r
    → IsFound (enough_for n f closed q) found left → IsFound (enough_for n f closed q) found (meet (without left r) missed)
found-miss n f closed q r found left missed lacks same so = record {
  sound = so.sound;
  complete = λ i a. elim (so.complete i a) [
    | inl x ↦ inl x
    | inr y ↦
        let inside = enough-missed n f closed q r lacks i a in
        let p = and_parts (has (minus (full n) closed) i) (not (eqb i r)) (sym (has-without (minus (full n) closed) r i) ∙ interior-within f (without (minus (full n) closed) r) i inside) in
        inr (has-meet (without left r) missed i ∙ and_from (has (without left r) i) (has missed i)
        (has-without left r i ∙ and_from (has left i) (not (eqb i r)) y p.1)
        (subst (λ s. has s i ≡ true) (sym same) inside))
  ];
}

-- with none left, those found are those that are enough
pub found-all : (enough found left : Items) → IsFound enough found left → least left ≡ None → found ≡ enough
found-all enough found left so none = same_within found enough so.sound (λ i a. elim (so.complete i a) [
  | inl x ↦ x
  | inr y ↦ absurd (true≢false (sym y ∙ least-none_left left i none))
])

pub meet-left : (s t : Items) → IsWithin (meet s t) s
meet-left s t i h = (and_parts (has s i) (has t i) (sym (has-meet s t i) ∙ h)).0

pub left-hit : (others left rest : Items) (r : ℕ) → IsWithin left others → rest ≡ without left r → IsWithin rest others
left-hit others left rest r w same i h = w i (without-within left r i (subst (λ s. has s i ≡ true) same h))

pub left-miss : (others left rest missed next : Items) (r : ℕ) → IsWithin left others → rest ≡ without left r → next ≡ meet rest missed → IsWithin next others
left-miss others left rest missed next r w same kept i h = left-hit others left rest r w same i (meet-left rest missed i (subst (λ s. has s i ≡ true) kept h))

pub left-below : (n : ℕ) (others left : Items) (r : ℕ) → IsWithin others (full n) → IsWithin left others → Some r ≡ least left → r < n
left-below n others left r small w e = ltb-true r n (sym (has-full n r) ∙ small r (w r (least-cases left r (sym e)).0))

-- ---- how many are left

pub fewer-hit : (left rest : Items) (r : ℕ) → Some r ≡ least left → rest ≡ without left r → len rest < len left
fewer-hit left rest r e same = rw same (len-less (without left r) left r (without-within left r) (grind (arith, members, nat_tests)) (least-cases left r (sym e)).0)

pub fewer-miss : (left rest missed next : Items) (r : ℕ) → Some r ≡ least left → rest ≡ without left r → next ≡ meet rest missed → len next < len left
fewer-miss left rest missed next r e same kept =
    let less = fewer-hit left rest r e same in
    let some : len (meet rest missed) ≤ len rest = len-within (meet rest missed) rest (meet-left rest missed) in
    rw kept (omega arith)

-- ---- how many items there are at most

length-numbers : (i m : ℕ) → length (numbers_from i m) ≡ m
length-numbers i zero = refl
length-numbers i (suc m) = ap suc (length-numbers (suc i) m)

filter-all : (xs : List ℕ) → filter (λ _. true) xs ≡ xs
filter-all [] = refl
filter-all (x ∷ xs) = ap (λ l. x ∷ l) (filter-all xs)

passing-fewer : (p : ℕ → Bool) (xs : List ℕ) → length (filter p xs) ≤ length xs
passing-fewer p xs = omega (arith, filter-fewer p (λ _. true) (λ _ _. refl) xs, ap length (filter-all xs))

pub len-few : (s : Items) (n : ℕ) → IsWithin s (full n) → len s ≤ n
unfolding len
len-few s n w = omega (arith, ap length (items-within s n w), passing-fewer (has s) (numbers_from 0 n), length-numbers 0 n)
