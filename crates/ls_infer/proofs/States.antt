-- Which items are enough with a closed set for an item, and where they are a state.
use Rattle.ls_infer.proofs.Vocabulary.{◌&&◌, ◌+◌, ◌<◌, ◌||◌, ◌∙◌, ◌≡◌, ◌≤◌, ◌⊎◌, Breaks-from, Decides-is_same, IsGood, IsPart, IsUnionFamily, IsWithin, Items, List, Query, ℕ, among-left, and-true, and_from, and_parts, ap, arith, breaks, cases_lt, closure, closure_grows, closure_widens, empty, enough_for, eq-eqb, eqb, eqb-true, false, false_from_ne_true, full, full-unbroken, has, has-full, has-single, has-with, inl, inr, interior, interior-greatest, interior-member, interior-within, interior_grows, is_among, left_by, len, len-less, lt-ltb, ltb, ltb-true, minus, minus-within, not, or_left, or_right, refl, same_within, single, some_item, subst, sym, true, true_from_ne_false, true≢false, with}
use Rattle.ls_infer.proofs.Kept.{has-enough, with-within}
use Rattle.ls_infer.proofs.Outside.{out-parts, out-from, with-left, with-here, with-cases, outside-member}
use Rattle.ls_infer.proofs.Sharing.{len-few}

-- ---- sets

with-grows : (s t : Items) (i : ℕ) → IsWithin s t → IsWithin (with s i) (with t i)
with-grows s t i w j h = has-with t i j ∙ elim (with-cases s i j h) [
  | inl a ↦ or_left (has t j) (eqb j i) (w j a)
  | inr e ↦ subst (λ k. (has t j || eqb j k) ≡ true) e (or_right (has t j) (eqb j j) (eq-eqb j j refl))
]

-- an item of a set alone is that one
single-only : (k i : ℕ) → has (single k) i ≡ true → i ≡ k
single-only k i h = eqb-true i k (sym (has-single k i) ∙ h)

with-same : (s : Items) (i : ℕ) → has s i ≡ true → with s i ≡ s
with-same s i h = same_within (with s i) s (λ j a. elim (with-cases s i j a) [ inl x ↦ x | inr e ↦ subst (λ k. has s k ≡ true) (sym e) h ]) (with-left s i)

-- an item of a set is in its closure
held : (n : ℕ) (f : List Items) (s : Items) (i : ℕ) → i < n → has s i ≡ true → has (closure (full n) f s) i ≡ true
held n f s i l h =
    let inside = interior f (minus (full n) s) in
    out-from (full n) inside i (has-full n i ∙ lt-ltb i n l) (false_from_ne_true (has inside i) (λ e. true≢false (sym h ∙ (out-parts (full n) s i (interior-within f (minus (full n) s) i e)).1)))

-- ---- what is enough

pub enough-parts : (n : ℕ) (f : List Items) (closed : Items) (p i : ℕ) → has (enough_for n f closed p) i ≡ true → (ltb i n ≡ true) × (has (closure (full n) f (with closed i)) p ≡ true)
enough-parts n f closed p i h = and_parts (ltb i n) (has (closure (full n) f (with closed i)) p) (sym (has-enough n f closed p i) ∙ h)

enough-from : (n : ℕ) (f : List Items) (closed : Items) (p i : ℕ) → i < n → has (closure (full n) f (with closed i)) p ≡ true → has (enough_for n f closed p) i ≡ true
enough-from n f closed p i l h = has-enough n f closed p i ∙ and_from (ltb i n) (has (closure (full n) f (with closed i)) p) (lt-ltb i n l) h

pub enough-within : (n : ℕ) (f : List Items) (closed : Items) (p : ℕ) → IsWithin (enough_for n f closed p) (full n)
enough-within n f closed p i h = has-full n i ∙ (enough-parts n f closed p i h).0

-- p itself is
pub enough-itself : (n : ℕ) (f : List Items) (closed : Items) (p : ℕ) → p < n → has (enough_for n f closed p) p ≡ true
enough-itself n f closed p l = enough-from n f closed p p l (held n f (with closed p) p l (with-here closed p))

-- with p in the closed set all items are
pub enough-all : (n : ℕ) (f : List Items) (closed : Items) (p : ℕ) → p < n → has closed p ≡ true → enough_for n f closed p ≡ full n
enough-all n f closed p l h = same_within (enough_for n f closed p) (full n) (enough-within n f closed p)
    (λ i a. enough-from n f closed p i (ltb-true i n (sym (has-full n i) ∙ a)) (held n f (with closed i) p l (with-left closed i p h)))

-- without it no item of the closed set is
pub enough-apart : (n : ℕ) (f : List Items) (closed : Items) (p : ℕ) → is_among f (minus (full n) closed) ≡ true → has closed p ≡ false → (i : ℕ) → has (enough_for n f closed p) i ≡ true → has closed i ≡ false
enough-apart n f closed p member lacks i h = false_from_ne_true (has closed i) (λ a.
    let reaches : has (closure (full n) f closed) p ≡ true = ap (λ s. has (closure (full n) f s) p) (sym (with-same closed i a)) ∙ (enough-parts n f closed p i h).1 in
    let out = out-parts (full n) (interior f (minus (full n) closed)) p reaches in
    true≢false (sym (out-from (full n) closed p out.0 lacks) ∙ ap (λ s. has s p) (sym (interior-member f (minus (full n) closed) member)) ∙ out.1))

pub with-itself : (n : ℕ) (f : List Items) (closed : Items) (p : ℕ) (known : Items) → p < n → IsWithin known (enough_for n f closed p) → IsWithin (with known p) (enough_for n f closed p)
with-itself n f closed p known l w i h = elim (with-cases known p i h) [
  | inl a ↦ w i a
  | inr e ↦ subst (λ j. has (enough_for n f closed p) j ≡ true) (sym e) (enough-itself n f closed p l)
]

-- so each that is enough is a known one, or another outside the closed set
pub among-others : (n : ℕ) (f : List Items) (closed : Items) (p : ℕ) (known among : Items) (i : ℕ) → is_among f (minus (full n) closed) ≡ true → has closed p ≡ false → IsWithin (enough_for n f closed p) among → has (enough_for n f closed p) i ≡ true
    → (has known i ≡ true) ⊎ (has (minus (minus among known) closed) i ≡ true)
among-others n f closed p known among i member lacks within h = elim (has known i) as (λ b. has known i ≡ b → (has known i ≡ true) ⊎ (has (minus (minus among known) closed) i ≡ true)) [
  | true ↦ λ e. inl e
  | false ↦ λ e. inr (out-from (minus among known) closed i (out-from among known i (within i h) e) (enough-apart n f closed p member lacks i h))
] refl

-- what was enough stays so where members go
pub enough-grows : (n : ℕ) (f g : List Items) (b : Items) (p : ℕ) → IsPart g f → IsWithin (enough_for n f (closure (full n) f b) p) (enough_for n g (closure (full n) g b) p)
enough-grows n f g b p part i h =
    let wide = closure (full n) g b in
    let closed = closure (full n) f b in
    let e = enough-parts n f closed p i h in
    enough-from n g wide p i (ltb-true i n e.0)
    (closure_grows (full n) g (with closed i) (with wide i) (with-grows closed wide i (closure_widens (full n) f g b part)) p
    (closure_widens (full n) f g (with closed i) part p e.1))

-- items of whose closures p is
pub reached : (n : ℕ) (f : List Items) (closed : Items) (p : ℕ) (known : Items) → IsWithin known (full n) → ((i : ℕ) → has known i ≡ true → has (closure (full n) f (single i)) p ≡ true) → IsWithin known (enough_for n f closed p)
reached n f closed p known small reach i h =
    enough-from n f closed p i (ltb-true i n (sym (has-full n i) ∙ small i h))
    (closure_grows (full n) f (single i) (with closed i) (λ j a. subst (λ k. has (with closed i) k ≡ true) (sym (single-only i j a)) (with-here closed i)) p (reach i h))

-- where p is in the interior of some items that are enough, and that the closed set lacks, no other is
pub enough-only : (n : ℕ) (f : List Items) (closed : Items) (p : ℕ) (known : Items) → IsWithin known (enough_for n f closed p) → ((i : ℕ) → has known i ≡ true → has closed i ≡ false) → has (interior f known) p ≡ true
    → known ≡ enough_for n f closed p
enough-only n f closed p known sound apart inside = same_within known (enough_for n f closed p) sound (λ i h. true_from_ne_false (has known i) (λ e.
    let out = (out-parts (full n) (interior f (minus (full n) (with closed i))) p (enough-parts n f closed p i h).1).1 in
    true≢false (sym (interior_grows f known (minus (full n) (with closed i)) (λ j a.
    out-from (full n) (with closed i) j (enough-within n f closed p j (sound j a)) (false_from_ne_true (has (with closed i) j) (λ x. elim (with-cases closed i j x) [
      | inl y ↦ true≢false (sym y ∙ apart j a)
      | inr y ↦ true≢false (sym a ∙ ap (has known) y ∙ e)
    ]))) p inside) ∙ out)))

-- ---- where what is enough is a state

pub unbroken-among : (f : List Items) (r : Query) (k : Items) → breaks k r ≡ false → is_among (left_by r f) k ≡ is_among f k
unbroken-among f r k h = among-left f r k ∙ ap (λ b. is_among f k && not b) h ∙ and-true (is_among f k)

-- what is enough does not break a query whose item is in the closed set
pub enough-unbroken : (n : ℕ) (f : List Items) (closed : Items) (p : ℕ) (r : Query) → is_among f (minus (full n) closed) ≡ true → p < n → IsGood n r → has closed r.q ≡ true → breaks (enough_for n f closed p) r ≡ false
enough-unbroken n f closed p r member l good h = elim (has closed p) as (λ b. has closed p ≡ b → breaks (enough_for n f closed p) r ≡ false) [
  | true ↦ λ e. ap (λ s. breaks s r) (enough-all n f closed p l e) ∙ full-unbroken n r good
  | false ↦ λ e. false_from_ne_true (breaks (enough_for n f closed p) r) (λ x. true≢false (sym h ∙ enough-apart n f closed p member e r.q (Breaks-from (enough_for n f closed p) r x).has_q))
] refl

-- where members go, and what was enough is still a state, nothing more is enough
pub enough-stays : (n : ℕ) (before after : List Items) (b closed enough : Items) (p : ℕ) → IsUnionFamily n before → IsPart after before → p < n → closed ≡ closure (full n) after b
    → enough ≡ enough_for n before (closure (full n) before b) p → is_among after enough ≡ true → enough ≡ enough_for n after closed p
enough-stays n before after b closed enough p family part l made e member =
    let old = closure (full n) before b in
    let sound : IsWithin enough (enough_for n after closed p) = subst (λ s. IsWithin enough (enough_for n after s p)) (sym made) (subst (λ s. IsWithin s (enough_for n after (closure (full n) after b) p)) (sym e) (enough-grows n before after b p part)) in
    elim (has old p) as (λ x. has old p ≡ x → enough ≡ enough_for n after closed p) [
      | true ↦ λ h. same_within enough (enough_for n after closed p) sound (λ i a. ap (λ s. has s i) (e ∙ enough-all n before old p l h) ∙ enough-within n after closed p i a)
      | false ↦ λ h.
          let inside : IsWithin enough (interior after (minus (full n) b)) = interior-greatest after (minus (full n) b) enough member (λ i a.
          let here : has (enough_for n before old p) i ≡ true = ap (λ s. has s i) (sym e) ∙ a in
          let small = enough-within n before old p i here in
          out-from (full n) b i small (false_from_ne_true (has b i) (λ x.
          true≢false (sym (held n before b i (ltb-true i n (sym (has-full n i) ∙ small)) x) ∙ enough-apart n before old p (outside-member n before b family) h i here)))) in
          enough-only n after closed p enough sound
          (λ i a. ap (λ s. has s i) made ∙ false_from_ne_true (has (closure (full n) after b) i) (λ x. true≢false (sym (inside i a) ∙ (out-parts (full n) (interior after (minus (full n) b)) i x).1)))
          (ap (λ s. has s p) (interior-member after enough member ∙ e) ∙ enough-itself n before old p l)
    ] refl

-- ---- how many there are

pub others-within : (n : ℕ) (among known closed : Items) → IsWithin among (full n) → IsWithin (minus (minus among known) closed) (full n)
others-within n among known closed w i h = w i (minus-within among known i (minus-within (minus among known) closed i h))

-- p, which is known, is none of the others
pub others-few : (n : ℕ) (among known closed : Items) (p : ℕ) → IsWithin among (full n) → p < n → has known p ≡ true → len (minus (minus among known) closed) + 1 ≤ n
others-few n among known closed p w l h =
    let others = minus (minus among known) closed in
    let small = others-within n among known closed w in
    let lacks : has others p ≡ false = false_from_ne_true (has others p) (λ x. true≢false (sym h ∙ (out-parts among known p (minus-within (minus among known) closed p x)).1)) in
    let more = len-less others (with others p) p (with-left others p) lacks (with-here others p) in
    let few = len-few (with others p) n (with-within n others p small l) in
    omega (arith, more, few)

-- and an item of the closed set is a further one that is none of them
pub others-fewer : (n : ℕ) (among known closed : Items) (p i : ℕ) → IsWithin among (full n) → p < n → has known p ≡ true → has closed p ≡ false → has closed i ≡ true → i < n → len (minus (minus among known) closed) + 2 ≤ n
others-fewer n among known closed p i w l h lacks here m =
    let others = minus (minus among known) closed in
    let small = with-within n others p (others-within n among known closed w) l in
    let out : has others p ≡ false = false_from_ne_true (has others p) (λ x. true≢false (sym h ∙ (out-parts among known p (minus-within (minus among known) closed p x)).1)) in
    let apart : has (with others p) i ≡ false = false_from_ne_true (has (with others p) i) (λ x. elim (with-cases others p i x) [
      | inl y ↦ true≢false (sym here ∙ (out-parts (minus among known) closed i y).1)
      | inr y ↦ true≢false (sym here ∙ ap (has closed) y ∙ lacks)
    ]) in
    let more = len-less others (with others p) p (with-left others p) out (with-here others p) in
    let further = len-less (with others p) (with (with others p) i) i (with-left (with others p) i) apart (with-here (with others p) i) in
    let few = len-few (with (with others p) i) n (with-within n (with others p) i small m) in
    omega (arith, more, further, few)

-- a good query has an item, and another in its set
pub good-item : (n : ℕ) (r : Query) → IsGood n r → (i : ℕ) × (has r.a i ≡ true) × (i < n)
good-item n r good = elim (some_item r.a) [
  | inl e ↦ absurd (true≢false (sym ((Decides-is_same r.a empty).1 e) ∙ good.nonempty))
  | inr p ↦ (p.0, p.1, ltb-true p.0 n (sym (has-full n p.0) ∙ good.small p.0 p.1))
]

pub good-several : (n : ℕ) (r : Query) → IsGood n r → 1 < n
good-several n r good =
    let i = good-item n r good in
    let item = good.item in
    let apart : i.0 ≡ r.q → ⊥ = λ e. true≢false (sym i.1 ∙ ap (has r.a) e ∙ good.outside) in
    elim (cases_lt 1 n) [
      | inl l ↦ l
      | inr l ↦ let below = i.2 in absurd (apart (omega arith))
    ]
