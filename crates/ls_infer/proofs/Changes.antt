-- What stays true of a table when it is built and changed.
use Rattle.ls_infer.proofs.Vocabulary.{◌++◌, ◌∙◌, ◌∷◌, ◌≡◌, All-filter, All-list_all, IsFamily, IsGood, Items, List, No, Query, StandingNo, ℕ, [], and_from, and_parts, ap, breaks, closure, cond, eqb, false, family_sets, filter, full, good-from, has, has-closure, is_good, is_kept, is_within, is_within-from, left_by, list_all, list_all-All, list_all-append, list_any, map, minus-within, not, not-true, or_parts, refl, some_breaks, standing, subst, sym, true}
use Rattle.ls_infer.proofs.States.{enough-within}
use Rattle.ls_infer.proofs.Standing.{kept-from}

-- closures are of items alone
pub closures-within : (n : ℕ) (f : List Items) (sets : List Items) → list_all (λ c. is_within c (full n)) (map (closure (full n) f) sets) ≡ true
closures-within n f [] = refl
closures-within n f (a ∷ sets) =
    and_from (is_within (closure (full n) f a) (full n)) (list_all (λ c. is_within c (full n)) (map (closure (full n) f) sets))
    (is_within-from (closure (full n) f a) (full n) (minus-within (full n) _)) (closures-within n f sets)

-- what is kept of Nos of good queries
standing-is_kept : (n : ℕ) (f : List Items) (a : No) → is_good n a.query ≡ true → is_kept n (standing n f a) ≡ true
standing-is_kept n f a h =
    let good = good-from n a.query h in
    let closed = closure (full n) f a.query.a in
    kept-from n (standing n f a) (record {
      good = good;
      closed = minus-within (full n) _;
      enough = enough-within n f closed a.query.q;
    })

pub standing-kept : (n : ℕ) (f : List Items) (nos : List No) → list_all (λ a. is_good n a.query) nos ≡ true → list_all (is_kept n) (map (standing n f) nos) ≡ true
standing-kept n f [] h = refl
standing-kept n f (a ∷ nos) h =
    let p = and_parts (is_good n a.query) (list_all (λ a. is_good n a.query) nos) h in
    and_from (is_kept n (standing n f a)) (list_all (is_kept n) (map (standing n f) nos)) (standing-is_kept n f a p.0)
    (standing-kept n f nos p.1)

-- the Nos without those of a number
pub standing-removed : (n : ℕ) (f : List Items) (nos : List No) (number : ℕ)
    → filter (λ s. not (eqb s.no.number number)) (map (standing n f) nos) ≡ map (standing n f) (filter (λ a. not (eqb a.number number)) nos)
standing-removed n f [] number = refl
standing-removed n f (a ∷ nos) number =
    ap (λ l. cond (not (eqb a.number number)) (standing n f a ∷ l) l) (standing-removed n f nos number)
    ∙ elim (eqb a.number number) as (λ b. cond (not b) (standing n f a ∷ map (standing n f) (filter (λ a. not (eqb a.number number)) nos)) (map (standing n f) (filter (λ a. not (eqb a.number number)) nos))
    ≡ map (standing n f) (cond (not b) (a ∷ filter (λ a. not (eqb a.number number)) nos) (filter (λ a. not (eqb a.number number)) nos))) [ true ↦ refl | false ↦ refl ]

pub kept-removed : (n number : ℕ) (ss : List StandingNo) → list_all (is_kept n) ss ≡ true → list_all (is_kept n) (filter (λ s. not (eqb s.no.number number)) ss) ≡ true
kept-removed n number ss h = All-list_all (is_kept n) (filter (λ s. not (eqb s.no.number number)) ss)
    (All-filter (λ s. is_kept n s ≡ true) (λ s. not (eqb s.no.number number)) ss (list_all-All (is_kept n) ss h))

pub kept-added : (n m : ℕ) (f : List Items) (ss : List StandingNo) (x : No) → n ≡ m → list_all (is_kept n) ss ≡ true → is_good n x.query ≡ true → list_all (is_kept n) (ss ++ standing m f x ∷ []) ≡ true
kept-added n m f ss x same h good =
    subst (λ k. list_all (is_kept n) (ss ++ standing k f x ∷ []) ≡ true) same
    (list_all-append (is_kept n) ss (standing n f x ∷ []) ∙ and_from (list_all (is_kept n) ss) (list_all (is_kept n) (standing n f x ∷ [])) h (standing-kept n f (x ∷ []) (and_from (is_good n x.query) true good refl)))

-- ---- a Yes that is given without it

pub unbroken-stays : (f : List Items) (r : Query) → list_any (λ k. breaks k r) f ≡ false → left_by r f ≡ f
unbroken-stays [] r h = refl
unbroken-stays (k ∷ f) r h =
    let p = or_parts (breaks k r) (list_any (λ k. breaks k r) f) h in
    ap (λ b. cond (not b) (k ∷ left_by r f) (left_by r f)) p.0 ∙ ap (λ l. k ∷ l) (unbroken-stays f r p.1)

-- where q is in the closure of A, no member breaks the query
pub yes-given : (n : ℕ) (f : List Items) (r : Query) → IsFamily n f → IsGood n r → has (closure (full n) f r.a) r.q ≡ true → left_by r f ≡ f
yes-given n f r family good h = unbroken-stays f r (not-true (some_breaks f r) (sym (has-closure n f r (family_sets n f family).small good.item) ∙ h))
