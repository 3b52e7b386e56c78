-- The interior of a widest member without an item is the interior in which the next member is looked for.
use Rattle.ls_enum.proofs.Vocabulary.{◌+◌, ◌<◌, ◌∙◌, ◌≡◌, ◌≤◌, IfSome, IsFamily, IsWidest, IsWithin, IsWithin-from, Items, List, None, NoneFrom, Option, Serves, Some, WidestMember, ℕ, and_from, and_parts, ap, arith, cases_order, cond, eq-eqb, eqb, false, find, first_after, full, has, has-full, has-keep_before, has-without, inl, inr, interior, interior-greatest, interior_keeping, is_among, is_within, keep_before, lt-ltb, ltb, ltb-true, ne_eqb, not, filled_above, refl, same_within, subst, sym, true, true≢false, without}
use Rattle.ls_enum.proofs.Successors.{inside-is, filled-cases, to-filled, found, failed, inside-small, first-is}

-- ---- what comes before a place

pub before-parts : (s : Items) (i j : ℕ) → has (keep_before s i) j ≡ true → (has s j ≡ true) × (j < i)
before-parts s i j h = let p = and_parts (has s j) (ltb j i) (sym (has-keep_before s i j) ∙ h) in (p.0, ltb-true j i p.1)

pub before-from : (s : Items) (i j : ℕ) → has s j ≡ true → j < i → has (keep_before s i) j ≡ true
before-from s i j h l = has-keep_before s i j ∙ and_from (has s j) (ltb j i) h (lt-ltb j i l)

-- where two sets agree before i, what one has there the other has
pub agreeing : (s t : Items) (i j : ℕ) → keep_before s i ≡ keep_before t i → j < i → has s j ≡ true → has t j ≡ true
agreeing s t i j e l h = (before-parts t i j (ap (λ r. has r j) (sym e) ∙ before-from s i j h l)).0

-- an item of a set of items below n
item-below : (n : ℕ) (s : Items) (j : ℕ) → IsWithin s (full n) → has s j ≡ true → j < n
item-below n s j small h = ltb-true j n (sym (has-full n j) ∙ small j h)

-- ---- widest members

-- a widest member is one at each later place
pub later-widest : (f : List Items) (place i : ℕ) (member : Items) → place ≤ i → IsWidest f place member → IsWidest f i member
later-widest f place i member l widest = (widest.0, λ t c w. widest.1 t c (λ j h. let p = before-parts t place j h in w j (before-from t i j p.0 (let k = p.1 in omega arith))))

-- a widest member that serves before a place is one there
pub serving-widest : (f : List Items) (word : Items) (i : ℕ) (m : WidestMember) → Serves f word i m → m.place ≤ i → IsWidest f i m.member
serving-widest f word i m serves l = later-widest f m.place i m.member l serves.0

-- a widest member that has just what is kept serves
pub serving-from : (f : List Items) (word keep : Items) (i : ℕ) (o : Option WidestMember) → IfSome o (λ m. IsWidest f m.place m.member) → IfSome o (λ m. m.place ≤ i) → IfSome o (λ m. keep_before m.member i ≡ keep) → keep ≡ keep_before word i
    → IfSome o (λ m. Serves f word i m × (m.place ≤ i))
serving-from f word keep i None widest place agrees e = tt
serving-from f word keep i (Some m) widest place agrees e = ((widest, agrees ∙ e), place)

-- what serves before a place serves before each earlier one
pub serves-before : (f : List Items) (word : Items) (i j : ℕ) (o : Option WidestMember) → j ≤ i → IfSome o (Serves f word i) → IfSome o (Serves f word j)
serves-before f word i j None l serves = tt
serves-before f word i j (Some m) l serves =
    let shorter : (s t : Items) → keep_before s i ≡ keep_before t i → IsWithin (keep_before s j) (keep_before t j) = λ s t same k h.
    let p = before-parts s j k h in
    before-from t j k (agreeing s t i k same (let q = p.1 in omega arith) p.0) p.1 in
    (serves.0, same_within (keep_before m.member j) (keep_before word j) (shorter m.member word serves.1) (shorter word m.member (sym serves.1)))

-- a widest member without i is within the word filled above i
widest-within : (n : ℕ) (f : List Items) (word member : Items) (i : ℕ) → IsFamily n f → is_among f member ≡ true → keep_before member i ≡ keep_before word i → IsWithin (without member i) (filled_above n word i)
widest-within n f word member i family c e j h =
    let p = and_parts (has member j) (not (eqb j i)) (sym (has-without member i j) ∙ h) in
    elim (cases_order j i) [
      | inl q ↦ absurd (true≢false (sym p.1 ∙ ap not (eq-eqb j i q)))
      | inr (inl l) ↦ to-filled n word i j (inl (agreeing member word i j e l p.0, l))
      | inr (inr l) ↦ to-filled n word i j (inr (item-below n member j (family.small member c) p.0, l))
    ]

-- the interior of the word filled above i is within the widest member without i
inside-widest : (n : ℕ) (f : List Items) (word member : Items) (i : ℕ) → IsFamily n f → IsWidest f i member → keep_before member i ≡ keep_before word i → IsWithin (interior f (filled_above n word i)) (without member i)
inside-widest n f word member i family widest e =
    let inside = inside-is n f family (filled_above n word i) in
    let part : IsWithin (interior f (filled_above n word i)) member = widest.1 (interior f (filled_above n word i)) inside.member (λ j h.
    let p = before-parts (interior f (filled_above n word i)) i j h in
    elim (filled-cases n word i j (inside.within j p.0)) [
      | inl a ↦ agreeing word member i j (sym e) a.1 a.0
      | inr a ↦ let l = p.1 in let k = a.1 in absurd (omega arith)
    ]) in
    λ j h. has-without member i j ∙ and_from (has member j) (not (eqb j i)) (part j h) (ap not (ne_eqb j i (λ q. elim (filled-cases n word i j (inside.within j h)) [ inl a ↦ let l = a.1 in omega arith | inr a ↦ let l = a.1 in omega arith ])))

-- so the interiors of the two are one
without-filled : (n : ℕ) (f : List Items) (word member : Items) (i : ℕ) → IsFamily n f → IsWidest f i member → keep_before member i ≡ keep_before word i → interior f (without member i) ≡ interior f (filled_above n word i)
without-filled n f word member i family widest e =
    let inside = inside-is n f family (filled_above n word i) in
    let less = inside-is n f family (without member i) in
    same_within (interior f (without member i)) (interior f (filled_above n word i))
    (interior-greatest f (filled_above n word i) (interior f (without member i)) less.member (λ j h. widest-within n f word member i family widest.0 e j (less.within j h)))
    (interior-greatest f (without member i) (interior f (filled_above n word i)) inside.member (inside-widest n f word member i family widest e))

-- ---- interiors that are of use only where they keep certain items

pub keeping-some : (f : List Items) (s keep k : Items) → interior_keeping f s keep ≡ Some k → (is_within keep (interior f s) ≡ true) × (interior f s ≡ k)
keeping-some f s keep k e =
    elim (is_within keep (interior f s)) as (λ b. is_within keep (interior f s) ≡ b → cond b (Some (interior f s)) None ≡ Some k → (is_within keep (interior f s) ≡ true) × (interior f s ≡ k)) [
      | true ↦ λ a e. (a, cc)
      | false ↦ λ _ e. absurd (cc)
    ] refl e

pub keeping-none : (f : List Items) (s keep : Items) → interior_keeping f s keep ≡ None → is_within keep (interior f s) ≡ false
keeping-none f s keep e =
    elim (is_within keep (interior f s)) as (λ b. is_within keep (interior f s) ≡ b → cond b (Some (interior f s)) None ≡ None → is_within keep (interior f s) ≡ false) [
      | true ↦ λ _ e. absurd (cc)
      | false ↦ λ a _. a
    ] refl e

-- what a widest member without i gives is what the word filled above i does
pub keeping-widest : (n : ℕ) (f : List Items) (word member keep : Items) (i : ℕ) (result : Option Items) → IsFamily n f → IsWidest f i member → keep_before member i ≡ keep → keep ≡ keep_before word i
    → (is_among f member ≡ true → result ≡ interior_keeping f (without member i) keep) → result ≡ interior_keeping f (filled_above n word i) (keep_before word i)
keeping-widest n f word member keep i result family widest agrees kept gives =
    gives widest.0
    ∙ ap (interior_keeping f (without member i)) kept
    ∙ ap (λ inside. cond (is_within (keep_before word i) inside) (Some inside) None) (without-filled n f word member i family widest (agrees ∙ kept))

-- ---- the next member, by such an interior

pub found-filled : (n : ℕ) (f : List Items) (word k : Items) (i : ℕ) → IsFamily n f → true ≡ has word i → NoneFrom f word (i + 1) → Some k ≡ interior_keeping f (filled_above n word i) (keep_before word i) → Some k ≡ first_after word f
found-filled n f word k i family here none e =
    let kept = keeping-some f (filled_above n word i) (keep_before word i) k (sym e) in
    ap Some (sym kept.1) ∙ sym (found n f word i family (sym here) none (IsWithin-from (keep_before word i) (interior f (filled_above n word i)) kept.0))

pub failed-filled : (n : ℕ) (f : List Items) (word : Items) (i : ℕ) (r : Option Items) → IsFamily n f → r ≡ None → r ≡ interior_keeping f (filled_above n word i) (keep_before word i) → NoneFrom f word (i + 1) → NoneFrom f word i
failed-filled n f word i r family fails e none = failed n f word i family (keeping-none f (filled_above n word i) (keep_before word i) (sym e ∙ fails)) none

pub small-filled : (n : ℕ) (f : List Items) (word k : Items) (i : ℕ) → IsWithin word (full n) → Some k ≡ interior_keeping f (filled_above n word i) (keep_before word i) → IsWithin k (full n)
small-filled n f word k i small e =
    subst (λ t. IsWithin t (full n)) (keeping-some f (filled_above n word i) (keep_before word i) k (sym e)).1 (inside-small n f word i small)

-- the interior of the word filled above i is a widest member behind i
filled-widest : (n : ℕ) (f : List Items) (word : Items) (i : ℕ) → IsFamily n f → IsWidest f (i + 1) (interior f (filled_above n word i))
filled-widest n f word i family =
    let inside = inside-is n f family (filled_above n word i) in (
      inside.member,
      λ t c w. inside.greatest t c (λ j h. elim (cases_order i j) [
        | inl q ↦ inside.within j (w j (before-from t (i + 1) j h (omega arith)))
        | inr (inl l) ↦ to-filled n word i j (inr (item-below n t j (family.small t c) h, l))
        | inr (inr l) ↦ inside.within j (w j (before-from t (i + 1) j h (omega arith)))
      ]),
    )

pub widest-filled : (n : ℕ) (f : List Items) (word k : Items) (i : ℕ) → IsFamily n f → Some k ≡ interior_keeping f (filled_above n word i) (keep_before word i) → IsWidest f (i + 1) k
widest-filled n f word k i family e = subst (IsWidest f (i + 1)) (keeping-some f (filled_above n word i) (keep_before word i) k (sym e)).1 (filled-widest n f word i family)

-- the first member of all is a widest member at the start
pub first-widest : (n : ℕ) (f : List Items) (k : Items) → IsFamily n f → find (λ _. true) f ≡ Some k → IsWidest f 0 k
first-widest n f k family e =
    let inside = inside-is n f family (full n) in
    let same : interior f (full n) ≡ k = let all = first-is n f family in cc in
    subst (IsWidest f 0) same (inside.member, λ t c w. inside.greatest t c (family.small t c))
