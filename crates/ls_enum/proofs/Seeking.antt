-- Widest members are filled from the first place on: a widest member at a place, which has just the word's items before it, gives the widest member at the next place.
use Rattle.ls_enum.proofs.Vocabulary.{◌+◌, ◌-◌, ◌<◌, ◌∙◌, ◌≡◌, ◌≤◌, DiffersFirstAt, IsFamily, IsWidest, IsWithin, IsWithin-from, Items, List, None, NoneFrom, Option, Some, ℕ, add-one, and_from, and_parts, ap, arith, cases_order, cond, count_before, eq-eqb, eqb, false, false_from_ne_true, find, has, has-without, inl, inr, interior, interior_keeping, is_among, is_within-from, keep_before, ne_eqb, not, refl, same_within, subst, suc, sym, true, true≢false, without, zero}
use Rattle.ls_enum.proofs.Successors.{inside-is}
use Rattle.ls_enum.proofs.Filled.{before-parts, before-from, agreeing, keeping-some, keeping-none, first-widest}

-- a widest member at i that has just the word's items before i
pub record IsSought (f : List Items) (word : Items) (i : ℕ) (member : Items) : Type 0 where
  pub widest : IsWidest f i member
  pub agrees : keep_before member i ≡ keep_before word i

-- the first member of all is one at the start
pub first-sought : (n : ℕ) (f : List Items) (word k : Items) → IsFamily n f → find (λ _. true) f ≡ Some k → IsSought f word 0 k
first-sought n f word k family e = record {
  widest = first-widest n f k family e;
  agrees = same_within (keep_before k 0) (keep_before word 0) (λ j h. let l = (before-parts k 0 j h).1 in absurd (omega arith)) (λ j h. let l = (before-parts word 0 j h).1 in absurd (omega arith));
}

-- a member that first differs from the word at an item from i on is within the widest member
pub differing-sought : (f : List Items) (word member t : Items) (i d : ℕ) → IsSought f word i member → is_among f t ≡ true → i ≤ d → DiffersFirstAt word t d → IsWithin t member
differing-sought f word member t i d sought c l differs =
    sought.widest.1 t c (λ j h.
    let p = before-parts t i j h in
    let k : j < d = let q = p.1 in omega arith in
    agreeing word member i j (sym sought.agrees) p.1 (differs.same_below j k ∙ p.0))

-- ---- at an item of the word

pub next-has : (f : List Items) (word member : Items) (i : ℕ) → IsSought f word i member → has word i ≡ true → has member i ≡ true → IsSought f word (i + 1) member
next-has f word member i sought here held = record {
  widest = (sought.widest.0, λ t c w. sought.widest.1 t c (λ j h. let p = before-parts t i j h in w j (before-from t (i + 1) j p.0 (let k = p.1 in omega arith))));
  agrees = same_within (keep_before member (i + 1)) (keep_before word (i + 1)) (λ j h.
      let p = before-parts member (i + 1) j h in
      before-from word (i + 1) j (elim (cases_order j i) [
        | inl q ↦ ap (has word) q ∙ here
        | inr (inl l) ↦ agreeing member word i j sought.agrees l p.0
        | inr (inr l) ↦ let k = p.1 in absurd (omega arith)
      ]) p.1) (λ j h.
      let p = before-parts word (i + 1) j h in
      before-from member (i + 1) j (elim (cases_order j i) [
        | inl q ↦ ap (has member) q ∙ held
        | inr (inl l) ↦ agreeing word member i j (sym sought.agrees) l p.0
        | inr (inr l) ↦ let k = p.1 in absurd (omega arith)
      ]) p.1);
}

-- the widest member lacks it: no member agrees with the word that far
pub none-has : (f : List Items) (word member : Items) (i : ℕ) → IsSought f word i member → has word i ≡ true → has member i ≡ false → NoneFrom f word (i + 1)
none-has f word member i sought here lacks t c d l differs =
    true≢false (sym (differing-sought f word member t i d sought c (omega arith) differs i (sym (differs.same_below i (omega arith)) ∙ here)) ∙ lacks)

-- ---- at an item that the word lacks

-- a member within the widest member that lacks i is within the widest member without i
within-without : (t member : Items) (i : ℕ) → IsWithin t member → has t i ≡ false → IsWithin t (without member i)
within-without t member i w lacks j h = has-without member i j ∙ and_from (has member j) (not (eqb j i)) (w j h) (ap not (ne_eqb j i (λ q. true≢false (sym h ∙ ap (has t) q ∙ lacks))))

next-widest : (n : ℕ) (f : List Items) (word member : Items) (i : ℕ) → IsFamily n f → IsSought f word i member → has word i ≡ false → IsWithin (keep_before word i) (interior f (without member i)) → IsSought f word (i + 1) (interior f (without member i))
next-widest n f word member i family sought here kept =
    let inside = inside-is n f family (without member i) in
    let next = interior f (without member i) in
    let parts : (j : ℕ) → has next j ≡ true → (has member j ≡ true) × (not (eqb j i) ≡ true) = λ j h. and_parts (has member j) (not (eqb j i)) (sym (has-without member i j) ∙ inside.within j h) in
    let lacks : has next i ≡ false = false_from_ne_true (has next i) (λ h. true≢false (sym (parts i h).1 ∙ ap not (eq-eqb i i refl))) in
    record {
      widest = (
        inside.member,
        λ t c w.
            let part : IsWithin t member = sought.widest.1 t c (λ j h. let p = before-parts t i j h in (parts j (w j (before-from t (i + 1) j p.0 (let k = p.1 in omega arith)))).0) in
            inside.greatest t c (within-without t member i part (false_from_ne_true (has t i) (λ h. true≢false (sym (w i (before-from t (i + 1) i h (omega arith))) ∙ lacks)))),
      );
      agrees = same_within (keep_before next (i + 1)) (keep_before word (i + 1)) (λ j h.
          let p = before-parts next (i + 1) j h in
          before-from word (i + 1) j (elim (cases_order j i) [
            | inl q ↦ absurd (true≢false (sym p.0 ∙ ap (has next) q ∙ lacks))
            | inr (inl l) ↦ agreeing member word i j sought.agrees l (parts j p.0).0
            | inr (inr l) ↦ let k = p.1 in absurd (omega arith)
          ]) p.1) (λ j h.
          let p = before-parts word (i + 1) j h in
          before-from next (i + 1) j (elim (cases_order j i) [
            | inl q ↦ absurd (true≢false (sym p.0 ∙ ap (has word) q ∙ here))
            | inr (inl l) ↦ kept j (before-from word i j p.0 l)
            | inr (inr l) ↦ let k = p.1 in absurd (omega arith)
          ]) p.1);
    }

-- what a widest member without i gives
left-is : (f : List Items) (word member keep : Items) (i : ℕ) (r : Option Items) → IsSought f word i member → keep ≡ keep_before word i → (is_among f member ≡ true → r ≡ interior_keeping f (without member i) keep) → interior_keeping f (without member i) (keep_before word i) ≡ r
left-is f word member keep i r sought kept gives = ap (interior_keeping f (without member i)) (sym kept) ∙ sym (gives sought.widest.0)

-- it is the next widest member
pub next-lacks : (n : ℕ) (f : List Items) (word member keep next : Items) (i : ℕ) (r : Option Items) → IsFamily n f → IsSought f word i member → has word i ≡ false → keep ≡ keep_before word i
    → (is_among f member ≡ true → r ≡ interior_keeping f (without member i) keep) → r ≡ Some next → IsSought f word (i + 1) next
next-lacks n f word member keep next i r family sought here kept gives e =
    let left = keeping-some f (without member i) (keep_before word i) next (left-is f word member keep i r sought kept gives ∙ e) in
    subst (IsSought f word (i + 1)) left.1 (next-widest n f word member i family sought here (IsWithin-from (keep_before word i) (interior f (without member i)) left.0))

-- or one of the word's items before i fell: no member agrees with the word that far
pub none-lacks : (n : ℕ) (f : List Items) (word member keep : Items) (i : ℕ) (r : Option Items) → IsFamily n f → IsSought f word i member → has word i ≡ false → keep ≡ keep_before word i
    → (is_among f member ≡ true → r ≡ interior_keeping f (without member i) keep) → r ≡ None → NoneFrom f word i
none-lacks n f word member keep i r family sought here kept gives e t c d l differs =
    elim (cases_order i d) [
      | inl q ↦ true≢false (sym differs.in_first ∙ ap (has word) (sym q) ∙ here)
      | inr (inl k) ↦
          let inside = inside-is n f family (without member i) in
          let part : IsWithin t (interior f (without member i)) = inside.greatest t c (within-without t member i (differing-sought f word member t i d sought c l differs) (sym (differs.same_below i k) ∙ here)) in
          true≢false (sym (is_within-from (keep_before word i) (interior f (without member i)) (λ j h.
          let p = before-parts word i j h in
          part j (sym (differs.same_below j (let m = p.1 in omega arith)) ∙ p.0))) ∙ keeping-none f (without member i) (keep_before word i) (left-is f word member keep i r sought kept gives ∙ e))
      | inr (inr k) ↦ omega arith
    ]

-- the word has no item from i on
pub none-above : (f : List Items) (word : Items) (i : ℕ) → keep_before word i ≡ word → NoneFrom f word i
none-above f word i e t c d l differs =
    let p = before-parts word i d (ap (λ s. has s d) e ∙ differs.in_first) in
    let k = p.1 in
    omega arith

-- ---- how many items of the word are before a place

count-next : (word : Items) (i : ℕ) → count_before word (i + 1) ≡ count_before word i + cond (has word i) 1 0
count-next word i = ap (count_before word) (add-one i)

pub count-has : (word : Items) (i : ℕ) → has word i ≡ true → count_before word (i + 1) ≡ count_before word i + 1
count-has word i h = count-next word i ∙ ap (λ b. count_before word i + cond b 1 0) h

-- the same of the item before a place, on the way down
pub count-passed : (word : Items) (i : ℕ) → 0 < i → has word (i - 1) ≡ true → count_before word i ≡ count_before word (i - 1) + 1
count-passed word i l h = let e : i ≡ i - 1 + 1 = omega arith in ap (count_before word) e ∙ count-has word (i - 1) h

pub count-lacks : (word : Items) (i : ℕ) → has word i ≡ false → count_before word (i + 1) ≡ count_before word i
count-lacks word i h =
    let e : count_before word (i + 1) ≡ count_before word i + 0 = count-next word i ∙ ap (λ b. count_before word i + cond b 1 0) h in
    omega arith

-- the same of an item that the word lacks
pub count-skipped : (word : Items) (i : ℕ) → 0 < i → has word (i - 1) ≡ false → count_before word i ≡ count_before word (i - 1)
count-skipped word i l h = let e : i ≡ i - 1 + 1 = omega arith in ap (count_before word) e ∙ count-lacks word (i - 1) h

-- no member first differs from the word at an item that it lacks
pub none-skipped : (f : List Items) (word : Items) (i : ℕ) → has word (i - 1) ≡ false → NoneFrom f word i → NoneFrom f word (i - 1)
none-skipped f word i lacks none t c d l differs = elim (cases_order d (i - 1)) [
  | inl q ↦ true≢false (sym differs.in_first ∙ ap (has word) q ∙ lacks)
  | inr (inl k) ↦ absurd (omega arith)
  | inr (inr k) ↦ none t c d (omega arith) differs
]

pub count-few : (word : Items) (i : ℕ) → count_before word i ≤ i
count-few word zero = omega arith
count-few word (suc i) =
    let l = count-few word i in
    elim (has word i) as (λ b. count_before word i + cond b 1 0 ≤ suc i) [ true ↦ omega arith | false ↦ omega arith ]
