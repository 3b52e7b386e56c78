-- Complements, sets with one more item, and what is outside a closure.
use Rattle.ls_infer.proofs.Vocabulary.{◌&&◌, ◌||◌, ◌∙◌, ◌≡◌, ◌⊎◌, IsUnionFamily, IsWithin, Items, List, None, Option, Some, ℕ, and_from, and_parts, ap, ap₂, arith, both_out, closure, cond, empty, empty-within, eq-eqb, eqb, eqb-true, false, false_from_ne_true, full, has, has-minus, has-with, has-without, inl, inr, interior, interior-greatest, interior-is, interior-within, interior_again, interior_grows, interior_keeping, is_among, is_within-from, members, minus, minus-within, minus_shrinks, nat_tests, not, not-true, not_from_false, or_cases, or_left, or_right, outside_of, refl, same_set, same_within, single, subst, sym, true, true≢false, with, without}
use Rattle.ls_set.specs.{union}

-- ---- complements

pub out-parts : (whole s : Items) (i : ℕ) → has (minus whole s) i ≡ true → (has whole i ≡ true) × (has s i ≡ false)
out-parts whole s i h = let p = and_parts (has whole i) (not (has s i)) (sym (has-minus whole s i) ∙ h) in (p.0, not-true (has s i) p.1)

pub out-from : (whole s : Items) (i : ℕ) → has whole i ≡ true → has s i ≡ false → has (minus whole s) i ≡ true
out-from whole s i w h = has-minus whole s i ∙ and_from (has whole i) (not (has s i)) w (not_from_false (has s i) h)

pub minus_twice : (whole s : Items) → IsWithin s whole → minus whole (minus whole s) ≡ s
minus_twice whole s w = same_set (minus whole (minus whole s)) s (λ i. has-minus whole (minus whole s) i ∙ ap (λ b. has whole i && not b) (has-minus whole s i) ∙ both_out (has whole i) (has s i) (w i))

-- ---- one more item

pub with-left : (c : Items) (s : ℕ) → IsWithin c (with c s)
with-left c s i h = has-with c s i ∙ or_left (has c i) (eqb i s) h

pub with-here : (c : Items) (s : ℕ) → has (with c s) s ≡ true
with-here c s = has-with c s s ∙ or_right (has c s) (eqb s s) (eq-eqb s s refl)

pub with-empty : (i : ℕ) → with empty i ≡ single i
with-empty i = same_set _ _ (λ j. grind (arith, members, nat_tests))

pub with-cases : (c : Items) (s i : ℕ) → has (with c s) i ≡ true → (has c i ≡ true) ⊎ (i ≡ s)
with-cases c s i h = elim (or_cases (has c i) (eqb i s) (sym (has-with c s i) ∙ h)) [ inl a ↦ inl a | inr e ↦ inr (eqb-true i s e) ]

-- ---- outside a closure is a member

pub outside-member : (n : ℕ) (f : List Items) (s : Items) → IsUnionFamily n f → is_among f (minus (full n) (closure (full n) f s)) ≡ true
outside-member n f s family =
    let inside = interior f (minus (full n) s) in
    subst (λ t. is_among f t ≡ true) (sym (minus_twice (full n) inside (λ i h. minus-within (full n) s i (interior-within f (minus (full n) s) i h))))
    (interior-is f family.holds_empty family.holds_unions (minus (full n) s)).member

-- ---- what is outside a closure

pub outside-within : (n : ℕ) (f : List Items) (a : Items) → IsWithin (outside_of n f a) (full n)
outside-within n f a i h = minus-within (full n) a i (interior-within f (minus (full n) a) i h)

outside-among : (n : ℕ) (f : List Items) (a : Items) → IsUnionFamily n f → is_among f (outside_of n f a) ≡ true
outside-among n f a family = (interior-is f family.holds_empty family.holds_unions (minus (full n) a)).member

-- with one more item it goes on from what is outside without it
outside-further : (n : ℕ) (f : List Items) (a : Items) (i : ℕ) → IsUnionFamily n f → interior f (without (outside_of n f a) i) ≡ outside_of n f (with a i)
outside-further n f a i family = same_within (interior f (without (outside_of n f a) i)) (outside_of n f (with a i))
    (interior_grows f (without (outside_of n f a) i) (minus (full n) (with a i)) (λ j h.
    let p = and_parts (has (outside_of n f a) j) (not (eqb j i)) (sym (has-without (outside_of n f a) i j) ∙ h) in
    let o = out-parts (full n) a j (interior-within f (minus (full n) a) j p.0) in
    out-from (full n) (with a i) j o.0 (has-with a i j ∙ ap₂ (λ b c. b || c) o.1 (not-true (eqb j i) p.1))))
    (interior-greatest f (without (outside_of n f a) i) (outside_of n f (with a i)) (outside-among n f (with a i) family) (λ j h.
    let o = out-parts (full n) (with a i) j (interior-within f (minus (full n) (with a i)) j h) in
    has-without (outside_of n f a) i j
    ∙ and_from (has (outside_of n f a) j) (not (eqb j i))
    (interior_grows f (minus (full n) (with a i)) (minus (full n) a) (minus_shrinks (full n) a (with a i) (with-left a i)) j h)
    (not_from_false (eqb j i) (false_from_ne_true (eqb j i) (λ e. true≢false (sym (has-with a i j ∙ or_right (has a j) (eqb j i) e) ∙ o.1))))))

-- an item that is not outside leaves all
pub outside-same : (n : ℕ) (f : List Items) (a : Items) (i : ℕ) → IsUnionFamily n f → has (outside_of n f a) i ≡ false → outside_of n f a ≡ outside_of n f (with a i)
outside-same n f a i family h =
    sym (interior_again f (minus (full n) a))
    ∙ ap (interior f) (same_set (outside_of n f a) (without (outside_of n f a) i) (λ j. grind (arith, members, nat_tests)))
    ∙ outside-further n f a i family

-- nothing to keep
kept_all : (f : List Items) (s : Items) → interior_keeping f s empty ≡ Some (interior f s)
kept_all f s = ap (λ b. cond b (Some (interior f s)) None) (is_within-from empty (interior f s) (empty-within (interior f s)))

-- what an item leaves of it
pub outside-left : (n : ℕ) (f : List Items) (a outside keep left : Items) (i : ℕ) (found : Option Items) → IsUnionFamily n f → outside ≡ outside_of n f a → keep ≡ empty
    → (is_among f outside ≡ true → found ≡ interior_keeping f (without outside i) keep)
    → ((k : Items) → found ≡ Some k → left ≡ k) → left ≡ outside_of n f (with a i)
outside-left n f a outside keep left i found family same none keeping taken =
    let member = subst (λ s. is_among f s ≡ true) (sym same) (outside-among n f a family) in
    taken (interior f (without outside i)) (keeping member ∙ ap (interior_keeping f (without outside i)) none ∙ kept_all f (without outside i))
    ∙ ap (λ s. interior f (without s i)) same ∙ outside-further n f a i family

pub outside-of_within : (n : ℕ) (f : List Items) (a items : Items) → items ≡ outside_of n f a → IsWithin items (full n)
outside-of_within n f a items e = subst (λ s. IsWithin s (full n)) (sym e) (outside-within n f a)

-- the items of a set that went, and one more
went-further : (a more left : Items) (i : ℕ) → IsWithin left more → has left i ≡ true → with (union a (minus more left)) i ≡ union a (minus more (without left i))
went-further a more left i w h = same_set _ _ (λ j. grind (arith, members, nat_tests, w i h, w j))

pub outside-further_of : (n : ℕ) (f : List Items) (a more left outside : Items) (i : ℕ) → IsWithin left more → has left i ≡ true
    → outside ≡ outside_of n f (with (union a (minus more left)) i) → outside ≡ outside_of n f (union a (minus more (without left i)))
outside-further_of n f a more left outside i w h e = e ∙ ap (outside_of n f) (went-further a more left i w h)

-- none went, and all went
pub none_went : (a more : Items) → union a (minus more more) ≡ a
none_went a more = same_set _ _ (λ j. grind (arith, members, nat_tests))

pub all_went : (a more left : Items) → ((i : ℕ) → has left i ≡ false) → union a (minus more left) ≡ union a more
all_went a more left none = same_set _ _ (λ j. grind (arith, members, nat_tests, none j))

-- the others of a set, with a part of it
pub with_part : (part whole : Items) → IsWithin part whole → union part (minus whole part) ≡ whole
with_part part whole w = same_set _ _ (λ j. grind (arith, members, nat_tests, w j))

-- outside a set that is the closure
pub outside-closed : (n : ℕ) (f : List Items) (closed a : Items) → closed ≡ closure (full n) f a → minus (full n) closed ≡ outside_of n f a
outside-closed n f closed a e = ap (minus (full n)) e ∙ minus_twice (full n) (outside_of n f a) (outside-within n f a)
