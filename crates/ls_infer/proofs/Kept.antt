-- What is kept of standing answers.
use Rattle.ls_infer.proofs.Vocabulary.{◌&&◌, ◌+◌, ◌<◌, ◌||◌, ◌∙◌, ◌∷◌, ◌≡◌, Bool, IsWithin, Items, List, None, Option, Some, StandingNo, ℕ, [], ap, arith, closure, drop, drop-next, enough_for, eqb, eqb-true, false, full, get_or, has, has-full, has-with, inl, inr, is_some, le-leb, least, length, list_any, lt-ltb, ltb, nat_tests, not, option_map_or, or_cases, refl, slice_get, suc, sym, true, true≢false, with, zero, zero-add}
use Rattle.ls_set.proofs.Listed.{least-none_left}
use Rattle.ls_set.proofs.Cursors.{has-set_of-filter}

-- ---- the items that are enough

pub has-enough : (n : ℕ) (f : List Items) (closed : Items) (q i : ℕ) → has (enough_for n f closed q) i ≡ (ltb i n && has (closure (full n) f (with closed i)) q)
has-enough n f closed q i = has-set_of-filter (λ r. has (closure (full n) f (with closed r)) q) 0 n i ∙ rw (le-leb 0 i (omega arith), zero-add) refl

pub with-within : (n : ℕ) (s : Items) (r : ℕ) → IsWithin s (full n) → r < n → IsWithin (with s r) (full n)
with-within n s r w l i h = elim (or_cases (has s i) (eqb i r) (sym (has-with s r i) ∙ h)) [
  | inl a ↦ w i a
  | inr e ↦ has-full n i ∙ lt-ltb i n (let same : i ≡ r = eqb-true i r e in omega arith)
]

-- the next number, where it passes, where it does not, and where it is the one that is there from the start
pub taken : (k i q : ℕ) (p : Bool) → (i ≡ k → p ≡ true) → (ltb i k && p || eqb i q || eqb i k) ≡ (ltb i (k + 1) && p || eqb i q)
taken k i q p h = grind (arith, nat_tests)

pub left : (k i q : ℕ) (p : Bool) → (i ≡ k → p ≡ false) → (ltb i k && p || eqb i q) ≡ (ltb i (k + 1) && p || eqb i q)
left k i q p h = grind (arith, nat_tests)

pub left-out : (k i q : ℕ) (p : Bool) → k ≡ q → (ltb i k && p || eqb i q) ≡ (ltb i (k + 1) && p || eqb i q)
left-out k i q p e = grind (arith, nat_tests)

-- ---- the items that no answer forces

pub none_left : (s : Items) (q : ℕ) (first : Option ℕ) → first ≡ least s → is_some first ≡ false → has s q ≡ false
none_left s q None e h = least-none_left s q (sym e)
none_left s q (Some i) e h = absurd (true≢false h)

-- items without those of two kinds
not_either : (b e r : Bool) → ((b && not e) && not r) ≡ (b && not (e || r))
not_either true true r = refl
not_either true false r = refl
not_either false e r = refl

-- the next answer
pub unforced-next : (p : StandingNo → Bool) (ss : List StandingNo) (i : ℕ) (s : StandingNo) (x y : Bool) → i < length ss → s ≡ get_or ss i s → y ≡ (x && not (p s))
    → (y && not (list_any p (drop (i + 1) ss))) ≡ (x && not (list_any p (drop i ss)))
unforced-next p ss i s x y l at e =
    let rest = list_any p (drop (i + 1) ss) in
    ap (λ b. b && not rest) e ∙ not_either x (p s) rest ∙ ap (λ xs. x && not (list_any p xs)) (sym (drop-next ss i s l at))

-- an answer that is asked first is asked again
or_same : (b r : Bool) → (b || (b || r)) ≡ (b || r)
or_same true r = refl
or_same false r = refl

or_later : (o b r : Bool) → (o || r) ≡ r → (o || (b || r)) ≡ (b || r)
or_later true true r e = refl
or_later true false r e = e
or_later false b r e = refl

asked_twice : (p : StandingNo → Bool) (ss : List StandingNo) (i : ℕ) → (option_map_or p (slice_get ss i) false || list_any p ss) ≡ list_any p ss
asked_twice p [] i = refl
asked_twice p (s ∷ ss) zero = or_same (p s) (list_any p ss)
asked_twice p (s ∷ ss) (suc i) = or_later (option_map_or p (slice_get ss i) false) (p s) (list_any p ss) (asked_twice p ss i)

pub unforced-first : (p : StandingNo → Bool) (ss : List StandingNo) (i : ℕ) (x y : Bool) → y ≡ (x && not (option_map_or p (slice_get ss i) false)) → (y && not (list_any p ss)) ≡ (x && not (list_any p ss))
unforced-first p ss i x y e =
    ap (λ b. b && not (list_any p ss)) e
    ∙ not_either x (option_map_or p (slice_get ss i) false) (list_any p ss)
    ∙ ap (λ b. x && not b) (asked_twice p ss i)

-- where none is left
pub unforced-none : (y rest z : Bool) → y ≡ false → (y && not rest) ≡ z → y ≡ z
unforced-none y rest z e h = e ∙ sym (ap (λ b. b && not rest) e) ∙ h
