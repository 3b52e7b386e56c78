-- Answers and blocks, written and read.
use Rattle.ls_codecs.proofs.Vocabulary.{◌+◌, ◌-◌, ◌<◌, ◌^◌, ◌||◌, ◌∷◌, ◌≡◌, ◌≤◌, All-list_all, AllByRecursion, Answer, BlockRange, Bool, Equal, Err, Greater, Interview, IsDistinct, IsReadBack, IsStanding, IsStrictlySortedBy, Less, List, Result, ℕ, [], and_from, answer_codec, answer_from, ap, are_apart, are_made, arith, block_codec, booleans-back, cond, each, eqb, false, fewer, fours-back, good-from, is_ascending, is_good, is_ok, is_same_query, le-leb, leb, length, list_all, list_any, ltb, ltb-false, made, map, mapped-back, max, most_answers, most_items, most_number, nat_cmp, ne_eqb, not, not_from_false, numbers-back, only_if-back, refl, sorted_from_strictly_increasing, spaces_of, stands, suc, sym, true, true≢false}
use Rattle.ls_theory.specs.declared.block_fault.BlockFault.{BlockFault}
use Rattle.ls_theory.specs.declared.block_fault.BlockFault.TheVariants.{BadBlock}
use Rattle.ls_codecs.proofs.WrittenStarts.{set-back, item-back}

-- ---- the tests of what stands

none_found : {X : Type 0} (same : X → X → Bool) (x : X) (xs : List X) → AllByRecursion (λ y. same x y ≡ false) xs → list_any (same x) xs ≡ false
none_found same x [] h = refl
none_found same x (y ∷ ys) h = rw h.0 (none_found same x ys h.1)

pub apart-from : {X : Type 0} (same : X → X → Bool) (xs : List X) → IsDistinct same xs → are_apart same xs ≡ true
unfolding IsDistinct
apart-from same [] h = refl
apart-from same (x ∷ xs) h = and_from (not (list_any (same x) xs)) (are_apart same xs) (not_from_false (list_any (same x) xs) (none_found same x xs h.0)) (apart-from same xs h.1)

compared : (less equal : Bool) → cond less Less (cond equal Equal Greater) ≡ Less → less ≡ true
compared true equal e = refl
compared false true e = absurd (cc e)
compared false false e = absurd (cc e)

ascending-sorted : (ms : List ℕ) → IsStrictlySortedBy nat_cmp ms → is_ascending ms ≡ true
unfolding IsStrictlySortedBy
ascending-sorted [] h = refl
ascending-sorted (m ∷ ms) h =
    and_from (list_all (ltb m) ms) (is_ascending ms)
    (All-list_all (ltb m) ms (each (λ y. compared (ltb m y) (eqb m y)) ms h.0))
    (ascending-sorted ms h.1)

some-length : {X : Type 0} (xs : List X) → (xs ≡ [] → ⊥) → not (eqb (length xs) 0) ≡ true
some-length [] h = absurd (h refl)
some-length (x ∷ xs) h = ap not (ne_eqb (suc (length xs)) 0 (λ e. omega arith))

pub stands-from : (i : Interview) → IsStanding i → stands i ≡ true
unfolding stands
stands-from i h =
    and_from _ _ (and_from _ _ (and_from _ _ (and_from _ _ (and_from _ _ (and_from _ _
    (some-length (spaces_of i) h.sound.some_fits)
    h.good)
    (apart-from is_same_query (map (λ a. a.query) i.answers) h.distinct))
    (ascending-sorted (map (λ a. a.number) i.answers) (sorted_from_strictly_increasing (map (λ a. a.number) i.answers) h.numbered.in_order)))
    h.numbered.below_next)
    (le-leb (length i.answers) most_answers h.few_answers))
    (and_from (leb 1 i.next) (leb i.next (most_number + 1)) (le-leb 1 i.next h.some_number) (le-leb i.next (most_number + 1) h.numbers_left))

-- ---- blocks

not-bad : (bad : Bool) (rest : Result BlockRange BlockFault) → is_ok (cond bad (Err BadBlock) rest) ≡ true → bad ≡ false
not-bad true rest h = absurd (true≢false (sym h))
not-bad false rest h = refl

or-right : (x y : Bool) → (x || y) ≡ false → y ≡ false
or-right true y e = absurd (cc e)
or-right false y e = e

-- the blocks are of sets of at most so many items
pub block-most : (n k : ℕ) → are_made n k ≡ true → k ≤ max 1 (n - 1)
unfolding made
block-most n k h = ltb-false (max 1 (n - 1)) k (or-right (eqb k 0) (ltb (max 1 (n - 1)) k) (not-bad (eqb k 0 || ltb (max 1 (n - 1)) k) _ h))

pub block-back : (n : ℕ) → n ≤ most_items → IsReadBack ℕ (block_codec n) (λ k. are_made n k ≡ true) 0
block-back n few = fewer (λ k. are_made n k ≡ true) (λ k h. let most = block-most n k h in (omega arith, h)) (only_if-back (are_made n) numbers-back)

-- ---- answers

-- its number is one of 64 bits, and its query is good
abbrev pub IsFineAnswer : ℕ → Answer → Type 0
IsFineAnswer n a = (a.number < 2 ^ 64) × (is_good n a.query ≡ true)

pub answer-back : (n : ℕ) → n ≤ most_items → IsReadBack Answer (answer_codec n) (IsFineAnswer n) 1
answer-back n few =
    fewer (IsFineAnswer n) (λ a h. let good = good-from n a.query h.1 in ((h.0, tt), (good.small, good.item)))
    (mapped-back answer_from (λ a. ((a.number, a.yes), (a.query.a, a.query.q))) (λ a. refl) (fours-back numbers-back booleans-back (set-back n) (item-back n few)))
