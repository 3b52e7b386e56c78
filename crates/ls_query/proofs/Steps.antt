-- The next set of the blocks: of the same size where an item can move up, and otherwise the first set of the next size.
use Rattle.ls_query.proofs.Vocabulary.{◌&&◌, ◌+◌, ◌-◌, ◌<◌, ◌||◌, ◌∙◌, ◌≡◌, ◌≤◌, Bool, DiffersFirstAt, HasNoMove, IsLastMove, IsWithin, Items, None, Some, ℕ, ap, arith, block_before, blocks, cases_lt, cases_order, comes_before, comes_before-at, differs_first, false, false_from_ne_true, find, find-first, find-no_element, full, has, has-full, has-keep_before, has-minus, has-union, inl, inr, keep_before, keep_before-within, le-ltb, len, len-less, len-parts, len-within, lt-ltb, ltb, ltb-true, members, minus, moved, nat_tests, not, refl, suc, sym, true, true≢false, with, zero}
use Rattle.ls_query.proofs.BySize.{len-with, len-full, len-range}
use Rattle.ls_query.proofs.BlockOrder.{before-smaller, before-same, before-cases}
use Rattle.ls_query.proofs.BlockSets.{in-blocks, blocks-in, sorted-blocks}

-- ---- items that cannot move up

-- where no item from j on can move up, an item there has all items above it
rises : (n : ℕ) (a : Items) (j d : ℕ) → ((x : ℕ) → j ≤ x → x + 1 < n → has a x ≡ true → has a (x + 1) ≡ true) → has a j ≡ true → j + d < n → has a (j + d) ≡ true
rises n a j zero up here l = ap (has a) (let e : j + 0 ≡ j = omega arith in e) ∙ here
rises n a j (suc d) up here l =
    ap (has a) (let e : j + suc d ≡ (j + d) + 1 = omega arith in e) ∙ up (j + d) (omega arith) (omega arith) (rises n a j d up here (omega arith))

-- a set that lacks such an item, and has the same items below it, has fewer items
fewer : (n : ℕ) (a c : Items) (d : ℕ) → DiffersFirstAt a c d → IsWithin c (full n) → ((x : ℕ) → d ≤ x → x + 1 < n → has a x ≡ true → has a (x + 1) ≡ true) → len c < len a
fewer n a c d first within up =
    len-less c a d (λ j h. elim (cases_order j d) [
      | inl e ↦ ap (has a) e ∙ first.in_first
      | inr (inl l) ↦ first.same_below j l ∙ h
      | inr (inr l) ↦
          let small : j < n = ltb-true j n (sym (has-full n j) ∙ within j h) in
          ap (has a) (let e : j ≡ d + (j - d) = omega arith in e) ∙ rises n a d (j - d) up first.in_first (omega arith)
    ]) first.not_in_second first.in_first

no_next : (n : ℕ) (a c : Items) → HasNoMove n a → IsWithin c (full n) → len a ≡ len c → comes_before a c ≡ true → ⊥
no_next n a c none within e h =
    let r = differs_first a c h in
    let l : len c < len a = fewer n a c r.0 r.1 within (λ x _. none x) in omega arith

-- ---- the item that moves

pub kept_fewer : (a : Items) (i : ℕ) → has a i ≡ true → len (keep_before a i) < len a
kept_fewer a i h = len-less (keep_before a i) a i (keep_before-within a i) (has-keep_before a i i ∙ rw (h, le-ltb i i (omega arith)) refl) h

pub end_within : (n : ℕ) (a : Items) (i : ℕ) → IsWithin a (full n) → IsLastMove n a i → i + 1 + (len a - len (keep_before a i)) ≤ n
end_within n a i within m =
    let rest = minus a (keep_before a i) in
    let above = minus (full n) (full (i + 2)) in
    let parts : len a ≡ len (keep_before a i) + len rest = len-parts (keep_before a i) rest a (λ j. grind (arith, members, nat_tests)) (λ j. grind (arith, members, nat_tests)) in
    let wider : len rest ≤ len (with above i) = len-within rest (with above i) (λ j h.
    let low = sym (has-minus a (keep_before a i) j) ∙ h in
    let small = has-full n j in
    let in_a = within j in
    let free = m.free in
    grind (arith, members, nat_tests, within j)) in
    let one : len (with above i) ≡ suc (len above) = len-with above i (grind (arith, members, nat_tests)) in
    let room = m.room in
    let size : len above ≡ n - (i + 2) = len-range (i + 2) n (omega arith) in
    omega arith

has-moved : (a : Items) (i j : ℕ) → has (moved a i) j ≡ ((ltb j (i + 1 + (len a - len (keep_before a i))) && not (ltb j (i + 1))) || (has a j && ltb j i))
has-moved a i j =
    has-union _ (keep_before a i) j ∙ rw (has-minus (full (i + 1 + (len a - len (keep_before a i)))) (full (i + 1)) j, has-full (i + 1 + (len a - len (keep_before a i))) j, has-full (i + 1) j, has-keep_before a i j) refl

len-moved : (a : Items) (i : ℕ) → has a i ≡ true → len (moved a i) ≡ len a
len-moved a i h =
    let end = i + 1 + (len a - len (keep_before a i)) in
    let l : len (keep_before a i) < len a = kept_fewer a i h in
    let parts : len (moved a i) ≡ len (minus (full end) (full (i + 1))) + len (keep_before a i) = len-parts (minus (full end) (full (i + 1))) (keep_before a i) (moved a i) (has-union _ (keep_before a i)) (λ j. grind (arith, members, nat_tests)) in
    let size : len (minus (full end) (full (i + 1))) ≡ end - (i + 1) = len-range (i + 1) end (omega arith) in
    omega arith

moved-within : (n : ℕ) (a : Items) (i : ℕ) → IsWithin a (full n) → IsLastMove n a i → IsWithin (moved a i) (full n)
moved-within n a i within m j h =
    let end : i + 1 + (len a - len (keep_before a i)) ≤ n = end_within n a i within m in
    let small = sym (has-moved a i j) ∙ h in
    let room = m.room in
    has-full n j ∙ lt-ltb j n (below (len a - len (keep_before a i)) end small (omega arith))
  where
    below : (p : ℕ) → i + 1 + p ≤ n → ((ltb j (i + 1 + p) && not (ltb j (i + 1))) || (has a j && ltb j i)) ≡ true → i < n → j < n
    below p end small l = grind (arith, nat_tests)

comes_next : (n : ℕ) (a : Items) (i : ℕ) → IsLastMove n a i → DiffersFirstAt a (moved a i) i
comes_next n a i m = record {
  in_first = m.here;
  not_in_second = has-moved a i i ∙ out (len a - len (keep_before a i)) (has a i);
  same_below = λ j l. sym (has-moved a i j ∙ same (len a - len (keep_before a i)) (has a j) j l);
}
  where
    out : (p : ℕ) (b : Bool) → ((ltb i (i + 1 + p) && not (ltb i (i + 1))) || (b && ltb i i)) ≡ false
    out p b = rw (lt-ltb i (i + 1 + p) (omega arith), lt-ltb i (i + 1) (omega arith), le-ltb i i (omega arith)) (elim b as (λ b. (b && false) ≡ false) [ true ↦ refl | false ↦ refl ])

    same : (p : ℕ) (b : Bool) (j : ℕ) → j < i → ((ltb j (i + 1 + p) && not (ltb j (i + 1))) || (b && ltb j i)) ≡ b
    same p b j l = rw (lt-ltb j (i + 1 + p) (omega arith), lt-ltb j (i + 1) (omega arith), lt-ltb j i l) (elim b as (λ b. (b && true) ≡ b) [ true ↦ refl | false ↦ refl ])

-- a set that lacks item i as well, has the same items below it and comes before the moved set has more items
more : (a c : Items) (i : ℕ) → has c i ≡ false → ((j : ℕ) → j < i → has a j ≡ has c j) → (e : ℕ) → DiffersFirstAt c (moved a i) e → i < e → len (moved a i) < len c
more a c i lacks same e first l =
    let out = sym (has-moved a i e) ∙ first.not_in_second in
    let high : i + 1 + (len a - len (keep_before a i)) ≤ e = past (len a - len (keep_before a i)) (has a e) out in
    len-less (moved a i) c e (λ j h. elim (cases_lt j e) [
      | inl k ↦ first.same_below j k ∙ h
      | inr k ↦ absurd (true≢false (sym h ∙ has-moved a i j ∙ rw (le-ltb j (i + 1 + (len a - len (keep_before a i))) (omega arith), le-ltb j i (omega arith)) (elim (has a j) as (λ b. (b && false) ≡ false) [ true ↦ refl | false ↦ refl ])))
    ]) first.not_in_second first.in_first
  where
    past : (p : ℕ) (b : Bool) → ((ltb e (i + 1 + p) && not (ltb e (i + 1))) || (b && ltb e i)) ≡ false → i + 1 + p ≤ e
    past p b h = elim (cases_lt e (i + 1 + p)) [
      | inr k ↦ k
      | inl k ↦ absurd (true≢false (sym (rw (lt-ltb e (i + 1 + p) k, le-ltb e (i + 1) (omega arith)) refl) ∙ h))
    ]

-- no set of the size stands between
none_between : (n : ℕ) (a c : Items) (i : ℕ) → IsLastMove n a i → IsWithin c (full n) → len a ≡ len c → comes_before a c ≡ true → comes_before c (moved a i) ≡ true → ⊥
none_between n a c i m within size h g =
    let r = differs_first a c h in
    let s = differs_first c (moved a i) g in
    let next = comes_next n a i m in
    let d : ℕ = r.0 in
    let e : ℕ = s.0 in
    let same_size : len (moved a i) ≡ len a = len-moved a i m.here in
    elim (cases_order d i) [
      | inl q ↦
          let lacks : has c i ≡ false = sym (ap (has c) q) ∙ r.1.not_in_second in
          let same : (j : ℕ) → j < i → has a j ≡ has c j = λ j l. r.1.same_below j (omega arith) in
          elim (cases_order e i) [
            | inl p ↦ true≢false (sym s.1.in_first ∙ ap (has c) p ∙ lacks)
            | inr (inl p) ↦ true≢false (sym s.1.in_first ∙ sym (same e p) ∙ next.same_below e p ∙ s.1.not_in_second)
            | inr (inr p) ↦ let l : len (moved a i) < len c = more a c i lacks same e s.1 p in omega arith
          ]
      | inr (inl q) ↦
          let there : has (moved a i) d ≡ true = sym (next.same_below d q) ∙ r.1.in_first in
          elim (cases_order e d) [
            | inl p ↦ true≢false (sym s.1.in_first ∙ ap (has c) p ∙ r.1.not_in_second)
            | inr (inl p) ↦ true≢false (sym s.1.in_first ∙ sym (r.1.same_below e p) ∙ next.same_below e (omega arith) ∙ s.1.not_in_second)
            | inr (inr p) ↦ true≢false (sym there ∙ sym (s.1.same_below d p) ∙ r.1.not_in_second)
          ]
      | inr (inr q) ↦
          let l : len c < len a = fewer n a c d r.1 within (λ x k. m.last x (omega arith)) in omega arith
    ]

-- ---- the next set of the blocks

pub find-moved : (n k : ℕ) (a : Items) (i : ℕ) → IsWithin a (full n) → len a ≤ k → IsLastMove n a i → find (block_before a) (blocks n k) ≡ Some (moved a i)
find-moved n k a i within few m =
    let size : len (moved a i) ≡ len a = len-moved a i m.here in
    let some : len (keep_before a i) < len a = kept_fewer a i m.here in
    find-first block_before (block_before a) (blocks n k) (moved a i) (sorted-blocks n k)
    (in-blocks n k (moved a i) (record { within = moved-within n a i within m; some = omega arith; few = omega arith }))
    (before-same a (moved a i) (sym size) ∙ comes_before-at a (moved a i) i (comes_next n a i m))
    (λ c in_blocks g. false_from_ne_true (block_before a c) (λ h.
    elim (before-cases a c h) [
      | inl l ↦ elim (before-cases c (moved a i) g) [ inl p ↦ omega arith | inr p ↦ let e = p.0 in omega arith ]
      | inr l ↦ let e = l.0 in elim (before-cases c (moved a i) g) [
        | inl p ↦ omega arith
        | inr p ↦ none_between n a c i m (blocks-in n k c in_blocks).within e l.1 p.1
      ]
    ]))

pub find-next_size : (n k : ℕ) (a : Items) → k ≤ n → len a < k → HasNoMove n a → find (block_before a) (blocks n k) ≡ Some (full (len a + 1))
find-next_size n k a wide few none =
    let size : len (full (len a + 1)) ≡ len a + 1 = len-full (len a + 1) in
    find-first block_before (block_before a) (blocks n k) (full (len a + 1)) (sorted-blocks n k)
    (in-blocks n k (full (len a + 1)) (record { within = λ j h. let l : j < len a + 1 = ltb-true j (len a + 1) (sym (has-full (len a + 1) j) ∙ h) in has-full n j ∙ lt-ltb j n (omega arith); some = omega arith; few = omega arith }))
    (before-smaller a (full (len a + 1)) (omega arith))
    (λ c in_blocks g. false_from_ne_true (block_before a c) (λ h.
    elim (before-cases c (full (len a + 1)) g) [
      | inl p ↦ elim (before-cases a c h) [ inl l ↦ omega arith | inr l ↦ no_next n a c none (blocks-in n k c in_blocks).within l.0 l.1 ]
      | inr p ↦
          let e = p.0 in
          let r = differs_first c (full (len a + 1)) p.1 in
          let first = r.1 in
          let high : (len a + 1) ≤ r.0 = elim (cases_lt r.0 (len a + 1)) [ inr l ↦ l | inl l ↦ absurd (true≢false (sym (has-full (len a + 1) r.0 ∙ lt-ltb r.0 (len a + 1) l) ∙ first.not_in_second)) ] in
          let l : len (full (len a + 1)) < len c = len-less (full (len a + 1)) c r.0 (λ j b. let s : j < len a + 1 = ltb-true j (len a + 1) (sym (has-full (len a + 1) j) ∙ b) in first.same_below j (omega arith) ∙ b) first.not_in_second first.in_first in
          omega arith
    ]))

pub find-past : (n k : ℕ) (a : Items) → k ≤ len a → HasNoMove n a → find (block_before a) (blocks n k) ≡ None
find-past n k a many none =
    find-no_element (block_before a) (blocks n k) (λ c in_blocks. false_from_ne_true (block_before a c) (λ h.
    let b = blocks-in n k c in_blocks in
    let few = b.few in
    elim (before-cases a c h) [ inl l ↦ omega arith | inr l ↦ no_next n a c none b.within l.0 l.1 ]))

pub find-too_large : (n k : ℕ) (a : Items) → k < len a → find (block_before a) (blocks n k) ≡ None
find-too_large n k a many =
    find-no_element (block_before a) (blocks n k) (λ c in_blocks. false_from_ne_true (block_before a c) (λ h.
    let few = (blocks-in n k c in_blocks).few in
    elim (before-cases a c h) [ inl l ↦ omega arith | inr l ↦ let e = l.0 in omega arith ]))
