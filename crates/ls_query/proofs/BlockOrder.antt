-- The order of the sets A: of one size it is the order of sets.
use Rattle.ls_query.proofs.Vocabulary.{◌&&◌, ◌<◌, ◌∙◌, ◌∷◌, ◌≡◌, ◌≢◌, ◌⊎◌, Items, List, None, Some, ℕ, [], ap, arith, block_before, cases_Bool, cases_order, comes_before, comes_before-asymmetric, comes_before-at, comes_before-irreflexive, comes_before-transitive, differs_first, eq-eqb, eqb, false, has, has-without, inl, inr, is_lex_before, items, items-least, items-none, le-ltb, least, least-cases, len, len-zero, length, lt-ltb, members, nat_tests, ne_eqb, not, refl, same_truth, suc, sym, true, true≢false, without, without-within, zero}

lex-same : (xs : List ℕ) → is_lex_before xs xs ≡ false
lex-same [] = refl
lex-same (x ∷ xs) = rw (le-ltb x x (omega arith), eq-eqb x x refl) (lex-same xs)

len-is : (s : Items) → len s ≡ length (items s)
unfolding len
len-is s = refl

-- the order is that of what is left without an item of both
without_shared : (a b : Items) (x : ℕ) → has a x ≡ true → has b x ≡ true → comes_before (without a x) (without b x) ≡ comes_before a b
without_shared a b x in_a in_b = same_truth (comes_before (without a x) (without b x)) (comes_before a b)
    (λ h.
    let r = differs_first (without a x) (without b x) h in
    let d = r.1 in
    let i : ℕ = r.0 in
    let here = d.in_first in
    let out = d.not_in_second in
    comes_before-at a b i (record {
      in_first = without-within a x i here;
      not_in_second = grind (arith, members, nat_tests);
      same_below = λ j l. let e = d.same_below j l in grind (arith, members, nat_tests);
    }))
    (λ h.
    let r = differs_first a b h in
    let d = r.1 in
    let i : ℕ = r.0 in
    let here = d.in_first in
    let out = d.not_in_second in
    let n : i ≢ x = λ e. true≢false (sym in_b ∙ sym (ap (has b) e) ∙ out) in
    comes_before-at (without a x) (without b x) i (record {
      in_first = has-without a x i ∙ rw (here, ne_eqb i x n) refl;
      not_in_second = has-without b x i ∙ rw out refl;
      same_below = λ j l. has-without a x j ∙ ap (λ v. v && not (eqb j x)) (d.same_below j l) ∙ sym (has-without b x j);
    }))

first_order : (a b : Items) (x y : ℕ) → least a ≡ Some x → least b ≡ Some y → x < y → comes_before a b ≡ true
first_order a b x y p q l =
    let f = least-cases a x p in
    let g = least-cases b y q in
    comes_before-at a b x (record { in_first = f.0; not_in_second = g.1 x l; same_below = λ j m. f.1 j m ∙ sym (g.1 j (omega arith)) })

-- of two sets of one size, that whose ascending list is lexicographically less comes first in the order of sets
pub same_size_order : (size : ℕ) (a b : Items) → len a ≡ size → len b ≡ size → is_lex_before (items a) (items b) ≡ comes_before a b
same_size_order zero a b h g =
    let e : a ≡ b = len-zero a h ∙ sym (len-zero b g) in
    rw e (lex-same (items b) ∙ sym (comes_before-irreflexive b))
same_size_order (suc size) a b h g =
    elim (least a) as (λ o. least a ≡ o → is_lex_before (items a) (items b) ≡ comes_before a b) [
      | None ↦ λ p. let e : len a ≡ 0 = len-is a ∙ ap length (items-none a p) in absurd (omega arith)
      | Some x ↦ λ p.
          elim (least b) as (λ o. least b ≡ o → is_lex_before (items a) (items b) ≡ comes_before a b) [
            | None ↦ λ q. let e : len b ≡ 0 = len-is b ∙ ap length (items-none b q) in absurd (omega arith)
            | Some y ↦ λ q.
                let ia = items-least a x p in
                let ib = items-least b y q in
                let la : len a ≡ suc (len (without a x)) = len-is a ∙ ap length ia ∙ ap suc (sym (len-is (without a x))) in
                let lb : len b ≡ suc (len (without b y)) = len-is b ∙ ap length ib ∙ ap suc (sym (len-is (without b y))) in
                rw (ia, ib) (elim (cases_order x y) [
                  | inl e ↦
                      rw (le-ltb x y (omega arith), eq-eqb x y e)
                      (same_size_order size (without a x) (without b y) (omega arith) (omega arith)
                      ∙ ap (λ z. comes_before (without a x) (without b z)) (sym e)
                      ∙ without_shared a b x (least-cases a x p).0 (ap (has b) e ∙ (least-cases b y q).0))
                  | inr (inl l) ↦ rw (lt-ltb x y l) (sym (first_order a b x y p q l))
                  | inr (inr l) ↦ rw (le-ltb x y (omega arith), ne_eqb x y (λ e. omega arith)) (sym (comes_before-asymmetric b a (first_order b a y x q p l)))
                ])
          ] refl
    ] refl

-- ---- the order of blocks

pub before-smaller : (a b : Items) → len a < len b → block_before a b ≡ true
unfolding block_before
before-smaller a b l = rw (lt-ltb (len a) (len b) l) refl

pub before-same : (a b : Items) → len a ≡ len b → block_before a b ≡ comes_before a b
unfolding block_before
before-same a b e = rw (le-ltb (len a) (len b) (omega arith), eq-eqb (len a) (len b) e) (same_size_order (len a) a b refl (sym e))

pub before-cases : (a b : Items) → block_before a b ≡ true → (len a < len b) ⊎ ((len a ≡ len b) × (comes_before a b ≡ true))
unfolding block_before
before-cases a b h =
    elim (cases_order (len a) (len b)) [
      | inl e ↦ inr (e, sym (before-same a b e) ∙ h)
      | inr (inl l) ↦ inl l
      | inr (inr l) ↦ absurd (true≢false (sym h ∙ rw (le-ltb (len a) (len b) (omega arith), ne_eqb (len a) (len b) (λ e. omega arith)) refl))
    ]

pub before-asymmetric : (a b : Items) → block_before a b ≡ true → block_before b a ≡ false
before-asymmetric a b h =
    elim (cases_Bool (block_before b a)) [
      | inr n ↦ n
      | inl k ↦ elim (before-cases a b h) [
        | inl l ↦ elim (before-cases b a k) [ inl m ↦ absurd (omega arith) | inr m ↦ let e = m.0 in absurd (omega arith) ]
        | inr l ↦ elim (before-cases b a k) [
          | inl m ↦ let e = l.0 in absurd (omega arith)
          | inr m ↦ absurd (true≢false (sym m.1 ∙ comes_before-asymmetric a b l.1))
        ]
      ]
    ]

pub before-transitive : (a b c : Items) → block_before a b ≡ true → block_before b c ≡ true → block_before a c ≡ true
before-transitive a b c h g = elim (before-cases a b h) [
  | inl l ↦ elim (before-cases b c g) [
    | inl m ↦ before-smaller a c (omega arith)
    | inr m ↦ let e = m.0 in before-smaller a c (omega arith)
  ]
  | inr l ↦ elim (before-cases b c g) [
    | inl m ↦ let e = l.0 in before-smaller a c (omega arith)
    | inr m ↦ before-same a c (l.0 ∙ m.0) ∙ comes_before-transitive a b c l.1 m.1
  ]
]
