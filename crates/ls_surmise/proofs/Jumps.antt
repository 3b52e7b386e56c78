-- Sets of a list in order that can't lie within a set, and are passed over at once.
use Rattle.ls_surmise.proofs.Vocabulary.{◌&&◌, ◌+◌, ◌-◌, ◌<◌, ◌||◌, ◌∙◌, ◌∷◌, ◌≡◌, ◌≤◌, AllByRecursion, Bool, IsInOrder, IsWithin-from, Items, List, None, Some, ℕ, [], and_parts, ap, arith, back_in, cases_eq, cases_order, comes_before, comes_before-asymmetric, comes_before-at, comes_before-transitive, differs_first, drop, drop-drop, drop-next, empty, false, false_from_ne_true, full, get_or, get_or_default, has, has-empty, has-minus, in_order-at, inl, inr, is_within, is_within-from, keep_before, least, len, length, list_any, ltb, members, minus, nat_tests, not, not-true, refl, subst, suc, sym, take, take_all, true, true≢false, union, zero}
use Rattle.std.specs.List.Sorted.{IsPartitionedBy}
use Rattle.ls_set.proofs.Ascending.{least-cases}
use Rattle.ls_set.proofs.Firsts.{items-none}
use Rattle.ls_laws.proofs.Counts.{len-zero}

-- the first set after d that may lie within c, where x is the least item of d that c lacks
abbrev pub after : Items → Items → ℕ → Items
after d c x = union (keep_before d x) (minus c (full (x + 1)))

has-after : (d c : Items) (x i : ℕ) → has (after d c x) i ≡ ((has d i && ltb i x) || (has c i && not (ltb i (x + 1))))
has-after d c x i = grind (arith, members, nat_tests)

-- a set between d and that one is not within c
pub passed : (c d s : Items) (x : ℕ) → least (minus d c) ≡ Some x → comes_before d s ≡ true → comes_before s (after d c x) ≡ true → is_within s c ≡ false
passed c d s x e before next = false_from_ne_true (is_within s c) (λ w.
    let within = IsWithin-from s c w in
    let first = least-cases (minus d c) x e in
    let here = and_parts (has d x) (not (has c x)) (sym (has-minus d c x) ∙ first.0) in
    let r = differs_first s (after d c x) next in
    let y = r.0 in
    let at = r.1 in
    let in_c : has c y ≡ true = within y at.in_first in
    let out : ((has d y && ltb y x) || (has c y && not (ltb y (x + 1)))) ≡ false = sym (has-after d c x y) ∙ at.not_in_second in
    elim (cases_order y x) [
      | inl q ↦ true≢false (sym (ap (has c) (sym q) ∙ in_c) ∙ not-true (has c x) here.1)
      | inr o ↦ elim o [
        | inl a ↦
            let lacks : has d y ≡ false = grind (arith, nat_tests, out, a) in
            let same = λ (j : ℕ) (l : j < y). at.same_below j l ∙ has-after d c x j ∙ below (has d j) (has c j) j a l in
            true≢false (sym (comes_before-at s d y (record { in_first = at.in_first; not_in_second = lacks; same_below = same })) ∙ comes_before-asymmetric d s before)
        | inr a ↦ absurd (let z : true ≡ false = grind (arith, nat_tests, out, in_c, a) in true≢false z)
      ]
    ])
  where
    below : (p q : Bool) (j : ℕ) → {y : ℕ} → y < x → j < y → ((p && ltb j x) || (q && not (ltb j (x + 1)))) ≡ p
    below p q j a l = grind (arith, nat_tests, a, l)

-- ---- in a list

pub parted : (sets : List Items) (next : Items) → IsInOrder sets → IsPartitionedBy (λ s. comes_before s next) sets
parted sets next order i j d a b h = elim (cases_eq i j) [
  | inl e ↦ subst (λ k. comes_before (get_or sets k d) next ≡ true) (sym e) h
  | inr n ↦
      let first = in_order-at sets i j order (omega arith) b in
      ap (λ s. comes_before s next) (get_or_default sets i d empty (omega arith))
      ∙ comes_before-transitive (get_or sets i empty) (get_or sets j empty) next first (ap (λ s. comes_before s next) (sym (get_or_default sets j d empty b)) ∙ h)
]

skip : (c d : Items) (x : ℕ) (later : List Items) (m : ℕ) → least (minus d c) ≡ Some x → AllByRecursion (λ t. comes_before d t ≡ true) later
    → ((k : ℕ) → k < m → comes_before (get_or later k empty) (after d c x) ≡ true) → list_any (λ s. is_within s c) (drop m later) ≡ list_any (λ s. is_within s c) later
skip c d x later zero e all before = refl
skip c d x [] (suc m) e all before = refl
skip c d x (s ∷ later) (suc m) e all before =
    skip c d x later m e all.1 (λ k l. before (suc k) (omega arith))
    ∙ ap (λ b. b || list_any (λ s. is_within s c) later) (sym (passed c d s x e all.0 (before 0 (omega arith))))

pub drop-in_order : (sets : List Items) (i : ℕ) → IsInOrder sets → IsInOrder (drop i sets)
drop-in_order sets zero order = order
drop-in_order [] (suc i) order = tt
drop-in_order (s ∷ sets) (suc i) order = drop-in_order sets i order.1

lacking : (c d : Items) (x : ℕ) → least (minus d c) ≡ Some x → is_within d c ≡ false
lacking c d x e = false_from_ne_true (is_within d c) (λ w.
    let here = and_parts (has d x) (not (has c x)) (sym (has-minus d c x) ∙ (least-cases (minus d c) x e).0) in
    true≢false (sym (IsWithin-from d c w x here.0) ∙ not-true (has c x) here.1))

pub jumped : (c d : Items) (x : ℕ) (sets : List Items) (place m : ℕ) (whole : Bool) → IsInOrder sets → place < length sets → d ≡ get_or sets place d → least (minus d c) ≡ Some x
    → ((k : ℕ) → k < m → comes_before (get_or (drop (place + 1) sets) k empty) (after d c x) ≡ true)
    → list_any (λ s. is_within s c) (drop place sets) ≡ whole → list_any (λ s. is_within s c) (drop (place + (1 + m)) sets) ≡ whole
jumped c d x sets place m whole order l at e before h =
    let p = λ (s : Items). is_within s c in
    let later = drop (place + 1) sets in
    let next = drop-next sets place d l at in
    let o : IsInOrder (d ∷ later) = subst IsInOrder next (drop-in_order sets place order) in
    ap (list_any p) (ap (λ k. drop k sets) (let q : place + (1 + m) ≡ (place + 1) + m = omega arith in q) ∙ sym (drop-drop m (place + 1) sets))
    ∙ skip c d x later m e o.0 before
    ∙ sym (ap (λ b. b || list_any p later) (lacking c d x e))
    ∙ ap (list_any p) (sym next)
    ∙ h

pub found : (c d : Items) (sets : List Items) (place : ℕ) (whole : Bool) → place < length sets → d ≡ get_or sets place d → is_within d c ≡ true → list_any (λ s. is_within s c) (drop place sets) ≡ whole → true ≡ whole
found c d sets place whole l at w h = sym (ap (λ b. b || list_any (λ s. is_within s c) (drop (place + 1) sets)) w) ∙ ap (list_any (λ s. is_within s c)) (sym (drop-next sets place d l at)) ∙ h

drop-short : (sets : List Items) (i : ℕ) → length (drop i sets) ≤ length sets - i
drop-short sets zero = omega arith
drop-short [] (suc i) = omega arith
drop-short (s ∷ sets) (suc i) = let l = drop-short sets i in omega arith

-- all that stands from a place on
pub rest : (sets : List Items) (i : ℕ) → take (length sets - i) (drop i sets) ≡ drop i sets
rest sets i = take_all (length sets - i) (drop i sets) (drop-short sets i)

pub none-lacking : (c d : Items) → least (minus d c) ≡ None → is_within d c ≡ true
unfolding len
none-lacking c d e =
    let nothing = len-zero (minus d c) (ap length (items-none (minus d c) e)) in
    is_within-from d c (λ i h. back_in (has d i) (has c i) h (sym (has-minus d c i) ∙ ap (λ s. has s i) nothing ∙ has-empty i))
