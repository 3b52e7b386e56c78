-- A family is well graded exactly where no member is an atom at two items.
use Rattle.ls_laws.proofs.Vocabulary.{◌&&◌, ◌++◌, ◌+◌, ◌↔◌, ◌∙◌, ◌∷◌, ◌≡◌, ◌≢◌, ◌≤◌, IsUnionClosed, IsWellGraded, IsWithin, IsWithin-from, Items, LeadsTo, List, ℕ, [], and_from, and_parts, ap, ap₂, arith, base, cases_Bool, cases_eq, differing, empty, false, false_from_ne_true, has, has-empty, inl, inr, is_among, is_atom_at, is_within, is_within-from, len, len-within, length, length-append, members, nat_tests, not, not-true, not_from_false, refl, same_set, same_within, single, subst, suc, sym, true, true≢false, union, union-left, union-right, with, without, zero}
use Rattle.ls_laws.proofs.Counts.{len-parts, len-single, len-empty, len-zero, len-one, some_missing, as_many}
use Rattle.ls_laws.proofs.Atoms.{IsAtom, IsAtom-from, is_atom_at-from, among-base, base-member, fewest_of}

-- ---- from sequences to atoms

-- the two that differ in the item i alone
other_item : (s t : Items) (i : ℕ) → differing s t ≡ single i → (j : ℕ) → j ≢ i → has s j ≡ has t j
other_item s t i e j n =
    let x : has (differing s t) j ≡ has (single i) j = ap (λ u. has u j) e in
    grind (arith, members, nat_tests)

at_item : (s t : Items) (i : ℕ) → differing s t ≡ single i → has s i ≡ not (has t i)
at_item s t i e =
    let x : has (differing s t) i ≡ has (single i) i = ap (λ u. has u i) e in
    grind (arith, members, nat_tests)

len-with : (s : Items) (i : ℕ) → len (with s i) ≤ len s + 1
len-with s i =
    elim (cases_Bool (has s i)) [
      | inl a ↦ let e : with s i ≡ s = same_set (with s i) s (λ j. grind (arith, members, nat_tests)) in rw e (omega arith)
      | inr a ↦ let x = len-parts s (single i) (with s i) (λ j. grind (arith, members, nat_tests)) (λ j. grind (arith, members, nat_tests)) in let y = len-single i in omega arith
    ]

one_step : (s t : Items) → len (differing s t) ≡ 1 → len s ≤ len t + 1
one_step s t h =
    let r = len-one (differing s t) h in
    let w : IsWithin s (with t r.0) = λ j a. elim (cases_eq j r.0) [
      | inl e ↦ grind (arith, members, nat_tests)
      | inr n ↦ let x = other_item s t r.0 r.1 j n in grind (arith, members, nat_tests)
    ] in
    let y = len-within s (with t r.0) w in
    let z = len-with t r.0 in
    omega arith

-- a sequence of m steps changes the count by at most m
pub in_steps : (f : List Items) (k : Items) (ss : List Items) (l : Items) → LeadsTo f k ss l → len k ≤ len l + length ss
in_steps f k [] l e = rw e (omega arith)
in_steps f k (s ∷ ss) l h =
    let x = one_step k s h.1 in
    let y = in_steps f s ss l h.2 in
    omega arith

-- A member with an item has an item without which it is a member: the first step towards the empty set, in as few steps as there are items, takes one away.
pub removable : (f : List Items) → IsWellGraded f → is_among f empty ≡ true → (k : Items) (q : ℕ) → is_among f k ≡ true → has k q ≡ true → (i : ℕ) × (has k i ≡ true) × (is_among f (without k i) ≡ true)
removable f graded e k q c h = let w = graded k empty c e in go w.steps w.leads w.shortest
  where
    whole : differing k empty ≡ k
    whole = same_set (differing k empty) k (λ j. grind (arith, members, nat_tests))

    go : (ss : List Items) → LeadsTo f k ss empty → length ss ≡ len (differing k empty) → (i : ℕ) × (has k i ≡ true) × (is_among f (without k i) ≡ true)
    go [] a _ = absurd (true≢false (sym h ∙ ap (λ u. has u q) a ∙ has-empty q))
    go (s ∷ ss) a m =
        let r = len-one (differing k s) a.1 in
        let i = r.0 in
        let x : len s ≤ len empty + length ss = in_steps f s ss empty a.2 in
        let y : len empty ≡ 0 = len-empty in
        let z : suc (length ss) ≡ len k = m ∙ ap len whole in
        elim (cases_Bool (has k i)) [
          | inl b ↦ (
            i,
            b,
            subst (λ u. is_among f u ≡ true) (same_set s (without k i) (λ j. elim (cases_eq j i) [
              | inl same ↦ let p = at_item k s i r.1 in grind (arith, members, nat_tests)
              | inr n ↦ let p = other_item k s i r.1 j n in grind (arith, members, nat_tests)
            ])) a.0,
          )
          | inr b ↦
              let w : IsWithin k s = λ j g. elim (cases_eq j i) [
                | inl same ↦ absurd (true≢false (sym g ∙ ap (has k) same ∙ b))
                | inr n ↦ sym (other_item k s i r.1 j n) ∙ g
              ] in
              let l = len-within k s w in
              absurd (omega arith)
        ]

-- so no member is an atom at two items
pub one_item : (f : List Items) → IsWellGraded f → is_among f empty ≡ true → (k : Items) (q r : ℕ) → IsAtom f q k → IsAtom f r k → q ≡ r
one_item f graded e k q r a b =
    let x = removable f graded e k q a.member a.has_q in
    let i = x.0 in
    let same : (p : ℕ) → IsAtom f p k → p ≡ i = λ p at. elim (cases_eq p i) [
      | inl s ↦ s
      | inr n ↦
          let hp = at.has_q in
          let w : IsWithin (without k i) k = λ j h. grind (arith, members, nat_tests) in
          let g : has (without k i) p ≡ true = grind (arith, members, nat_tests) in
          let o : has (without k i) i ≡ false = grind (arith, members, nat_tests) in
          absurd (true≢false (sym x.1 ∙ sym (ap (λ u. has u i) (at.least (without k i) x.2 w g)) ∙ o))
    ] in
    same q a ∙ sym (same r b)

-- ---- one item more

differing-with : (k : Items) (i : ℕ) → has k i ≡ false → differing k (with k i) ≡ single i
differing-with k i h = same_set (differing k (with k i)) (single i) (λ j. elim (cases_eq j i) [
  | inl e ↦ grind (arith, members, nat_tests)
  | inr n ↦ grind (arith, members, nat_tests)
])

with-differing : (k : Items) (i : ℕ) → has k i ≡ false → differing (with k i) k ≡ single i
with-differing k i h = same_set (differing (with k i) k) (single i) (λ j. elim (cases_eq j i) [
  | inl e ↦ grind (arith, members, nat_tests)
  | inr n ↦ grind (arith, members, nat_tests)
])

with-within : (k l : Items) (i : ℕ) → IsWithin k l → has l i ≡ true → IsWithin (with k i) l
with-within k l i w h = λ j a. elim (cases_eq j i) [ inl e ↦ ap (has l) e ∙ h | inr n ↦ w j (grind (arith, members, nat_tests)) ]

less_far : (k l : Items) (i : ℕ) → has l i ≡ true → has k i ≡ false → len (differing k l) ≡ 1 + len (differing (with k i) l)
less_far k l i hl hk =
    len-parts (single i) (differing (with k i) l) (differing k l)
    (λ j. elim (cases_eq j i) [ inl e ↦ let x = ap (has l) e in let y = ap (has k) e in grind (arith, members, nat_tests) | inr n ↦ grind (arith, members, nat_tests) ])
    (λ j. elim (cases_eq j i) [ inl e ↦ let x = ap (has l) e in let y = ap (has k) e in grind (arith, members, nat_tests) | inr n ↦ grind (arith, members, nat_tests) ])
    ∙ ap (λ m. m + len (differing (with k i) l)) (len-single i)

-- the way from k to l over their union
pub over_union : (k l : Items) → len (differing k l) ≡ len (differing k (union k l)) + len (differing l (union k l))
over_union k l = len-parts (differing k (union k l)) (differing l (union k l)) (differing k l) (λ j. grind (arith, members)) (λ j. grind (arith, members))

-- ---- from atoms to sequences

-- the union with a set that has i and otherwise only what k has
union-is_with : (k m : Items) (i : ℕ) → has m i ≡ true → ((j : ℕ) → has m j ≡ true → has k j ≡ false → j ≡ i) → union k m ≡ with k i
union-is_with k m i hm only = same_set (union k m) (with k i) (λ j. elim (cases_Bool (has k j)) [
  | inl a ↦ grind (arith, members, nat_tests)
  | inr a ↦ elim (cases_Bool (has m j)) [
    | inl b ↦ let e = only j b a in grind (arith, members, nat_tests)
    | inr b ↦ elim (cases_eq j i) [
      | inl e ↦ absurd (true≢false (sym hm ∙ ap (has m) (sym e) ∙ b))
      | inr n ↦ grind (arith, members, nat_tests)
    ]
  ]
])

-- Between two members, one within the other and not the same, there is one with one item more: a member with the fewest items that is within l and not within k is an atom at each of its items outside k.
pub step_up : (f : List Items) → IsUnionClosed f → ((k : Items) (q r : ℕ) → IsAtom f q k → IsAtom f r k → q ≡ r) → (k l : Items) (x : ℕ) → is_among f k ≡ true → is_among f l ≡ true → has l x ≡ true → has k x ≡ false → (i : ℕ) × (has l i ≡ true) × (has k i ≡ false) × (is_among f (with k i) ≡ true)
step_up f u one k l x ck cl hl hk =
    let p = λ (m : Items). is_within m l && not (is_within m k) in
    let apart = λ (m : Items) (q : ℕ) (a : has m q ≡ true) (b : has k q ≡ false). false_from_ne_true (is_within m k) (λ w. true≢false (sym (IsWithin-from m k w q a) ∙ b)) in
    let r = fewest_of p f l cl (and_from (is_within l l) (not (is_within l k)) (is_within-from l l (λ i h. h)) (not_from_false (is_within l k) (apart l x hl hk))) in
    let m = r.0 in
    let best = r.1 in
    let y = and_parts (is_within m l) (not (is_within m k)) best.passes in
    let w = IsWithin-from m l y.0 in
    let atom : (q : ℕ) → has m q ≡ true → has k q ≡ false → IsAtom f q m = λ q a b. record {
      member = best.member;
      has_q = a;
      least = λ s cs ws hs. as_many s m ws (best.fewest s cs (and_from (is_within s l) (not (is_within s k)) (is_within-from s l (λ j h. w j (ws j h))) (not_from_false (is_within s k) (apart s q hs b))));
    } in
    elim (some_missing k m) [
      | inl inside ↦ absurd (true≢false (sym (is_within-from m k inside) ∙ not-true (is_within m k) y.1))
      | inr z ↦
          let i = z.0 in
          let hm = z.1 in
          let hi = z.2 in
          let e = union-is_with k m i hm (λ j b a. one m j i (atom j b a) (atom i hm hi)) in
          (i, w i hm, hi, subst (λ s. is_among f s ≡ true) e (u k m ck best.member))
    ]

leads_on : (f : List Items) (a b c : Items) (p q : List Items) → LeadsTo f a p b → LeadsTo f b q c → LeadsTo f a (p ++ q) c
leads_on f a b c [] q g h = subst (λ s. LeadsTo f s q c) (sym g) h
leads_on f a b c (s ∷ p) q g h = (g.0, g.1, leads_on f s b c p q g.2 h)

-- sequences up from k to l, adding one item at a time, and back down
pub record UpAndDown (f : List Items) (k l : Items) (d : ℕ) : Type 0 where
  pub up : List Items
  pub rises : LeadsTo f k up l
  pub up_steps : length up ≡ d
  pub down : List Items
  pub falls : LeadsTo f l down k
  pub down_steps : length down ≡ d

pub climb : (f : List Items) → IsUnionClosed f → ((k : Items) (q r : ℕ) → IsAtom f q k → IsAtom f r k → q ≡ r) → (d : ℕ) (k l : Items) → is_among f k ≡ true → is_among f l ≡ true → IsWithin k l → len (differing k l) ≡ d → UpAndDown f k l d
climb f u one zero k l ck cl w e =
    let none = len-zero (differing k l) e in
    let same : k ≡ l = same_set k l (λ j. let x : has (differing k l) j ≡ has empty j = ap (λ s. has s j) none in grind (arith, members)) in
    record { up = []; rises = same; up_steps = refl; down = []; falls = sym same; down_steps = refl }
climb f u one (suc d) k l ck cl w e =
    elim (some_missing k l) [
      | inl back ↦
          let same = same_within k l w back in
          let none : differing k l ≡ empty = same_set (differing k l) empty (λ j. let x = ap (λ s. has s j) same in grind (arith, members)) in
          let z : suc d ≡ 0 = sym e ∙ ap len none ∙ len-empty in
          absurd (omega arith)
      | inr x ↦
          let r = step_up f u one k l x.0 ck cl x.1 x.2 in
          let i = r.0 in
          let hl = r.1 in
          let hk = r.2 in
          let k' = with k i in
          let w' = with-within k l i w hl in
          let nearer = less_far k l i hl hk in
          let rest = climb f u one d k' l r.3 cl w' (omega arith) in
          let step = ap len (differing-with k i hk) ∙ len-single i in
          let back = ap len (with-differing k i hk) ∙ len-single i in
          record {
            up = k' ∷ rest.up;
            rises = (r.3, step, rest.rises);
            up_steps = ap suc rest.up_steps;
            down = rest.down ++ (k ∷ []);
            falls = leads_on f l k' k rest.down (k ∷ []) rest.falls (ck, back, refl);
            down_steps = length-append rest.down (k ∷ []) ∙ (let h = rest.down_steps in rw h (omega arith));
          }
    ]

-- ---- the test

pub from_one_item : (f : List Items) → IsUnionClosed f → ((k : Items) (q r : ℕ) → IsAtom f q k → IsAtom f r k → q ≡ r) → IsWellGraded f
from_one_item f u one k l ck cl =
    let m = union k l in
    let cm = u k l ck cl in
    let a = climb f u one (len (differing k m)) k m ck cm (union-left k l) refl in
    let b = climb f u one (len (differing l m)) l m cl cm (union-right k l) refl in
    record {
      steps = a.up ++ b.down;
      leads = leads_on f k m l a.up b.down a.rises b.falls;
      shortest = length-append a.up b.down ∙ ap₂ (λ x y. x + y) a.up_steps b.down_steps ∙ sym (over_union k l);
    }

pub graded_by_atoms : (f : List Items) → is_among f empty ≡ true → IsUnionClosed f
    → IsWellGraded f ↔ ((k : Items) (q r : ℕ) → is_among (base f) k ≡ true → is_atom_at f q k ≡ true → is_atom_at f r k ≡ true → q ≡ r)
graded_by_atoms f e u = (
  λ graded k q r c a b. let m = base-member f k c in one_item f graded e k q r (IsAtom-from f q k m a) (IsAtom-from f r k m b),
  λ one. from_one_item f u (λ k q r a b. one k q r (among-base f q k a) (is_atom_at-from f q k a) (is_atom_at-from f r k b)),
)

-- in a well-graded family each member has an item to add towards any member that holds it
pub outward : (f : List Items) → is_among f empty ≡ true → IsUnionClosed f → IsWellGraded f → (k l : Items) (x : ℕ) → is_among f k ≡ true → is_among f l ≡ true → has l x ≡ true → has k x ≡ false → (i : ℕ) × (has l i ≡ true) × (has k i ≡ false) × (is_among f (with k i) ≡ true)
outward f e u graded = step_up f u (one_item f graded e)
