-- The first set after a word whose complement is a member: from the greatest item of the word down,
-- an interior tells whether a complement parts from the word
-- there, and from that item up, items are left out of the member where interiors allow it.
use Rattle.std.proofs.Common.{ℕ, zero, suc, ◌+◌, ◌-◌, ◌<◌, ◌≤◌, ◌≡◌, inl, inr, Bool, true, false}
use Rattle.std.proofs.Common.{cond, ltb, List, [], ◌∷◌, find, Some, None, option_map, slice_get}
use Rattle.std.proofs.Common.{refl, sym, ap, ◌∙◌, subst, arith, true≢false, ltb-true, lt-ltb}
use Rattle.std.proofs.lemmas.Bool.{cases_Bool, cases_eq, cases_order, false_from_ne_true, and_parts}
use Rattle.std.proofs.lemmas.Bool.{and_from}
use Rattle.std.proofs.lemmas.Bool.Decides.{nat_tests}
use Rattle.ls_set.specs.ItemSet.{Items, has, empty, full, with, without, minus, keep_before}
use Rattle.ls_set.specs.ItemSet.{is_within, is_among, comes_before, IsInOrder, IsWithin}
use Rattle.ls_set.specs.ItemSet.{DiffersFirstAt}
use Rattle.ls_set.proofs.Sets.{members, same_set, has-full, is_within-from, IsWithin-from}
use Rattle.ls_set.proofs.Members.{among-here, among-there, among-cases, Each-among}
use Rattle.ls_set.proofs.Order.{comes_before-at, differs_first}
use Rattle.ls_theory.specs.Families.{interior}
use Rattle.ls_laws.specs.Families.{IsFamily}
use Rattle.ls_laws.proofs.Lists.{find-none}
use Rattle.ls_laws.proofs.Interiors.{IsInterior, interior-is}
use Rattle.ls_origins.specs.Skills.{duals}
use Rattle.ls_skill.specs.Duals.{dual_reach, parts_at, last_that, lowered_at, lowered, next_dual}
use Rattle.ls_skill.proofs.Skilled.{among-duals, duals-in_order, twice}

-- ---- the first that passes, in a list in order

find_in_order : (p : Items → Bool) (xs : List Items) (t : Items) → IsInOrder xs → is_among xs t
    ≡ true
    → p t ≡ true → ((x : Items) → is_among xs x ≡ true → p x ≡ true → comes_before x t ≡ true → ⊥)
    → find p xs ≡ Some t
find_in_order p [] t o c h first = absurd (true≢false (sym c))
find_in_order p (x ∷ xs) t o c h first =
    elim (among-cases t x xs c) [
      | inl e ↦ rw (sym (ap p e) ∙ h) (ap Some (sym e))
      | inr there ↦
          let before : comes_before x t ≡ true =
          Each-among (λ y. comes_before x y ≡ true) xs t o.0 there in
          rw (false_from_ne_true (p x) (λ a. first x (among-here x x xs refl) a before))
          (find_in_order p xs t o.1 there h (λ y c. first y (among-there y x xs c)))
    ]

-- ---- leaving items out

-- the two have the same items below j
abbrev SameBelow : ℕ → Items → Items → Type 0
SameBelow j k l = (i : ℕ) → i < j → has k i ≡ has l i

-- a member that has each member that is the same below j
record IsTop (f : List Items) (j : ℕ) (k : Items) : Type 0 where
  pub member : is_among f k ≡ true
  pub greatest : (l : Items) → is_among f l ≡ true → SameBelow j l k → IsWithin l k

-- a top below j + 1 that is the same below j, and has j only where all such members have
record IsLowered (f : List Items) (j : ℕ) (k t : Items) : Type 0 where
  pub top : IsTop f (suc j) t
  pub same : SameBelow j t k
  pub low : (l : Items) → is_among f l ≡ true → SameBelow j l k → has t j ≡ true → has l j ≡ true

pub inside-of : (n : ℕ) (f : List Items) → IsFamily n f → (s : Items)
    → IsInterior f s (interior f s)
inside-of n f family s = interior-is f family.holds_empty family.holds_unions s

same-more : (j : ℕ) (k l : Items) → SameBelow (suc j) k l → SameBelow j k l
same-more j k l h i a = h i (omega arith)

lower : (n : ℕ) (f : List Items) (j : ℕ) (k : Items) → IsFamily n f → IsTop f j k
    → IsLowered f j k (lowered_at f k j)
lower n f j k family top =
    let t = interior f (without k j) in
    let inside = inside-of n f family (without k j) in
    elim (cases_Bool (is_within (keep_before k j) t)) [
      | inl a ↦
          let kept = IsWithin-from (keep_before k j) t a in
          let same : SameBelow j t k = λ i l. let b = kept i in let c = inside.within i in let e =
          lt-ltb i j l in grind (arith, members, nat_tests) in
          let lacks : has t j ≡ true → ⊥ = λ h. let c =
          inside.within j h in true≢false (grind (arith, members, nat_tests)) in
          subst (IsLowered f j k) (sym (rw a refl)) (record {
            top = record {
              member = inside.member;
              greatest = λ l c s. inside.greatest l c (λ i h.
                  let b = top.greatest l c (λ m o. s m (omega arith) ∙ same m o) i h in
                  elim (cases_eq i j) [
                    | inl e ↦ absurd (lacks (sym (s j (omega arith)) ∙ ap (has l) (sym e) ∙ h))
                    | inr d ↦ grind (arith, members, nat_tests)
                  ]);
            };
            same = same;
            low = λ l c s h. absurd (lacks h);
          })
      | inr a ↦
          let all : (l : Items) → is_among f l ≡ true → SameBelow j l k → has l j ≡ true =
          λ l c s. elim (cases_Bool (has l j)) [
            | inl h ↦ h
            | inr h ↦
                let w = top.greatest l c s in
                let v : IsWithin l (without k j) = λ i b. let d = w i b in elim (cases_eq i j) [
                  | inl e ↦ absurd (true≢false (sym b ∙ ap (has l) e ∙ h))
                  | inr q ↦ grind (arith, members, nat_tests)
                ] in
                let u : IsWithin (keep_before k j) t =
                λ i b. inside.greatest l c v i
                (s i (let x : ltb i j ≡ true = grind (arith, members) in ltb-true i j x) ∙
                (let y : has k i ≡ true = grind (arith, members) in y)) in
                absurd (true≢false (sym (is_within-from (keep_before k j) t u) ∙ a))
          ] in
          subst (IsLowered f j k) (sym (rw a refl)) (record {
            top =
                record
                { member = top.member; greatest = λ l c s. top.greatest l c (same-more j l k s) };
            same = λ i l. refl;
            low = λ l c s _. all l c s;
          })
    ]

-- the member that is the same below j, and from j on lacks the first item at which any other such
-- member differs from it
record IsLast (f : List Items) (j m : ℕ) (k r : Items) : Type 0 where
  pub member : is_among f r ≡ true
  pub same : SameBelow j r k
  pub last : (l : Items) → is_among f l ≡ true → SameBelow j l k → (d : ℕ) → j ≤ d → d < j + m
      → DiffersFirstAt r l d → ⊥

lower-all : (n : ℕ) (f : List Items) (j m : ℕ) (k : Items) → IsFamily n f → IsTop f j k
    → IsLast f j m k (lowered f k j m)
lower-all n f j zero k family top =
    record { member = top.member; same = λ i l. refl; last = λ l c s d a b _. omega arith }
lower-all n f j (suc m) k family top =
    let t = lowered_at f k j in
    let step = lower n f j k family top in
    let rest = lower-all n f (suc j) m t family step.top in
    let r = lowered f t (suc j) m in
    record {
      member = rest.member;
      same = λ i l. rest.same i (omega arith) ∙ step.same i l;
      last = λ l c s d a b differs. elim (cases_eq d j) [
        | inl e ↦
            let at_j = subst (DiffersFirstAt r l) e differs in
            true≢false
            (sym (step.low l c s (sym (rest.same j (omega arith)) ∙ at_j.in_first)) ∙
            at_j.not_in_second)
        | inr q ↦ rest.last l c (λ i o. sym (differs.same_below i (omega arith)) ∙ rest.same i o) d
            (omega arith) (omega arith) differs
      ];
    }

-- ---- where a complement parts from the word

-- a member with i that agrees with the complement of the word before i, where the word has i
record Parts (n : ℕ) (f : List Items) (word : Items) (i : ℕ) (l : Items) : Type 0 where
  pub member : is_among f l ≡ true
  pub in_word : has word i ≡ true
  pub has_i : has l i ≡ true
  pub same : SameBelow i l (minus (full n) word)

parts-within : (n : ℕ) (f : List Items) (word l : Items) (i : ℕ) → IsFamily n f → is_among f l
    ≡ true → SameBelow i l (minus (full n) word) → IsWithin l (dual_reach n word i)
parts-within n f word l i family c same j h =
    let small = family.small l c j h in
    elim (cases_order j i) [
      | inl e ↦ let a : ltb j i ≡ false = grind (arith, nat_tests) in grind (arith, members)
      | inr (inl b) ↦ let a = lt-ltb j i b in let d = same j b in grind (arith, members)
      | inr (inr b) ↦ let a : ltb j i ≡ false = grind (arith, nat_tests) in grind (arith, members)
    ]

parts-top : (n : ℕ) (f : List Items) (word : Items) (i : ℕ) → IsFamily n f → IsWithin word (full n)
    → parts_at n f word i ≡ true → Parts n f word i (interior f (dual_reach n word i))
    × IsTop f (suc i) (interior f (dual_reach n word i))
parts-top n f word i family small h =
    let co = minus (full n) word in
    let k = interior f (dual_reach n word i) in
    let inside = inside-of n f family (dual_reach n word i) in
    let a = and_parts (has word i) (is_within (with (keep_before co i) i) k) h in
    let w = IsWithin-from (with (keep_before co i) i) k a.1 in
    let has_i : has k i ≡ true = w i (grind (arith, members, nat_tests)) in
    let same : SameBelow i k co = λ j l.
    let b = inside.within j in
    let d = lt-ltb j i l in
    let e = w j in
    grind (arith, members, nat_tests) in (
      record { member = inside.member; in_word = a.0; has_i = has_i; same = same },
      record {
        member = inside.member;
        greatest = λ l c s. inside.greatest l c
            (parts-within n f word l i family c (λ j b. s j (omega arith) ∙ same j b));
      },
    )

parts-told : (n : ℕ) (f : List Items) (word : Items) (i : ℕ) (l : Items) → IsFamily n f
    → Parts n f word i l → parts_at n f word i ≡ true
parts-told n f word i l family p =
    let co = minus (full n) word in
    let k = interior f (dual_reach n word i) in
    let w =
    (inside-of n f family (dual_reach n word i)).greatest l p.member
    (parts-within n f word l i family p.member p.same) in
    and_from (has word i) (is_within (with (keep_before co i) i) k) p.in_word
    (is_within-from (with (keep_before co i) i) k (λ j h. elim (cases_eq j i) [
      | inl e ↦ w j (ap (has l) e ∙ p.has_i)
      | inr d ↦
          let b : ltb j i ≡ true = grind (arith, members, nat_tests) in
          let c : has co j ≡ true = grind (arith, members, nat_tests) in
          w j (p.same j (ltb-true j i b) ∙ c)
    ]))

-- a complement that comes after the word parts from it
parts-after : (n : ℕ) (f : List Items) (word s : Items) → IsWithin word (full n)
    → is_among f (minus (full n) s) ≡ true → comes_before word s ≡ true → (i : ℕ) × (i < n)
    × Parts n f word i (minus (full n) s)
parts-after n f word s small c b =
    let d = differs_first word s b in
    let i = d.0 in
    let e = small i d.1.in_first in (
      i,
      ltb-true i n (sym (has-full n i) ∙ e),
      record {
        member = c;
        in_word = d.1.in_first;
        has_i = let o = d.1.not_in_second in grind (arith, members);
        same = λ j l. let q = d.1.same_below j l in grind (arith, members);
      },
    )

-- ---- the greatest number that passes

last-some : (p : ℕ → Bool) (m i : ℕ) → last_that p m ≡ Some i → (i < m) × (p i ≡ true)
    × ((j : ℕ) → i < j → j < m → p j ≡ true → ⊥)
last-some p zero i e = cc
last-some p (suc m) i e =
    elim
    (p m)
    as (λ b. p m ≡ b → cond b (Some m) (last_that p m) ≡ Some i → (i < suc m) × (p i ≡ true)
    × ((j : ℕ) → i < j → j < suc m → p j ≡ true → ⊥)) [
      | true ↦ λ h e. let same : m ≡ i =
          cc in (omega arith, ap p (sym same) ∙ h, λ j a b _. omega arith)
      | false ↦ λ h e. let r = last-some p m i e in let l = r.0 in (
        omega arith,
        r.1,
        λ j a b q. elim (cases_eq j m) [
          | inl same ↦ true≢false (sym q ∙ ap p same ∙ h)
          | inr other ↦ r.2 j a (omega arith) q
        ],
      )
    ] refl e

last-none : (p : ℕ → Bool) (m : ℕ) → last_that p m ≡ None → (j : ℕ) → j < m → p j ≡ true → ⊥
last-none p zero e j l h = omega arith
last-none p (suc m) e j l h =
    elim (p m) as (λ b. p m ≡ b → cond b (Some m) (last_that p m) ≡ None → ⊥) [
      | true ↦ λ _ e. cc
      | false ↦ λ q e. elim (cases_eq j m) [
        | inl same ↦ true≢false (sym h ∙ ap p same ∙ q)
        | inr other ↦ last-none p m e j (omega arith) h
      ]
    ] refl e

-- ---- the next dual

found-dual : (n : ℕ) (f : List Items) (word : Items) (i : ℕ) → IsFamily n f → IsWithin word (full n)
    → i < n → parts_at n f word i ≡ true
    → ((j : ℕ) → i < j → j < n → parts_at n f word j ≡ true → ⊥)
    → find (comes_before word) (duals n f)
    ≡ Some (minus (full n) (lowered f (interior f (dual_reach n word i)) (suc i) (n - suc i)))
found-dual n f word i family small below h none =
    let co = minus (full n) word in
    let k = interior f (dual_reach n word i) in
    let start = parts-top n f word i family small h in
    let r = lowered f k (suc i) (n - suc i) in
    let last = lower-all n f (suc i) (n - suc i) k family start.1 in
    let t = minus (full n) r in
    let whole : minus (full n) t ≡ r = twice n r (family.small r last.member) in
    let r_has : has r i ≡ true = last.same i (omega arith) ∙ start.0.has_i in
    let r_same : SameBelow i r co = λ j l. last.same j (omega arith) ∙ start.0.same j l in
    let at_i : DiffersFirstAt word t i = record {
      in_first = start.0.in_word;
      not_in_second = grind (arith, members);
      same_below = λ j l. let a = r_same j l in let b = small j in grind (arith, members);
    } in
    find_in_order (comes_before word) (duals n f) t (duals-in_order n f)
    (among-duals n f t ∙ and_from (is_within t (full n)) (is_among f (minus (full n) t))
    (is_within-from t (full n) (λ j a. grind (arith, members)))
    (ap (is_among f) whole ∙ last.member))
    (comes_before-at word t i at_i)
    (λ x c after before.
    let m =
    (and_parts (is_within x (full n)) (is_among f (minus (full n) x))
    (sym (among-duals n f x) ∙ c)) in
    let l = minus (full n) x in
    let p = parts-after n f word x small m.1 after in
    let d = p.0 in
    let q = differs_first x t before in
    let e = q.0 in
    let x_small = IsWithin-from x (full n) m.0 in
    let e_small : has (full n) e ≡ true = x_small e q.1.in_first in
    let e_below : e < n = ltb-true e n (sym (has-full n e) ∙ e_small) in
    -- the complements differ first at e, the other way round
    let back : DiffersFirstAt r l e = record {
      in_first = let a = q.1.not_in_second in grind (arith, members);
      not_in_second = let a = q.1.in_first in grind (arith, members);
      same_below = λ j b. let a = q.1.same_below j b in let u =
          family.small r last.member j in let v = x_small j in grind (arith, members);
    } in
    elim (cases_order d i) [
      | inl same ↦
          let l_has : has l i ≡ true = ap (has l) (sym same) ∙ p.2.has_i in
          let l_same : SameBelow (suc i) l k = λ j b. elim (cases_eq j i) [
            | inl at ↦ ap (has l) at ∙ l_has ∙ sym (ap (has k) at ∙ start.0.has_i)
            | inr other ↦ p.2.same j (omega arith) ∙ sym (start.0.same j (omega arith))
          ] in
          elim (cases_order e i) [
            | inl at ↦ true≢false (sym l_has ∙ ap (has l) (sym at) ∙ back.not_in_second)
            | inr (inl less) ↦ true≢false
                (sym back.in_first ∙ r_same e less ∙ sym (p.2.same e (omega arith)) ∙
                back.not_in_second)
            | inr (inr more) ↦ last.last l m.1 l_same e (omega arith) (omega arith) back
          ]
      | inr (inl less) ↦
          let r_lacks : has r d ≡ false = let a = r_same d less in let b =
          p.2.in_word in grind (arith, members) in
          elim (cases_order e d) [
            | inl at ↦ true≢false (sym back.in_first ∙ ap (has r) at ∙ r_lacks)
            | inr (inl sooner) ↦ true≢false
                (sym back.in_first ∙ r_same e (omega arith) ∙ sym (p.2.same e sooner) ∙
                back.not_in_second)
            | inr (inr later) ↦ true≢false (sym p.2.has_i ∙ sym (back.same_below d later) ∙ r_lacks)
          ]
      | inr (inr more) ↦ none d more p.1 (parts-told n f word d l family p.2)
    ])

pub next-dual : (n : ℕ) (f : List Items) (word : Items) → IsFamily n f → IsWithin word (full n)
    → find (comes_before word) (duals n f) ≡ next_dual n f word
unfolding next_dual
next-dual n f word family small =
    let answer =
    λ (i : ℕ). minus (full n) (lowered f (interior f (dual_reach n word i)) (suc i) (n - suc i))
    in
    elim (last_that (parts_at n f word) n) as
    (λ o. last_that (parts_at n f word) n ≡ o → find (comes_before word) (duals n f)
    ≡ option_map answer o) [
      | None ↦ λ e. find-none (comes_before word) (duals n f)
          (λ x c. false_from_ne_true (comes_before word x) (λ b.
          let m =
          and_parts (is_within x (full n)) (is_among f (minus (full n) x))
          (sym (among-duals n f x) ∙ c) in
          let p = parts-after n f word x small m.1 b in
          last-none (parts_at n f word) n e p.0 p.1
          (parts-told n f word p.0 (minus (full n) x) family p.2)))
      | Some i ↦ λ e. let r =
          last-some (parts_at n f word) n i e in found-dual n f word i family small r.0 r.1 r.2
    ] refl

-- all items come first, since the empty set is a member
pub first-dual : (n : ℕ) (f : List Items) → is_among f empty ≡ true → slice_get (duals n f) 0
    ≡ Some (full n)
first-dual n f c =
    get-find (duals n f) ∙ find_in_order (λ _. true) (duals n f) (full n) (duals-in_order n f)
    (among-duals n f (full n) ∙ and_from (is_within (full n) (full n))
    (is_among f (minus (full n) (full n))) (is_within-from (full n) (full n) (λ i h. h))
    (ap (is_among f) (nothing n) ∙ c))
    refl
    (λ x d _ before.
    let small =
    IsWithin-from
    x (full n)
    (and_parts (is_within x (full n)) (is_among f (minus (full n) x))
    (sym (among-duals n f x) ∙ d)).0 in
    let e = differs_first x (full n) before in
    true≢false (sym (small e.0 e.1.in_first) ∙ e.1.not_in_second))
  where
    get-find : (xs : List Items) → slice_get xs 0 ≡ find (λ _. true) xs
    get-find [] = refl
    get-find (x ∷ xs) = refl

    nothing : (n : ℕ) → minus (full n) (full n) ≡ empty
    nothing n = same_set (minus (full n) (full n)) empty (λ i. grind (arith, members))
