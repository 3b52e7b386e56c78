-- Rules whose set A is one item alone, and what such an item takes with it.
use Rattle.ls_rules.proofs.Vocabulary.{◌++◌, ◌+◌, ◌<◌, ◌||◌, ◌∙◌, ◌∷◌, ◌≡◌, ◌≢◌, AllByRecursion, AreSingles, CoversSets, Decides-is_same, Each-both, IsWithin, Items, List, None, Option, Query, Some, ℕ, [], add-one, and_parts, ap, ap₂, arith, asked_alone, bound, breaks, breaks-from, breaks_none, cases_Bool, cases_eq, cases_lt, cond, drop, drop-cons, each, empty, empty-within, false, false_from_ne_true, filter, filter-in, first_of, fold, get_or, get_or-set_other, get_or-set_same, get_or_past, has, has-empty, has-union, in-items, in-some, inl, inr, is_same, items, least, least-at, length, list_any, map, members, minus, nat_tests, not, not-true, numbers_from, option_map_or, or-false, or_assoc, refl, remove, same_set, set, set_at, set_of, several, single, some-in, suc, sym, true, true≢false, union, union-left, union-right, with, zero}

-- ---- the parts of a set

pub with-empty : (i : ℕ) → with empty i ≡ single i
with-empty i = same_set (with empty i) (single i) (λ j. grind (arith, members, nat_tests))

first_is : (a : Items) (i : ℕ) (o : Option ℕ) → has (option_map_or (λ i. with empty i) o empty) i ≡ true → o ≡ Some i
first_is a i None h = absurd (true≢false (sym h ∙ has-empty i))
first_is a i (Some j) h = let e : i ≡ j = grind (arith, members, nat_tests) in ap (λ x. Some x) (sym e)

-- the first item of a set is the least one
pub first_of-is : (a : Items) (i : ℕ) → has (first_of a) i ≡ true → least a ≡ Some i
first_of-is a i h = first_is a i (least a) h

-- where the item is not alone there are several
pub several-is : (a : Items) (i : ℕ) → has a i ≡ true → is_same a (single i) ≡ false → several a ≡ a
several-is a i h n = elim (cases_Bool (is_same a (first_of a))) [
  | inl e ↦
      let same = (Decides-is_same a (first_of a)).0 e in
      let first = ap (λ o. option_map_or (λ i. with empty i) o empty) (first_of-is a i (sym (ap (λ s. has s i) same) ∙ h)) in
      absurd (true≢false (sym ((Decides-is_same a (single i)).1 (same ∙ first ∙ with-empty i)) ∙ n))
  | inr e ↦ rw e refl
]

pub several-within : (a : Items) → IsWithin (several a) a
several-within a = elim (cases_Bool (is_same a (first_of a))) [
  | inl e ↦ rw e (empty-within a)
  | inr e ↦ rw e (λ i h. h)
]

-- ---- sets of one item

least-single : (i : ℕ) → least (single i) ≡ Some i
least-single i = least-at (single i) i (grind (arith, members, nat_tests)) (λ j l. grind (arith, members, nat_tests))

pub has-alone : (s : Items) (i : ℕ) → s ≡ single i → has s i ≡ true
has-alone s i e = rw e (grind (arith, members, nat_tests))

pub only-one : (s : Items) (i : ℕ) → is_same s (with empty i) ≡ true → s ≡ single i
only-one s i e = (Decides-is_same s (with empty i)).0 e ∙ with-empty i

-- a set of one item has a least item
pub only-none : (s : Items) (j : ℕ) → least s ≡ None → is_same s (single j) ≡ false
only-none s j e = false_from_ne_true (is_same s (single j)) (λ x. let no : None ≡ Some j = sym e ∙ ap least ((Decides-is_same s (single j)).0 x) ∙ least-single j in cc)

-- and that is all of it
pub only-not : (s : Items) (i j : ℕ) → least s ≡ Some i → is_same s (with empty i) ≡ false → is_same s (single j) ≡ false
only-not s i j e n = false_from_ne_true (is_same s (single j)) (λ x.
    let same = (Decides-is_same s (single j)).0 x in
    let both : Some i ≡ Some j = sym e ∙ ap least same ∙ least-single j in
    let q : i ≡ j = cc in
    true≢false (sym ((Decides-is_same s (with empty i)).1 (same ∙ ap single (sym q) ∙ sym (with-empty i))) ∙ n))

-- ---- the items of the rules of one item

with-swap : (s : Items) (i j : ℕ) → with (with s i) j ≡ with (with s j) i
with-swap s i j = same_set (with (with s i) j) (with (with s j) i) (λ k. grind (arith, members, nat_tests))

-- a rule more
asked-grows : (r : Query) (rules : List Query) (i j : ℕ) → has (asked_alone rules i) j ≡ true → has (asked_alone (r ∷ rules) i) j ≡ true
asked-grows r rules i j h =
    let rest = filter (λ (r : Query). is_same r.a (single i)) rules in
    elim (is_same r.a (single i)) as (λ b. has (set_of (map (λ (r : Query). r.q) (cond b (r ∷ rest) rest))) j ≡ true) [
      | true ↦ grind (arith, members, nat_tests)
      | false ↦ h
    ]

-- the item of each of the rules is there
pub asked-has : (rules : List Query) → AllByRecursion (λ r. (i : ℕ) → is_same r.a (single i) ≡ true → has (asked_alone rules i) r.q ≡ true) rules
asked-has [] = tt
asked-has (r ∷ rules) = (
  λ i h. rw h (grind (arith, members, nat_tests)),
  each {P = λ x. (i : ℕ) → is_same x.a (single i) ≡ true → has (asked_alone rules i) x.q ≡ true} {Q = λ x. (i : ℕ) → is_same x.a (single i) ≡ true → has (asked_alone (r ∷ rules) i) x.q ≡ true}
      (λ x f i h. asked-grows r rules i x.q (f i h)) rules (asked-has rules),
)

asked-at : (rules : List Query) (m i : ℕ) (d : Query) → m < length rules → is_same (get_or rules m d).a (single i) ≡ true → has (asked_alone rules i) (get_or rules m d).q ≡ true
asked-at [] m i d l e = absurd (omega arith)
asked-at (r ∷ rules) zero i d l e = rw e (grind (arith, members, nat_tests))
asked-at (r ∷ rules) (suc m) i d l e = asked-grows r rules i (get_or rules m d).q (asked-at rules m i d (omega arith) e)

-- a set without the item of A breaks the rule where it has q
breaks-alone : (t : Items) (r : Query) (i : ℕ) → is_same r.a (single i) ≡ true → has t i ≡ false → has t r.q ≡ true → breaks t r ≡ true
breaks-alone t r i e out h = breaks-from t r (record {
  apart = λ k x. rw ((Decides-is_same r.a (single i)).0 e) (grind (arith, members, nat_tests));
  has_q = h;
})

-- a set without the item that breaks no rule has nothing of what it takes with it
pub asked-out : (rules : List Query) (t : Items) (i j : ℕ) → breaks_none rules t ≡ true → has t i ≡ false → has (asked_alone rules i) j ≡ true → has t j ≡ false
asked-out [] t i j u out h = absurd (true≢false (sym h ∙ has-empty j))
asked-out (r ∷ rules) t i j u out h =
    let p = and_parts (not (breaks t r)) (breaks_none rules t) u in
    let rest = filter (λ (r : Query). is_same r.a (single i)) rules in
    elim (is_same r.a (single i)) as (λ b. is_same r.a (single i) ≡ b → has (set_of (map (λ (r : Query). r.q) (cond b (r ∷ rest) rest))) j ≡ true → has t j ≡ false) [
      | true ↦ λ e x. elim (cases_eq j r.q) [
        | inl q ↦ rw q (false_from_ne_true (has t r.q) (λ y. true≢false (sym (breaks-alone t r i e out y) ∙ not-true (breaks t r) p.0)))
        | inr n ↦ asked-out rules t i j p.1 out (let more : has (asked_alone rules i) j ≡ true = grind (arith, members, nat_tests) in more)
      ]
      | false ↦ λ _ x. asked-out rules t i j p.1 out x
    ] refl h

asked-append : (rules : List Query) (r : Query) (i : ℕ) → asked_alone (rules ++ r ∷ []) i ≡ cond (is_same r.a (single i)) (with (asked_alone rules i) r.q) (asked_alone rules i)
asked-append [] r i = elim (is_same r.a (single i)) as (λ b. set_of (map (λ (r : Query). r.q) (cond b (r ∷ []) [])) ≡ cond b (with empty r.q) empty) [ true ↦ refl | false ↦ refl ]
asked-append (x ∷ rules) r i =
    let q = λ (r : Query). r.q in
    let rest = filter (λ (r : Query). is_same r.a (single i)) (rules ++ r ∷ []) in
    let old = filter (λ (r : Query). is_same r.a (single i)) rules in
    let more = asked-append rules r i in
    elim (is_same x.a (single i)) as (λ b. set_of (map q (cond b (x ∷ rest) rest)) ≡ cond (is_same r.a (single i)) (with (set_of (map q (cond b (x ∷ old) old))) r.q) (set_of (map q (cond b (x ∷ old) old)))) [
      | true ↦ ap (λ s. with s x.q) more ∙ elim (is_same r.a (single i)) as (λ b. with (cond b (with (set_of (map q old)) r.q) (set_of (map q old))) x.q ≡ cond b (with (with (set_of (map q old)) x.q) r.q) (with (set_of (map q old)) x.q)) [
        | true ↦ with-swap (set_of (map q old)) r.q x.q
        | false ↦ refl
      ]
      | false ↦ more
    ]

-- the items of the rules of one item stay where another rule is taken out
asked-remove : (rules : List Query) (m i : ℕ) (d : Query) → m < length rules → is_same (get_or rules m d).a (single i) ≡ false → asked_alone (remove rules m) i ≡ asked_alone rules i
asked-remove [] m i d l n = absurd (omega arith)
asked-remove (r ∷ rules) zero i d l n = rw n refl
asked-remove (r ∷ rules) (suc m) i d l n =
    let q = λ (r : Query). r.q in
    let fewer = filter (λ (r : Query). is_same r.a (single i)) (remove rules m) in
    let old = filter (λ (r : Query). is_same r.a (single i)) rules in
    let rest = asked-remove rules m i d (omega arith) n in
    elim (is_same r.a (single i)) as (λ b. set_of (map q (cond b (r ∷ fewer) fewer)) ≡ set_of (map q (cond b (r ∷ old) old))) [
      | true ↦ ap (λ s. with s r.q) rest
      | false ↦ rest
    ]

-- ---- the sets after a change

pub AreSingles-push : (rules : List Query) (r : Query) (singles singles' : List Items) → AreSingles singles rules → ((i : ℕ) → set_at singles' i ≡ cond (is_same r.a (single i)) (with (set_at singles i) r.q) (set_at singles i)) → AreSingles singles' (rules ++ r ∷ [])
AreSingles-push rules r singles singles' a h i = h i ∙ ap (λ s. cond (is_same r.a (single i)) (with s r.q) s) (a i) ∙ sym (asked-append rules r i)

pub AreSingles-remove : (rules : List Query) (m : ℕ) (d : Query) (singles singles' : List Items) → m < length rules → AreSingles singles rules
    → ((i : ℕ) → set_at singles' i ≡ cond (is_same (get_or rules m d).a (single i)) (asked_alone (remove rules m) i) (set_at singles i)) → AreSingles singles' (remove rules m)
AreSingles-remove rules m d singles singles' l a h i = elim (cases_Bool (is_same (get_or rules m d).a (single i))) [
  | inl e ↦ h i ∙ rw e refl
  | inr e ↦ h i ∙ rw e (a i ∙ sym (asked-remove rules m i d l e))
]

-- a set that is not empty is not past the end
set_within : (sets : List Items) (i j : ℕ) → has (set_at sets i) j ≡ true → i < length sets
set_within sets i j h = elim (cases_lt i (length sets)) [
  | inl a ↦ a
  | inr a ↦ absurd (true≢false (sym h ∙ ap (λ s. has s j) (get_or_past sets i empty a) ∙ has-empty j))
]

-- a rule of one item has room
pub AreSingles-room : (rules : List Query) (singles : List Items) (m i : ℕ) (d : Query) → AreSingles singles rules → m < length rules → (get_or rules m d).a ≡ single i → i < length singles
AreSingles-room rules singles m i d a l e =
    set_within singles i (get_or rules m d).q (ap (λ s. has s (get_or rules m d).q) (a i) ∙ asked-at rules m i d l ((Decides-is_same (get_or rules m d).a (single i)).1 e))

-- one set is put in the place of another
pub put-single : (old : List Items) (a : Items) (i : ℕ) (s : Items) (f : ℕ → Items) → i < length old → a ≡ single i → s ≡ f i → (j : ℕ) → set_at (set old i s) j ≡ cond (is_same a (single j)) (f j) (set_at old j)
put-single old a i s f l e p j = elim (cases_eq j i) [
  | inl q ↦ rw (q, e, (Decides-is_same (single i) (single i)).1 refl, get_or-set_same old i s empty l) p
  | inr n ↦
      let other : is_same a (single j) ≡ false = false_from_ne_true (is_same a (single j)) (λ x. n (
      let same : single i ≡ single j = sym e ∙ (Decides-is_same a (single j)).0 x in
      let here : has (single j) i ≡ true = rw (← same) (grind (arith, members, nat_tests)) in
      let q : j ≡ i = grind (arith, members, nat_tests) in q)) in
      rw (other, get_or-set_other old i j s empty n) refl
]

pub CoversSets-put : (items : Items) (sets : List Items) (i : ℕ) (s : Items) → i < length sets → CoversSets items sets → CoversSets (with items i) (set sets i s)
CoversSets-put items sets i s l h j a =
    let n : j ≢ i = λ e. true≢false (let x : has (with items i) j ≡ true = rw e (grind (arith, members, nat_tests)) in sym x ∙ a) in
    get_or-set_other sets i j s empty n ∙ h j (let o : has items j ≡ false = grind (arith, members, nat_tests) in o)

-- ---- what the items outside a set take with them

-- what is joined for the listed items
has-joined : (f : ℕ → Items) (is : List ℕ) (j : ℕ) (s : Items) → has (fold (λ s i. union s (f i)) s is) j ≡ (has s j || list_any (λ i. has (f i) j) is)
has-joined f [] j s = sym (or-false (has s j))
has-joined f (i ∷ is) j s = has-joined f is j (union s (f i)) ∙ ap (λ b. b || list_any (λ i. has (f i) j) is) (has-union s (f i) j) ∙ or_assoc (has s j) (has (f i) j) (list_any (λ i. has (f i) j) is)

-- what the items of a set take with them
abbrev pub lost_of : List Items → Items → Items
lost_of singles outside = fold (λ s i. union s (set_at singles i)) empty (items outside)

has-lost : (singles : List Items) (outside : Items) (j : ℕ) → has (lost_of singles outside) j ≡ list_any (λ i. has (set_at singles i) j) (items outside)
has-lost singles outside j = has-joined (set_at singles) (items outside) j empty ∙ ap (λ b. b || list_any (λ i. has (set_at singles i) j) (items outside)) (has-empty j)

pub lost-all : (inside : Items) (singles : List Items) (set : Items) → CoversSets inside singles → (i j : ℕ) → has set i ≡ false → has (set_at singles i) j ≡ true → has (lost_of singles (minus inside set)) j ≡ true
lost-all inside singles set covers i j out h = elim (cases_Bool (has inside i)) [
  | inl y ↦ has-lost singles (minus inside set) j ∙ in-some (λ i. has (set_at singles i) j) (items (minus inside set)) i (in-items (minus inside set) i (grind (arith, members, nat_tests))) h
  | inr o ↦ absurd (true≢false (sym h ∙ ap (λ s. has s j) (covers i o) ∙ has-empty j))
]

pub lost-no_other : (inside : Items) (singles : List Items) (set : Items) (j : ℕ) → has (lost_of singles (minus inside set)) j ≡ true → (i : ℕ) × (has set i ≡ false) × (has (set_at singles i) j ≡ true)
unfolding items
lost-no_other inside singles set j h =
    let some = some-in (λ i. has (set_at singles i) j) (items (minus inside set)) (sym (has-lost singles (minus inside set) j) ∙ h) in
    let here = (filter-in (has (minus inside set)) (numbers_from 0 (bound (minus inside set))) some.0 some.1).1 in
    (some.0, grind (arith, members, nat_tests), some.2)

-- ---- one more rule is looked at

pub asked-step : (rules : List Query) (k i : ℕ) (r : Query) (asked all : Items) → k < length rules → r ≡ get_or rules k r → union asked (asked_alone (drop k rules) i) ≡ all
    → union (cond (is_same r.a (single i)) (with asked r.q) asked) (asked_alone (drop (k + 1) rules) i) ≡ all
asked-step rules k i r asked all l e h =
    let rest : drop k rules ≡ r ∷ drop (k + 1) rules = drop-cons rules k r l ∙ ap₂ (λ x n. x ∷ drop n rules) (sym e) (sym (add-one k)) in
    let whole = ap (λ l. union asked (asked_alone l i)) (sym rest) ∙ h in
    let more = filter (λ (r : Query). is_same r.a (single i)) (drop (k + 1) rules) in
    let q = λ (r : Query). r.q in
    elim (is_same r.a (single i)) as (λ b. union asked (set_of (map q (cond b (r ∷ more) more))) ≡ all → union (cond b (with asked r.q) asked) (set_of (map q more)) ≡ all) [
      | true ↦ λ x. same_set (union (with asked r.q) (set_of (map q more))) (union asked (with (set_of (map q more)) r.q)) (λ j. grind (arith, members, nat_tests)) ∙ x
      | false ↦ λ x. x
    ] whole

-- ---- the items that wake a rule

pub covered_all : (wakes items : Items) (rules : List Query) (singles : List Items) → AllByRecursion (λ r. IsWithin (several r.a) wakes) rules → AreSingles singles rules → CoversSets items singles
    → AllByRecursion (λ r. IsWithin r.a (union wakes items)) rules
covered_all wakes items rules singles w a h = Each-both {X = Query} (λ r. IsWithin (several r.a) wakes) (λ r. (i : ℕ) → is_same r.a (single i) ≡ true → has (asked_alone rules i) r.q ≡ true) (λ r. IsWithin r.a (union wakes items))
    (λ r within asked i x. elim (cases_Bool (is_same r.a (single i))) [
      | inl e ↦ union-right wakes items i (elim (cases_Bool (has items i)) [
        | inl y ↦ y
        | inr y ↦ absurd (true≢false (sym (asked i e) ∙ ap (λ s. has s r.q) (sym (a i) ∙ h i y) ∙ has-empty r.q))
      ])
      | inr e ↦ union-left wakes items i (within i (rw (several-is r.a i x e) x))
    ]) rules w (asked-has rules)
