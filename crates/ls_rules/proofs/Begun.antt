-- The first round: looking at the rules whose sets A begin outside a set.
use Rattle.ls_rules.proofs.Vocabulary.{◌&&◌, ◌∙◌, ◌∷◌, ◌≡◌, All-kept, AllByRecursion, AreFollowed, AreSingles, Breaks-from, CoversSets, Decides-is_same, Each-both, IsFollower, IsAwake, IsGood, IsIndexOf, IsWithin, IsWithin-from, Items, List, None, Option, PlaceList, Query, Round, Settling, Some, ℕ, [], and-false, and_from, ap, ap₂, arith, asked_alone, breaks, breaks_none, cases_Bool, cases_eq, each, empty, false, false_from_ne_true, filter, first_of, fold, good-from, has, has-empty, has-meet, inl, inr, is_good, is_same, is_within, least, least-cases, list_all, list_all-All, look, look_at, lose_all, map, meet, members, minus, nat_tests, option_map_or, places_at, refl, same_set, same_within, set_at, several, single, subst, sym, true, true≢false, union, with, without}
use Rattle.ls_rules.proofs.Alone.{several-is, asked-has, asked-out}
use Rattle.ls_rules.proofs.Rounds.{After, After-more, After-lose, After-looks, looks-keep, looks-break_at, none_of_part, meets_rule, no_item, no_least, kept, turned, look-unbroken}

-- the round with which the rules are looked at first
abbrev pub begun : Items → Round
begun k = record { kept = k; fallen = empty }

-- the rules whose A is one item outside k were looked at, and those of several that begin outside k, and not with an item that is left
pub record Started (rules : List Query) (k left : Items) (s : Round) : Type 0 where
  pub after : After (begun k) s
  pub alone : AllByRecursion (λ r. (i : ℕ) → is_same r.a (single i) ≡ true → has k i ≡ false → has s.kept r.q ≡ false) rules
  pub looked : AllByRecursion (λ r. (i : ℕ) → has (first_of (several r.a)) i ≡ true → has k i ≡ false → has left i ≡ false → breaks k r ≡ true → has s.kept r.q ≡ false) rules
  pub greatest : (t : Items) → breaks_none rules t ≡ true → IsWithin t k → IsWithin t s.kept

-- lost is what the items outside k take with them by the rules of one item
pub Started-first : (rules : List Query) (singles : List Items) (firsts k lost : Items) → AreSingles singles rules → AllByRecursion (λ r. IsWithin (first_of (several r.a)) firsts) rules
    → ((i j : ℕ) → has k i ≡ false → has (set_at singles i) j ≡ true → has lost j ≡ true) → ((j : ℕ) → has lost j ≡ true → (i : ℕ) × (has k i ≡ false) × (has (set_at singles i) j ≡ true))
    → Started rules k (minus firsts k) (lose_all (begun k) lost)
Started-first rules singles firsts k lost a h all no_other =
    let s = lose_all (begun k) lost in
    record {
      after = After-lose (begun k) lost;
      alone = each {P = λ r. (i : ℕ) → is_same r.a (single i) ≡ true → has (asked_alone rules i) r.q ≡ true} {Q = λ r. (i : ℕ) → is_same r.a (single i) ≡ true → has k i ≡ false → has s.kept r.q ≡ false}
          (λ r asked i e out. let gone = all i r.q out (ap (λ x. has x r.q) (a i) ∙ asked i e) in grind (arith, members, nat_tests)) rules (asked-has rules);
      looked = each {P = λ r. IsWithin (first_of (several r.a)) firsts} {Q = λ r. (i : ℕ) → has (first_of (several r.a)) i ≡ true → has k i ≡ false → has (minus firsts k) i ≡ false → breaks k r ≡ true → has s.kept r.q ≡ false}
          (λ r w i f o g b. let there : has firsts i ≡ true = w i f in absurd (let no : ⊥ = grind (arith, members, nat_tests) in no)) rules h;
      greatest = λ t u w j x.
          let here = w j x in
          let stays : has lost j ≡ false = false_from_ne_true (has lost j) (λ y.
          let from = no_other j y in
          let out : has t from.0 ≡ false = false_from_ne_true (has t from.0) (λ z. true≢false (sym (w from.0 z) ∙ from.1)) in
          true≢false (sym x ∙ asked-out rules t from.0 j u out (ap (λ m. has m j) (sym (a from.0)) ∙ from.2))) in
          grind (arith, members, nat_tests);
    }

lose-none : (k : Items) → lose_all (begun k) empty ≡ begun k
lose-none k =
    let all = same_set (minus k empty) k (λ j. grind (arith, members, nat_tests)) in
    let none = same_set (union empty (meet k empty)) empty (λ j. grind (arith, members, nat_tests)) in
    ap₂ (λ (x y : Items). let s : Round = record { kept = x; fallen = y } in s) all none

-- no item outside k takes one with it
pub Started-none : (rules : List Query) (singles : List Items) (items firsts k : Items) → AreSingles singles rules → AllByRecursion (λ r. IsWithin (first_of (several r.a)) firsts) rules → CoversSets items singles → is_within items k ≡ true
    → Started rules k (minus firsts k) (begun k)
Started-none rules singles items firsts k a h covers w =
    let outside = λ (i : ℕ) (o : has k i ≡ false). covers i (false_from_ne_true (has items i) (λ y. true≢false (sym (IsWithin-from items k w i y) ∙ o))) in
    subst (λ (s : Round). Started rules k (minus firsts k) s) (lose-none k)
    (Started-first rules singles firsts k empty a h (λ i j o x. absurd (true≢false (sym x ∙ ap (λ s. has s j) (outside i o) ∙ has-empty j))) (λ j x. absurd (true≢false (sym x ∙ has-empty j))))

pub Started-more : (rules : List Query) (k left : Items) (s : Round) (i : ℕ) → Started rules k left s → Started rules k (without left i) (fold look s (filter (λ r. has (first_of (several r.a)) i) rules))
Started-more rules k left s i a =
    let p = λ (r : Query). has (first_of (several r.a)) i in
    let to = fold look s (filter p rules) in
    let after = After-looks s (filter p rules) in
    record {
      after = After-more (begun k) s to a.after after;
      alone = each {P = λ r. (i : ℕ) → is_same r.a (single i) ≡ true → has k i ≡ false → has s.kept r.q ≡ false} {Q = λ r. (i : ℕ) → is_same r.a (single i) ≡ true → has k i ≡ false → has to.kept r.q ≡ false}
          (λ r gone i e o. false_from_ne_true (has to.kept r.q) (λ x. true≢false (sym (after.within r.q x) ∙ gone i e o))) rules a.alone;
      looked = Each-both (λ r. (j : ℕ) → has (first_of (several r.a)) j ≡ true → has k j ≡ false → has left j ≡ false → breaks k r ≡ true → has s.kept r.q ≡ false)
          (λ r. p r ≡ true → breaks k r ≡ true → has to.kept r.q ≡ false)
          (λ r. (j : ℕ) → has (first_of (several r.a)) j ≡ true → has k j ≡ false → has (without left i) j ≡ false → breaks k r ≡ true → has to.kept r.q ≡ false)
          (λ r old looked j f o g b. elim (cases_eq j i) [
            | inl e ↦ looked (subst (λ x. has (first_of (several r.a)) x ≡ true) e f) b
            | inr n ↦ false_from_ne_true (has to.kept r.q) (λ x. true≢false (sym (after.within r.q x) ∙ old j f o (false_from_ne_true (has left j) (λ y. true≢false (sym (kept left j i y n) ∙ g))) b))
          ]) rules a.looked (looks-break_at k s p rules a.after.within);
      greatest = λ t u w. looks-keep t s (filter p rules) (none_of_part t p rules u) (a.greatest t u w);
    }

-- a set that is not empty has its first item
first_at : (a : Items) (o : Option ℕ) → least a ≡ o → is_same a empty ≡ false → (i : ℕ) × (has (option_map_or (λ i. with empty i) o empty) i ≡ true) × (has a i ≡ true)
first_at a None e h = absurd (true≢false (sym ((Decides-is_same a empty).1 (no_least a e)) ∙ h))
first_at a (Some i) e h = (i, grind (arith, members, nat_tests), (least-cases a i e).0)

pub first_item : (a : Items) → is_same a empty ≡ false → (i : ℕ) × (has (first_of a) i ≡ true) × (has a i ≡ true)
first_item a h = first_at a (least a) refl h

woken_first : (n : ℕ) (k : Items) (s : Round) (r : Query) → IsGood n r → After (begun k) s → ((i : ℕ) → is_same r.a (single i) ≡ true → has k i ≡ false → has s.kept r.q ≡ false)
    → ((i : ℕ) → has (first_of (several r.a)) i ≡ true → has k i ≡ false → breaks k r ≡ true → has s.kept r.q ≡ false) → IsAwake s r
woken_first n k s r good after alone looked h = elim (cases_Bool (breaks k r)) [
  | inl b ↦
      let x = first_item r.a good.nonempty in
      let out = no_item k r x.0 b x.2 in
      let gone : has s.kept r.q ≡ false = elim (cases_Bool (is_same r.a (single x.0))) [
        | inl e ↦ alone x.0 e out
        | inr e ↦ looked x.0 (rw (several-is r.a x.0 x.2 e) x.1) out b
      ] in
      absurd (true≢false (sym (Breaks-from s.kept r h).has_q ∙ gone))
  | inr u ↦
      let x = meets_rule k r (after.within r.q (Breaks-from s.kept r h).has_q) u in
      (x.0, x.2, after.fell x.0 x.1 (no_item s.kept r x.0 h x.2))
]

-- after it the items that fell out wake every rule that is broken
pub Started-done : (rules : List Query) (n : ℕ) (k left : Items) (s : Round) → list_all (is_good n) rules ≡ true → least left ≡ None → Started rules k left s → Settling rules k s
Started-done rules n k left s good e a =
    let none = no_least left e in
    let Alone = λ (r : Query). (i : ℕ) → is_same r.a (single i) ≡ true → has k i ≡ false → has s.kept r.q ≡ false in
    let Looked = λ (r : Query). (i : ℕ) → has (first_of (several r.a)) i ≡ true → has k i ≡ false → has left i ≡ false → breaks k r ≡ true → has s.kept r.q ≡ false in
    record {
      within = a.after.within;
      awake = Each-both (λ r. is_good n r ≡ true) (λ r. Alone r × Looked r) (IsAwake s)
          (λ r g l. woken_first n k s r (good-from n r g) a.after l.0 (λ i f o b. l.1 i f o (ap (λ x. has x i) none ∙ has-empty i) b))
          rules (list_all-All (is_good n) rules good) (Each-both Alone Looked (λ r. Alone r × Looked r) (λ r x y. (x, y)) rules a.alone a.looked);
      greatest = a.greatest;
    }

-- where nothing fell out, the whole set is kept
pub whole : (k : Items) (s : Round) → After (begun k) s → s.fallen ≡ empty → s.kept ≡ k
whole k s a e = same_within s.kept k a.within (λ i h. elim (cases_Bool (has s.kept i)) [
  | inl x ↦ x
  | inr x ↦ absurd (true≢false (sym (a.fell i h x) ∙ ap (λ f. has f i) e ∙ has-empty i))
])

-- ---- an item whose rules are passed over

-- where the set of the item has no item that is kept, the item of a rule that begins with it is not kept
pub head_gone : (heads : List Items) (r : Query) (i : ℕ) (k : Items) → meet (set_at heads i) k ≡ empty → IsFollower heads (first_of (several r.a)) r.q → has (first_of (several r.a)) i ≡ true → has k r.q ≡ false
head_gone heads r i k e h f =
    let here = h i f in
    false_from_ne_true (has k r.q) (λ x.
    true≢false (sym (has-meet (set_at heads i) k r.q ∙ and_from (has (set_at heads i) r.q) (has k r.q) here x) ∙ ap (λ s. has s r.q) e ∙ has-empty r.q))

looks-none : (s : Round) (rs : List Query) → AllByRecursion (λ r. has s.kept r.q ≡ false) rs → fold look s rs ≡ s
looks-none s [] h = refl
looks-none s (r ∷ rs) h =
    let same : s ≡ look s r = look-unbroken s s r (ap (λ b. is_same (meet s.kept r.a) empty && b) h.0 ∙ and-false (is_same (meet s.kept r.a) empty)) refl in
    ap (λ t. fold look t rs) (sym same) ∙ looks-none s rs h.1

-- the round is as if they had been looked at
pub passed : (rules : List Query) (starts : List PlaceList) (heads : List Items) (i : ℕ) (s : Round) → IsIndexOf starts (map (λ r. first_of (several r.a)) rules) → AreFollowed heads (λ r. first_of (several r.a)) rules
    → is_same (meet (set_at heads i) s.kept) empty ≡ true → s ≡ look_at rules (places_at starts i) s
passed rules starts heads i s index headed e =
    let none = (Decides-is_same (meet (set_at heads i) s.kept) empty).0 e in
    let p = λ (r : Query). has (first_of (several r.a)) i in
    let gone = each {P = λ r. IsFollower heads (first_of (several r.a)) r.q} {Q = λ r. p r ≡ true → has s.kept r.q ≡ false} (λ r h f. head_gone heads r i s.kept none h f) rules headed in
    sym (turned rules (λ r. first_of (several r.a)) starts i (places_at starts i) s (look_at rules (places_at starts i) s) index refl refl ∙ looks-none s (filter p rules) (All-kept (λ r. has s.kept r.q ≡ false) p rules gone))
