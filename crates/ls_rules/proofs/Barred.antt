-- Items that rules bar from a set, and what they mean for a member.
use Rattle.ls_rules.proofs.Vocabulary.{◌&&◌, ◌+◌, ◌<◌, ◌||◌, ◌∙◌, ◌∷◌, ◌≡◌, ◌≤◌, AllByRecursion, AreFollowed, AreSingles, Bool, Breaks-from, CoversSets, Decides-is_same, Each-both, IsFollower, IsGood, IsIndexOf, IsWithin, IsWithin-from, Items, List, None, PlaceList, Query, Some, ℕ, [], add-one, and_from, and_parts, ap, among-filter, ap₂, arith, asked_alone, barred, breaks, breaks-from, breaks_none, cases_Bool, cases_eq, cond, eq-eqb, ne_eqb, not-true, drop, drop-cons, drop_all, each, empty, eqb, false, false_from_ne_true, filter, first_of, get_or, good-from, has, has-empty, has-meet, inl, inr, is_among, is_good, is_same, is_within, least, length, list_all, list_all-All, map, meet, members, minus, nat_tests, not, places_at, refl, rules_at, same_set, set_at, set_of, several, single, slice_get, subst, sym, true, true≢false, with, without}
use Rattle.std.proofs.lemmas.Option.{slice_get_read}
use Rattle.ls_lists.proofs.Filters.{filter-both}
use Rattle.ls_set.proofs.Sets.{has-minus, has-with}
use Rattle.ls_laws.specs.Families.{IsFamily}
use Rattle.ls_laws.proofs.Families.{ruled-IsFamily}
use Rattle.ls_laws.proofs.ReadBack.{has-outer_fringe}
use Rattle.ls_theory.specs.{outer_fringe}
use Rattle.ls_rules.proofs.Alone.{several-is, several-within, asked-has}
use Rattle.ls_rules.proofs.Begun.{first_item, head_gone}
use Rattle.ls_rules.proofs.Indexing.{indexed_rules}
use Rattle.ls_rules.proofs.Rounds.{common_item, first-within, kept, no_least}

-- the items of the rules that pass a test
abbrev asked : (Query → Bool) → List Query → Items
asked p rules = set_of (map (λ (r : Query). r.q) (filter p rules))

-- the rule's set A has no item of the set
abbrev apart : Items → Query → Bool
apart s r = is_same (meet s r.a) empty

-- an item of the set is in no set A that is apart from it
no_common : (set a : Items) (i : ℕ) → is_same (meet set a) empty ≡ true → has set i ≡ true → has a i ≡ true → ⊥
no_common set a i e x y = true≢false (sym (has-meet set a i ∙ and_from (has set i) (has a i) x y) ∙ ap (λ s. has s i) ((Decides-is_same (meet set a) empty).0 e) ∙ has-empty i)

-- ---- the items of the rules that pass a test

asked-later : (q : Query → Bool) (r : Query) (rules : List Query) (j : ℕ) → has (asked q rules) j ≡ true → has (asked q (r ∷ rules)) j ≡ true
asked-later q r rules j h = elim (q r) as (λ b. has (set_of (map (λ (r : Query). r.q) (cond b (r ∷ filter q rules) (filter q rules)))) j ≡ true) [
  | true ↦ grind (arith, members, nat_tests)
  | false ↦ h
]

asked-more : (p q : Query → Bool) (rules : List Query) (j : ℕ) → ((r : Query) → p r ≡ true → q r ≡ true) → has (asked p rules) j ≡ true → has (asked q rules) j ≡ true
asked-more p q [] j more h = h
asked-more p q (r ∷ rules) j more h =
    elim (p r) as (λ b. p r ≡ b → has (set_of (map (λ (r : Query). r.q) (cond b (r ∷ filter p rules) (filter p rules)))) j ≡ true → has (asked q (r ∷ rules)) j ≡ true) [
      | true ↦ λ e x. rw (more r e) (elim (cases_eq j r.q) [
        | inl same ↦ rw same (grind (arith, members, nat_tests))
        | inr other ↦
            let there : has (asked p rules) j ≡ true = grind (arith, members, nat_tests) in
            let rest : has (asked q rules) j ≡ true = asked-more p q rules j more there in
            grind (arith, members, nat_tests)
      ])
      | false ↦ λ _ x. asked-later q r rules j (asked-more p q rules j more x)
    ] refl h

asked-there : (p : Query → Bool) (rules : List Query) → AllByRecursion (λ r. p r ≡ true → has (asked p rules) r.q ≡ true) rules
asked-there p [] = tt
asked-there p (r ∷ rules) = (
  λ h. rw h (grind (arith, members, nat_tests)),
  each {P = λ x. p x ≡ true → has (asked p rules) x.q ≡ true} {Q = λ x. p x ≡ true → has (asked p (r ∷ rules)) x.q ≡ true} (λ x f h. asked-later p r rules x.q (f h)) rules (asked-there p rules),
)

-- a set with none of these items
asked-none : (p : Query → Bool) (rules : List Query) (s : Items) (j : ℕ) → AllByRecursion (λ r. p r ≡ true → has s r.q ≡ false) rules → has (asked p rules) j ≡ true → has s j ≡ false
asked-none p [] s j h x = absurd (true≢false (sym x ∙ has-empty j))
asked-none p (r ∷ rules) s j h x =
    elim (p r) as (λ b. p r ≡ b → has (set_of (map (λ (r : Query). r.q) (cond b (r ∷ filter p rules) (filter p rules)))) j ≡ true → has s j ≡ false) [
      | true ↦ λ e y. elim (cases_eq j r.q) [
        | inl same ↦ ap (has s) same ∙ h.0 e
        | inr other ↦ asked-none p rules s j h.1 (let there : has (asked p rules) j ≡ true = grind (arith, members, nat_tests) in there)
      ]
      | false ↦ λ _ y. asked-none p rules s j h.1 y
    ] refl x

-- ---- the loop over places

minus-empty : (s : Items) → minus s empty ≡ s
minus-empty s = same_set (minus s empty) s (λ j. grind (arith, members, nat_tests))

minus-with : (s t : Items) (q : ℕ) → minus s (with t q) ≡ minus (without s q) t
minus-with s t q = same_set (minus s (with t q)) (minus (without s q) t) (λ j. grind (arith, members, nat_tests))

-- one more of the rules at the places is looked at
rules_at-next : (rules : List Query) (places : List ℕ) (i p : ℕ) (r : Query) → i < length places → p ≡ get_or places i 0 → p < length rules → r ≡ get_or rules p r
    → rules_at rules (drop i places) ≡ r ∷ rules_at rules (drop (i + 1) places)
rules_at-next rules places i p r l e m q =
    let rest : drop i places ≡ p ∷ drop (i + 1) places = drop-cons places i 0 l ∙ ap₂ (λ x n. x ∷ drop n places) (sym e) (sym (add-one i)) in
    let found : slice_get rules p ≡ Some r = slice_get_read rules (length rules) p r refl m q in
    ap (rules_at rules) rest ∙ rw found refl

pub barred-took : (rules : List Query) (places : List ℕ) (i p : ℕ) (r : Query) (set left all : Items) → i < length places → p ≡ get_or places i 0 → p < length rules → r ≡ get_or rules p r → is_same (meet set r.a) empty ≡ true
    → minus left (barred (rules_at rules (drop i places)) set) ≡ all → minus (without left r.q) (barred (rules_at rules (drop (i + 1) places)) set) ≡ all
barred-took rules places i p r set left all l e m q h same =
    let rest = rules_at rules (drop (i + 1) places) in
    let first : barred (r ∷ rest) set ≡ with (barred rest set) r.q = rw h refl in
    sym (minus-with left (barred rest set) r.q) ∙ ap (minus left) (sym first) ∙ ap (λ rs. minus left (barred rs set)) (sym (rules_at-next rules places i p r l e m q)) ∙ same

pub barred-passed : (rules : List Query) (places : List ℕ) (i p : ℕ) (r : Query) (set left all : Items) → i < length places → p ≡ get_or places i 0 → p < length rules → r ≡ get_or rules p r → is_same (meet set r.a) empty ≡ false
    → minus left (barred (rules_at rules (drop i places)) set) ≡ all → minus left (barred (rules_at rules (drop (i + 1) places)) set) ≡ all
barred-passed rules places i p r set left all l e m q h same =
    let rest = rules_at rules (drop (i + 1) places) in
    let first : barred (r ∷ rest) set ≡ barred rest set = rw h refl in
    ap (minus left) (sym first) ∙ ap (λ rs. minus left (barred rs set)) (sym (rules_at-next rules places i p r l e m q)) ∙ same

pub barred-end : (rules : List Query) (places : List ℕ) (i : ℕ) (set left : Items) → length places ≤ i → left ≡ minus left (barred (rules_at rules (drop i places)) set)
barred-end rules places i set left l = sym (ap (λ ps. minus left (barred (rules_at rules ps) set)) (drop_all i places l) ∙ minus-empty left)

-- ---- an item whose rules are passed over

-- where no item of these rules is left, nothing is taken out
pub barred-none : (rules : List Query) (starts : List PlaceList) (heads : List Items) (i : ℕ) (set items : Items) → IsIndexOf starts (map (λ r. first_of (several r.a)) rules) → AreFollowed heads (λ r. first_of (several r.a)) rules
    → is_same (meet (set_at heads i) items) empty ≡ true → items ≡ minus items (barred (rules_at rules (places_at starts i)) set)
barred-none rules starts heads i set items index headed e =
    let none = (Decides-is_same (meet (set_at heads i) items) empty).0 e in
    let p = λ (r : Query). has (first_of (several r.a)) i in
    let gone = each {P = λ r. IsFollower heads (first_of (several r.a)) r.q} {Q = λ r. (p r && apart set r) ≡ true → has items r.q ≡ false} (λ r h f. head_gone heads r i items none h (and_parts (p r) (apart set r) f).0) rules headed in
    let part : barred (rules_at rules (places_at starts i)) set ≡ asked (λ r. p r && apart set r) rules =
    ap (λ rs. barred rs set) (indexed_rules rules (λ r. first_of (several r.a)) starts i (places_at starts i) index refl) ∙ ap (λ rs. set_of (map (λ (r : Query). r.q) rs)) (filter-both p (apart set) rules) in
    same_set items (minus items (barred (rules_at rules (places_at starts i)) set)) (λ j. elim (cases_Bool (has items j)) [
      | inl x ↦
          let out : has (barred (rules_at rules (places_at starts i)) set) j ≡ false = false_from_ne_true (has (barred (rules_at rules (places_at starts i)) set) j) (λ y.
          true≢false (sym x ∙ asked-none (λ r. p r && apart set r) rules items j gone (sym (ap (λ s. has s j) part) ∙ y))) in
          grind (arith, members, nat_tests)
      | inr x ↦ grind (arith, members, nat_tests)
    ])

-- ---- the loop over first items

-- the items without those that the rules bar whose A is one item outside the set, and the rules of several that do not begin with an item that is left
pub record Barring (rules : List Query) (set items left rest : Items) : Type 0 where
  pub within : IsWithin rest items
  pub sound : (j : ℕ) → has items j ≡ true → has rest j ≡ false → has (barred rules set) j ≡ true
  pub alone : AllByRecursion (λ r. (i : ℕ) → is_same r.a (single i) ≡ true → has set i ≡ false → has rest r.q ≡ false) rules
  pub looked : AllByRecursion (λ r. (i : ℕ) → has (first_of (several r.a)) i ≡ true → has left i ≡ false → is_same (meet set r.a) empty ≡ true → has rest r.q ≡ false) rules

-- what one item outside the set takes with it is barred
alone-barred : (rules : List Query) (set : Items) (i j : ℕ) → has set i ≡ false → has (asked_alone rules i) j ≡ true → has (barred rules set) j ≡ true
alone-barred rules set i j out h =
    asked-more (λ r. is_same r.a (single i)) (apart set) rules j (λ r e.
    rw ((Decides-is_same r.a (single i)).0 e) ((Decides-is_same (meet set (single i)) empty).1 (same_set (meet set (single i)) empty (λ m. elim (cases_eq m i) [
      | inl q ↦ let o : has set m ≡ false = ap (has set) q ∙ out in grind (arith, members, nat_tests)
      | inr n ↦ grind (arith, members, nat_tests)
    ])))) h

pub Barring-first : (rules : List Query) (singles : List Items) (firsts set items lost : Items) → AreSingles singles rules → AllByRecursion (λ r. IsWithin (first_of (several r.a)) firsts) rules
    → ((i j : ℕ) → has set i ≡ false → has (set_at singles i) j ≡ true → has lost j ≡ true) → ((j : ℕ) → has lost j ≡ true → (i : ℕ) × (has set i ≡ false) × (has (set_at singles i) j ≡ true))
    → Barring rules set items (minus firsts set) (minus items lost)
Barring-first rules singles firsts set items lost a h all no_other =
    let rest = minus items lost in
    record {
      within = λ j x. grind (arith, members, nat_tests);
      sound = λ j x y.
          let gone : has lost j ≡ true = grind (arith, members, nat_tests) in
          let from = no_other j gone in
          alone-barred rules set from.0 j from.1 (ap (λ s. has s j) (sym (a from.0)) ∙ from.2);
      alone = each {P = λ r. (i : ℕ) → is_same r.a (single i) ≡ true → has (asked_alone rules i) r.q ≡ true} {Q = λ r. (i : ℕ) → is_same r.a (single i) ≡ true → has set i ≡ false → has rest r.q ≡ false}
          (λ r asked i e out. let gone = all i r.q out (ap (λ x. has x r.q) (a i) ∙ asked i e) in grind (arith, members, nat_tests)) rules (asked-has rules);
      looked = each {P = λ r. IsWithin (first_of (several r.a)) firsts} {Q = λ r. (i : ℕ) → has (first_of (several r.a)) i ≡ true → has (minus firsts set) i ≡ false → is_same (meet set r.a) empty ≡ true → has rest r.q ≡ false}
          (λ r w i f g e.
          let there : has firsts i ≡ true = w i f in
          let in_set : has set i ≡ true = grind (arith, members, nat_tests) in
          absurd (no_common set r.a i e in_set (several-within r.a i (first-within (several r.a) i f)))) rules h;
    }

-- no item outside the set takes one with it
pub Barring-none : (rules : List Query) (singles : List Items) (items firsts set all : Items) → AreSingles singles rules → AllByRecursion (λ r. IsWithin (first_of (several r.a)) firsts) rules → CoversSets items singles → is_within items set ≡ true
    → Barring rules set all (minus firsts set) all
Barring-none rules singles items firsts set all a h covers w =
    let outside = λ (i : ℕ) (o : has set i ≡ false). covers i (false_from_ne_true (has items i) (λ y. true≢false (sym (IsWithin-from items set w i y) ∙ o))) in
    subst (λ (s : Items). Barring rules set all (minus firsts set) s) (minus-empty all)
    (Barring-first rules singles firsts set all empty a h (λ i j o x. absurd (true≢false (sym x ∙ ap (λ s. has s j) (outside i o) ∙ has-empty j))) (λ j x. absurd (true≢false (sym x ∙ has-empty j))))

pub Barring-more : (rules : List Query) (starts : List PlaceList) (set items left rest : Items) (i : ℕ) → IsIndexOf starts (map (λ r. first_of (several r.a)) rules) → Barring rules set items left rest
    → Barring rules set items (without left i) (minus rest (barred (rules_at rules (places_at starts i)) set))
Barring-more rules starts set items left rest i index b =
    let p = λ (r : Query). has (first_of (several r.a)) i in
    let both = λ (r : Query). p r && apart set r in
    let x = barred (rules_at rules (places_at starts i)) set in
    let part : x ≡ asked both rules =
    ap (λ rs. barred rs set) (indexed_rules rules (λ r. first_of (several r.a)) starts i (places_at starts i) index refl) ∙ ap (λ rs. set_of (map (λ (r : Query). r.q) rs)) (filter-both p (apart set) rules) in
    let to = minus rest x in
    record {
      within = λ j h. b.within j (let here : has rest j ≡ true = grind (arith, members, nat_tests) in here);
      sound = λ j h gone. elim (cases_Bool (has rest j)) [
        | inl y ↦
            let took : has x j ≡ true = grind (arith, members, nat_tests) in
            asked-more both (apart set) rules j (λ r e. (and_parts (p r) (apart set r) e).1) (sym (ap (λ s. has s j) part) ∙ took)
        | inr y ↦ b.sound j h y
      ];
      alone = each {P = λ r. (i : ℕ) → is_same r.a (single i) ≡ true → has set i ≡ false → has rest r.q ≡ false} {Q = λ r. (i : ℕ) → is_same r.a (single i) ≡ true → has set i ≡ false → has to r.q ≡ false}
          (λ r gone m e o. let out = gone m e o in grind (arith, members, nat_tests)) rules b.alone;
      looked = Each-both (λ r. (m : ℕ) → has (first_of (several r.a)) m ≡ true → has left m ≡ false → is_same (meet set r.a) empty ≡ true → has rest r.q ≡ false)
          (λ r. both r ≡ true → has (asked both rules) r.q ≡ true)
          (λ r. (m : ℕ) → has (first_of (several r.a)) m ≡ true → has (without left i) m ≡ false → is_same (meet set r.a) empty ≡ true → has to r.q ≡ false)
          (λ r old looked m f g e. elim (cases_eq m i) [
            | inl q ↦
                let there : has x r.q ≡ true = ap (λ s. has s r.q) part ∙ looked (and_from (p r) (apart set r) (subst (λ n. has (first_of (several r.a)) n ≡ true) q f) e) in
                grind (arith, members, nat_tests)
            | inr n ↦
                let out = old m f (false_from_ne_true (has left m) (λ y. true≢false (sym (kept left m i y n) ∙ g))) e in
                grind (arith, members, nat_tests)
          ]) rules b.looked (asked-there both rules);
    }

-- what a rule bars has been taken out
barred_rule : (n : ℕ) (set left rest : Items) (r : Query) → IsGood n r → left ≡ empty → ((i : ℕ) → is_same r.a (single i) ≡ true → has set i ≡ false → has rest r.q ≡ false)
    → ((i : ℕ) → has (first_of (several r.a)) i ≡ true → has left i ≡ false → is_same (meet set r.a) empty ≡ true → has rest r.q ≡ false) → is_same (meet set r.a) empty ≡ true → has rest r.q ≡ false
barred_rule n set left rest r good none alone looked e =
    let x = first_item r.a good.nonempty in
    elim (cases_Bool (is_same r.a (single x.0))) [
      | inl one ↦ alone x.0 one (false_from_ne_true (has set x.0) (λ y. no_common set r.a x.0 e y x.2))
      | inr more ↦ looked x.0 (rw (several-is r.a x.0 x.2 more) x.1) (ap (λ s. has s x.0) none ∙ has-empty x.0) e
    ]

-- after it all that the rules bar was taken out
pub Barring-done : (rules : List Query) (n : ℕ) (set items left rest : Items) → list_all (is_good n) rules ≡ true → least left ≡ None → Barring rules set items left rest → rest ≡ minus items (barred rules set)
Barring-done rules n set items left rest good e b =
    let none = no_least left e in
    let Alone = λ (r : Query). (i : ℕ) → is_same r.a (single i) ≡ true → has set i ≡ false → has rest r.q ≡ false in
    let Looked = λ (r : Query). (i : ℕ) → has (first_of (several r.a)) i ≡ true → has left i ≡ false → is_same (meet set r.a) empty ≡ true → has rest r.q ≡ false in
    let gone = Each-both (λ r. is_good n r ≡ true) (λ r. Alone r × Looked r) (λ r. apart set r ≡ true → has rest r.q ≡ false)
    (λ r g l. barred_rule n set left rest r (good-from n r g) none l.0 l.1)
    rules (list_all-All (is_good n) rules good) (Each-both Alone Looked (λ r. Alone r × Looked r) (λ r x y. (x, y)) rules b.alone b.looked) in
    same_set rest (minus items (barred rules set)) (λ j. elim (cases_Bool (has rest j)) [
      | inl x ↦
          let here = b.within j x in
          let out : has (barred rules set) j ≡ false = false_from_ne_true (has (barred rules set) j) (λ y. true≢false (sym x ∙ asked-none (apart set) rules rest j gone y)) in
          grind (arith, members, nat_tests)
      | inr x ↦ elim (cases_Bool (has items j)) [
        | inl y ↦ let there = b.sound j y x in grind (arith, members, nat_tests)
        | inr y ↦ grind (arith, members, nat_tests)
      ]
    ])

-- ---- the outer fringe under the rules

-- with an item more, a set that does not break the rule breaks it where the rule bars the item
breaks-with : (n : ℕ) (k : Items) (r : Query) (j : ℕ) → IsGood n r → breaks k r ≡ false → breaks (with k j) r ≡ (apart k r && eqb j r.q)
breaks-with n k r j good u = elim (cases_Bool (apart k r)) [
  | inr met ↦
      let x = common_item k r.a met in
      rw met (false_from_ne_true (breaks (with k j) r) (λ b. true≢false (sym x.2 ∙ (Breaks-from (with k j) r b).apart x.0 (let in_k = x.1 in grind (arith, members, nat_tests)))))
  | inl e ↦
      let out : has k r.q ≡ false = sym (ap (λ b. b && has k r.q) e) ∙ u in
      elim (cases_eq j r.q) [
        | inl q ↦ rw (e, eq-eqb j r.q q) (breaks-from (with k j) r (record {
          apart = λ i x. elim (cases_eq i j) [
            | inl s ↦ ap (has r.a) (s ∙ q) ∙ good.outside
            | inr d ↦ false_from_ne_true (has r.a i) (λ y. no_common k r.a i e (let in_k : has k i ≡ true = grind (arith, members, nat_tests) in in_k) y)
          ];
          has_q = rw q (grind (arith, members, nat_tests));
        }))
        | inr d ↦ rw (e, ne_eqb j r.q d) (false_from_ne_true (breaks (with k j) r) (λ b.
            let there = (Breaks-from (with k j) r b).has_q in
            true≢false (sym (let in_k : has k r.q ≡ true = grind (arith, members, nat_tests) in in_k) ∙ out)))
      ]
]

-- so where a set breaks no rule, with an item more it breaks none where none bars the item
unbroken-with : (n : ℕ) (rules : List Query) (k : Items) (j : ℕ) → list_all (is_good n) rules ≡ true → breaks_none rules k ≡ true → breaks_none rules (with k j) ≡ not (has (barred rules k) j)
unbroken-with n [] k j good u = sym (ap not (has-empty j))
unbroken-with n (r ∷ rules) k j good u =
    let g = and_parts (is_good n r) (list_all (is_good n) rules) good in
    let p = and_parts (not (breaks k r)) (breaks_none rules k) u in
    let rest = filter (apart k) rules in
    ap₂ (λ a b. not a && b) (breaks-with n k r j (good-from n r g.0) (not-true (breaks k r) p.0)) (unbroken-with n rules k j g.1 p.1)
    ∙ elim (apart k r) as (λ b. (not (b && eqb j r.q) && not (has (barred rules k) j)) ≡ not (has (set_of (map (λ (r : Query). r.q) (cond b (r ∷ rest) rest))) j)) [
      | true ↦ added (barred rules k) r.q j
      | false ↦ refl
    ]
  where
    added : (s : Items) (q j : ℕ) → (not (eqb j q) && not (has s j)) ≡ not (has (with s q) j)
    added s q j = rw (has-with s q j) (either (eqb j q) (has s j))
      where
        either : (a b : Bool) → (not a && not b) ≡ not (b || a)
        either true true = refl
        either true false = refl
        either false true = refl
        either false false = refl

-- what can be added under the rules is what can be added and is not barred
pub ruled-outer : (n : ℕ) (f : List Items) (rules : List Query) (k : Items) → IsFamily n f → list_all (is_good n) rules ≡ true → is_among (filter (breaks_none rules) f) k ≡ true
    → minus (outer_fringe n f k) (barred rules k) ≡ outer_fringe n (filter (breaks_none rules) f) k
ruled-outer n f rules k family good c =
    let p = and_parts (is_among f k) (breaks_none rules k) (sym (among-filter (breaks_none rules) f k) ∙ c) in
    let g = filter (breaks_none rules) f in
    same_set (minus (outer_fringe n f k) (barred rules k)) (outer_fringe n g k) (λ j.
    has-minus (outer_fringe n f k) (barred rules k) j
    ∙ ap₂ (λ a b. a && b) (has-outer_fringe n f family.small k j) (sym (unbroken-with n rules k j good p.1))
    ∙ and-assoc (not (has k j)) (is_among f (with k j)) (breaks_none rules (with k j))
    ∙ ap (λ b. not (has k j) && b) (sym (among-filter (breaks_none rules) f (with k j)))
    ∙ sym (has-outer_fringe n g (ruled-IsFamily rules family).small k j))
  where
    and-assoc : (a b c : Bool) → ((a && b) && c) ≡ (a && (b && c))
    and-assoc true b c = refl
    and-assoc false b c = refl
