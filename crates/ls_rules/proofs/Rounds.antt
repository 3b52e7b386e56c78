-- Looking at rules: what stays, what falls out, and that at the end no rule is broken.
use Rattle.ls_rules.proofs.Vocabulary.{◌*◌, ◌+◌, ◌<◌, ◌∙◌, ◌∷◌, ◌≡◌, ◌≤◌, All-filter, All-list_all, All-passing, AllByRecursion, AreSingles, Bool, Breaks-from, Decides-is_same, Each-both, IsAwake, IsIndexOf, IsWithin, Items, List, None, NoneKeeps, Option, PlaceList, Query, Round, Settles, Settling, Some, ℕ, [], add-one, and_from, and_parts, ap, ap₂, arith, asked_alone, breaks, breaks-from, breaks_none, cases_Bool, cases_eq, cond, drop, drop-cons, empty, false, false_from_ne_true, filter, first_of, fold, full, get_or, has, has-empty, has-meet, inl, inr, is_same, least, least-cases, len, len-less, len-parts, len-single, len-within, len-zero, length, list_all-All, look, look_at, lose_all, lost_with, map, meet, members, minus, minus-within, nat_tests, not, not-true, not_from_false, option_map_or, places_at, refl, rules_at, same_set, set_at, several, single, slice_get, some_item, subst, sym, true, true≢false, union, union-left, with, without, without-within}
use Rattle.ls_set.proofs.Firsts.{items-none}
use Rattle.std.proofs.lemmas.Option.{slice_get_read}
use Rattle.ls_rules.proofs.Alone.{several-is, asked-has, asked-out}
use Rattle.ls_rules.proofs.Indexing.{indexed_rules}

-- ---- sets

-- an item that two sets have in common
pub common_item : (k a : Items) → is_same (meet k a) empty ≡ false → (i : ℕ) × (has k i ≡ true) × (has a i ≡ true)
common_item k a h = elim (some_item (meet k a)) [
  | inl e ↦ absurd (true≢false (sym ((Decides-is_same (meet k a) empty).1 e) ∙ h))
  | inr x ↦ let p = and_parts (has k x.0) (has a x.0) (sym (has-meet k a x.0) ∙ x.1) in (x.0, p.0, p.1)
]

-- a set with no least item is empty
pub no_least : (s : Items) → least s ≡ None → s ≡ empty
unfolding len
no_least s e = len-zero s (ap length (items-none s e))

pub kept : (s : Items) (j i : ℕ) → has s j ≡ true → (j ≡ i → ⊥) → has (without s i) j ≡ true
kept s j i h n = grind (arith, members, nat_tests)

pub taken : (s : Items) (i : ℕ) → has (without s i) i ≡ false
taken s i = grind (arith, members, nat_tests)

len-with : (s : Items) (i : ℕ) → len (with s i) ≤ len s + 1
len-with s i = elim (cases_Bool (has s i)) [
  | inl a ↦ let e : with s i ≡ s = same_set (with s i) s (λ j. grind (arith, members, nat_tests)) in rw e (omega arith)
  | inr a ↦ let e = len-parts s (single i) (with s i) (λ j. grind (arith, members, nat_tests)) (λ j. grind (arith, members, nat_tests)) in omega (arith, e, len-single i)
]

pub len-without : (s : Items) (i : ℕ) → has s i ≡ true → len (without s i) < len s
len-without s i h = len-less (without s i) s i (without-within s i) (taken s i) h

pub len-without_least : (s : Items) (i : ℕ) → least s ≡ Some i → len (without s i) < len s
len-without_least s i e = len-without s i (least-cases s i e).0

-- ---- breaking a rule

-- a part that has the rule's item breaks what the whole breaks
breaks-part : (t k : Items) (r : Query) → IsWithin t k → breaks k r ≡ true → has t r.q ≡ true → breaks t r ≡ true
breaks-part t k r w h a = breaks-from t r (record { apart = λ i x. (Breaks-from k r h).apart i (w i x); has_q = a })

-- a set with the item that does not break the rule has an item of its A
pub meets_rule : (k : Items) (r : Query) → has k r.q ≡ true → breaks k r ≡ false → (i : ℕ) × (has k i ≡ true) × (has r.a i ≡ true)
meets_rule k r h u = common_item k r.a (false_from_ne_true (is_same (meet k r.a) empty) (λ a. true≢false (sym (and_from (is_same (meet k r.a) empty) (has k r.q) a h) ∙ u)))

-- a set that breaks the rule has no item of its A
pub no_item : (k : Items) (r : Query) (i : ℕ) → breaks k r ≡ true → has r.a i ≡ true → has k i ≡ false
no_item k r i h a = false_from_ne_true (has k i) (λ x. true≢false (sym a ∙ (Breaks-from k r h).apart i x))

-- ---- looking

-- what has happened between two rounds
pub record After (from to : Round) : Type 0 where
  pub within : IsWithin to.kept from.kept
  pub grows : IsWithin from.fallen to.fallen
  pub fell : (i : ℕ) → has from.kept i ≡ true → has to.kept i ≡ false → has to.fallen i ≡ true
  pub lighter : 2 * len to.kept + len to.fallen ≤ 2 * len from.kept + len from.fallen

pub After-same : (s : Round) → After s s
After-same s = record { within = λ i h. h; grows = λ i h. h; fell = λ i h g. absurd (true≢false (sym h ∙ g)); lighter = omega arith }

pub After-more : (s t u : Round) → After s t → After t u → After s u
After-more s t u a b = record {
  within = λ i h. a.within i (b.within i h);
  grows = λ i h. b.grows i (a.grows i h);
  fell = λ i h g. elim (cases_Bool (has t.kept i)) [ inl x ↦ b.fell i x g | inr x ↦ b.grows i (a.fell i h x) ];
  lighter = omega (arith, a.lighter, b.lighter);
}

After-look : (s : Round) (r : Query) → After s (look s r)
After-look s r =
    elim (breaks s.kept r) as (λ b. breaks s.kept r ≡ b → After s (record { kept = cond b (without s.kept r.q) s.kept; fallen = cond b (with s.fallen r.q) s.fallen })) [
      | true ↦ λ h.
          let less = len-without s.kept r.q (Breaks-from s.kept r h).has_q in
          let more = len-with s.fallen r.q in
          record {
            within = without-within s.kept r.q;
            grows = λ i x. grind (arith, members, nat_tests);
            fell = λ i x g. grind (arith, members, nat_tests);
            lighter = omega arith;
          }
      | false ↦ λ _. After-same s
    ] refl

pub After-looks : (s : Round) (rs : List Query) → After s (fold look s rs)
After-looks s [] = After-same s
After-looks s (r ∷ rs) = After-more s (look s r) (fold look (look s r) rs) (After-look s r) (After-looks (look s r) rs)

len-union : (s t : Items) → len (union s t) ≤ len s + len t
len-union s t =
    let parts = len-parts s (minus t s) (union s t) (λ j. grind (arith, members, nat_tests)) (λ j. grind (arith, members, nat_tests)) in
    omega (arith, parts, len-within (minus t s) t (minus-within t s))

pub After-lose : (s : Round) (set : Items) → After s (lose_all s set)
After-lose s set =
    let parts = len-parts (minus s.kept set) (meet s.kept set) s.kept (λ j. grind (arith, members, nat_tests)) (λ j. grind (arith, members, nat_tests)) in
    record {
      within = minus-within s.kept set;
      grows = union-left s.fallen (meet s.kept set);
      fell = λ i h g. grind (arith, members, nat_tests);
      lighter = omega (arith, parts, len-union s.fallen (meet s.kept set));
    }

look-keeps : (t : Items) (s : Round) (r : Query) → breaks t r ≡ false → IsWithin t s.kept → IsWithin t (look s r).kept
look-keeps t s r u w =
    elim (breaks s.kept r) as (λ b. breaks s.kept r ≡ b → IsWithin t (cond b (without s.kept r.q) s.kept)) [
      | true ↦ λ h i x.
          let here = w i x in
          let out : has t r.q ≡ false = false_from_ne_true (has t r.q) (λ y. true≢false (sym (breaks-part t s.kept r w h y) ∙ u)) in
          grind (arith, members, nat_tests)
      | false ↦ λ _. w
    ] refl

-- a set that breaks none of the rules stays
pub looks-keep : (t : Items) (s : Round) (rs : List Query) → breaks_none rs t ≡ true → IsWithin t s.kept → IsWithin t (fold look s rs).kept
looks-keep t s [] h w = w
looks-keep t s (r ∷ rs) h w =
    let p = and_parts (not (breaks t r)) (breaks_none rs t) h in
    looks-keep t (look s r) rs p.1 (look-keeps t s r (not-true (breaks t r) p.0) w)

look-breaks : (k : Items) (s : Round) (r : Query) → IsWithin s.kept k → breaks k r ≡ true → has (look s r).kept r.q ≡ false
look-breaks k s r w h = elim (cases_Bool (has s.kept r.q)) [
  | inl a ↦ rw (breaks-part s.kept k r w h a) (taken s.kept r.q)
  | inr a ↦ false_from_ne_true (has (look s r).kept r.q) (λ x. true≢false (sym ((After-look s r).within r.q x) ∙ a))
]

-- the item of each of the rules that was broken is gone
looks-break : (k : Items) (s : Round) (rs : List Query) → IsWithin s.kept k → AllByRecursion (λ r. breaks k r ≡ true → has (fold look s rs).kept r.q ≡ false) rs
looks-break k s [] w = tt
looks-break k s (r ∷ rs) w = (
  λ h. false_from_ne_true (has (fold look (look s r) rs).kept r.q) (λ x. true≢false (sym ((After-looks (look s r) rs).within r.q x) ∙ look-breaks k s r w h)),
  looks-break k (look s r) rs (λ i h. w i ((After-look s r).within i h)),
)

-- the rules with the item were looked at
pub looks-break_at : (k : Items) (s : Round) (p : Query → Bool) (rules : List Query) → IsWithin s.kept k
    → AllByRecursion (λ r. p r ≡ true → breaks k r ≡ true → has (fold look s (filter p rules)).kept r.q ≡ false) rules
looks-break_at k s p rules w = All-passing (λ r. breaks k r ≡ true → has (fold look s (filter p rules)).kept r.q ≡ false) p rules (looks-break k s (filter p rules) w)

pub none_of_part : (t : Items) (p : Query → Bool) (rules : List Query) → breaks_none rules t ≡ true → breaks_none (filter p rules) t ≡ true
none_of_part t p rules h = All-list_all (λ r. not (breaks t r)) (filter p rules) (All-filter (λ r. not (breaks t r) ≡ true) p rules (list_all-All (λ r. not (breaks t r)) rules h))

-- ---- going on from the items that fell out

-- the item i was taken out of what fell out
abbrev pub woken : Round → ℕ → Round
woken s i = record { kept = s.kept; fallen = without s.fallen i }

stays_awake : (s to : Round) (i : ℕ) (r : Query) → After (woken s i) to → IsAwake s r → (has r.a i ≡ true → breaks s.kept r ≡ true → has to.kept r.q ≡ false) → IsAwake to r
stays_awake s to i r after old looked h = elim (cases_Bool (breaks s.kept r)) [
  | inl b ↦
      let x = old b in
      elim (cases_eq x.0 i) [
        | inl e ↦ absurd (true≢false (sym (Breaks-from to.kept r h).has_q ∙ looked (subst (λ j. has r.a j ≡ true) e x.1) b))
        | inr n ↦ (x.0, x.1, after.grows x.0 (kept s.fallen x.0 i x.2 n))
      ]
  | inr u ↦
      let x = meets_rule s.kept r (after.within r.q (Breaks-from to.kept r h).has_q) u in
      (x.0, x.2, after.fell x.0 x.1 (no_item to.kept r x.0 h x.2))
]

-- the rules that the item wakes were looked at
abbrev pub turn : List Query → List Items → ℕ → Round → Round
turn rules singles i s = fold look (lose_all s (lost_with singles s.kept i)) (filter (λ r. has (several r.a) i) rules)

pub After-turn : (rules : List Query) (singles : List Items) (i : ℕ) (s : Round) → After s (turn rules singles i s)
After-turn rules singles i s =
    let lost = lose_all s (lost_with singles s.kept i) in
    After-more s lost (turn rules singles i s) (After-lose s (lost_with singles s.kept i)) (After-looks lost (filter (λ r. has (several r.a) i) rules))

-- what a rule of one item asks of is gone where that was not kept
alone_gone : (singles : List Items) (rules : List Query) (s : Round) (r : Query) (i : ℕ) → AreSingles singles rules → has (asked_alone rules i) r.q ≡ true → has s.kept i ≡ false → has (lose_all s (lost_with singles s.kept i)).kept r.q ≡ false
alone_gone singles rules s r i a asked out =
    let here : has (set_at singles i) r.q ≡ true = ap (λ k. has k r.q) (a i) ∙ asked in
    rw out (grind (arith, members, nat_tests))

-- the item of each rule that it woke and that was broken is gone
turn-breaks : (rules : List Query) (singles : List Items) (i : ℕ) (s : Round) → AreSingles singles rules → AllByRecursion (λ r. has r.a i ≡ true → breaks s.kept r ≡ true → has (turn rules singles i s).kept r.q ≡ false) rules
turn-breaks rules singles i s a =
    let lost = lose_all s (lost_with singles s.kept i) in
    let p = λ (r : Query). has (several r.a) i in
    let to = turn rules singles i s in
    let after = After-looks lost (filter p rules) in
    Each-both (λ r. (i : ℕ) → is_same r.a (single i) ≡ true → has (asked_alone rules i) r.q ≡ true) (λ r. p r ≡ true → breaks s.kept r ≡ true → has to.kept r.q ≡ false)
    (λ r. has r.a i ≡ true → breaks s.kept r ≡ true → has to.kept r.q ≡ false)
    (λ r asked looked h b. elim (cases_Bool (is_same r.a (single i))) [
      | inl e ↦ false_from_ne_true (has to.kept r.q) (λ x. true≢false (sym (after.within r.q x) ∙ alone_gone singles rules s r i a (asked i e) (no_item s.kept r i b h)))
      | inr e ↦ looked (rw (several-is r.a i h e) h) b
    ]) rules (asked-has rules) (looks-break_at s.kept lost p rules (After-lose s (lost_with singles s.kept i)).within)

-- a set that breaks no rule keeps its items
lose-keeps : (rules : List Query) (singles : List Items) (t : Items) (i : ℕ) (s : Round) → AreSingles singles rules → breaks_none rules t ≡ true → IsWithin t s.kept → IsWithin t (lose_all s (lost_with singles s.kept i)).kept
lose-keeps rules singles t i s a u w j h = elim (cases_Bool (has s.kept i)) [
  | inl x ↦ rw x (let here = w j h in grind (arith, members, nat_tests))
  | inr x ↦ rw x (
      let here = w j h in
      let out : has t i ≡ false = false_from_ne_true (has t i) (λ y. true≢false (sym (w i y) ∙ x)) in
      let kept : has (set_at singles i) j ≡ false = false_from_ne_true (has (set_at singles i) j) (λ y. true≢false (sym h ∙ asked-out rules t i j u out (ap (λ k. has k j) (sym (a i)) ∙ y))) in
      grind (arith, members, nat_tests))
]

pub Settling-more : (rules : List Query) (singles : List Items) (from : Items) (s : Round) (i : ℕ) → AreSingles singles rules → Settling rules from s → Settling rules from (turn rules singles i (woken s i))
Settling-more rules singles from s i alone a =
    let to = turn rules singles i (woken s i) in
    let after = After-turn rules singles i (woken s i) in
    record {
      within = λ j h. a.within j (after.within j h);
      awake = Each-both (IsAwake s) (λ r. has r.a i ≡ true → breaks s.kept r ≡ true → has to.kept r.q ≡ false) (IsAwake to)
          (λ r old looked. stays_awake s to i r after old looked) rules a.awake (turn-breaks rules singles i (woken s i) alone);
      greatest = λ t u w.
          looks-keep t (lose_all (woken s i) (lost_with singles s.kept i)) (filter (λ r. has (several r.a) i) rules) (none_of_part t (λ r. has (several r.a) i) rules u)
          (lose-keeps rules singles t i (woken s i) alone u (a.greatest t u w));
    }

pub lighter : (rules : List Query) (singles : List Items) (s : Round) (i : ℕ) → has s.fallen i ≡ true → let to = turn rules singles i (woken s i) in 2 * len to.kept + len to.fallen < 2 * len s.kept + len s.fallen
lighter rules singles s i h =
    let a = (After-turn rules singles i (woken s i)).lighter in
    let b = len-without s.fallen i h in
    omega arith

pub none_broken : (s : Round) (rules : List Query) → s.fallen ≡ empty → AllByRecursion (IsAwake s) rules → breaks_none rules s.kept ≡ true
none_broken s [] e a = refl
none_broken s (r ∷ rules) e a =
    and_from (not (breaks s.kept r)) (breaks_none rules s.kept)
    (not_from_false (breaks s.kept r) (false_from_ne_true (breaks s.kept r) (λ b. let x = a.0 b in true≢false (sym x.2 ∙ ap (λ f. has f x.0) e ∙ has-empty x.0))))
    (none_broken s rules e a.1)

-- where an item of keep falls out, no set that breaks no rule has all of keep
pub NoneKeeps-lost : (rules : List Query) (singles : List Items) (from keep : Items) (s : Round) (i j : ℕ) → AreSingles singles rules → Settling rules from s → has keep j ≡ true → has (turn rules singles i (woken s i)).kept j ≡ false → NoneKeeps rules from keep
NoneKeeps-lost rules singles from keep s i j alone a k out t u w x = true≢false (sym ((Settling-more rules singles from s i alone a).greatest t u w j (x j k)) ∙ out)

-- when nothing fell out, no rule is broken
pub Settling-done : (rules : List Query) (from : Items) (s : Round) → least s.fallen ≡ None → Settling rules from s → Settles rules from s.kept
Settling-done rules from s e a = record { within = a.within; unbroken = none_broken s rules (no_least s.fallen e) a.awake; greatest = a.greatest }

-- ---- the loop over places

-- one more of the rules at the places is looked at
pub look_at-step : (rules : List Query) (places : List ℕ) (i p : ℕ) (r : Query) (s all : Round) → i < length places → p ≡ get_or places i 0 → p < length rules → r ≡ get_or rules p r
    → fold look s (rules_at rules (drop i places)) ≡ all → fold look (look s r) (rules_at rules (drop (i + 1) places)) ≡ all
look_at-step rules places i p r s all l e m q h =
    let rest : drop i places ≡ p ∷ drop (i + 1) places = drop-cons places i 0 l ∙ ap₂ (λ x n. x ∷ drop n places) (sym e) (sym (add-one i)) in
    let found : slice_get rules p ≡ Some r = slice_get_read rules (length rules) p r refl m q in
    let first : fold look s (rules_at rules (p ∷ drop (i + 1) places)) ≡ fold look (look s r) (rules_at rules (drop (i + 1) places)) = rw found refl in
    sym first ∙ ap (λ ps. fold look s (rules_at rules ps)) (sym rest) ∙ h

-- the item of a rule that is broken falls out
pub look-broken : (s to : Round) (r : Query) → breaks s.kept r ≡ true → to.kept ≡ without s.kept r.q → to.fallen ≡ with s.fallen r.q → to ≡ look s r
look-broken s to r h e f = rw h (ap₂ (λ (k l : Items). let x : Round = record { kept = k; fallen = l } in x) e f)

pub look-unbroken : (s to : Round) (r : Query) → breaks s.kept r ≡ false → to ≡ s → to ≡ look s r
look-unbroken s to r h e = rw h e

-- it is gone at the end
pub gone : (s all : Round) (r : Query) (rs : List Query) → breaks s.kept r ≡ true → fold look (look s r) rs ≡ all → has all.kept r.q ≡ false
gone s all r rs h e =
    subst (λ (t : Round). has t.kept r.q ≡ false) e
    (false_from_ne_true (has (fold look (look s r) rs).kept r.q) (λ x. true≢false (sym ((After-looks (look s r) rs).within r.q x) ∙ look-breaks s.kept s r (λ i y. y) h)))

-- what is gone stays so
pub still_gone : (s : Round) (rs : List Query) (j : ℕ) → has s.kept j ≡ false → has (fold look s rs).kept j ≡ false
still_gone s rs j h = false_from_ne_true (has (fold look s rs).kept j) (λ x. true≢false (sym ((After-looks s rs).within j x) ∙ h))

-- an item of keep falls out with the set
pub lost_keep : (k set keep : Items) → is_same (meet (meet k set) keep) empty ≡ false → (i : ℕ) × (has keep i ≡ true) × (has (minus k set) i ≡ false)
lost_keep k set keep h = let x = common_item (meet k set) keep h in let in_both = x.1 in (x.0, x.2, grind (arith, members, nat_tests))

-- none does
pub keeps-all : (k set keep : Items) → is_same (meet (meet k set) keep) empty ≡ true → IsWithin keep k → IsWithin keep (minus k set)
keeps-all k set keep e w j x =
    let here = w j x in
    let none = ap (λ s. has s j) ((Decides-is_same (meet (meet k set) keep) empty).0 e) in
    grind (arith, members, nat_tests)

-- what has not the item keeps all where it falls out
pub keeps-without : (keep k : Items) (q : ℕ) → has keep q ≡ false → IsWithin keep k → IsWithin keep (without k q)
keeps-without keep k q h w j x = kept k j q (w j x) (λ e. true≢false (sym x ∙ ap (has keep) e ∙ h))

-- ---- the items of a set

pub below : (n : ℕ) (s : Items) (i : ℕ) → IsWithin s (full n) → has s i ≡ true → i < n
below n s i w h = let here = w i h in grind (arith, members, nat_tests)

-- the first item of a set is in it
pub first-within : (a : Items) → IsWithin (first_of a) a
first-within a i h = first_in a i (least a) refl h
  where
    first_in : (a : Items) (i : ℕ) (o : Option ℕ) → least a ≡ o → has (option_map_or (λ i. with empty i) o empty) i ≡ true → has a i ≡ true
    first_in a i None e h = absurd (true≢false (sym h ∙ has-empty i))
    first_in a i (Some j) e h = let here = (least-cases a j e).0 in grind (arith, members, nat_tests)

-- ---- one turn of the loop over fallen items

pub turned : (rules : List Query) (key : Query → Items) (ls : List PlaceList) (i : ℕ) (ps : List ℕ) (s to : Round) → IsIndexOf ls (map key rules) → ps ≡ places_at ls i → to ≡ look_at rules ps s
    → to ≡ fold look s (filter (λ r. has (key r) i) rules)
turned rules key ls i ps s to index e h = h ∙ ap (fold look s) (indexed_rules rules key ls i ps index e)
