-- Places of sets by their items: after a push and a removal, and the rules at the places of an item.
use Rattle.ls_rules.proofs.Vocabulary.{◌&&◌, ◌++◌, ◌+◌, ◌-◌, ◌<◌, ◌∙◌, ◌∷◌, ◌≡◌, ◌≢◌, ◌≤◌, All, All-append, AllByRecursion, AreFollowed, Bool, Covers, IsFollower, Grows, IsIndexOf, IsIndexed, IsWithin, Items, List, PlaceList, Query, ℕ, [], add-zero, and-false, and-true, and_from, and_parts, ap, ap₂, arith, asked_alone, cases_Bool, cases_eq, cases_lt, cond, drop, each, empty, eq-eqb, false, filter, first_of, get_or, get_or-set_other, get_or-set_same, get_or_past, good-from, has, has-empty, has-without, inl, inr, is_good, is_same, le-ltb, least_spare, length, length-map, list_all, list_all-remove, lowered, lt-ltb, map, map-append, members, most_items, nat_tests, ne_eqb, no_places, not, places_at, places_from, refl, remove, rules_at, set, set_at, several, single, spare_at, spare_within, subst, suc, sym, true, true≢false, union, with, without, without-within, zero, zero-add}
use Rattle.std.proofs.lemmas.List.Elements.{All-cons, All-nil}
use Rattle.std.proofs.lemmas.List.Folds.{list_all-append}
use Rattle.ls_lists.proofs.Places.{map-remove, at_place}
use Rattle.ls_rules.proofs.Alone.{AreSingles-push, AreSingles-remove}

-- ---- one more set

places_from-append : (p : ℕ) (ks : List Items) (k : Items) (i : ℕ) → places_from p (ks ++ k ∷ []) i ≡ cond (has k i) (places_from p ks i ++ (p + length ks) ∷ []) (places_from p ks i)
places_from-append p [] k i = ap (λ q. cond (has k i) (q ∷ []) []) (sym (add-zero p))
places_from-append p (x ∷ ks) k i =
    let rest : places_from (suc p) (ks ++ k ∷ []) i ≡ cond (has k i) (places_from (suc p) ks i ++ (p + length (x ∷ ks)) ∷ []) (places_from (suc p) ks i) =
    places_from-append (suc p) ks k i ∙ ap (λ q. cond (has k i) (places_from (suc p) ks i ++ q ∷ []) (places_from (suc p) ks i)) (let e : suc p + length ks ≡ p + length (x ∷ ks) = omega arith in e) in
    elim (has x i) as (λ b. cond b (p ∷ places_from (suc p) (ks ++ k ∷ []) i) (places_from (suc p) (ks ++ k ∷ []) i)
    ≡ cond (has k i) (cond b (p ∷ places_from (suc p) ks i) (places_from (suc p) ks i) ++ (p + length (x ∷ ks)) ∷ []) (cond b (p ∷ places_from (suc p) ks i) (places_from (suc p) ks i))) [
      | true ↦ ap (λ l. p ∷ l) rest ∙ elim (has k i) as (λ b. (p ∷ cond b (places_from (suc p) ks i ++ (p + length (x ∷ ks)) ∷ []) (places_from (suc p) ks i)) ≡ cond b (p ∷ places_from (suc p) ks i ++ (p + length (x ∷ ks)) ∷ []) (p ∷ places_from (suc p) ks i)) [ true ↦ refl | false ↦ refl ]
      | false ↦ rest
    ]

-- ---- one set less

-- places above the one that is taken out become one lower
lowered-above : (place p : ℕ) → place ≤ p → (ks : List Items) (i : ℕ) → lowered place (places_from (suc p) ks i) ≡ places_from p ks i
lowered-above place p h [] i = refl
lowered-above place p h (k ∷ ks) i =
    let rest = lowered-above place (suc p) (omega arith) ks i in
    elim (has k i) as (λ b. lowered place (cond b (suc p ∷ places_from (suc (suc p)) ks i) (places_from (suc (suc p)) ks i)) ≡ cond b (p ∷ places_from (suc p) ks i) (places_from (suc p) ks i)) [
      | true ↦ rw (ne_eqb (suc p) place (omega arith), lt-ltb place (suc p) (omega arith)) (ap₂ (λ x l. x ∷ l) (let e : suc p - 1 ≡ p = omega arith in e) rest)
      | false ↦ rest
    ]

places_from-remove : (p : ℕ) (ks : List Items) (m i : ℕ) → m < length ks → places_from p (remove ks m) i ≡ lowered (p + m) (places_from p ks i)
places_from-remove p [] m i h = absurd (omega arith)
places_from-remove p (k ∷ ks) zero i h =
    let rest : lowered (p + 0) (places_from (suc p) ks i) ≡ places_from p ks i = lowered-above (p + 0) p (omega arith) ks i in
    sym (elim (has k i) as (λ b. lowered (p + 0) (cond b (p ∷ places_from (suc p) ks i) (places_from (suc p) ks i)) ≡ places_from p ks i) [
      | true ↦ rw (eq-eqb p (p + 0) (omega arith)) rest
      | false ↦ rest
    ])
places_from-remove p (k ∷ ks) (suc m) i h =
    let rest : places_from (suc p) (remove ks m) i ≡ lowered (p + suc m) (places_from (suc p) ks i) =
    places_from-remove (suc p) ks m i (omega arith) ∙ ap (λ q. lowered q (places_from (suc p) ks i)) (let e : suc p + m ≡ p + suc m = omega arith in e) in
    elim (has k i) as (λ b. cond b (p ∷ places_from (suc p) (remove ks m) i) (places_from (suc p) (remove ks m) i) ≡ lowered (p + suc m) (cond b (p ∷ places_from (suc p) ks i) (places_from (suc p) ks i))) [
      | true ↦ rw (ne_eqb p (p + suc m) (omega arith), le-ltb (p + suc m) p (omega arith)) (ap (λ l. p ∷ l) rest)
      | false ↦ rest
    ]

-- ---- the rules at the places of an item

places_from-small : (m p : ℕ) (ks : List Items) (i : ℕ) → p + length ks ≤ m → All (λ q. q < m) (places_from p ks i)
places_from-small m p [] i h = All-nil (λ q. q < m)
places_from-small m p (k ∷ ks) i h =
    let rest = places_from-small m (suc p) ks i (omega arith) in
    elim (has k i) as (λ b. All (λ q. q < m) (cond b (p ∷ places_from (suc p) ks i) (places_from (suc p) ks i))) [
      | true ↦ All-cons (λ q. q < m) p (places_from (suc p) ks i) (omega arith) rest
      | false ↦ rest
    ]

rules_at-from : (all : List Query) (key : Query → Items) (i p : ℕ) (rest : List Query) → drop p all ≡ rest → rules_at all (places_from p (map key rest) i) ≡ filter (λ r. has (key r) i) rest
rules_at-from all key i p [] e = refl
rules_at-from all key i p (r ∷ rest) e =
    let a = at_place all p r rest e in
    let more = rules_at-from all key i (suc p) rest a.1 in
    elim (has (key r) i) as (λ b. rules_at all (cond b (p ∷ places_from (suc p) (map key rest) i) (places_from (suc p) (map key rest) i)) ≡ cond b (r ∷ filter (λ r. has (key r) i) rest) (filter (λ r. has (key r) i) rest)) [
      | true ↦ rw a.0 (ap (λ l. r ∷ l) more)
      | false ↦ more
    ]

-- the rules at the places of an item are those whose set has it
rules_at-item : (rules : List Query) (key : Query → Items) (i : ℕ) → rules_at rules (places_from 0 (map key rules) i) ≡ filter (λ r. has (key r) i) rules
rules_at-item rules key i = rules_at-from rules key i 0 rules refl

-- what is kept of an item are the places of the rules whose set has it
pub indexed_small : (rules : List Query) (key : Query → Items) (ls : List PlaceList) (i : ℕ) (ps : List ℕ) → IsIndexOf ls (map key rules) → ps ≡ places_at ls i → All (λ p. p < length rules) ps
indexed_small rules key ls i ps index e =
    let P : List ℕ → Type 0 = λ qs. All (λ p. p < length rules) qs in
    subst P (sym (e ∙ index i)) (places_from-small (length rules) 0 (map key rules) i (omega (arith, length-map rules key)))

pub indexed_rules : (rules : List Query) (key : Query → Items) (ls : List PlaceList) (i : ℕ) (ps : List ℕ) → IsIndexOf ls (map key rules) → ps ≡ places_at ls i → rules_at rules ps ≡ filter (λ r. has (key r) i) rules
indexed_rules rules key ls i ps index e = ap (rules_at rules) (e ∙ index i) ∙ rules_at-item rules key i

-- ---- the items that have a place

none_first : (b : Bool) (p : ℕ) (ps : List ℕ) → cond b (p ∷ ps) ps ≡ [] → (b ≡ false) × (ps ≡ [])
none_first true p ps e = absurd (let no : ⊥ = cc in no)
none_first false p ps e = (refl, e)

covered_from : (items : Items) (key : Query → Items) (p : ℕ) (rules : List Query) → ((i : ℕ) → has items i ≡ false → places_from p (map key rules) i ≡ []) → AllByRecursion (λ r. IsWithin (key r) items) rules
covered_from items key p [] h = tt
covered_from items key p (r ∷ rules) h =
    let none = λ (i : ℕ) (a : has items i ≡ false). none_first (has (key r) i) p (places_from (suc p) (map key rules) i) (h i a) in (
      λ i x. elim (cases_Bool (has items i)) [ inl a ↦ a | inr a ↦ absurd (true≢false (sym x ∙ (none i a).0)) ],
      covered_from items key (suc p) rules (λ i a. (none i a).1),
    )

-- a set that has each item with a place has each item of the sets
pub covered : (items : Items) (rules : List Query) (key : Query → Items) (ls : List PlaceList) → IsIndexOf ls (map key rules) → Covers items ls → AllByRecursion (λ r. IsWithin (key r) items) rules
covered items rules key ls index h = covered_from items key 0 rules (λ i a. sym (index i) ∙ h i a)

pub Covers-push : (items set : Items) (old new : List PlaceList) (place : ℕ) → Covers items old → ((i : ℕ) → places_at new i ≡ cond (has set i) (places_at old i ++ place ∷ []) (places_at old i)) → Covers (union items set) new
Covers-push items set old new place h put i a =
    let p : (has items i ≡ false) × (has set i ≡ false) = grind (arith, members, nat_tests) in
    put i ∙ ap (λ b. cond b (places_at old i ++ place ∷ []) (places_at old i)) p.1 ∙ h i p.0

-- ---- the rules and their places after a change

more_places : (rules : List Query) (key : Query → Items) (r : Query) (ls more : List PlaceList) → IsIndexOf ls (map key rules)
    → ((i : ℕ) → places_at more i ≡ cond (has (key r) i) (places_at ls i ++ length rules ∷ []) (places_at ls i)) → IsIndexOf more (map key (rules ++ r ∷ []))
more_places rules key r ls more index h i =
    h i ∙ ap (λ ps. cond (has (key r) i) (ps ++ length rules ∷ []) ps) (index i)
    ∙ ap (λ p. cond (has (key r) i) (places_from 0 (map key rules) i ++ p ∷ []) (places_from 0 (map key rules) i)) (let e : length rules ≡ 0 + length (map key rules) = omega (arith, length-map rules key) in e)
    ∙ sym (places_from-append 0 (map key rules) (key r) i) ∙ ap (λ ks. places_from 0 ks i) (sym (map-append key rules (r ∷ [])))

fewer_places : (rules : List Query) (key : Query → Items) (m : ℕ) (ls fewer : List PlaceList) → m < length rules → IsIndexOf ls (map key rules)
    → ((i : ℕ) → places_at fewer i ≡ lowered m (places_at ls i)) → IsIndexOf fewer (map key (remove rules m))
fewer_places rules key m ls fewer l index h i =
    h i ∙ ap (lowered m) (index i) ∙ ap (λ n. lowered n (places_from 0 (map key rules) i)) (sym (zero-add m))
    ∙ sym (places_from-remove 0 (map key rules) m i (omega (arith, length-map rules key))) ∙ ap (λ ks. places_from 0 ks i) (sym (map-remove key rules m))

-- ---- the items of the rules by items of theirs

pub Grows-put : (sets : List Items) (i q : ℕ) → i < length sets → Grows sets (set sets i (with (set_at sets i) q))
Grows-put sets i q l j k h = elim (cases_eq j i) [
  | inl e ↦ rw (e, get_or-set_same sets i (with (set_at sets i) q) empty l) (let here : has (set_at sets i) k ≡ true = rw e at h in grind (arith, members, nat_tests))
  | inr n ↦ rw (get_or-set_other sets i j (with (set_at sets i) q) empty n) h
]

pub followed-put : (sets : List Items) (i q : ℕ) → i < length sets → has (set_at (set sets i (with (set_at sets i) q)) i) q ≡ true
followed-put sets i q l = rw (get_or-set_same sets i (with (set_at sets i) q) empty l) (grind (arith, members, nat_tests))

followed-grows : (part : Query → Items) (old new : List Items) (rules : List Query) → Grows old new → AreFollowed old part rules → AreFollowed new part rules
followed-grows part old new rules g h = each (λ r f i a. g i r.q (f i a)) rules h

followed-push : (part : Query → Items) (old new : List Items) (rules : List Query) (r : Query) → Grows old new → AreFollowed old part rules → IsFollower new (part r) r.q → AreFollowed new part (rules ++ r ∷ [])
followed-push part old new rules r g h f = All-append (λ (r : Query). IsFollower new (part r) r.q) rules (r ∷ []) (followed-grows part old new rules g h) (f, tt)

followed-remove : (part : Query → Items) (sets : List Items) (rules : List Query) (m : ℕ) → AreFollowed sets part rules → AreFollowed sets part (remove rules m)
followed-remove part sets [] zero h = tt
followed-remove part sets [] (suc m) h = tt
followed-remove part sets (r ∷ rules) zero h = h.1
followed-remove part sets (r ∷ rules) (suc m) h = (h.0, followed-remove part sets rules m h.1)

-- ---- the rules and all that is kept of them after a change

pub IsIndexed-push : (n : ℕ) (rules : List Query) (r : Query) (rest first : Items) (place : ℕ) (wakes starts wakes' starts' : List PlaceList) (singles singles' heads heads' : List Items)
    → IsIndexed n rules singles wakes starts heads → is_good n r ≡ true → rest ≡ several r.a → first ≡ first_of rest → place ≡ length rules
    → ((i : ℕ) → set_at singles' i ≡ cond (is_same r.a (single i)) (with (set_at singles i) r.q) (set_at singles i)) → length singles' ≡ length singles
    → ((i : ℕ) → places_at wakes' i ≡ cond (has rest i) (places_at wakes i ++ place ∷ []) (places_at wakes i)) → length wakes' ≡ length wakes
    → ((i : ℕ) → places_at starts' i ≡ cond (has first i) (places_at starts i ++ place ∷ []) (places_at starts i)) → length starts' ≡ length starts
    → IsFollower heads' first r.q → Grows heads heads' → length heads' ≡ length heads
    → IsIndexed n (rules ++ r ∷ []) singles' wakes' starts' heads'
IsIndexed-push n rules r rest first place wakes starts wakes' starts' singles singles' heads heads' a good m f p t tl w wl s sl led grows hl = record {
  good = list_all-append (is_good n) rules (r ∷ []) ∙ and_from (list_all (is_good n) rules) (is_good n r && true) a.good (and-true (is_good n r) ∙ good);
  singles_are = AreSingles-push rules r singles singles' a.singles_are t;
  wakes_are = more_places rules (λ r. several r.a) r wakes wakes' a.wakes_are (λ i. w i ∙ ap₂ (λ (k : Items) q. cond (has k i) (places_at wakes i ++ q ∷ []) (places_at wakes i)) m p);
  starts_are = more_places rules (λ r. first_of (several r.a)) r starts starts' a.starts_are (λ i. s i ∙ ap₂ (λ (k : Items) q. cond (has k i) (places_at starts i ++ q ∷ []) (places_at starts i)) (f ∙ ap first_of m) p);
  headed = followed-push (λ r. first_of (several r.a)) heads heads' rules r grows a.headed (subst (λ k. IsFollower heads' k r.q) (f ∙ ap first_of m) led);
  few_wakes = rw wl a.few_wakes;
  few_starts = rw sl a.few_starts;
  singles_reach = rw (sl, tl) a.singles_reach;
  heads_reach = rw (sl, hl) a.heads_reach;
  few_heads = rw hl a.few_heads;
}

pub IsIndexed-remove : (n : ℕ) (rules : List Query) (m : ℕ) (r : Query) (wakes starts wakes' starts' : List PlaceList) (singles singles' heads : List Items) → IsIndexed n rules singles wakes starts heads → m < length rules
    → r ≡ get_or rules m r → ((i : ℕ) → set_at singles' i ≡ cond (is_same r.a (single i)) (asked_alone (remove rules m) i) (set_at singles i)) → length singles' ≡ length singles
    → ((i : ℕ) → places_at wakes' i ≡ lowered m (places_at wakes i)) → length wakes' ≡ length wakes → ((i : ℕ) → places_at starts' i ≡ lowered m (places_at starts i)) → length starts' ≡ length starts
    → IsIndexed n (remove rules m) singles' wakes' starts' heads
IsIndexed-remove n rules m r wakes starts wakes' starts' singles singles' heads a l e t tl w wl s sl = record {
  good = list_all-remove (is_good n) rules m a.good;
  singles_are = AreSingles-remove rules m r singles singles' l a.singles_are (λ i. t i ∙ ap (λ (x : Query). cond (is_same x.a (single i)) (asked_alone (remove rules m) i) (set_at singles i)) e);
  wakes_are = fewer_places rules (λ r. several r.a) m wakes wakes' l a.wakes_are w;
  starts_are = fewer_places rules (λ r. first_of (several r.a)) m starts starts' l a.starts_are s;
  headed = followed-remove (λ r. first_of (several r.a)) heads rules m a.headed;
  few_wakes = rw wl a.few_wakes;
  few_starts = rw sl a.few_starts;
  singles_reach = rw (sl, tl) a.singles_reach;
  heads_reach = rw sl a.heads_reach;
  few_heads = a.few_heads;
}

-- where no rule is left nothing need follow
pub IsIndexed-clear : (n : ℕ) (rules : List Query) (wakes starts : List PlaceList) (singles heads heads' : List Items) → IsIndexed n rules singles wakes starts heads → rules ≡ []
    → length heads' ≡ length heads → IsIndexed n rules singles wakes starts heads'
IsIndexed-clear n rules wakes starts singles heads heads' a e hl = record {
  good = a.good;
  singles_are = a.singles_are;
  wakes_are = a.wakes_are;
  starts_are = a.starts_are;
  headed = subst (AreFollowed heads' (λ r. first_of (several r.a))) (sym e) tt;
  few_wakes = a.few_wakes;
  few_starts = a.few_starts;
  singles_reach = a.singles_reach;
  heads_reach = rw hl a.heads_reach;
  few_heads = rw hl a.few_heads;
}

pub IsIndexed-reserve : (n : ℕ) (rules : List Query) (wakes starts wakes' starts' : List PlaceList) (singles singles' heads heads' : List Items) → IsIndexed n rules singles wakes starts heads
    → ((i : ℕ) → places_at wakes' i ≡ places_at wakes i) → length wakes' ≤ n → ((i : ℕ) → places_at starts' i ≡ places_at starts i) → length starts' ≤ n
    → ((i : ℕ) → set_at singles' i ≡ set_at singles i) → length starts' ≤ length singles'
    → ((i : ℕ) → set_at heads' i ≡ set_at heads i) → length starts' ≤ length heads' → length heads' ≤ most_items
    → IsIndexed n rules singles' wakes' starts' heads'
IsIndexed-reserve n rules wakes starts wakes' starts' singles singles' heads heads' a w wl s sl t reach same heads_reach few = record {
  good = a.good;
  singles_are = λ i. t i ∙ a.singles_are i;
  wakes_are = λ i. w i ∙ a.wakes_are i;
  starts_are = λ i. s i ∙ a.starts_are i;
  headed = followed-grows (λ r. first_of (several r.a)) heads heads' rules (λ i j h. rw (same i) h) a.headed;
  few_wakes = wl;
  few_starts = sl;
  singles_reach = reach;
  heads_reach = heads_reach;
  few_heads = few;
}

pub small_items : (n : ℕ) (rules : List Query) → n ≤ most_items → list_all (is_good n) rules ≡ true → All (λ r. r.q < most_items) rules
small_items n [] few h = All-nil (λ (r : Query). r.q < most_items)
small_items n (r ∷ rules) few h =
    let p = and_parts (is_good n r) (list_all (is_good n) rules) h in
    All-cons (λ (r : Query). r.q < most_items) r rules (omega (arith, (good-from n r p.0).item, few)) (small_items n rules few p.1)

-- ---- room

each_place : (P : ℕ → Type 0) → P zero → ((i : ℕ) → P (suc i)) → (i : ℕ) → P i
each_place P a h zero = a
each_place P a h (suc i) = h i

least_spare-parts : (ls : List PlaceList) (m : ℕ) → 0 < least_spare ls m → (0 < m) × ((i : ℕ) → i < length ls → 0 < spare_at ls i)
least_spare-parts [] m h = (h, λ i l. absurd (omega arith))
least_spare-parts (l ∷ ls) m h =
    let rest = least_spare-parts ls m (omega arith) in
    (rest.0, each_place (λ i. i < length (l ∷ ls) → 0 < spare_at (l ∷ ls) i) (λ _. omega arith) (λ i k. rest.1 i (omega arith)))

least_spare-from : (ls : List PlaceList) (m : ℕ) → 0 < m → ((i : ℕ) → i < length ls → 0 < spare_at ls i) → 0 < least_spare ls m
least_spare-from [] m a h = a
least_spare-from (l ∷ ls) m a h =
    let first : 0 < l.spare = h 0 (omega arith) in
    let rest : 0 < least_spare ls m = least_spare-from ls m a (λ i k. h (suc i) (omega arith)) in
    omega arith

spare_within-parts : (n : ℕ) (ls : List PlaceList) (m : ℕ) → 0 < spare_within n ls m → (0 < m) × ((i : ℕ) → i < n → 0 < spare_at ls i)
spare_within-parts n ls m h =
    elim (cases_lt (length ls) n) [
      | inl a ↦ let none : 0 < 0 = rw (lt-ltb (length ls) n a) at h in absurd (omega arith)
      | inr a ↦ let parts = least_spare-parts ls m (rw (le-ltb (length ls) n a) at h) in (parts.0, λ i k. parts.1 i (omega arith))
    ]

pub spare_within-from : (n : ℕ) (ls : List PlaceList) (m : ℕ) → length ls ≡ n → ((i : ℕ) → i < n → 0 < spare_at ls i) → 0 < m → 0 < spare_within n ls m
spare_within-from n ls m e h a = rw (le-ltb (length ls) n (omega arith)) (least_spare-from ls m a (λ i k. h i (omega arith)))

-- room for a rule is room in the list of rules, and for each item in both indexes
pub room_for : (n : ℕ) (starts wakes : List PlaceList) (m : ℕ) → 0 < spare_within n starts (spare_within n wakes m) → (0 < m) × ((i : ℕ) → i < n → 0 < spare_at wakes i) × ((i : ℕ) → i < n → 0 < spare_at starts i)
room_for n starts wakes m h = let a = spare_within-parts n starts (spare_within n wakes m) h in let b = spare_within-parts n wakes m a.0 in (b.0, b.1, a.1)

-- ---- one list of the many is changed

-- a list with room is there
pub room_within : (ls : List PlaceList) (i : ℕ) → 0 < spare_at ls i → i < length ls
room_within ls i h = elim (cases_lt i (length ls)) [
  | inl a ↦ a
  | inr a ↦ let e : spare_at ls i ≡ 0 = ap (λ (l : PlaceList). l.spare) (get_or_past ls i no_places a) in absurd (omega arith)
]

at_same : {Y : Type 0} (f : PlaceList → Y) (ls : List PlaceList) (i : ℕ) (l : PlaceList) → i < length ls → f (get_or (set ls i l) i no_places) ≡ f l
at_same f ls i l h = ap f (get_or-set_same ls i l no_places h)

at_other : {Y : Type 0} (f : PlaceList → Y) (ls : List PlaceList) (i j : ℕ) (l : PlaceList) → j ≢ i → f (get_or (set ls i l) j no_places) ≡ f (get_or ls j no_places)
at_other f ls i j l n = ap f (get_or-set_other ls i j l no_places n)

-- of the items of the set, those that are not left have the place last
pub record Pushing (old now : List PlaceList) (whole left : Items) (place : ℕ) : Type 0 where
  pub places : (j : ℕ) → places_at now j ≡ cond (has whole j && not (has left j)) (places_at old j ++ place ∷ []) (places_at old j)
  pub room : (j : ℕ) → has left j ≡ true → 0 < spare_at now j
  pub within : IsWithin left whole

pub Pushing-more : (old now : List PlaceList) (whole left : Items) (place i : ℕ) (l : PlaceList) → has left i ≡ true → l.places ≡ places_at now i ++ place ∷ [] → Pushing old now whole left place
    → Pushing old (set now i l) whole (without left i) place
Pushing-more old now whole left place i l h e p =
    let here : i < length now = room_within now i (p.room i h) in
    let none_yet : places_at now i ≡ places_at old i = p.places i ∙ rw (h, and-false (has whole i)) refl in
    let other = λ (j : ℕ) (n : j ≢ i). has-without left i j ∙ ap (λ b. has left j && not b) (ne_eqb j i n) ∙ and-true (has left j) in
    record {
      places = λ j. elim (cases_eq j i) [
        | inl q ↦ rw q (
            at_same (λ l. l.places) now i l here ∙ e ∙ ap (λ (ps : List ℕ). ps ++ place ∷ []) none_yet
            ∙ rw (has-without left i i, eq-eqb i i refl, h, p.within i h) refl)
        | inr n ↦ at_other (λ l. l.places) now i j l n ∙ p.places j ∙ rw (other j n) refl
      ];
      room = λ j a. elim (cases_eq j i) [
        | inl q ↦ absurd (true≢false (sym a ∙ rw (q, has-without left i i, eq-eqb i i refl, h) refl))
        | inr n ↦ rw (at_other (λ l. l.spare) now i j l n) (p.room j (sym (other j n) ∙ a))
      ];
      within = λ j a. p.within j (without-within left i j a);
    }

pub Pushing-done : (old now : List PlaceList) (whole left : Items) (place : ℕ) → left ≡ empty → Pushing old now whole left place
    → (j : ℕ) → places_at now j ≡ cond (has whole j) (places_at old j ++ place ∷ []) (places_at old j)
Pushing-done old now whole left place e p j = p.places j ∙ rw (e, has-empty j, and-true (has whole j)) refl
