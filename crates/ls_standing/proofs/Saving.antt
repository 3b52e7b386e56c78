-- Whether answers from which an interview is to go on stand.
use Rattle.ls_standing.proofs.Vocabulary.{AllByRecursion, Answer, AreOn, Bool, Decides, IsDistinct, IsRising, IsStrictlyIncreasing, IsStrictlySortedBy, Items, List, Query, [], and-false, and_from, and_parts, ap, arith, drop, each, false, full, get_or, has, has-full, has-minus, inl, inr, interior, is_same_query, le-ltb, length, length-drop, list_all, list_any, lt-ltb, ltb, ltb-true, map, minus, nat_tests, not, not-not, not-true, not_from_false, refl, rising-from, some_breaks, sym, take, take_all, true, ℕ, ◌&&◌, ◌+◌, ◌-◌, ◌<◌, ◌||◌, ◌∙◌, ◌∷◌, ◌≡◌, ◌≤◌, ◌⊎◌}
use Rattle.std.specs.Cmp.{nat_cmp_is}
use Rattle.std.specs.Ordering.{nat_cmp}
use Rattle.std.proofs.lemmas.Map.Keys.{IsStrictlyIncreasing-from_sorted}
use Rattle.ls_lists.proofs.Places.{drop-next}
use Rattle.ls_laws.proofs.Closures.{has-closure}

-- ---- numbers

-- the numbers are at least `least`, each is above the one before it, and all are below `next`
abbrev pub rises : ℕ → ℕ → List Answer → Bool
rises least next [] = true
rises least next (a ∷ answers) = not (ltb a.number least) && ltb a.number next && rises (a.number + 1) next answers

abbrev numbers : List Answer → List ℕ
numbers answers = map (λ a. a.number) answers

record First (least next number : ℕ) (rest : Bool) : Type 0 where
  pub at_least : least ≤ number
  pub below : number < next
  pub others : rest ≡ true

first : (least next number : ℕ) (rest : Bool) → (not (ltb number least) && ltb number next && rest) ≡ true → First least next number rest
first least next number rest h =
    let p = and_parts (not (ltb number least) && ltb number next) rest h in
    let q = and_parts (not (ltb number least)) (ltb number next) p.0 in
    record { at_least = grind (arith, nat_tests); below = ltb-true number next q.1; others = p.1 }

all_least : (least next : ℕ) (answers : List Answer) → rises least next answers ≡ true → AllByRecursion (λ y. least ≤ y) (numbers answers)
all_least least next [] h = tt
all_least least next (a ∷ answers) h =
    let p = first least next a.number (rises (a.number + 1) next answers) h in
    let l = p.at_least in
    (l, each (λ y m. omega arith) (numbers answers) (all_least (a.number + 1) next answers p.others))

sorted-rises : (least next : ℕ) (answers : List Answer) → rises least next answers ≡ true → IsStrictlySortedBy nat_cmp (numbers answers)
unfolding IsStrictlySortedBy
sorted-rises least next [] h = tt
sorted-rises least next (a ∷ answers) h =
    let p = first least next a.number (rises (a.number + 1) next answers) h in
    (each (λ y m. sym (nat_cmp_is a.number y _ (omega arith))) (numbers answers) (all_least (a.number + 1) next answers p.others), sorted-rises (a.number + 1) next answers p.others)

below-rises : (least next : ℕ) (answers : List Answer) → rises least next answers ≡ true → list_all (λ a. ltb a.number next) answers ≡ true
below-rises least next [] h = refl
below-rises least next (a ∷ answers) h =
    let p = first least next a.number (rises (a.number + 1) next answers) h in
    and_from (ltb a.number next) (list_all (λ a. ltb a.number next) answers) (lt-ltb a.number next p.below) (below-rises (a.number + 1) next answers p.others)

rises-from : (least next : ℕ) (answers : List Answer) → AllByRecursion (λ y. least ≤ y) (numbers answers) → IsRising (numbers answers) → list_all (λ a. ltb a.number next) answers ≡ true → rises least next answers ≡ true
rises-from least next [] l r h = refl
rises-from least next (a ∷ answers) l r h =
    let p = and_parts (ltb a.number next) (list_all (λ a. ltb a.number next) answers) h in
    and_from (not (ltb a.number least) && ltb a.number next) (rises (a.number + 1) next answers)
    (and_from (not (ltb a.number least)) (ltb a.number next) (ap not (le-ltb a.number least l.0)) p.0)
    (rises-from (a.number + 1) next answers (each (λ y m. omega arith) (numbers answers) r.0) r.1 p.1)

some_least : (xs : List ℕ) → AllByRecursion (λ y. 0 ≤ y) xs
some_least [] = tt
some_least (x ∷ xs) = (omega arith, some_least xs)

pub rises-decides : (next : ℕ) (answers : List Answer) (b : Bool) → b ≡ rises 0 next answers
    → Decides b (IsStrictlyIncreasing (map (λ a. a.number) answers) × (list_all (λ a. ltb a.number next) answers ≡ true))
rises-decides next answers b e = (
  λ h. let r = sym e ∙ h in (IsStrictlyIncreasing-from_sorted (numbers answers) (sorted-rises 0 next answers r), below-rises 0 next answers r),
  λ h. e ∙ rises-from 0 next answers (some_least (numbers answers)) (rising-from (numbers answers) h.0) h.1,
)

-- where one of those that are left does not rise, not all do
falls_out : (least next number : ℕ) (rest : Bool) → (number < least) ⊎ (next ≤ number) → (not (ltb number least) && ltb number next && rest) ≡ false
falls_out least next number rest (inl l) = rw (lt-ltb number least l) refl
falls_out least next number rest (inr l) = rw (le-ltb number next l) (ap (λ b. b && rest) (and-false (not (ltb number least))))

pub falls : (least next i : ℕ) (answers : List Answer) (x : Answer) → i < length answers → x ≡ get_or answers i x → (x.number < least) ⊎ (next ≤ x.number)
    → rises least next (drop i answers) ≡ rises 0 next answers → false ≡ rises 0 next answers
falls least next i answers x l e out left =
    sym (ap (rises least next) (drop-next answers i x l e) ∙ falls_out least next x.number (rises (x.number + 1) next (drop (i + 1) answers)) out) ∙ left

-- ---- queries

-- no query is there twice
abbrev pub apart : List Answer → Bool
apart [] = true
apart (a ∷ answers) = not (list_any (λ b. is_same_query a.query b.query) answers) && apart answers

none_same : (r : Query) (answers : List Answer) → list_any (λ b. is_same_query r b.query) answers ≡ false → AllByRecursion (λ y. is_same_query r y ≡ false) (map (λ a. a.query) answers)
none_same r [] h = tt
none_same r (a ∷ answers) h = elim (is_same_query r a.query) as (λ b. is_same_query r a.query ≡ b → (b || list_any (λ b. is_same_query r b.query) answers) ≡ false → AllByRecursion (λ y. is_same_query r y ≡ false) (map (λ a. a.query) (a ∷ answers))) [
  | true ↦ λ e h. absurd (cc h)
  | false ↦ λ e h. (e, none_same r answers h)
] refl h

none_found : (r : Query) (answers : List Answer) → AllByRecursion (λ y. is_same_query r y ≡ false) (map (λ a. a.query) answers) → list_any (λ b. is_same_query r b.query) answers ≡ false
none_found r [] h = refl
none_found r (a ∷ answers) h = rw h.0 (none_found r answers h.1)

distinct-apart : (answers : List Answer) → apart answers ≡ true → IsDistinct is_same_query (map (λ a. a.query) answers)
unfolding IsDistinct
distinct-apart [] h = tt
distinct-apart (a ∷ answers) h =
    let p = and_parts (not (list_any (λ b. is_same_query a.query b.query) answers)) (apart answers) h in
    (none_same a.query answers (not-true (list_any (λ b. is_same_query a.query b.query) answers) p.0), distinct-apart answers p.1)

apart-distinct : (answers : List Answer) → IsDistinct is_same_query (map (λ a. a.query) answers) → apart answers ≡ true
unfolding IsDistinct
apart-distinct [] d = refl
apart-distinct (a ∷ answers) d =
    and_from (not (list_any (λ b. is_same_query a.query b.query) answers)) (apart answers)
    (not_from_false (list_any (λ b. is_same_query a.query b.query) answers) (none_found a.query answers d.0)) (apart-distinct answers d.1)

pub apart-decides : (answers : List Answer) (b : Bool) → b ≡ apart answers → Decides b (IsDistinct is_same_query (map (λ a. a.query) answers))
apart-decides answers b e = (λ h. distinct-apart answers (sym e ∙ h), λ d. e ∙ apart-distinct answers d)

-- where one of those that are left is there again, some query is there twice
pub repeats : (i : ℕ) (answers : List Answer) (x : Answer) → i < length answers → x ≡ get_or answers i x
    → true ≡ list_any (λ a. is_same_query x.query a.query) (take (length answers - (i + 1)) (drop (i + 1) answers)) → apart (drop i answers) ≡ apart answers → false ≡ apart answers
repeats i answers x l e again left =
    let rest = drop (i + 1) answers in
    let whole : take (length answers - (i + 1)) rest ≡ rest = take_all (length answers - (i + 1)) rest (let k = length-drop (i + 1) answers in omega arith) in
    sym (ap apart (drop-next answers i x l e) ∙ ap (λ b. not b && apart rest) (sym (again ∙ ap (list_any (λ a. is_same_query x.query a.query)) whole))) ∙ left

-- ---- spaces

-- some member breaks (A, q) exactly where the greatest that has no item of A has q
pub has-greatest : (n : ℕ) (f : List Items) (r : Query) → AreOn n f → r.q < n → has (interior f (minus (full n) r.a)) r.q ≡ some_breaks f r
has-greatest n f r small l =
    let top = interior f (minus (full n) r.a) in
    let e : not (has top r.q) ≡ not (some_breaks f r) = sym (has-minus (full n) top r.q ∙ ap (λ b. b && not (has top r.q)) (has-full n r.q ∙ lt-ltb r.q n l)) ∙ has-closure n f r small l in
    sym (not-not (has top r.q)) ∙ ap not e ∙ not-not (some_breaks f r)
