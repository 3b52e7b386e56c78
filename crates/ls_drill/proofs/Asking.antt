-- The first open query was not answered, and nothing is known of it; so an answer to it is not refused.
use Rattle.ls_drill.proofs.Vocabulary.{◌<◌, ◌∙◌, ◌∷◌, ◌≡◌, ◌≤◌, Answer, Bool, Decides-eqb, Decides-is_same, FitsIn, Interview, IsIn, Items, Known, List, None, Query, Some, ℕ, [], among-compat, and_parts, ap, ap₂, arith, breaks, cases_Bool, comes_after, cond, each-in, false, false_from_ne_true, filter, filter-in, find, forced_no_search, forced_yes_search, found-passes, in-filter, in-map, inl, inr, is_compatible, is_forced_no, is_forced_yes, is_full, is_good, is_open, is_same_query, known, length, list_all, list_all-All, meets, most_answers, most_number, nat_tests, next_question, no_queries, not, not-true, not_from_false, queries, query_before, refl, refusal, some_breaks, spaces_of, sym, true, true≢false, yes_queries}
use Rattle.ls_laws.proofs.Lists.{some-from}

found-in : {X : Type 0} (p : X → Bool) (xs : List X) (x : X) → find p xs ≡ Some x → IsIn x xs
found-in p [] x e = cc
found-in p (y ∷ ys) x e = elim (p y) as (λ b. cond b (Some y) (find p ys) ≡ Some x → IsIn x (y ∷ ys)) [
  | true ↦ λ e. let same : y ≡ x = cc in inl (sym same)
  | false ↦ λ e. inr (found-in p ys x e)
] e

-- ---- the first open query

pub question-open : (i : Interview) (r : Query) → next_question i None ≡ Some r → is_open (spaces_of i) r ≡ true
unfolding next_question
question-open i r e = found-passes (is_open (spaces_of i)) (filter (comes_after query_before None) (queries i.count i.block)) r e

pub question-in : (i : Interview) (r : Query) → next_question i None ≡ Some r → IsIn r (queries i.count i.block)
unfolding next_question
question-in i r e = (filter-in (comes_after query_before None) (queries i.count i.block) r (found-in (is_open (spaces_of i)) (filter (comes_after query_before None) (queries i.count i.block)) r e)).0

-- ---- a query that was answered is not open

-- a space that fits has no member that breaks a query that was answered Yes
yes-unbroken : (i : Interview) (r : Query) (f : List Items) → IsIn r (yes_queries i.answers) → FitsIn i f → some_breaks f r ≡ false
yes-unbroken i r f c fits = false_from_ne_true (some_breaks f r) (λ h.
    let k = some-from (λ k. breaks k r) f h in
    let a = and_parts _ (is_compatible i.start (yes_queries i.answers) k.0) (sym (among-compat i.count i.start (yes_queries i.answers) k.0) ∙ fits.compatible k.0 k.1) in
    let b = and_parts (meets i.start k.0) (list_all (λ r. not (breaks k.0 r)) (yes_queries i.answers)) a.1 in
    let none = not-true (breaks k.0 r) (each-in (λ r. not (breaks k.0 r) ≡ true) (yes_queries i.answers) r (list_all-All (λ r. not (breaks k.0 r)) (yes_queries i.answers) b.1) c) in
    true≢false (sym k.2 ∙ none))

answered-yes : (i : Interview) (r : Query) → IsIn r (yes_queries i.answers) → is_forced_yes (spaces_of i) r ≡ true
answered-yes i r c = (forced_yes_search i r).1 (λ f fits. yes-unbroken i r f c fits)

answered-no : (i : Interview) (r : Query) → IsIn r (no_queries i.answers) → is_forced_no (spaces_of i) r ≡ true
answered-no i r c = (forced_no_search i r).1 (λ f fits. each-in (λ s. some_breaks f s ≡ true) (no_queries i.answers) r fits.broken c)

same_query : (r s : Query) → is_same_query r s ≡ true → r ≡ s
same_query r s h =
    let p = and_parts _ _ h in
    let a : r.a ≡ s.a = (Decides-is_same r.a s.a).0 p.0 in
    let q : r.q ≡ s.q = (Decides-eqb r.q s.q).0 p.1 in
    ap₂ (λ (x : Items) (n : ℕ). (let y : Query = record { a = x; q = n } in y)) a q

pub answered-forced : (i : Interview) (a : Answer) → IsIn a i.answers → is_open (spaces_of i) a.query ≡ true → true ≡ false
answered-forced i a c h =
    let p = and_parts (not (is_forced_yes (spaces_of i) a.query)) (not (is_forced_no (spaces_of i) a.query)) h in
    elim (cases_Bool a.yes) [
      | inl y ↦ sym (answered-yes i a.query (in-map (λ (a : Answer). a.query) (filter (λ a. a.yes) i.answers) a (in-filter (λ a. a.yes) i.answers a c y))) ∙ not-true (is_forced_yes (spaces_of i) a.query) p.0
      | inr n ↦ sym (answered-no i a.query (in-map (λ (a : Answer). a.query) (filter (λ a. not a.yes) i.answers) a (in-filter (λ a. not a.yes) i.answers a c (not_from_false a.yes n)))) ∙ not-true (is_forced_no (spaces_of i) a.query) p.1
    ]

pub open-unanswered : (i : Interview) (r : Query) → is_open (spaces_of i) r ≡ true → find (λ a. is_same_query a.query r) i.answers ≡ None
open-unanswered i r h =
    elim (find (λ a. is_same_query a.query r) i.answers) as (λ o. find (λ a. is_same_query a.query r) i.answers ≡ o → o ≡ None) [
      | None ↦ λ e. refl
      | Some a ↦ λ e.
          let same : a.query ≡ r = same_query a.query r (found-passes (λ a. is_same_query a.query r) i.answers a e) in
          absurd (true≢false (answered-forced i a (found-in (λ a. is_same_query a.query r) i.answers a e) (ap (λ s. is_open (spaces_of i) s) same ∙ h)))
    ] refl

-- ---- nothing is known of it

unsettled : (y n : Bool) (m : ℕ) → y ≡ false → n ≡ false → cond y Known.Yes (cond n (Known.No m) Known.Unsettled) ≡ Known.Unsettled
unsettled y n m e d = rw (e, d) refl

pub open-unsettled : (i : Interview) (r : Query) → is_open (spaces_of i) r ≡ true → known i r ≡ Known.Unsettled
unfolding known
open-unsettled i r h =
    let p = and_parts (not (is_forced_yes (spaces_of i) r)) (not (is_forced_no (spaces_of i) r)) h in
    unsettled (is_forced_yes (spaces_of i) r) (is_forced_no (spaces_of i) r) _ (not-true (is_forced_yes (spaces_of i) r) p.0) (not-true (is_forced_no (spaces_of i) r) p.1)

-- ---- an answer to it is not refused

pub not-refused : (i : Interview) (r : Query) (y : Bool) → next_question i None ≡ Some r → is_good i.count r ≡ true → length i.answers < most_answers → i.next ≤ most_number → refusal i r y ≡ None
not-refused i r y e good few left =
    let o = question-open i r e in
    let room : is_full i ≡ false = grind (arith, nat_tests) in
    rw (good, open-unanswered i r o, open-unsettled i r o, room) refl
