-- From where an inquiry looks for an open query.
use Rattle.ls_expert.proofs.Vocabulary.{◌&&◌, ◌*◌, ◌++◌, ◌+◌, ◌<◌, ◌∙◌, ◌∷◌, ◌≡◌, ◌≤◌, AllByRecursion, BlockRange, Bool, FitsIn, Interview, IsHeld, IsIn, IsInquiry, IsSorted, Items, List, None, NoneBefore, Option, PlaceFor, Query, Some, TableRoom, ℕ, [], accepted, all_spaces, among-left_parts, and_from, and_parts, ap, arith, before-by_item, before-by_set, block_before, blocks_of, cases_Bool, comes_after, compatible-no, compatible-yes, compatible_sets, false, false_from_ne_true, filter, filter_true, find, find-is, find-no_element, find-none_is, find-same, inl, inr, is_among, is_open, list_all, next_question, no_queries, not, not-true, not_from_false, option_map, queries, block_queries, query_before, query_before-asymmetric, query_before-cases, refl, some_breaks, sorted-queries, spaces_of, subst, sym, true, true≢false}
use Rattle.ls_lists.proofs.Finds.{find-filter}
use Rattle.std.proofs.lemmas.Nat.{mul-le}
use Rattle.ls_infer.specs.Search.{looked_at}
use Rattle.ls_infer.proofs.Looking.{looked_at-later}
use Rattle.ls_query.proofs.BlockOrder.{before-transitive}
use Rattle.ls_query.proofs.Sorted.{sorted-cases}
use Rattle.ls_standing.proofs.AnswerLists.{no_queries-yes, no_queries-no}
use Rattle.ls_expert.specs.Steps.{question_steps}

-- ---- the first of a list that passes, from an element on

module _ {X : Type 0} (before : X → X → Bool) (p : X → Bool) (xs : List X) where
  -- where none before the element passes
  find-on : (s : X) → ((x : X) → IsIn x xs → before x s ≡ true → p x ≡ false) → find (λ x. not (before x s) && p x) xs ≡ find p xs
  find-on s none = find-same (λ x. not (before x s) && p x) p xs (λ x c. elim (cases_Bool (before x s)) [
    | inl h ↦ rw h (sym (none x c h))
    | inr h ↦ rw h refl
  ])

  module _ (sorted : IsSorted before xs) (asymmetric : (x y : X) → before x y ≡ true → before y x ≡ false) (transitive : (x y z : X) → before x y ≡ true → before y z ≡ true → before x z ≡ true) (r : X) where
    -- where the element is the first that comes after another
    find-after : (s : X) → find (before r) xs ≡ Some s → find (λ x. not (before x s) && p x) xs ≡ find p (filter (before r) xs)
    find-after s e =
        let f = find-is before (before r) xs s sorted asymmetric e in
        find-same (λ x. not (before x s) && p x) (λ x. before r x && p x) xs (λ x c.
        ap (λ b. b && p x) (elim (sorted-cases before xs x s sorted c f.0) [
          | inl same ↦ rw (same, f.1) (ap not (false_from_ne_true (before s s) (λ h. true≢false (sym h ∙ asymmetric s s h))))
          | inr o ↦ elim o [
            | inl h ↦ rw (h, f.2 x c h) refl
            | inr h ↦ rw (asymmetric s x h, transitive r s x f.1 h) refl
          ]
        ]))
        ∙ sym (find-filter (before r) p xs)

  -- where none comes after the other
  find-past : (r : X) → find (before r) xs ≡ None → None ≡ find p (filter (before r) xs)
  find-past r e = sym (find-filter (before r) p xs ∙ find-no_element (λ x. before r x && p x) xs (λ x c. rw (find-none_is (before r) xs e x c) refl))

-- ---- what is open after an answer was open before

All-first : {X : Type 0} (P : X → Type 0) (xs ys : List X) → AllByRecursion P (xs ++ ys) → AllByRecursion P xs
All-first P [] ys h = tt
All-first P (x ∷ xs) ys h = (h.0, All-first P xs ys h.1)

-- a space that fits then fitted before
fitted : (i : Interview) (r : Query) (is_yes : Bool) (f : List Items) → FitsIn (accepted i r is_yes) f → FitsIn i f
fitted i r true f h = record {
  in_order = h.in_order;
  is_family = h.is_family;
  holds_full = h.holds_full;
  compatible = λ k c. (among-left_parts (compatible_sets i) r k (subst (λ g. is_among g k ≡ true) (compatible-yes i r) (h.compatible k c))).0;
  broken = subst (AllByRecursion (λ s. some_breaks f s ≡ true)) (no_queries-yes i r) h.broken;
}
fitted i r false f h = record {
  in_order = h.in_order;
  is_family = h.is_family;
  holds_full = h.holds_full;
  compatible = λ k c. subst (λ g. is_among g k ≡ true) (compatible-no i r) (h.compatible k c);
  broken = All-first (λ s. some_breaks f s ≡ true) (no_queries i.answers) (r ∷ []) (subst (AllByRecursion (λ s. some_breaks f s ≡ true)) (no_queries-no i r) h.broken);
}

module _ (i : Interview) (r : Query) (is_yes : Bool) where
  abbrev after : Interview
  after = accepted i r is_yes

  not_all : (p : List Items → Bool) → not (list_all p (spaces_of after)) ≡ true → not (list_all p (spaces_of i)) ≡ true
  not_all p h = not_from_false (list_all p (spaces_of i)) (false_from_ne_true (list_all p (spaces_of i)) (λ a.
      true≢false (sym ((all_spaces p after).1 (λ f c. (all_spaces p i).0 a f (fitted i r is_yes f c))) ∙ not-true (list_all p (spaces_of after)) h)))

  was_open : (s : Query) → is_open (spaces_of after) s ≡ true → is_open (spaces_of i) s ≡ true
  was_open s h =
      let sure = λ (f : List Items). not (some_breaks f s) in
      let never = λ (f : List Items). some_breaks f s in
      let p = and_parts (not (list_all sure (spaces_of after))) (not (list_all never (spaces_of after))) h in
      and_from (not (list_all sure (spaces_of i))) (not (list_all never (spaces_of i))) (not_all sure p.0) (not_all never p.1)

  no_longer : (s : Query) → is_open (spaces_of i) s ≡ false → is_open (spaces_of after) s ≡ false
  no_longer s h = false_from_ne_true (is_open (spaces_of after) s) (λ k. true≢false (sym (was_open s k) ∙ h))

  -- an answer leaves the place from which an open query is looked for
  pub still-none_before : (from : Option Query) → NoneBefore i from → NoneBefore after from
  still-none_before None none = λ s c. no_longer s (none s c)
  still-none_before (Some s) none = (none.0, λ x c h. no_longer x (none.1 x c h))

-- ---- the place from which an open query is looked for

query_before-transitive : (r s u : Query) → query_before r s ≡ true → query_before s u ≡ true → query_before r u ≡ true
query_before-transitive r s u h k = elim (query_before-cases r s h) [
  | inl x ↦ elim (query_before-cases s u k) [
    | inl y ↦ before-by_set r u (before-transitive r.a s.a u.a x y)
    | inr y ↦ before-by_set r u (subst (λ a. block_before r.a a ≡ true) y.0 x)
  ]
  | inr x ↦ elim (query_before-cases s u k) [
    | inl y ↦ before-by_set r u (subst (λ a. block_before a u.a ≡ true) (sym x.0) y)
    | inr y ↦ before-by_item r u (x.0 ∙ y.0) (let l = x.1 in let m = y.1 in omega arith)
  ]
]

module _ (i : Interview) where
  abbrev asked : List Query
  asked = queries i.count i.block

  -- it is the first query of the blocks,
  pub none-before_first : (from : Option Query) → from ≡ find (comes_after query_before None) asked → NoneBefore i from
  none-before_first None e = λ s c. absurd (true≢false (find-none_is (λ x. true) asked (sym e) s c))
  none-before_first (Some s) e =
      let f = find-is query_before (λ x. true) asked s (sorted-queries i.count i.block) query_before-asymmetric (sym e) in
      (f.0, λ x c h. absurd (true≢false (f.2 x c h)))

  -- or the first question
  pub none-before_question : (from : Option Query) → from ≡ next_question i None → NoneBefore i from
  unfolding next_question
  none-before_question None e = λ s c. find-none_is (is_open (spaces_of i)) asked (sym (e ∙ ap (find (is_open (spaces_of i))) (filter_true asked))) s c
  none-before_question (Some s) e =
      let f = find-is query_before (is_open (spaces_of i)) asked s (sorted-queries i.count i.block) query_before-asymmetric (sym (e ∙ ap (find (is_open (spaces_of i))) (filter_true asked))) in
      (f.0, f.2)

  -- what is found from there on is the first question
  pub question-none : NoneBefore i None → None ≡ next_question i None
  unfolding next_question
  question-none none = sym (ap (find (is_open (spaces_of i))) (filter_true asked) ∙ find-no_element (is_open (spaces_of i)) asked none)

  pub question-from : (s : Query) → NoneBefore i (Some s) → find (λ x. not (query_before x s) && is_open (spaces_of i) x) asked ≡ next_question i None
  unfolding next_question
  question-from s none = find-on query_before (is_open (spaces_of i)) asked s none.1 ∙ ap (find (is_open (spaces_of i))) (sym (filter_true asked))

  -- and from the query after another on the next one
  pub question-past : (r : Query) → None ≡ find (query_before r) asked → None ≡ next_question i (Some r)
  unfolding next_question
  question-past r e = find-past query_before (is_open (spaces_of i)) asked r (sym e)

  pub question-after : (r s : Query) → Some s ≡ find (query_before r) asked → find (λ x. not (query_before x s) && is_open (spaces_of i) x) asked ≡ next_question i (Some r)
  unfolding next_question
  question-after r s e = find-after query_before (is_open (spaces_of i)) asked (sorted-queries i.count i.block) query_before-asymmetric query_before-transitive r s (sym e)

  -- the query after another is of the blocks
  pub after-in : (r s : Query) → Some s ≡ find (query_before r) asked → IsIn s asked
  after-in r s e = (find-is query_before (query_before r) asked s (sorted-queries i.count i.block) query_before-asymmetric (sym e)).0

-- what is found from the place on is the question that is looked for
pub place-in : (i : Interview) (last : Option Query) (s : Query) → PlaceFor i last (Some s) → IsIn s (queries i.count i.block)
place-in i None s p = p.0
place-in i (Some r) s p = after-in i r s p

pub place-none : (i : Interview) (last : Option Query) → PlaceFor i last None → None ≡ next_question i last
place-none i None p = question-none i p
place-none i (Some r) p = question-past i r p

pub place-some : (i : Interview) (last : Option Query) (s : Query) → PlaceFor i last (Some s) → find (λ x. not (query_before x s) && is_open (spaces_of i) x) (queries i.count i.block) ≡ next_question i last
place-some i None s p = question-from i s p
place-some i (Some r) s p = question-after i r s p

-- and no more sets are looked at from there on than from that query on
pub place-looked : (i : Interview) (last : Option Query) (s : Query) → PlaceFor i last (Some s) → looked_at (blocks_of i) (Some s.a) (next_question i last) ≤ looked_at (blocks_of i) (option_map (λ r. r.a) last) (next_question i last)
place-looked i None s p = looked_at-later (blocks_of i) None s.a (next_question i None) (λ a h. refl)
place-looked i (Some r) s p =
    let before = (find-is query_before (query_before r) (queries i.count i.block) s (sorted-queries i.count i.block) query_before-asymmetric (sym p)).1 in
    looked_at-later (blocks_of i) (Some r.a) s.a (next_question i (Some r)) (λ a h.
    not_from_false (block_before a r.a) (false_from_ne_true (block_before a r.a) (λ e. true≢false (sym (earlier a before e) ∙ not-true (block_before a s.a) h))))
  where
    earlier : (a : Items) → query_before r s ≡ true → block_before a r.a ≡ true → block_before a s.a ≡ true
    earlier a h e = elim (query_before-cases r s h) [
      | inl x ↦ before-transitive a r.a s.a e x
      | inr x ↦ subst (λ b. block_before a b ≡ true) x.0 e
    ]

-- the interiors that the search takes
pub place-cost : (i : Interview) (b : BlockRange) (last : Option Query) (s : Query) (found : Option Query) (old now : ℕ) → PlaceFor i last (Some s) → b ≡ blocks_of i → found ≡ next_question i last
    → now ≤ old + (b.largest + 1) * looked_at b (Some s.a) found → now ≤ old + question_steps i last
place-cost i b last s found old now p e f cost =
    let here : now ≤ old + (i.block + 1) * looked_at (blocks_of i) (Some s.a) (next_question i last) = subst (λ (r : Option Query). now ≤ old + (i.block + 1) * looked_at (blocks_of i) (Some s.a) r) f (subst (λ (x : BlockRange). now ≤ old + (x.largest + 1) * looked_at x (Some s.a) found) e cost) in
    let more = mul-le (i.block + 1) (looked_at (blocks_of i) (Some s.a) (next_question i last)) (i.block + 1) (looked_at (blocks_of i) (option_map (λ r. r.a) last) (next_question i last)) (omega arith) (place-looked i last s p) in
    omega arith

-- ---- what an inquiry keeps

-- where an open query is looked for from the first query of the blocks on
pub asking : (i : Interview) (b : BlockRange) (rules : List Query) (t : TableRoom) (from : Option Query) → IsHeld i rules t → b ≡ blocks_of i → 0 < i.block
    → from ≡ find (comes_after query_before None) (block_queries b) → IsInquiry i b rules t from false
asking i b rules t from held e some first = record {
  held = held;
  asked = e;
  some_sizes = some;
  none_before = none-before_first i from (first ∙ ap (λ (b : BlockRange). find (comes_after query_before None) (block_queries b)) e);
  found = λ e. cc;
}

-- where an answer is taken
pub still-asking : (i : Interview) (r : Query) (is_yes : Bool) (b : BlockRange) (rules more : List Query) (t new : TableRoom) (from : Option Query) (is_found : Bool) → IsInquiry i b rules t from is_found
    → IsHeld (accepted i r is_yes) more new → IsInquiry (accepted i r is_yes) b more new from false
still-asking i r is_yes b rules more t new from is_found kept held = record {
  held = held;
  asked = kept.asked;
  some_sizes = kept.some_sizes;
  none_before = still-none_before i r is_yes from kept.none_before;
  found = λ e. cc;
}
