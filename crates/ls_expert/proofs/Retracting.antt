-- What an interview keeps when it takes an answer back.
use Rattle.ls_expert.proofs.Vocabulary.{◌&&◌, ◌*◌, ◌+◌, ◌<◌, ◌∙◌, ◌∷◌, ◌≡◌, ◌≤◌, AllByRecursion, Answer, AreStates, BlockRange, Bool, Interview, IsDistinct, IsHeld, IsKeptFor, IsStanding, IsTabled, Items, List, No, Query, Some, TableRoom, TableState, ℕ, [], and_assoc, and_parts, answer_with, ap, ap₂, arith, blocks, breaks, breaks_none, closure, compat, compatible_sets, cond, count_by, count_by-le-length, eqb, false, filter, filter-both, filter_agree, full, is_compatible, is_good, is_same_query, is_within, left_by, length, length-filter, length-map, list_all, map, meets, nos, not, refl, remove, retracted, retracted-numbered, rules_before, single_items, standing, subsets, subst, sum_by-cons, sym, table_of, taken_out, true, yes_queries}
use Rattle.std.proofs.lemmas.List.Recursion.{is_sum_by}
use Rattle.ls_expert.specs.Steps.{closures_over}
use Rattle.ls_expert.proofs.Holding.{kept-as}
use Rattle.ls_standing.proofs.AnswerLists.{is_other, all-fewer, all-told, told-all, nos-others, rising, yes_queries-without_yes, yes_queries-without_no, nos-without_yes, rules_before-within}

-- ---- what is kept

-- what holds of each image holds of those of fewer
All-images : {X Y : Type 0} (P : Y → Type 0) (p : X → Bool) (g : X → Y) (xs : List X) → AllByRecursion P (map g xs) → AllByRecursion P (map g (filter p xs))
All-images P p g [] h = tt
All-images P p g (x ∷ xs) h = elim (p x) as (λ b. AllByRecursion P (map g (cond b (x ∷ filter p xs) (filter p xs)))) [
  | true ↦ (h.0, All-images P p g xs h.1)
  | false ↦ All-images P p g xs h.1
]

-- fewer images are distinct too
pub distinct-fewer : {X Y : Type 0} (same : Y → Y → Bool) (g : X → Y) (p : X → Bool) (xs : List X) → IsDistinct same (map g xs) → IsDistinct same (map g (filter p xs))
unfolding IsDistinct
distinct-fewer same g p [] d = tt
distinct-fewer same g p (x ∷ xs) d = elim (p x) as (λ b. IsDistinct same (map g (cond b (x ∷ filter p xs) (filter p xs)))) [
  | true ↦ (All-images (λ y. same (g x) y ≡ false) p g xs d.0, distinct-fewer same g p xs d.1)
  | false ↦ distinct-fewer same g p xs d.1
]

length-fewer : (p : Answer → Bool) (answers : List Answer) → length (filter p answers) ≤ length answers
length-fewer p answers = omega (arith, length-filter p answers, count_by-le-length p answers)

pub standing-back : (i : Interview) (number : ℕ) → IsStanding i → IsStanding (retracted i number)
standing-back i number h = record {
  sound = taken_out i number h.sound;
  good = all-fewer (λ x. is_good i.count x.query) (is_other number) i.answers h.good;
  distinct = distinct-fewer is_same_query (λ a. a.query) (is_other number) i.answers h.distinct;
  numbered = retracted-numbered i number h.numbered;
  few_answers = let f = h.few_answers in omega (arith, length-fewer (is_other number) i.answers);
  some_number = h.some_number;
  numbers_left = h.numbers_left;
}

-- ---- interiors

count_by-images : {X Y : Type 0} (p : Y → Bool) (g : X → Y) (xs : List X) → count_by p (map g xs) ≡ count_by (λ x. p (g x)) xs
count_by-images p g = is_sum_by (λ xs. count_by p (map g xs)) (λ x. cond (p (g x)) 1 0) refl (λ x xs. sum_by-cons (λ y. cond (p y) 1 0) (g x) (map g xs))

-- what a change costs, told by a table
pub steps-over : (i : Interview) (t : TableState) (a : Items) → t ≡ table_of (single_items i.count) (compatible_sets i) (nos i.answers)
    → count_by (λ c. is_within a c) t.closures + (t.blocks.item_count + 1) * length t.standing ≤ closures_over i a + (i.count + 1) * length (nos i.answers)
steps-over i t a h =
    let close = closure (full i.count) (compatible_sets i) in
    let p = λ (b : Items). is_within a (close b) in
    let by_ones : count_by (λ c. is_within a c) t.closures + (t.blocks.item_count + 1) * length t.standing ≡ count_by p (blocks i.count 1) + (i.count + 1) * length (nos i.answers) =
    ap (λ (u : TableState). count_by (λ c. is_within a c) u.closures + (u.blocks.item_count + 1) * length u.standing) h
    ∙ ap₂ (λ m k. m + (i.count + 1) * k)
    (count_by-images (λ c. is_within a c) close (blocks i.count 1))
    (length-map (nos i.answers) (standing i.count (compatible_sets i))) in
    omega (arith, by_ones)

module _ (i : Interview) (a : Answer) (rules : List Query) (t new : TableRoom) (h : IsHeld i rules t) (stands : answer_with i a.number ≡ Some a) where
  abbrev after : Interview
  after = retracted i a.number

  -- an answer is taken back
  back : (others : List Query) → others ≡ yes_queries after.answers → IsTabled after new → IsHeld after others new
  back others ruled tabled =
      record { some_items = h.some_items; few_items = h.few_items; ruled = ruled; tabled = tabled; standing = standing-back i a.number h.standing }

  -- ---- a Yes

  -- its place among the rules
  pub rule-within : a.yes ≡ true → rules_before i.answers a.number < length rules
  rule-within y = let r = h.ruled in rw r (rules_before-within i a h.standing.numbered stands y)

  -- it is good, as all queries that were answered Yes are
  pub good-of : a.yes ≡ true → is_good i.count a.query ≡ true
  good-of y =
      let good = is_good i.count in
      let all = told-all (λ x. x.yes) (λ x. x.query) a.number a good i.answers (rising i a h.standing.numbered stands) stands y in
      (and_parts (list_all good (yes_queries after.answers)) (good a.query) (sym all ∙ all-told good (λ x. x.yes) (λ x. x.query) i.answers h.standing.good)).1

  pub left-before : a.yes ≡ true → compatible_sets i ≡ left_by a.query (compatible_sets after)
  unfolding compat
  left-before y =
      filter_agree (is_compatible i.start (yes_queries i.answers)) (λ k. is_compatible i.start (yes_queries after.answers) k && not (breaks k a.query)) (λ k.
      ap (λ b. meets i.start k && b) (told-all (λ x. x.yes) (λ x. x.query) a.number a (λ r. not (breaks k r)) i.answers (rising i a h.standing.numbered stands) stands y)
      ∙ sym (and_assoc (meets i.start k) (breaks_none (yes_queries after.answers) k) (not (breaks k a.query)))) (subsets i.count)
      ∙ sym (filter-both (is_compatible i.start (yes_queries after.answers)) (λ k. not (breaks k a.query)) (subsets i.count))

  pub held-without_yes : (others : List Query) (k : List Items) → a.yes ≡ true → others ≡ remove rules (rules_before i.answers a.number) → k ≡ compat i.count i.start others
      → ((b : BlockRange) (ns : List No) → IsKeptFor b (left_by a.query k) ns t → IsKeptFor b k ns new) → IsHeld after others new
  held-without_yes others k y removed family kept =
      let ruled : others ≡ yes_queries after.answers =
      removed ∙ ap (λ (l : List Query). remove l (rules_before i.answers a.number)) h.ruled ∙ sym (yes_queries-without_yes i a h.standing.numbered stands y) in
      let left : k ≡ compatible_sets after = family ∙ ap (compat i.count i.start) ruled in
      back others ruled
      (kept-as (single_items i.count) k _ _ _ new left (sym (nos-without_yes i a h.standing.numbered stands y))
      (kept (single_items i.count) (nos i.answers) (kept-as (single_items i.count) _ _ _ _ t (left-before y ∙ ap (left_by a.query) (sym left)) refl h.tabled)))

  -- ---- a No

  pub held-without_no : a.yes ≡ false → ((b : BlockRange) (g : List Items) (ns : List No) → t.table ≡ table_of b g ns → new.table ≡ table_of b g (filter (λ x. not (eqb x.number a.number)) ns)) → new.witnesses ≡ t.witnesses → IsHeld after rules new
  held-without_no n kept same_states =
      let same = yes_queries-without_no i a h.standing.numbered stands n in
      back rules (h.ruled ∙ sym same)
      (kept-as (single_items i.count) _ _ _ _ new (ap (compat i.count i.start) (sym same)) (nos-others a.number i.answers)
      (record { table = kept (single_items i.count) (compatible_sets i) (nos i.answers) h.tabled.table; states = subst (AreStates (compatible_sets i)) (sym same_states) h.tabled.states }))
