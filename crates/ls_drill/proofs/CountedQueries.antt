-- Queries counted one after another, and how many there are.
use Rattle.ls_drill.proofs.Vocabulary.{◌&&◌, ◌*◌, ◌+◌, ◌∙◌, ◌∷◌, ◌≡◌, ◌≤◌, BlockRange, Bool, ForSome, Interview, Items, List, None, Option, Query, Some, ℕ, [], add-one, add-zero, ap, ap₂, arith, blocks, comes_after, cond, count_by, count_by-le-length, false, find, find-any, flat_map, get-in, good-to, is_filled, is_filled_no, is_filled_yes, is_good, is_no, is_yes, known, length, length-append, length-filter, length-map, map, numbers_from, queries, queries-in, query_before, query_before-asymmetric, refl, slice_get, sorted-queries, subst, suc, sum_by-cons, sym, take, true, zero, zero-add}
use Rattle.ls_lists.proofs.Sorted.{find-next}
use Rattle.ls_expert.specs.Held.{blocks_of}
use Rattle.ls_query.specs.Blocks.{choose}
use Rattle.ls_query.proofs.Binomials.{choose-none, choose-more, choose-zero_more}
use Rattle.ls_query.proofs.BySize.{length-blocks_more, length-blocks_none}

pub count-cons : {X : Type 0} (p : X → Bool) (x : X) (xs : List X) → count_by p (x ∷ xs) ≡ cond {A = ℕ} (p x) 1 0 + count_by p xs
count-cons p x xs = sum_by-cons (λ y. cond (p y) 1 0) x xs

count-first : {X : Type 0} (p : X → Bool) (xs : List X) (k : ℕ) (x : X) → slice_get xs k ≡ Some x → count_by p (take (suc k) xs) ≡ count_by p (take k xs) + cond (p x) 1 0
count-first p [] k x e = cc
count-first p (y ∷ xs) zero x e = let same : y ≡ x = cc in rw same (omega arith)
count-first p (y ∷ xs) (suc k) x e =
    let rest = count-first p xs k x e in
    let a : count_by p (y ∷ take (suc k) xs) ≡ cond {A = ℕ} (p y) 1 0 + count_by p (take (suc k) xs) = count-cons p y (take (suc k) xs) in
    let b : count_by p (y ∷ take k xs) ≡ cond {A = ℕ} (p y) 1 0 + count_by p (take k xs) = count-cons p y (take k xs) in
    omega arith

-- one more
pub count-next : {X : Type 0} (p : X → Bool) (xs : List X) (k : ℕ) (x : X) → slice_get xs k ≡ Some x → count_by p (take (k + 1) xs) ≡ count_by p (take k xs) + cond (p x) 1 0
count-next p xs k x e = ap (λ m. count_by p (take m xs)) (add-one k) ∙ count-first p xs k x e

take-whole : {X : Type 0} (xs : List X) (k : ℕ) → slice_get xs k ≡ None → take k xs ≡ xs
take-whole [] zero e = refl
take-whole [] (suc k) e = refl
take-whole (x ∷ xs) zero e = absurd (cc e)
take-whole (x ∷ xs) (suc k) e = ap (λ l. x ∷ l) (take-whole xs k e)

-- no more
pub count-all : {X : Type 0} (p : X → Bool) (xs : List X) (k : ℕ) → slice_get xs k ≡ None → count_by p (take k xs) ≡ count_by p xs
count-all p xs k e = ap (count_by p) (take-whole xs k e)

pub get-none : {X : Type 0} (xs : List X) (k : ℕ) → length xs ≤ k → slice_get xs k ≡ None
get-none [] k le = refl
get-none (x ∷ xs) zero le = absurd (omega arith)
get-none (x ∷ xs) (suc k) le = get-none xs k (omega arith)

-- ---- how many queries of single items there are

choose-one : (m : ℕ) → choose m 1 ≡ m
choose-one zero = choose-zero_more 0
choose-one (suc m) = choose-more m 0 ∙ ap₂ (λ x y. x + y) (choose-none m) (choose-one m) ∙ omega arith

length-singles : (n : ℕ) → length (blocks n 1) ≡ n
length-singles n = length-blocks_more n 0 ∙ ap (λ x. x + choose n 1) (length-blocks_none n) ∙ zero-add (choose n 1) ∙ choose-one n

length-numbers : (i m : ℕ) → length (numbers_from i m) ≡ m
length-numbers i zero = refl
length-numbers i (suc m) = ap suc (length-numbers (suc i) m)

length-joined : {X Y : Type 0} (f : X → List Y) (m : ℕ) (xs : List X) → ((x : X) → length (f x) ≡ m) → length (flat_map f xs) ≡ length xs * m
length-joined f m [] h = let e : 0 ≡ 0 * m = omega arith in e
length-joined f m (x ∷ xs) h = length-append (f x) (flat_map f xs) ∙ ap₂ (λ a b. a + b) (h x) (length-joined f m xs h) ∙ grind arith

pub queries-few : (n : ℕ) → length (queries n 1) ≤ n * n
unfolding queries
queries-few n =
    let row = λ (a : Items). map (λ q. (let r : Query = record { a = a; q = q } in r)) (numbers_from 0 n) in
    let all = flat_map row (blocks n 1) in
    let e : length all ≡ n * n = length-joined row n (blocks n 1) (λ a. length-map (numbers_from 0 n) (λ q. (let r : Query = record { a = a; q = q } in r)) ∙ length-numbers 0 n) ∙ ap (λ m. m * n) (length-singles n) in
    let few = count_by-le-length (is_good n) all in
    let c = length-filter (is_good n) all in
    omega arith

-- ---- the count

-- k of the queries of an interview are counted, and the last of them is given, if there is one
pub record IsCounted (i : Interview) (k : ℕ) (last : Option Query) (all yeses nos : ℕ) : Type 0 where
  pub turn : find (comes_after query_before last) (queries i.count i.block) ≡ slice_get (queries i.count i.block) k
  pub good : ForSome last (λ r. is_good i.count r ≡ true)
  pub all_filled : all ≡ count_by (is_filled i) (take k (queries i.count i.block))
  pub yes_filled : yeses ≡ count_by (is_filled_yes i) (take k (queries i.count i.block))
  pub no_filled : nos ≡ count_by (is_filled_no i) (take k (queries i.count i.block))

pub none-counted : (i : Interview) → IsCounted i 0 None 0 0 0
none-counted i = record { turn = find-any (queries i.count i.block); good = λ x e. absurd (cc e); all_filled = refl; yes_filled = refl; no_filled = refl }

module _ (i : Interview) (k : ℕ) (last : Option Query) (all yeses nos : ℕ) (h : IsCounted i k last all yeses nos) (r : Query) (q : find (comes_after query_before last) (queries i.count i.block) ≡ Some r) where
  pub next-good : is_good i.count r ≡ true
  next-good = good-to i.count r (queries-in i.count i.block r (get-in (queries i.count i.block) k r (sym h.turn ∙ q))).0

  next-turn : find (query_before r) (queries i.count i.block) ≡ slice_get (queries i.count i.block) (k + 1)
  next-turn = find-next query_before (queries i.count i.block) k r (sorted-queries i.count i.block) query_before-asymmetric (sym h.turn ∙ q) ∙ ap (slice_get (queries i.count i.block)) (sym (add-one k))

  counted-next : (all' yeses' nos' : ℕ) → all' ≡ all + cond (is_filled i r) 1 0 → yeses' ≡ yeses + cond (is_filled_yes i r) 1 0 → nos' ≡ nos + cond (is_filled_no i r) 1 0 → IsCounted i (k + 1) (Some r) all' yeses' nos'
  counted-next all' yeses' nos' a b c =
      let qs = queries i.count i.block in
      let at : slice_get qs k ≡ Some r = sym h.turn ∙ q in
      record {
        turn = next-turn;
        good = λ x e. let same : r ≡ x = cc in subst (λ s. is_good i.count s ≡ true) same next-good;
        all_filled = a ∙ ap (λ x. x + cond (is_filled i r) 1 0) h.all_filled ∙ sym (count-next (is_filled i) qs k r at);
        yes_filled = b ∙ ap (λ x. x + cond (is_filled_yes i r) 1 0) h.yes_filled ∙ sym (count-next (is_filled_yes i) qs k r at);
        no_filled = c ∙ ap (λ x. x + cond (is_filled_no i r) 1 0) h.no_filled ∙ sym (count-next (is_filled_no i) qs k r at);
      }

  -- a query that was asked adds nothing
  pub counted-asked : is_filled i r ≡ false → IsCounted i (k + 1) (Some r) all yeses nos
  counted-asked out =
      counted-next all yeses nos
      (sym (ap (λ b. all + cond b 1 0) out ∙ add-zero all))
      (sym (ap (λ b. yeses + cond (b && is_yes (known i r)) 1 0) out ∙ add-zero yeses))
      (sym (ap (λ b. nos + cond (b && is_no (known i r)) 1 0) out ∙ add-zero nos))

  -- one that was filled is counted as it is known
  pub counted-filled : (all' yeses' nos' : ℕ) → is_filled i r ≡ true → all' ≡ all + 1 → yeses' ≡ yeses + cond (is_yes (known i r)) 1 0 → nos' ≡ nos + cond (is_no (known i r)) 1 0 → IsCounted i (k + 1) (Some r) all' yeses' nos'
  counted-filled all' yeses' nos' e a b c =
      counted-next all' yeses' nos'
      (a ∙ ap (λ f. all + cond f 1 0) (sym e))
      (b ∙ ap (λ f. yeses + cond (f && is_yes (known i r)) 1 0) (sym e))
      (c ∙ ap (λ f. nos + cond (f && is_no (known i r)) 1 0) (sym e))

-- where no further query comes, all are counted
pub record AllCounted (i : Interview) (all yeses nos : ℕ) : Type 0 where
  pub all_filled : all ≡ count_by (is_filled i) (queries i.count i.block)
  pub yes_filled : yeses ≡ count_by (is_filled_yes i) (queries i.count i.block)
  pub no_filled : nos ≡ count_by (is_filled_no i) (queries i.count i.block)

pub counted-end : (i : Interview) (k : ℕ) (last : Option Query) (all yeses nos : ℕ) → IsCounted i k last all yeses nos → slice_get (queries i.count i.block) k ≡ None → AllCounted i all yeses nos
counted-end i k last all yeses nos h e = record {
  all_filled = h.all_filled ∙ count-all (is_filled i) (queries i.count i.block) k e;
  yes_filled = h.yes_filled ∙ count-all (is_filled_yes i) (queries i.count i.block) k e;
  no_filled = h.no_filled ∙ count-all (is_filled_no i) (queries i.count i.block) k e;
}

-- so many turns are enough
pub counted-last : (i : Interview) (k : ℕ) (last : Option Query) (all yeses nos : ℕ) → IsCounted i k last all yeses nos → i.block ≡ 1 → i.count * i.count ≤ k → AllCounted i all yeses nos
counted-last i k last all yeses nos h e le =
    let few = queries-few i.count in
    let same : length (queries i.count i.block) ≡ length (queries i.count 1) = ap (λ m. length (queries i.count m)) e in
    counted-end i k last all yeses nos h (get-none (queries i.count i.block) k (omega arith))

-- ---- what is met on the walk

pub nothing_left : {X : Type 0} (o : Option X) → ((x : X) → o ≡ Some x → ⊥) → o ≡ None
nothing_left None h = refl
nothing_left (Some x) h = absurd (h x refl)

module _ (i : Interview) (b : BlockRange) (last found : Option Query) (asked : b ≡ blocks_of i) (h : found ≡ find (comes_after query_before last) (queries b.item_count b.largest)) where
  pub met : found ≡ find (comes_after query_before last) (queries i.count i.block)
  met = h ∙ ap (λ (x : BlockRange). find (comes_after query_before last) (queries x.item_count x.largest)) asked

  pub met-none : ((r : Query) → found ≡ Some r → ⊥) → find (comes_after query_before last) (queries i.count i.block) ≡ None
  met-none none = sym met ∙ nothing_left found none
