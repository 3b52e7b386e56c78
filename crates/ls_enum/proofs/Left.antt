-- What is left after a cursor, and what is left of a page.
use Rattle.ls_enum.proofs.Vocabulary.{◌*◌, ◌++◌, ◌+◌, ◌-◌, ◌<◌, ◌∙◌, ◌∷◌, ◌≡◌, ◌≤◌, AllByRecursion, IsInOrder, Items, List, None, Option, Some, ℕ, [], ap, append_assoc, ap₂, arith, comes_after, comes_before, comes_before-asymmetric, comes_before-irreflexive, comes_before-transitive, cond, false, filter, find, found-holds, le-ltb, left_after, length, lt-ltb, ltb, ltb-true, refl, same_truth, suc, sym, take, take_all, true}
use Rattle.ls_lists.proofs.Filters.{filter-all}

-- ---- the first that is left, and what is left behind it

-- from the start all are left
pub left_after-none : (f : List Items) → left_after None f ≡ f
left_after-none [] = refl
left_after-none (x ∷ xs) = ap (λ l. x ∷ l) (left_after-none xs)

later : (cursor : Option Items) (x y : Items) → comes_after comes_before cursor x ≡ true → comes_before x y ≡ true → comes_after comes_before cursor y ≡ true
later None x y h b = refl
later (Some last) x y h b = comes_before-transitive last x y h b

each-later : (cursor : Option Items) (x : Items) (xs : List Items) → comes_after comes_before cursor x ≡ true → AllByRecursion (λ y. comes_before x y ≡ true) xs → AllByRecursion (λ y. comes_after comes_before cursor y ≡ true) xs
each-later cursor x [] h _ = tt
each-later cursor x (y ∷ ys) h a = (later cursor x y h a.0, each-later cursor x ys h a.1)

behind : (x : Items) (xs : List Items) → AllByRecursion (λ y. comes_before x y ≡ true) xs → filter (comes_before x) (x ∷ xs) ≡ xs
behind x xs h = rw (comes_before-irreflexive x) (filter-all (comes_before x) xs h)

-- the first that is left, and then what is left after it
pub left-first : (cursor : Option Items) (f : List Items) (k : Items) → IsInOrder f → find (comes_after comes_before cursor) f ≡ Some k → left_after cursor f ≡ k ∷ left_after (Some k) f
left-first cursor [] k o e = cc
left-first cursor (x ∷ xs) k o e =
    let p = comes_after comes_before cursor in
    elim (p x) as (λ b. p x ≡ b → cond b (Some x) (find p xs) ≡ Some k → cond b (x ∷ filter p xs) (filter p xs) ≡ k ∷ filter (comes_before k) (x ∷ xs)) [
      | true ↦ λ h e.
          let same : x ≡ k = cc in
          ap (λ l. x ∷ l) (filter-all p xs (each-later cursor x xs h o.0)) ∙ ap (λ l. x ∷ l) (sym (behind x xs o.0)) ∙ ap (λ t. t ∷ filter (comes_before t) (x ∷ xs)) same
      | false ↦ λ _ e.
          let b : comes_before x k ≡ true = found-holds (λ y. comes_before x y ≡ true) p xs k e o.0 in
          left-first cursor xs k o.1 e ∙ rw (comes_before-asymmetric x k b) refl
    ] refl e

pub left-none : (cursor : Option Items) (f : List Items) → find (comes_after comes_before cursor) f ≡ None → left_after cursor f ≡ []
left-none cursor [] e = refl
left-none cursor (x ∷ xs) e =
    let p = comes_after comes_before cursor in
    elim (p x) as (λ b. cond b (Some x) (find p xs) ≡ None → cond b (x ∷ filter p xs) (filter p xs) ≡ []) [ true ↦ λ e. cc | false ↦ λ e. left-none cursor xs e ] e

pub left-shorter : (cursor : Option Items) (f : List Items) (k : Items) → IsInOrder f → find (comes_after comes_before cursor) f ≡ Some k → length (left_after (Some k) f) < length (left_after cursor f)
left-shorter cursor f k o e = rw (left-first cursor f k o e) (omega arith)

-- ---- what is left of a page of `count` sets, of which `done` are given and `rest` would follow

-- one more given: the sets of the page that are left
pub take-left : (rest next : List Items) (k : Items) (count done : ℕ) → rest ≡ k ∷ next → done < count → take (count - done) rest ≡ k ∷ take (count - (done + 1)) next
take-left rest next k count done e l =
    ap₂ take (let q : count - done ≡ suc (count - (done + 1)) = omega arith in q) e

-- the same beside a list of the sets given
pub given-left : (given rest next all : List Items) (k : Items) (count done : ℕ) → rest ≡ k ∷ next → done < count → given ++ take (count - done) rest ≡ all → (given ++ k ∷ []) ++ take (count - (done + 1)) next ≡ all
given-left given rest next all k count done e l h =
    append_assoc given (k ∷ []) (take (count - (done + 1)) next) ∙ ap (λ t. given ++ t) (sym (take-left rest next k count done e l)) ∙ h

-- whether a further set follows the page
pub more-left : (rest next : List Items) (k : Items) (count done : ℕ) → rest ≡ k ∷ next → done < count → ltb (count - done) (length rest) ≡ ltb (count - (done + 1)) (length next)
more-left rest next k count done e l =
    let n : length rest ≡ length next + 1 = ap length e ∙ (let q : length (k ∷ next) ≡ length next + 1 = omega arith in q) in
    same_truth (ltb (count - done) (length rest)) (ltb (count - (done + 1)) (length next))
    (λ a. lt-ltb (count - (done + 1)) (length next) (let m : count - done < length rest = ltb-true (count - done) (length rest) a in omega arith))
    (λ a. lt-ltb (count - done) (length rest) (let m : count - (done + 1) < length next = ltb-true (count - (done + 1)) (length next) a in omega arith))

-- nothing is left: the page is given, and no further set follows
pub take-ended : (rest : List Items) (m : ℕ) → rest ≡ [] → take m rest ≡ []
take-ended rest m e = ap (take m) e ∙ take_all m [] (omega arith)

pub more-ended : (rest : List Items) (m : ℕ) → rest ≡ [] → ltb m (length rest) ≡ false
more-ended rest m e = le-ltb m (length rest) (let q : length rest ≡ 0 = ap length e in omega arith)

-- each set costs at most so many steps
pub more_steps : (before now start done each : ℕ) → before ≤ start + done * each → now ≤ before + each → now ≤ start + (done + 1) * each
more_steps before now start done each h l = grind arith
