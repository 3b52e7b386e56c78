-- Answers in order of number.
use Rattle.ls_laws.proofs.Vocabulary.{◌++◌, ◌+◌, ◌<◌, ◌∷◌, ◌≡◌, ◌≤◌, AllByRecursion, Answer, Bool, Interview, IsNumbered, IsRising, IsStrictlyIncreasing, List, No, Query, Start, ℕ, [], accepted, and_from, and_parts, ap, arith, begun, cond, eqb, false, filter, increasing-from, list_all, lt-ltb, ltb, ltb-true, map, nos, not, refl, retracted, rising-from, subst, sym, true}

abbrev number_of : Answer → ℕ
number_of a = a.number

abbrev is_no : Answer → Bool
is_no a = not a.yes

kept-above : (x : ℕ) (p : Answer → Bool) (answers : List Answer) → AllByRecursion (λ y. x < y) (map number_of answers) → AllByRecursion (λ y. x < y) (map number_of (filter p answers))
kept-above x p [] h = tt
kept-above x p (a ∷ answers) h = elim (p a) as (λ b. AllByRecursion (λ y. x < y) (map number_of (cond b (a ∷ filter p answers) (filter p answers)))) [
  | true ↦ (h.0, kept-above x p answers h.1)
  | false ↦ kept-above x p answers h.1
]

kept-rising : (p : Answer → Bool) (answers : List Answer) → IsRising (map number_of answers) → IsRising (map number_of (filter p answers))
kept-rising p [] h = tt
kept-rising p (a ∷ answers) h = elim (p a) as (λ b. IsRising (map number_of (cond b (a ∷ filter p answers) (filter p answers)))) [
  | true ↦ (kept-above a.number p answers h.0, kept-rising p answers h.1)
  | false ↦ kept-rising p answers h.1
]

abbrev no_of : Answer → No
no_of a = record { number = a.number; query = a.query }

same_numbers : (answers : List Answer) → map (λ a. a.number) (map no_of answers) ≡ map number_of answers
same_numbers [] = refl
same_numbers (a ∷ answers) = ap (λ l. a.number ∷ l) (same_numbers answers)

pub nos-increasing : (answers : List Answer) → IsStrictlyIncreasing (map (λ a. a.number) answers) → IsStrictlyIncreasing (map (λ a. a.number) (nos answers))
nos-increasing answers h = subst IsStrictlyIncreasing (sym (same_numbers (filter is_no answers))) (increasing-from (map number_of (filter is_no answers)) (kept-rising is_no answers (rising-from (map number_of answers) h)))

-- ---- what changes keep

below-rising : (n : ℕ) (answers : List Answer) → list_all (λ a. ltb a.number n) answers ≡ true → IsRising (map number_of answers) → (a : Answer) → a.number ≡ n → IsRising (map number_of (answers ++ (a ∷ [])))
below-rising n [] h r a e = (tt, tt)
below-rising n (x ∷ answers) h r a e =
    let b = and_parts (ltb x.number n) (list_all (λ a. ltb a.number n) answers) h in
    let less : x.number < n = ltb-true x.number n b.0 in
    (above answers r.0 (omega arith), below-rising n answers b.1 r.1 a e)
  where
    above : (ys : List Answer) → AllByRecursion (λ y. x.number < y) (map number_of ys) → x.number < a.number → AllByRecursion (λ y. x.number < y) (map number_of (ys ++ (a ∷ [])))
    above [] h l = (l, tt)
    above (y ∷ ys) h l = (h.0, above ys h.1 l)

below-more : (n m : ℕ) (answers : List Answer) → n ≤ m → list_all (λ a. ltb a.number n) answers ≡ true → (a : Answer) → a.number < m → list_all (λ a. ltb a.number m) (answers ++ (a ∷ [])) ≡ true
below-more n m [] l h a k = and_from (ltb a.number m) true (lt-ltb a.number m k) refl
below-more n m (x ∷ answers) l h a k =
    let b = and_parts (ltb x.number n) (list_all (λ a. ltb a.number n) answers) h in
    let less : x.number < n = ltb-true x.number n b.0 in
    and_from (ltb x.number m) (list_all (λ a. ltb a.number m) (answers ++ (a ∷ []))) (lt-ltb x.number m (omega arith)) (below-more n m answers l b.1 a k)

below-fewer : (n : ℕ) (p : Answer → Bool) (answers : List Answer) → list_all (λ a. ltb a.number n) answers ≡ true → list_all (λ a. ltb a.number n) (filter p answers) ≡ true
below-fewer n p [] h = refl
below-fewer n p (x ∷ answers) h =
    let b = and_parts (ltb x.number n) (list_all (λ a. ltb a.number n) answers) h in
    let rest = below-fewer n p answers b.1 in
    elim (p x) as (λ k. list_all (λ a. ltb a.number n) (cond k (x ∷ filter p answers) (filter p answers)) ≡ true) [
      | true ↦ and_from (ltb x.number n) (list_all (λ a. ltb a.number n) (filter p answers)) b.0 rest
      | false ↦ rest
    ]

pub begun-numbered : (n : ℕ) (start : Start) → IsNumbered (begun n start)
begun-numbered n start = record { in_order = increasing-from [] tt; below_next = refl }

pub accepted-numbered : (i : Interview) (r : Query) (is_yes : Bool) → IsNumbered i → IsNumbered (accepted i r is_yes)
accepted-numbered i r is_yes h =
    let a : Answer = record { number = i.next; query = r; yes = is_yes } in
    record {
      in_order = increasing-from (map number_of (i.answers ++ (a ∷ []))) (below-rising i.next i.answers h.below_next (rising-from (map number_of i.answers) h.in_order) a refl);
      below_next = below-more i.next (i.next + 1) i.answers (omega arith) h.below_next a (omega arith);
    }

pub retracted-numbered : (i : Interview) (number : ℕ) → IsNumbered i → IsNumbered (retracted i number)
retracted-numbered i number h =
    let kept = λ (a : Answer). not (eqb a.number number) in
    record {
      in_order = increasing-from (map number_of (filter kept i.answers)) (kept-rising kept i.answers (rising-from (map number_of i.answers) h.in_order));
      below_next = below-fewer i.next kept i.answers h.below_next;
    }
