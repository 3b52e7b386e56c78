-- Lists of answers: what is told by those that pass a test, when an answer is put last or taken out.
--     yes_queries-.., nos-..      what becomes of the Yes queries and of the Nos of an interview
use Rattle.ls_standing.proofs.Vocabulary.{◌&&◌, ◌++◌, ◌<◌, ◌∙◌, ◌∷◌, ◌≡◌, ◌≤◌, ◌⊎◌, All-filter, All-list_all, AllByRecursion, Answer, Bool, Interview, IsNumbered, IsRising, List, No, None, Query, Some, ℕ, [], accepted, answer_with, ap, arith, cases_Bool, cases_eq, cases_lt, cond, count_by-le-length, drop, eq-eqb, eqb, false, filter, filter-both, find, inl, inr, le-ltb, length, length-filter, length-map, length-take-le, list_all, list_all-All, list_all-map, lt-ltb, ltb, map, ne_eqb, no_queries, nos, not, refl, remove, retracted, rising-from, rules_before, subst, suc, sym, take, take-append-le, take-take, true, yes_queries}
use Rattle.std.proofs.Math.Bool.{and_assoc, and_comm, and-false}

-- what holds of each answer holds of those that pass
pub all-fewer : (q p : Answer → Bool) (answers : List Answer) → list_all q answers ≡ true → list_all q (filter p answers) ≡ true
all-fewer q p answers h = All-list_all q (filter p answers) (All-filter (λ x. q x ≡ true) p answers (list_all-All q answers h))

-- and of what these tell
pub all-told : {X : Type 0} (q : X → Bool) (p : Answer → Bool) (g : Answer → X) (answers : List Answer) → list_all (λ a. q (g a)) answers ≡ true → list_all q (map g (filter p answers)) ≡ true
all-told q p g answers h = list_all-map q g (filter p answers) ∙ all-fewer (λ a. q (g a)) p answers h

-- ---- an answer that is put last

-- the images of the answers that pass
abbrev told : {X : Type 0} → (Answer → Bool) → (Answer → X) → List Answer → List X
told p g answers = map g (filter p answers)

module _ {X : Type 0} (p : Answer → Bool) (g : Answer → X) where
  told-last : (answers : List Answer) (a : Answer) → p a ≡ true → told p g (answers ++ a ∷ []) ≡ told p g answers ++ g a ∷ []
  told-last [] a e = rw e refl
  told-last (x ∷ answers) a e = elim (p x) as (λ b. map g (cond b (x ∷ filter p (answers ++ a ∷ [])) (filter p (answers ++ a ∷ []))) ≡ map g (cond b (x ∷ filter p answers) (filter p answers)) ++ g a ∷ []) [
    | true ↦ ap (λ l. g x ∷ l) (told-last answers a e)
    | false ↦ told-last answers a e
  ]

  told-passed : (answers : List Answer) (a : Answer) → p a ≡ false → told p g (answers ++ a ∷ []) ≡ told p g answers
  told-passed [] a e = rw e refl
  told-passed (x ∷ answers) a e = elim (p x) as (λ b. map g (cond b (x ∷ filter p (answers ++ a ∷ [])) (filter p (answers ++ a ∷ []))) ≡ map g (cond b (x ∷ filter p answers) (filter p answers))) [
    | true ↦ ap (λ l. g x ∷ l) (told-passed answers a e)
    | false ↦ told-passed answers a e
  ]

-- ---- an answer that is taken out

-- all answers but the one with the number
abbrev pub is_other : ℕ → Answer → Bool
is_other m a = not (eqb a.number m)

-- the answer has the number
abbrev pub has_number : ℕ → Answer → Bool
has_number m a = eqb a.number m

abbrev AllAbove : ℕ → List Answer → Type 0
AllAbove m xs = AllByRecursion (λ y. m < y) (map (λ a. a.number) xs)

differs : (x m : ℕ) → m < x → eqb x m ≡ false
differs x m l = ne_eqb x m (λ e. absurd (omega arith))

others_above : (m : ℕ) (xs : List Answer) → AllAbove m xs → filter (is_other m) xs ≡ xs
others_above m [] h = refl
others_above m (x ∷ xs) h = rw (differs x.number m h.0) (ap (λ l. x ∷ l) (others_above m xs h.1))

none_above : (m : ℕ) (xs : List Answer) → AllAbove m xs → find (has_number m) xs ≡ None
none_above m [] h = refl
none_above m (x ∷ xs) h = rw (differs x.number m h.0) (none_above m xs h.1)

higher : (x m : ℕ) (xs : List Answer) → m ≤ x → AllAbove x xs → AllAbove m xs
higher x m [] l h = tt
higher x m (y ∷ xs) l h = (let k = h.0 in omega arith, higher x m xs l h.1)

-- the answer with the number is the first of the list, or stands further on
first_or_later : (m : ℕ) (x a : Answer) (xs : List Answer) → AllAbove x.number xs → find (has_number m) (x ∷ xs) ≡ Some a
    → ((x.number ≡ m) × (x ≡ a) × AllAbove m xs) ⊎ ((x.number < m) × (find (has_number m) xs ≡ Some a))
first_or_later m x a xs h e =
    elim (cases_eq x.number m) [
      | inl same ↦
          let here : Some x ≡ Some a = rw (eq-eqb x.number m same) at e in
          let is : x ≡ a = cc in
          inl (same, is, subst (λ k. AllAbove k xs) same h)
      | inr other ↦
          let later : find (has_number m) xs ≡ Some a = rw (ne_eqb x.number m other) at e in
          elim (cases_lt x.number m) [
            | inl less ↦ inr (less, later)
            | inr more ↦ let none = none_above m xs (higher x.number m xs more h) in absurd (let bad : None ≡ Some a = sym none ∙ later in cc)
          ]
    ]

module _ {X : Type 0} (p : Answer → Bool) (g : Answer → X) (m : ℕ) (a : Answer) where
  abbrev images : List Answer → List X
  images = told p g

  -- those that pass and have a smaller number
  abbrev earlier : List Answer → List Answer
  earlier answers = filter (λ x. p x && ltb x.number m) answers

  none_earlier : (xs : List Answer) → AllAbove m xs → earlier xs ≡ []
  none_earlier [] h = refl
  none_earlier (x ∷ xs) h = rw (le-ltb x.number m (let l = h.0 in omega arith), and-false (p x)) (none_earlier xs h.1)

  -- without an answer that passes, one fewer is told
  pub told-without : (answers : List Answer) → IsRising (map (λ x. x.number) answers) → find (has_number m) answers ≡ Some a → p a ≡ true → images (filter (is_other m) answers) ≡ remove (images answers) (length (earlier answers))
  told-without [] r e h = cc
  told-without (x ∷ xs) r e h = elim (first_or_later m x a xs r.0 e) [
    | inl here ↦
        rw (eq-eqb x.number m here.0, ap p here.1 ∙ h, le-ltb x.number m (let s = here.0 in omega arith))
        (ap images (others_above m xs here.2) ∙ ap (λ (l : List Answer). remove (g x ∷ images xs) (length l)) (sym (none_earlier xs here.2)))
    | inr later ↦
        let rest = told-without xs r.1 later.1 h in
        elim (cases_Bool (p x)) [
          | inl y ↦ rw (ne_eqb x.number m (λ s. let l = later.0 in absurd (omega arith)), y, lt-ltb x.number m later.0) (ap (λ l. g x ∷ l) rest)
          | inr n ↦ rw (ne_eqb x.number m (λ s. let l = later.0 in absurd (omega arith)), n) rest
        ]
  ]

  -- without an answer that doesn't, the same
  pub told-same : (answers : List Answer) → IsRising (map (λ x. x.number) answers) → find (has_number m) answers ≡ Some a → p a ≡ false → images (filter (is_other m) answers) ≡ images answers
  told-same [] r e h = cc
  told-same (x ∷ xs) r e h = elim (first_or_later m x a xs r.0 e) [
    | inl here ↦ rw (eq-eqb x.number m here.0, ap p here.1 ∙ h) (ap images (others_above m xs here.2))
    | inr later ↦
        let rest = told-same xs r.1 later.1 h in
        elim (cases_Bool (p x)) [
          | inl y ↦ rw (ne_eqb x.number m (λ s. let l = later.0 in absurd (omega arith)), y) (ap (λ l. g x ∷ l) rest)
          | inr n ↦ rw (ne_eqb x.number m (λ s. let l = later.0 in absurd (omega arith)), n) rest
        ]
  ]

  -- the answer has its place among those that pass
  pub told-within : (answers : List Answer) → IsRising (map (λ x. x.number) answers) → find (has_number m) answers ≡ Some a → p a ≡ true → length (earlier answers) < length (images answers)
  told-within [] r e h = cc
  told-within (x ∷ xs) r e h = elim (first_or_later m x a xs r.0 e) [
    | inl here ↦
        rw (ap p here.1 ∙ h, le-ltb x.number m (let s = here.0 in omega arith), none_earlier xs here.2) (omega arith)
    | inr later ↦
        let rest = told-within xs r.1 later.1 h in
        elim (cases_Bool (p x)) [
          | inl y ↦ rw (y, lt-ltb x.number m later.0) (omega arith)
          | inr n ↦ rw n rest
        ]
  ]

  -- what holds of all images holds of the others and of its own
  pub told-all : (q : X → Bool) (answers : List Answer) → IsRising (map (λ x. x.number) answers) → find (has_number m) answers ≡ Some a → p a ≡ true
      → list_all q (images answers) ≡ (list_all q (images (filter (is_other m) answers)) && q (g a))
  told-all q [] r e h = cc
  told-all q (x ∷ xs) r e h = elim (first_or_later m x a xs r.0 e) [
    | inl here ↦
        rw (eq-eqb x.number m here.0, ap p here.1 ∙ h, here.1, others_above m xs here.2) (and_comm (q (g a)) (list_all q (images xs)))
    | inr later ↦
        let rest = told-all q xs r.1 later.1 h in
        elim (cases_Bool (p x)) [
          | inl y ↦ rw (ne_eqb x.number m (λ s. let l = later.0 in absurd (omega arith)), y) (ap (λ b. q (g x) && b) rest ∙ sym (and_assoc (q (g x)) (list_all q (images (filter (is_other m) xs))) (q (g a))))
          | inr n ↦ rw (ne_eqb x.number m (λ s. let l = later.0 in absurd (omega arith)), n) rest
        ]
  ]

-- what holds of each query holds of the others that were answered Yes
pub good-others : (q : Query → Bool) (m : ℕ) (answers : List Answer) → list_all (λ a. q a.query) answers ≡ true → list_all q (yes_queries (filter (is_other m) answers)) ≡ true
good-others q m answers h = all-told q (λ a. a.yes) (λ a. a.query) (filter (is_other m) answers) (all-fewer (λ a. q a.query) (is_other m) answers h)

-- the Nos but for the one with the number
pub nos-others : (m : ℕ) (answers : List Answer) → filter (λ x. not (eqb x.number m)) (nos answers) ≡ nos (filter (is_other m) answers)
nos-others m [] = refl
nos-others m (x ∷ xs) =
    elim (cases_Bool x.yes) [
      | inl y ↦ elim (cases_Bool (eqb x.number m)) [ inl e ↦ rw (y, e) (nos-others m xs) | inr n ↦ rw (y, n) (nos-others m xs) ]
      | inr n ↦ elim (cases_Bool (eqb x.number m)) [
        | inl e ↦ rw (n, e) (nos-others m xs)
        | inr o ↦ rw (n, o) (ap (λ (l : List No). (let y : No = record { number = x.number; query = x.query } in y) ∷ l) (nos-others m xs))
      ]
    ]

-- ---- an interview that takes an answer

module _ (i : Interview) (r : Query) where
  abbrev answer_of : Bool → Answer
  answer_of is_yes = record { number = i.next; query = r; yes = is_yes }

  pub yes_queries-yes : yes_queries (accepted i r true).answers ≡ yes_queries i.answers ++ r ∷ []
  yes_queries-yes = told-last (λ a. a.yes) (λ a. a.query) i.answers (answer_of true) refl

  pub yes_queries-no : yes_queries (accepted i r false).answers ≡ yes_queries i.answers
  yes_queries-no = told-passed (λ a. a.yes) (λ a. a.query) i.answers (answer_of false) refl

  pub nos-no : nos (accepted i r false).answers ≡ nos i.answers ++ record { number = i.next; query = r } ∷ []
  nos-no = told-last (λ a. not a.yes) (λ a. record { number = a.number; query = a.query }) i.answers (answer_of false) refl

  pub nos-yes : nos (accepted i r true).answers ≡ nos i.answers
  nos-yes = told-passed (λ a. not a.yes) (λ a. record { number = a.number; query = a.query }) i.answers (answer_of true) refl

  pub no_queries-no : no_queries (accepted i r false).answers ≡ no_queries i.answers ++ r ∷ []
  no_queries-no = told-last (λ a. not a.yes) (λ a. a.query) i.answers (answer_of false) refl

  pub no_queries-yes : no_queries (accepted i r true).answers ≡ no_queries i.answers
  no_queries-yes = told-passed (λ a. not a.yes) (λ a. a.query) i.answers (answer_of true) refl

-- ---- an interview that takes one back

module _ (i : Interview) (a : Answer) (numbered : IsNumbered i) (stands : answer_with i a.number ≡ Some a) where
  pub rising : IsRising (map (λ x. x.number) i.answers)
  rising = rising-from (map (λ x. x.number) i.answers) numbered.in_order

  abbrev others : List Answer
  others = (retracted i a.number).answers

  pub yes_queries-without_yes : a.yes ≡ true → yes_queries others ≡ remove (yes_queries i.answers) (rules_before i.answers a.number)
  yes_queries-without_yes y =
      told-without (λ x. x.yes) (λ x. x.query) a.number a i.answers rising stands y
      ∙ ap (remove (yes_queries i.answers)) (length-filter (λ (x : Answer). x.yes && ltb x.number a.number) i.answers)

  pub yes_queries-without_no : a.yes ≡ false → yes_queries others ≡ yes_queries i.answers
  yes_queries-without_no n = told-same (λ x. x.yes) (λ x. x.query) a.number a i.answers rising stands n

  pub nos-without_yes : a.yes ≡ true → nos others ≡ nos i.answers
  nos-without_yes y = told-same (λ x. not x.yes) (λ x. record { number = x.number; query = x.query }) a.number a i.answers rising stands (ap not y)

  -- a Yes has its place among them
  pub rules_before-within : a.yes ≡ true → rules_before i.answers a.number < length (yes_queries i.answers)
  rules_before-within y =
      let l = told-within (λ x. x.yes) (λ x. x.query) a.number a i.answers rising stands y in
      omega (arith, length-filter (λ (x : Answer). x.yes && ltb x.number a.number) i.answers, l)

  -- and those before it stay
  pub take-yes_queries-without_yes : (j : ℕ) → a.yes ≡ true → j ≤ rules_before i.answers a.number → take j (yes_queries others) ≡ take j (yes_queries i.answers)
  take-yes_queries-without_yes j y few =
      let all = yes_queries i.answers in
      let k = rules_before i.answers a.number in
      let place : k < length all = rules_before-within y in
      ap (take j) (yes_queries-without_yes y)
      ∙ take-append-le j (take k all) (drop (suc k) all) (let l = length-take-le k all (omega arith) in omega arith)
      ∙ take-take j k all few

-- no more Yes answers stand before a number than in all
pub rules_before-few : (m : ℕ) (answers : List Answer) → rules_before answers m ≤ length (yes_queries answers)
rules_before-few m answers =
    let p : Answer → Bool = λ a. a.yes in
    let q : Answer → Bool = λ a. ltb a.number m in
    let passed = filter p answers in
    omega (arith, length-filter (λ a. p a && q a) answers, ap length (filter-both p q answers), length-filter q passed, count_by-le-length q passed, length-map passed (λ a. a.query))
