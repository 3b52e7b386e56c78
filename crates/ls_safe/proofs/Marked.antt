-- Answers with a mark at each that is applied: what waits, and what the marks leave of the first
-- family.
use Rattle.std.proofs.Common.{ℕ, zero, suc, ◌≡◌, inl, inr, Bool, true, false, cond, not, ◌&&◌, List}
use Rattle.std.proofs.Common.{[], ◌∷◌, ◌++◌, map, length, append_assoc, append-nil, Option, Some}
use Rattle.std.proofs.Common.{None, option_map, refl, sym, ap, ap₂, ◌∙◌, subst}
use Rattle.std.specs.Option.{option_map_or}
use Rattle.std.proofs.lemmas.Bool.{cases_Bool}
use Rattle.std.proofs.Math.Bool.{and-true, and_assoc}
use Rattle.ls_set.specs.ItemSet.{Items, is_among, numbers_from}
use Rattle.ls_set.specs.declared.query.Query.{Query}
use Rattle.ls_theory.specs.Queries.{breaks}
use Rattle.ls_laws.proofs.Breaks.{among-left}
use Rattle.ls_origins.specs.Safe.{trial, is_safe, applied_first, passes, settled, safe_turn}
use Rattle.ls_origins.specs.Safe.{after_turns, safe, waiting, Marks, marked_first, marked_passes}
use Rattle.ls_origins.specs.Safe.{coming, marked_turn, after_marked_turns, marked}
use Rattle.ls_origins.specs.declared.safe_answer.SafeAnswer.{SafeAnswer}
use Rattle.ls_safe.specs.Turns.{unmarked, is_left}
use Rattle.ls_safe.proofs.Turns.{an_image}

-- ---- marks

-- the first pass over marks is the pass over what waits
pub marked-applied : (n : ℕ) (f : List Items) (answers : List SafeAnswer)
    → applied_first n f (waiting answers) ≡ option_map unmarked (marked_first n f answers)
marked-applied n f [] = refl
marked-applied n f (a ∷ rest) = one n f a.number a.query a.applied rest (marked-applied n f rest)
  where
    through : {X Y : Type 0} (g : X → Y) (h : X → X) (k : X → Y) → ((x : X) → k x ≡ g (h x))
        → (o : Option X) → option_map k o ≡ option_map g (option_map h o)
    through g h k e None = refl
    through g h k e (Some x) = ap Some (e x)

    both : {X Y : Type 0} (up : Y → Y) (g k : X → Y) (h : X → X) → ((x : X) → up (g x) ≡ k (h x))
        → (o : Option X) → option_map up (option_map g o) ≡ option_map k (option_map h o)
    both up g k h e None = refl
    both up g k h e (Some x) = ap Some (e x)

    one : (n : ℕ) (f : List Items) (number : ℕ) (r : Query) (applied : Bool)
        (rest : List SafeAnswer) → applied_first n f (waiting rest)
        ≡ option_map unmarked (marked_first n f rest)
        → applied_first
        n f (waiting (record { number = number; query = r; applied = applied } ∷ rest))
        ≡ option_map
        unmarked
        (marked_first n f (record { number = number; query = r; applied = applied } ∷ rest))
    one n f number r true rest h =
        h ∙
        through
        unmarked
        (λ s.
        record {
          family = s.family;
          answers = record { number = number; query = r; applied = true }
              ∷ s.answers;
        }) unmarked (λ s. refl) (marked_first n f rest)
    one n f number r false rest h = elim (cases_Bool (is_safe n f r)) [
      | inl can ↦ rw can refl
      | inr cannot ↦ rw cannot (
          ap (option_map (λ s. record { family = s.family; waiting = r ∷ s.waiting })) h
          ∙ both (λ s. record { family = s.family; waiting = r ∷ s.waiting }) unmarked unmarked
          (λ s.
          record {
            family = s.family;
            answers = record { number = number; query = r; applied = false }
                ∷ s.answers;
          }) (λ s. refl) (marked_first n f rest))
    ]

pub marked-passes : (n m : ℕ) (s : Marks) → unmarked (marked_passes n m s) ≡ passes n m (unmarked s)
marked-passes n zero s = refl
marked-passes n (suc m) s =
    elim (marked_first n s.family s.answers) as
    (λ o. marked_first n s.family s.answers ≡ o → unmarked (option_map_or (marked_passes n m) o s)
    ≡ passes n (suc m) (unmarked s)) [
      | None
          ↦ λ
          e. sym
          (ap (λ o. option_map_or (passes n m) o (unmarked s))
          (marked-applied n s.family s.answers ∙ ap (option_map unmarked) e))
      | Some t ↦ λ e. marked-passes n m t ∙ sym
          (ap (λ o. option_map_or (passes n m) o (unmarked s))
          (marked-applied n s.family s.answers ∙ ap (option_map unmarked) e))
    ] refl

pub waiting-more : (answers : List SafeAnswer) (number : ℕ) (r : Query)
    → waiting (answers ++ record { number = number; query = r; applied = false } ∷ [])
    ≡ waiting answers ++ r ∷ []
waiting-more [] number r = refl
waiting-more (a ∷ answers) number r = elim (cases_Bool a.applied) [
  | inl on ↦ rw on (waiting-more answers number r)
  | inr off ↦ rw off (ap (λ l. a.query ∷ l) (waiting-more answers number r))
]

pub marked-turn : (n : ℕ) (s : Marks) (r : Query) → unmarked (marked_turn n s r)
    ≡ safe_turn n (unmarked s) r
marked-turn n s r =
    let start : Marks =
    record { family = s.family; answers = s.answers ++ coming s.answers r ∷ [] } in
    marked-passes n (length (waiting start.answers)) start ∙ ap
    (λ l. settled n (record { family = s.family; waiting = l }))
    (waiting-more s.answers (suc (length s.answers)) r)

marked-turns : (n : ℕ) (s : Marks) (answers : List Query)
    → unmarked (after_marked_turns n s answers) ≡ after_turns n (unmarked s) answers
marked-turns n s [] = refl
marked-turns n s (r ∷ rs) =
    marked-turns n (marked_turn n s r) rs ∙ ap (λ t. after_turns n t rs) (marked-turn n s r)

pub marked-safe : (n : ℕ) (f : List Items) (answers : List Query) → unmarked (marked n f answers)
    ≡ safe n f answers
unfolding marked safe
marked-safe n f answers = marked-turns n (record { family = f; answers = [] }) answers

pub marked-more : (n : ℕ) (f : List Items) (answers : List Query) (r : Query)
    → marked n f (answers ++ r ∷ []) ≡ marked_turn n (marked n f answers) r
unfolding marked
marked-more n f answers r = more n (record { family = f; answers = [] }) answers r
  where
    more : (n : ℕ) (s : Marks) (answers : List Query) (r : Query)
        → after_marked_turns n s (answers ++ r ∷ [])
        ≡ marked_turn n (after_marked_turns n s answers) r
    more n s [] r = refl
    more n s (x ∷ answers) r = more n (marked_turn n s x) answers r

-- ---- what the marks say

-- what a mark does not change stays, in its order
pub first-kept : {X : Type 0} (g : SafeAnswer → X)
    → ((a : SafeAnswer) → g (record { number = a.number; query = a.query; applied = true }) ≡ g a)
    → (n : ℕ) (f : List Items) (answers : List SafeAnswer) (s : Marks) → marked_first n f answers
    ≡ Some s → map g s.answers ≡ map g answers
first-kept g same n f [] s e = cc
first-kept g same n f (a ∷ rest) s e =
    elim (not a.applied && is_safe n f a.query) as
    (λ b.
    cond
    {A = Option Marks}
    b (Some
    (record {
      family = trial a.query f;
      answers = record
          { number = a.number; query = a.query; applied = true } ∷ rest;
    }))
    (option_map (λ s. record { family = s.family; answers = a ∷ s.answers })
    (marked_first n f rest)) ≡ Some s → map g s.answers ≡ map g (a ∷ rest)) [
      | true ↦ λ e.
          let
          is :
          record {
            family = trial a.query f;
            answers = record
                { number = a.number; query = a.query; applied = true } ∷ rest;
          } ≡ s = cc in
          ap (λ (t : Marks). map g t.answers) (sym is) ∙ ap (λ x. x ∷ map g rest) (same a)
      | false ↦ λ e.
          let r =
          an_image (λ s. record { family = s.family; answers = a ∷ s.answers })
          (marked_first n f rest) s e in
          ap (λ (t : Marks). map g t.answers) (sym r.2) ∙ ap (λ l. g a ∷ l)
          (first-kept g same n f rest r.0 r.1)
    ] e

pub passes-kept : {X : Type 0} (g : SafeAnswer → X)
    → ((a : SafeAnswer) → g (record { number = a.number; query = a.query; applied = true }) ≡ g a)
    → (n m : ℕ) (s : Marks) → map g (marked_passes n m s).answers ≡ map g s.answers
passes-kept g same n zero s = refl
passes-kept g same n (suc m) s =
    elim (marked_first n s.family s.answers) as
    (λ o. marked_first n s.family s.answers ≡ o
    → map g (option_map_or (marked_passes n m) o s).answers ≡ map g s.answers) [
      | None ↦ λ _. refl
      | Some t ↦ λ e. passes-kept g same n m t ∙ first-kept g same n s.family s.answers t e
    ] refl

turn-kept : {X : Type 0} (g : SafeAnswer → X)
    → ((a : SafeAnswer) → g (record { number = a.number; query = a.query; applied = true }) ≡ g a)
    → (n : ℕ) (s : Marks) (r : Query) → map g (marked_turn n s r).answers ≡ map g s.answers
    ++ g (coming s.answers r) ∷ []
turn-kept g same n s r =
    let start : Marks =
    record { family = s.family; answers = s.answers ++ coming s.answers r ∷ [] } in
    passes-kept g same n (length (waiting start.answers)) start ∙ one_more g s.answers
    (coming s.answers r)
  where
    one_more : {X : Type 0} (g : SafeAnswer → X) (answers : List SafeAnswer) (a : SafeAnswer)
        → map g (answers ++ a ∷ []) ≡ map g answers ++ g a ∷ []
    one_more g [] a = refl
    one_more g (x ∷ answers) a = ap (λ l. g x ∷ l) (one_more g answers a)

turns-queries : (n : ℕ) (s : Marks) (answers : List Query)
    → map (λ a. a.query) (after_marked_turns n s answers).answers ≡ map (λ a. a.query) s.answers
    ++ answers
turns-queries n s [] = sym (append-nil (map (λ a. a.query) s.answers))
turns-queries n s (r ∷ rs) =
    turns-queries n (marked_turn n s r) rs
    ∙ ap (λ l. l ++ rs) (turn-kept (λ a. a.query) (λ a. refl) n s r)
    ∙ append_assoc (map (λ a. a.query) s.answers) (r ∷ []) rs

pub marked-queries : (n : ℕ) (f : List Items) (answers : List Query)
    → map (λ a. a.query) (marked n f answers).answers ≡ answers
unfolding marked
marked-queries n f answers = turns-queries n (record { family = f; answers = [] }) answers

-- the numbers go on from the last one
length-map : {X Y : Type 0} (g : X → Y) (xs : List X) → length (map g xs) ≡ length xs
length-map g [] = refl
length-map g (x ∷ xs) = ap suc (length-map g xs)

turns-numbers : (n : ℕ) (s : Marks) (answers : List Query)
    → map (λ a. a.number) (after_marked_turns n s answers).answers ≡ map (λ a. a.number) s.answers
    ++ numbers_from (suc (length s.answers)) (length answers)
turns-numbers n s [] = sym (append-nil (map (λ a. a.number) s.answers))
turns-numbers n s (r ∷ rs) =
    let t = marked_turn n s r in
    let kept = turn-kept (λ a. a.number) (λ a. refl) n s r in
    let longer : length t.answers ≡ suc (length s.answers) =
    sym (length-map (λ a. a.number) t.answers) ∙ ap length kept ∙ last-longer
    (map (λ a. a.number) s.answers) (suc (length s.answers)) ∙ ap suc
    (length-map (λ a. a.number) s.answers) in
    turns-numbers n t rs
    ∙ ap₂ (λ l m. l ++ numbers_from (suc m) (length rs)) kept longer
    ∙ append_assoc (map (λ a. a.number) s.answers) (suc (length s.answers) ∷ [])
    (numbers_from (suc (suc (length s.answers))) (length rs))
  where
    last-longer : {X : Type 0} (xs : List X) (x : X) → length (xs ++ x ∷ []) ≡ suc (length xs)
    last-longer [] x = refl
    last-longer (y ∷ xs) x = ap suc (last-longer xs x)

pub marked-numbers : (n : ℕ) (f : List Items) (answers : List Query)
    → map (λ a. a.number) (marked n f answers).answers ≡ numbers_from 1 (length answers)
unfolding marked
marked-numbers n f answers = turns-numbers n (record { family = f; answers = [] }) answers

-- the query that is applied: the family is left by it, and so are the marks
record IsLeftBy (f : List Items) (answers : List SafeAnswer) (s : Marks) : Type 0 where
  pub query : Query
  pub family : s.family ≡ trial query f
  pub marks : (k : Items) → is_left s.answers k ≡ (is_left answers k && not (breaks k query))

first-left : (n : ℕ) (f : List Items) (answers : List SafeAnswer) (s : Marks)
    → marked_first n f answers ≡ Some s → IsLeftBy f answers s
first-left n f [] s e = cc
first-left n f (a ∷ rest) s e = one n f a.number a.query a.applied rest s (first-left n f rest) e
  where
    swap : (p q : Bool) → (not (true && p) && q) ≡ (not (false && p) && q && not p)
    swap true true = refl
    swap true false = refl
    swap false true = refl
    swap false false = refl

    keep : (a b c d : Bool) → b ≡ (c && d) → (a && b) ≡ ((a && c) && d)
    keep true b c d e = e
    keep false b c d e = refl

    one : (n : ℕ) (f : List Items) (number : ℕ) (r : Query) (applied : Bool)
        (rest : List SafeAnswer) (s : Marks)
        → ((t : Marks) → marked_first n f rest ≡ Some t → IsLeftBy f rest t)
        → marked_first n f (record { number = number; query = r; applied = applied } ∷ rest)
        ≡ Some s
        → IsLeftBy f (record { number = number; query = r; applied = applied } ∷ rest) s
    one n f number r true rest s h e =
        let i =
        an_image
        (λ s.
        record {
          family = s.family;
          answers = record { number = number; query = r; applied = true }
              ∷ s.answers;
        }) (marked_first n f rest) s e in
        let l = h i.0 i.1 in
        subst (IsLeftBy f (record { number = number; query = r; applied = true } ∷ rest)) i.2
        (record {
          query = l.query;
          family = l.family;
          marks =
              λ k. keep (not (true && breaks k r)) (is_left i.0.answers k) (is_left rest k)
              (not (breaks k l.query)) (l.marks k);
        })
    one n f number r false rest s h e =
        elim
        (is_safe n f r)
        as (λ b. cond {A = Option Marks} b
        (Some
        (record {
          family = trial r f;
          answers = record { number = number; query = r; applied = true }
              ∷ rest;
        }))
        (option_map
        (λ s.
        record {
          family = s.family;
          answers = record { number = number; query = r; applied = false }
              ∷ s.answers;
        }) (marked_first n f rest)) ≡ Some s
        → IsLeftBy f (record { number = number; query = r; applied = false } ∷ rest) s) [
          | true ↦ λ e.
              let
              same
              : record {
                family = trial r f;
                answers = record { number = number; query = r; applied = true }
                    ∷ rest;
              } ≡ s = cc in
              subst
              (IsLeftBy f (record { number = number; query = r; applied = false } ∷ rest))
              same
              (record { query = r; family = refl; marks = λ k. swap (breaks k r) (is_left rest k) })
          | false ↦ λ e.
              let i =
              an_image
              (λ s.
              record {
                family = s.family;
                answers = record { number = number; query = r; applied = false }
                    ∷ s.answers;
              }) (marked_first n f rest) s e in
              let l = h i.0 i.1 in
              subst (IsLeftBy f (record { number = number; query = r; applied = false } ∷ rest)) i.2
              (record {
                query = l.query;
                family = l.family;
                marks =
                    λ k. keep (not (false && breaks k r)) (is_left i.0.answers k) (is_left rest k)
                    (not (breaks k l.query)) (l.marks k);
              })
        ] e

-- the family is what the answers that are applied leave of f
abbrev IsLeft : List Items → Marks → Type 0
IsLeft f s = (k : Items) → is_among s.family k ≡ (is_among f k && is_left s.answers k)

left-passes : (f : List Items) (n m : ℕ) (s : Marks) → IsLeft f s → IsLeft f (marked_passes n m s)
left-passes f n zero s h = h
left-passes f n (suc m) s h =
    elim (marked_first n s.family s.answers) as
    (λ o. marked_first n s.family s.answers ≡ o
    → IsLeft f (option_map_or (marked_passes n m) o s)) [
      | None ↦ λ _. h
      | Some t ↦ λ e.
          let l = first-left n s.family s.answers t e in
          left-passes f n m t (λ k.
          ap (λ g. is_among g k) l.family ∙ among-left s.family l.query k ∙ ap
          (λ b. b && not (breaks k l.query)) (h k)
          ∙ and_assoc (is_among f k) (is_left s.answers k) (not (breaks k l.query)) ∙ ap
          (λ b. is_among f k && b) (sym (l.marks k)))
    ] refl

left-turns : (f : List Items) (n : ℕ) (s : Marks) (answers : List Query) → IsLeft f s
    → IsLeft f (after_marked_turns n s answers)
left-turns f n s [] h = h
left-turns f n s (r ∷ rs) h =
    left-turns f n (marked_turn n s r) rs
    (left-passes f n (length (waiting (s.answers ++ coming s.answers r ∷ [])))
    (record { family = s.family; answers = s.answers ++ coming s.answers r ∷ [] })
    (λ k. h k ∙ ap (λ b. is_among f k && b)
    (sym (one_more s.answers (suc (length s.answers)) r k))))
  where
    one_more : (answers : List SafeAnswer) (number : ℕ) (r : Query) (k : Items)
        → is_left (answers ++ record { number = number; query = r; applied = false } ∷ []) k
        ≡ is_left answers k
    one_more [] number r k = refl
    one_more (a ∷ answers) number r k =
        ap (λ b. not (a.applied && breaks k a.query) && b) (one_more answers number r k)

pub marked-left : (n : ℕ) (f : List Items) (answers : List Query) (k : Items)
    → is_among (marked n f answers).family k
    ≡ (is_among f k && is_left (marked n f answers).answers k)
unfolding marked
marked-left n f answers k =
    left-turns f n (record { family = f; answers = [] }) answers
    (λ k. sym (and-true (is_among f k))) k
