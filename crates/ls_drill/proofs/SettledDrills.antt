-- Each turn answers a query that was not answered, so after as many turns as there are queries none is open.
use Rattle.ls_drill.proofs.Vocabulary.{◌*◌, ◌++◌, ◌<◌, ◌||◌, ◌∙◌, ◌∷◌, ◌≡◌, ◌≤◌, Answer, Bool, Decides-eqb, Decides-is_same, Free, Interview, IsIn, List, None, Option, Query, Some, ℕ, [], accepted, after_turn, after_turns, and_from, ap, arith, begun, cases_Bool, cond, count_by, count_by-le-length, drilled, eqb, false, false_from_ne_true, find-nothing, find-some, inl, inr, is_filled, is_same, is_same_query, is_settled, is_some, list_any, next_question, no_question, not, not-true, not_from_false, option_map, or_left, or_right, queries, refl, reply, suc, sym, true, true≢false, zero}
use Rattle.std.proofs.lemmas.List.Folds.{list_any-append}
use Rattle.ls_drill.proofs.Asking.{question-in, question-open, open-unanswered}
use Rattle.ls_drill.proofs.TurnsTaken.{turn-some, turns-none}
use Rattle.ls_drill.proofs.CountedQueries.{queries-few, count-cons}

-- ---- queries that were not answered

-- the number of the answer
abbrev option_map_number : Option Answer → Option ℕ
option_map_number o = option_map (λ (a : Answer). a.number) o

-- whether the answer is to the query
abbrev is_to : Query → Answer → Bool
is_to r a = is_same_query a.query r

pub filled-any : (i : Interview) (r : Query) → is_filled i r ≡ not (list_any (λ a. is_same_query a.query r) i.answers)
filled-any i r =
    elim (cases_Bool (list_any (is_to r) i.answers)) [
      | inl t ↦ let x = find-some (is_to r) i.answers t in ap (λ (o : Option Answer). not (is_some (option_map_number o))) x.1 ∙ ap not (sym t)
      | inr f ↦ ap (λ (o : Option Answer). not (is_some (option_map_number o))) (find-nothing (is_to r) i.answers f) ∙ ap not (sym f)
    ]

open-filled : (i : Interview) (r : Query) → next_question i None ≡ Some r → is_filled i r ≡ true
open-filled i r e = ap (λ (o : Option Answer). not (is_some (option_map_number o))) (open-unanswered i r (question-open i r e))

-- the query is no longer so once it is answered
answered-out : (i : Interview) (r : Query) (is_yes : Bool) → is_filled (accepted i r is_yes) r ≡ false
answered-out i r is_yes =
    let new : Answer = record { number = i.next; query = r; yes = is_yes } in
    let same : is_same_query r r ≡ true = and_from (is_same r.a r.a) (eqb r.q r.q) ((Decides-is_same r.a r.a).1 refl) ((Decides-eqb r.q r.q).1 refl) in
    filled-any (accepted i r is_yes) r
    ∙ ap not (list_any-append (is_to r) i.answers (new ∷ []) ∙ or_right (list_any (is_to r) i.answers) (is_same_query r r || false) (or_left (is_same_query r r) false same))

-- and no other becomes so
answered-still : (i : Interview) (r s : Query) (is_yes : Bool) → is_filled (accepted i r is_yes) s ≡ true → is_filled i s ≡ true
answered-still i r s is_yes h =
    let new : Answer = record { number = i.next; query = r; yes = is_yes } in
    let none = not-true (list_any (is_to s) (i.answers ++ new ∷ [])) (sym (filled-any (accepted i r is_yes) s) ∙ h) in
    filled-any i s
    ∙ not_from_false (list_any (is_to s) i.answers) (false_from_ne_true (list_any (is_to s) i.answers) (λ t.
    true≢false (sym (list_any-append (is_to s) i.answers (new ∷ []) ∙ or_left (list_any (is_to s) i.answers) (list_any (is_to s) (new ∷ [])) t) ∙ none)))

-- ---- counts

one-le : (a b : Bool) → (a ≡ true → b ≡ true) → cond a 1 0 ≤ cond b 1 0
one-le false b h = omega arith
one-le true b h = let e : cond {A = ℕ} b 1 0 ≡ 1 = ap (λ c. cond {A = ℕ} c 1 0) (h refl) in omega arith

module _ {X : Type 0} (p q : X → Bool) (below : (x : X) → q x ≡ true → p x ≡ true) where
  count-le : (xs : List X) → count_by q xs ≤ count_by p xs
  count-le [] = omega arith
  count-le (x ∷ xs) =
      let a = one-le (q x) (p x) (below x) in
      let b = count-le xs in
      let c = count-cons q x xs in
      let d = count-cons p x xs in
      omega arith

  count-less : (x : X) → p x ≡ true → q x ≡ false → (xs : List X) → IsIn x xs → count_by q xs < count_by p xs
  count-less x t f [] c = absurd c
  count-less x t f (y ∷ xs) c = elim c [
    | inl e ↦
        let a : cond {A = ℕ} (p y) 1 0 ≡ 1 = ap (λ z. cond {A = ℕ} (p z) 1 0) (sym e) ∙ ap (λ b. cond {A = ℕ} b 1 0) t in
        let b : cond {A = ℕ} (q y) 1 0 ≡ 0 = ap (λ z. cond {A = ℕ} (q z) 1 0) (sym e) ∙ ap (λ b. cond {A = ℕ} b 1 0) f in
        let rest = count-le xs in
        let c = count-cons q y xs in
        let d = count-cons p y xs in
        omega arith
    | inr d ↦
        let rest = count-less x t f xs d in
        let a = one-le (q y) (p y) (below y) in
        let c = count-cons q y xs in
        let d = count-cons p y xs in
        omega arith
  ]

-- ---- the turns

pub settled-after : (number turns : ℕ) (i : Interview) → count_by (is_filled i) (queries i.count i.block) ≤ turns → next_question (after_turns number turns i) None ≡ None
unfolding after_turns
settled-after number zero i few =
    elim (next_question i None) as (λ o. next_question i None ≡ o → o ≡ None) [
      | None ↦ λ e. refl
      | Some r ↦ λ e.
          let some' = count-less (is_filled i) (λ s. false) (λ s z. absurd (true≢false (sym z))) r (open-filled i r e) refl (queries i.count i.block) (question-in i r e) in
          absurd (omega arith)
    ] refl
settled-after number (suc turns) i few =
    elim (next_question i None) as (λ o. next_question i None ≡ o → next_question (after_turns number turns (after_turn number i)) None ≡ None) [
      | None ↦ λ e. ap (λ j. next_question j None) (turns-none number (suc turns) i e) ∙ e
      | Some r ↦ λ e.
          let y = reply i.count number r in
          let less = count-less (is_filled i) (is_filled (accepted i r y)) (λ s. answered-still i r s y) r (open-filled i r e) (answered-out i r y) (queries i.count i.block) (question-in i r e) in
          ap (λ j. next_question (after_turns number turns j) None) (turn-some number i r e) ∙ settled-after number turns (accepted i r y) (omega arith)
    ] refl

-- the turns of a drill are enough
pub drilled-settled : (n number : ℕ) → is_settled (drilled n number) ≡ true
unfolding drilled
drilled-settled n number =
    let few = count_by-le-length (is_filled (begun n Free)) (queries n 1) in
    let all = queries-few n in
    (no_question (after_turns number (n * n) (begun n Free))).1 (settled-after number (n * n) (begun n Free) (omega arith))
