-- The questions of an interview, and a table told by its own blocks.
use Rattle.ls_expert.proofs.Vocabulary.{BlockRange, Bool, IfSome, Interview, IsIn, List, None, Option, Query, Some, TableState, [], ap, comes_after, compatible_sets, cond, false, false_from_ne_true, filter, find, good-to, inl, inr, is_good, is_open, is_settled, is_some, next_question, no_question, nos, not, nothing, queries, queries-in, query_before, refl, single_items, spaces_of, sym, table_of, true, true≢false, ◌∙◌, ◌∷◌, ◌≡◌}
use Rattle.ls_lists.proofs.Elements.{filter-in}

-- a table of the interview, told by its own blocks
pub own_blocks : (i : Interview) (t : TableState) → t ≡ table_of (single_items i.count) (compatible_sets i) (nos i.answers) → t ≡ table_of t.blocks (compatible_sets i) (nos i.answers)
own_blocks i t h = h ∙ ap (λ (b : BlockRange). table_of b (compatible_sets i) (nos i.answers)) (sym (ap (λ (t : TableState). t.blocks) h))

-- ---- questions

found-in : {X : Type 0} (p : X → Bool) (xs : List X) (x : X) → find p xs ≡ Some x → IsIn x xs
found-in p [] x e = cc
found-in p (y ∷ ys) x e = elim (p y) as (λ b. cond b (Some y) (find p ys) ≡ Some x → IsIn x (y ∷ ys)) [
  | true ↦ λ e. let same : y ≡ x = cc in inl (sym same)
  | false ↦ λ e. inr (found-in p ys x e)
] e

-- the next question can be asked
pub question-good : (i : Interview) (last : Option Query) → IfSome (next_question i last) (λ r. is_good i.count r ≡ true)
unfolding next_question
question-good i last =
    elim (find (is_open (spaces_of i)) (filter (comes_after query_before last) (queries i.count i.block))) as
    (λ o. find (is_open (spaces_of i)) (filter (comes_after query_before last) (queries i.count i.block)) ≡ o → IfSome o (λ r. is_good i.count r ≡ true)) [
      | None ↦ λ _. tt
      | Some r ↦ λ e. good-to i.count r (queries-in i.count i.block r (filter-in (comes_after query_before last) (queries i.count i.block) r (found-in (is_open (spaces_of i)) (filter (comes_after query_before last) (queries i.count i.block)) r e)).0).0
    ] refl

-- the interview is settled where there is no first question
pub settled-is : (i : Interview) (r : Option Query) (b : Bool) → r ≡ next_question i None → is_some r ≡ not b → b ≡ is_settled i
settled-is i r true e h = let none : is_some r ≡ false = h in sym ((no_question i).1 (sym e ∙ nothing r none))
settled-is i r false e h = sym (false_from_ne_true (is_settled i) (λ t. let none : r ≡ None = e ∙ (no_question i).0 t in true≢false (sym h ∙ ap is_some none)))
