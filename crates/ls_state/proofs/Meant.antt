-- What is meant by words that name items is of these items.
use Rattle.ls_state.proofs.Vocabulary.{[], ◌++◌, ◌+◌, ◌<◌, ◌∙◌, ◌∷◌, ◌≡◌, CursorFault, Err, IsAfterOn, IsViewOn, IsWithin, Items, List, None, Ok, Option, Result, Some, Text, ViewCommand, ℕ, after_of, bytes_eq, cases_Bool, full, has-empty, inl, inr, is_named, is_named-none, item_of, item_of-some, items_of, length, number_of, placed, position-Some, projected_place, read_cursor, refl, some_read, subst, suc, sym, true, true≢false, unnamed, view_item_words, view_of, with-within, words}
use Rattle.ls_lines.specs.declared.view.ViewCommand.TheVariants as views
use Rattle.ls_set.proofs.Cursors.{only}

-- the set of a cursor, if there is one, is one of n items
pub after-on : (n : ℕ) (after : Option Text) → IsAfterOn n (after_of n after)
after-on n None = λ k e. absurd (cc e)
after-on n (Some w) = go (read_cursor n w) refl
  where
    go : (r : Result Items CursorFault) → read_cursor n w ≡ r → IsAfterOn n (some_read r)
    go (Ok k) e = λ s is. let same : k ≡ s = cc is in subst (λ x. IsWithin x (full n)) same (only n w k e).0
    go (Err fault) e = tt

module _ (names : List Text) where
  item-below : (w : Text) → is_named names w ≡ true → item_of names w < length names
  item-below w named = go (number_of names w) refl
    where
      go : (o : Option ℕ) → number_of names w ≡ o → item_of names w < length names
      go None e = absurd (true≢false (sym named ∙ is_named-none names w e))
      go (Some i) e = subst (λ q. q < length names) (sym (item_of-some names w i e)) (position-Some (bytes_eq w) names i [] e).0

  -- where no word is at fault the first names an item, and no other is at fault
  first_named : (word : ℕ × Text) (words : List (ℕ × Text)) → unnamed names (word ∷ words) ≡ [] → (is_named names word.1 ≡ true) × (unnamed names words ≡ [])
  first_named word words none = elim (cases_Bool (is_named names word.1)) [ inl e ↦ (e, rw e at none) | inr e ↦ absurd (let told = rw e at none in cc told) ]

  both_named : (front words : List (ℕ × Text)) → unnamed names (front ++ words) ≡ [] → (unnamed names front ≡ []) × (unnamed names words ≡ [])
  both_named [] words none = (refl, none)
  both_named (word ∷ front) words none =
      let first = first_named word (front ++ words) none in
      let both = both_named front words first.1 in (rw first.0 both.0, both.1)

  set-within : (ws : List Text) (p : ℕ) → unnamed names (placed p ws) ≡ [] → IsWithin (items_of names ws) (full (length names))
  set-within [] p none = λ k h. absurd (true≢false (sym h ∙ has-empty k))
  set-within (w ∷ ws) p none =
      let first = first_named (p, w) (placed (suc p) ws) none in
      with-within (items_of names ws) (item_of names w) (length names) (set-within ws (suc p) first.1) (item-below w first.0)

  pub view_of-on : (c : ViewCommand) → unnamed names (view_item_words c) ≡ [] → IsViewOn (length names) (view_of names c)
  view_of-on (views.Known ws w) none = tt
  view_of-on views.Ask none = tt
  view_of-on (views.States count after) none = after-on (length names) after
  view_of-on views.Base none = tt
  view_of-on views.Surmise none = tt
  view_of-on views.Learning none = tt
  view_of-on (views.Project count after ws) none = (set-within ws (projected_place after) none, after-on (length names) after)
  view_of-on (views.ProjectBase ws) none = set-within ws 2 none
  view_of-on (views.Fringes ws) none = set-within ws 2 none
  view_of-on (views.StateOf inner outer) none =
      let both = both_named (placed 2 inner) (placed (length inner + 3) outer) none in (set-within inner 2 both.0, set-within outer (length inner + 3) both.1)
  view_of-on (views.Paths count after) none = tt
  view_of-on views.SkillMap none = tt
  view_of-on views.Relation none = tt
