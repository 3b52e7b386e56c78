-- The last of the items of a set that pass a test, as a walk through them finds it.
use Rattle.ls_query.proofs.Vocabulary.{◌&&◌, ◌+◌, ◌-◌, ◌<◌, ◌∙◌, ◌≡◌, ◌≤◌, ◌⊎◌, Bool, HasNoMove, IsGreatest, IsLastMove, Items, List, MatchOption, None, Option, Some, ℕ, and_parts, ap, arith, bound, bound-has, cases_Bool, cases_eq, empty, false, false_from_ne_true, filter, has, has-empty, inl, inr, items, ltb, nat_tests, not, numbers_from, refl, same_set, suc, sym, true, true≢false, zero}
use Rattle.std.specs.List.{last_or}
use Rattle.std.specs.Iterator.{Drains}
use Rattle.std.proofs.lemmas.Iterator.{YieldsList, items_from_drains}
use Rattle.ls_lists.proofs.Filters.{filter-both, filter_true}
use Rattle.std.proofs.lemmas.List.{map-id}

-- what `last` gives of an iterator over a list
pub last-yielded : {S A : Type 0} {steps : S → Option A → S → Type 0} {s : S} {all : List A} (r : Option A) → ((xs : List A) × Drains steps s xs × (r ≡ last_or None xs)) → YieldsList steps (λ x. x) s all → r ≡ last_or None all
last-yielded r h e = h.2 ∙ ap (last_or None) (sym (map-id h.0) ∙ items_from_drains h.0 (h.1.1.0, h.1.1.1, λ _. (h.1.0, h.1.1.2)) e)

-- i is the last of the items of a that pass
pub record IsLast (p : ℕ → Bool) (a : Items) (i : ℕ) : Type 0 where
  pub here : has a i ≡ true
  pub passes : p i ≡ true
  pub after : (j : ℕ) → i < j → has a j ≡ true → p j ≡ false

last-number : (p : ℕ → Bool) (i m : ℕ) (d : Option ℕ)
    → ((last_or d (filter p (numbers_from i m)) ≡ d) × ((j : ℕ) → i ≤ j → j < i + m → p j ≡ false))
    ⊎ ((k : ℕ) × (last_or d (filter p (numbers_from i m)) ≡ Some k) × (p k ≡ true) × ((j : ℕ) → k < j → j < i + m → p j ≡ false))
last-number p i zero d = inl (refl, λ j l h. absurd (omega arith))
last-number p i (suc m) d = elim (cases_Bool (p i)) [
  | inl h ↦ elim (last-number p (suc i) m (Some i)) [
    | inl z ↦ inr (i, rw h z.0, h, λ j l u. z.1 j (omega arith) (omega arith))
    | inr z ↦ inr (z.0, rw h z.1, z.2, λ j l u. z.3 j l (omega arith))
  ]
  | inr h ↦ elim (last-number p (suc i) m d) [
    | inl z ↦ inl (rw h z.0, λ j l u. elim (cases_eq j i) [ inl q ↦ ap p q ∙ h | inr q ↦ z.1 j (omega arith) (omega arith) ])
    | inr z ↦ inr (z.0, rw h z.1, z.2, λ j l u. z.3 j l (omega arith))
  ]
]

pub last-passing : (p : ℕ → Bool) (a : Items) → MatchOption (last_or None (filter p (items a))) ((j : ℕ) → has a j ≡ true → p j ≡ false) (IsLast p a)
unfolding items
last-passing p a = rw (filter-both (has a) p (numbers_from 0 (bound a))) (elim (last-number (λ j. has a j && p j) 0 (bound a) None) [
  | inl z ↦ rw z.0 (λ j h. let l : j < bound a = bound-has a j h in sym (ap (λ b. b && p j) h) ∙ z.1 j (omega arith) (omega arith))
  | inr z ↦ rw z.1 (record {
    here = (and_parts (has a z.0) (p z.0) z.2).0;
    passes = (and_parts (has a z.0) (p z.0) z.2).1;
    after = λ j l h. let m : j < bound a = bound-has a j h in sym (ap (λ b. b && p j) h) ∙ z.3 j l (omega arith);
  })
])

-- ---- the last that can move, and the last of all

-- the item above i is one of n items, and is not in a
abbrev pub can_move : ℕ → Items → ℕ → Bool
can_move n a i = ltb i (n - 1) && not (has a (i + 1))

stays : (n : ℕ) (a : Items) (j : ℕ) → j + 1 < n → can_move n a j ≡ false → has a (j + 1) ≡ true
stays n a j l e = let s : j < n - 1 = omega arith in grind (arith, nat_tests)

pub last-move : (n : ℕ) (a : Items) (r : Option ℕ) → r ≡ last_or None (filter (can_move n a) (items a)) → MatchOption r (HasNoMove n a) (IsLastMove n a)
last-move n a r e = elim r as (λ r. MatchOption r ((j : ℕ) → has a j ≡ true → can_move n a j ≡ false) (IsLast (can_move n a) a) → MatchOption r (HasNoMove n a) (IsLastMove n a)) [
  | None ↦ λ none j l h. stays n a j l (none j h)
  | Some i ↦ λ x. let can = x.passes in record {
    room = grind (arith, nat_tests);
    here = x.here;
    free = grind (arith, nat_tests);
    last = λ j l s h. stays n a j s (x.after j l h);
  }
] (rw e (last-passing (can_move n a) a))

pub last-item : (a : Items) (r : Option ℕ) → r ≡ last_or None (items a) → MatchOption r (a ≡ empty) (IsGreatest a)
last-item a r e = elim r as (λ r. MatchOption r ((j : ℕ) → has a j ≡ true → true ≡ false) (IsLast (λ _. true) a) → MatchOption r (a ≡ empty) (IsGreatest a)) [
  | None ↦ λ none. same_set a empty (λ j. false_from_ne_true (has a j) (λ h. true≢false (none j h)) ∙ sym (has-empty j))
  | Some i ↦ λ x. record { here = x.here; above = λ j l. false_from_ne_true (has a j) (λ h. true≢false (x.after j l h)) }
] (rw (e ∙ ap (last_or None) (sym (filter_true (items a)))) (last-passing (λ _. true) a))
