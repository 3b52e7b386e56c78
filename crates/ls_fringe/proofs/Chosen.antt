-- Items chosen one after another.
use Rattle.ls_fringe.proofs.Vocabulary.{◌&&◌, ◌<◌, ◌∙◌, ◌∷◌, ◌≡◌, ◌⊎◌, Bool, IsIn, IsWithin, Items, List, None, Option, Some, ℕ, [], and_parts, ap, arith, bound, cases_eq, cond, empty, false, filter-in, full, has, has-empty, has-inner_fringe, in-items, inl, inner_fringe, inr, interior, is_among, is_some, is_within, items, members, nat_tests, numbers_from, refl, same_within, sym, true, true≢false, with, without}
use Rattle.ls_laws.specs.Families.{IsFamily}
use Rattle.ls_laws.proofs.Interiors.{is_within-interior}
use Rattle.ls_interior.specs.Keeping.{interior_keeping}

pub inner-within : (f : List Items) (k : Items) → IsWithin (inner_fringe f k) k
inner-within f k i h = (and_parts (has k i) (is_among f (without k i)) (sym (has-inner_fringe f k i) ∙ h)).0

pub item-small : (n i : ℕ) → has (full n) i ≡ true → i < n
item-small n i h = grind (arith, members, nat_tests)

-- the items of the inner fringe among those of the set that are not left
pub record Taking (fringe whole : Items) (left : List ℕ) (taken : Items) : Type 0 where
  pub part : IsWithin taken fringe
  pub rest : (i : ℕ) → has fringe i ≡ true → IsIn i left ⊎ (has taken i ≡ true)
  pub inside : (i : ℕ) → IsIn i left → has whole i ≡ true

pub Taking-first : (fringe whole : Items) → IsWithin fringe whole → Taking fringe whole (items whole) empty
unfolding items
Taking-first fringe whole within = record {
  part = λ i h. absurd (true≢false (sym h ∙ has-empty i));
  rest = λ i h. inl (in-items whole i (within i h));
  inside = λ i h. (filter-in (has whole) (numbers_from 0 (bound whole)) i h).1;
}

pub Taking-taken : (fringe whole taken : Items) (i : ℕ) (left : List ℕ) → Taking fringe whole (i ∷ left) taken → has fringe i ≡ true → Taking fringe whole left (with taken i)
Taking-taken fringe whole taken i left t c = record {
  part = λ j h. elim (cases_eq j i) [ inl e ↦ ap (has fringe) e ∙ c | inr n ↦ t.part j (let before : has taken j ≡ true = grind (arith, members, nat_tests) in before) ];
  rest = λ j h. elim (t.rest j h) [
    | inl (inl e) ↦ inr (rw e (grind (arith, members, nat_tests)))
    | inl (inr x) ↦ inl x
    | inr x ↦ inr (grind (arith, members, nat_tests))
  ];
  inside = λ j h. t.inside j (inr h);
}

pub Taking-passed : (fringe whole taken : Items) (i : ℕ) (left : List ℕ) → Taking fringe whole (i ∷ left) taken → has fringe i ≡ false → Taking fringe whole left taken
Taking-passed fringe whole taken i left t c = record {
  part = t.part;
  rest = λ j h. elim (t.rest j h) [
    | inl (inl e) ↦ absurd (true≢false (sym h ∙ ap (has fringe) e ∙ c))
    | inl (inr x) ↦ inl x
    | inr x ↦ inr x
  ];
  inside = λ j h. t.inside j (inr h);
}

pub Taking-done : (fringe whole taken : Items) (left : List ℕ) → Taking fringe whole left taken → left ≡ [] → taken ≡ fringe
Taking-done fringe whole taken left t e = same_within taken fringe t.part (λ i h. elim (t.rest i h) [ inl x ↦ absurd (none i left e x) | inr x ↦ x ])
  where
    none : (i : ℕ) (left : List ℕ) → left ≡ [] → IsIn i left → ⊥
    none i [] e x = x
    none i (j ∷ left) e x = let no : ⊥ = cc in no

-- ---- an item of the inner fringe

found-some : (b : Bool) (s : Items) → is_some (cond b (Some s) None) ≡ b
found-some true s = refl
found-some false s = refl

-- the interior without the item has all the rest where the rest is a member
pub inner-found : (n : ℕ) (f : List Items) (k rest : Items) (i : ℕ) (found : Option Items) → IsFamily n f → rest ≡ without k i → has k i ≡ true → found ≡ interior_keeping f (without k i) rest → is_some found ≡ has (inner_fringe f k) i
inner-found n f k rest i found family r h e =
    let s = without k i in
    ap is_some e ∙ found-some (is_within rest (interior f s)) (interior f s) ∙ ap (λ t. is_within t (interior f s)) r
    ∙ is_within-interior f family.holds_empty family.holds_unions s
    ∙ sym (has-inner_fringe f k i ∙ ap (λ b. b && is_among f s) h)
