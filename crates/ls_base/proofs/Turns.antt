-- Turns of loops over lists of sets.
use Rattle.ls_base.proofs.Vocabulary.{◌+◌, ◌<◌, ◌∙◌, ◌∷◌, ◌≡◌, ◌≤◌, Bool, IsWithin, Items, List, ℕ, [], ap, ap₂, drop, drop-next, drop_all, empty, false, get_or, length, same_within, subst, sym, true, union, union-empty_left, union-empty_right, union-left, union-within, union_assoc}

-- ---- a union of what each set of a list gives

-- the union so far, and what the sets from a place on give, is what all give
abbrev pub IsUnited : (List Items → Items) → Items → List Items → ℕ → Type 0
IsUnited f u sets i = union u (f (drop i sets)) ≡ f sets

-- what a loop gives that joins the sets that it takes, which lie within s
pub record Unites (takes : Items → Bool) (f : List Items → Items) (s : Items) : Type 0 where
  pub none : f [] ≡ empty
  pub taken : (k : Items) → takes k ≡ true → (rest : List Items) → f (k ∷ rest) ≡ union k (f rest)
  pub passed : (k : Items) → takes k ≡ false → (rest : List Items) → f (k ∷ rest) ≡ f rest
  pub within : (rest : List Items) → IsWithin (f rest) s

module _ {takes : Items → Bool} {f : List Items → Items} {s : Items} (h : Unites takes f s) (sets : List Items) (i : ℕ) where
  -- before the first
  pub united-none : (u : Items) → u ≡ empty → IsUnited f u sets 0
  united-none u e = ap (λ v. union v (f sets)) e ∙ union-empty_left (f sets)

  -- after the last
  pub united-all : (u : Items) → length sets ≤ i → IsUnited f u sets i → u ≡ f sets
  united-all u l had = sym (ap (union u) (ap f (drop_all i sets l) ∙ h.none) ∙ union-empty_right u) ∙ had

  module _ (k u v : Items) (l : i < length sets) (e : k ≡ get_or sets i k) (had : IsUnited f u sets i) where
    -- a set is joined
    pub united-taken : takes k ≡ true → v ≡ union u k → IsUnited f v sets (i + 1)
    united-taken t is =
        ap (λ w. union w (f (drop (i + 1) sets))) is ∙ union_assoc u k (f (drop (i + 1) sets)) ∙ ap (union u) (sym (h.taken k t (drop (i + 1) sets)))
        ∙ ap (λ x. union u (f x)) (sym (drop-next sets i k l e)) ∙ had

    -- a set is passed over
    pub united-passed : takes k ≡ false → v ≡ u → IsUnited f v sets (i + 1)
    united-passed t is =
        ap₂ (λ w x. union w x) is (sym (h.passed k t (drop (i + 1) sets))) ∙ ap (λ x. union u (f x)) (sym (drop-next sets i k l e)) ∙ had

    -- where the union has all of s, no more can be joined
    pub united-whole : takes k ≡ true → v ≡ union u k → v ≡ s → v ≡ f sets
    united-whole t is whole =
        let rest = f (drop (i + 1) sets) in
        same_within v (union v rest) (union-left v rest) (subst (λ w. IsWithin (union v rest) w) (sym whole) (union-within v rest s (subst (λ w. IsWithin w s) (sym whole) (λ _ h. h)) (h.within (drop (i + 1) sets))))
        ∙ united-taken t is
