-- The first member with a missing union, by a walk over the members.
use Rattle.ls_space.proofs.Vocabulary.{◌++◌, ◌+◌, ◌<◌, ◌∙◌, ◌∷◌, ◌≡◌, ◌≤◌, ComesWith, Decides-is_same, IsGrown, IsInOrder, Items, List, None, Some, ℕ, [], among-append, among-here, ap, drop, drop-next, empty, eqb, eqb-true, false, find, get_or, has, has-empty, has-with, inl, inr, is_among, is_missing, is_same, lacks_apart, length, list_any, option_or, or_cases, or_right, refl, subst, suc, sym, take, take-append-drop, take_all, true, true≢false, union, with, zero}
use Rattle.std.proofs.lemmas.List.Folds.{find-append}
use Rattle.ls_laws.proofs.Lists.{find-none}
use Rattle.ls_clauses.proofs.Fewer.{missing-apart}
use Rattle.ls_space.proofs.Together.{among-more}

-- no union of a set of the list with one of g is missing
abbrev pub IsClean : List Items → List Items → List Items → Type 0
IsClean f g ys = (y : Items) → is_among ys y ≡ true → list_any (is_missing f y) g ≡ false

pub clean-all : (f g : List Items) (i : ℕ) → length f ≤ i → IsClean f g (take i f) → find (λ k. list_any (is_missing f k) g) f ≡ None
clean-all f g i l clean = find-none (λ k. list_any (is_missing f k) g) f (subst (IsClean f g) (take_all i f l) clean)

order-drop : (i : ℕ) (f : List Items) → IsInOrder f → IsInOrder (drop i f)
order-drop zero f order = order
order-drop (suc i) [] order = order
order-drop (suc i) (t ∷ f) order = order-drop i f order.1

-- ---- items that give members

pub grown-none : (f g : List Items) (k s : Items) → s ≡ empty → IsGrown f g k s
grown-none f g k s e i h = absurd (true≢false (sym h ∙ ap (λ s. has s i) e ∙ has-empty i))

pub grown-more : (f g : List Items) (k s m : Items) (i : ℕ) → IsGrown f g k s → has k i ≡ false → ComesWith g i m → is_among f (union k m) ≡ true → IsGrown f g k (with s i)
grown-more f g k s m i had out comes there j h = elim (or_cases (has s j) (eqb j i) (sym (has-with s i j) ∙ h)) [
  | inl a ↦ had j a
  | inr a ↦ let same = eqb-true j i a in (ap (has k) same ∙ out, (m, subst (λ q. ComesWith g q m) (sym same) comes, there))
]

pub at-place : (f : List Items) (i : ℕ) (k s : Items) → i < length f → k ≡ get_or f i k → is_same k s ≡ true → is_among f s ≡ true
at-place f i k s l e same =
    subst (λ t. is_among f t ≡ true) ((Decides-is_same k s).0 same)
    (ap (λ ys. is_among ys k) (sym (ap (λ ys. take i f ++ ys) (sym (drop-next f i k l e)) ∙ take-append-drop i f))
    ∙ among-append (take i f) (k ∷ drop (i + 1) f) k ∙ or_right (is_among (take i f) k) (is_among (k ∷ drop (i + 1) f) k) (among-here k k (drop (i + 1) f) refl))

-- ---- a walk over the members

module _ (f g : List Items) (order : IsInOrder f) (i : ℕ) (k s : Items) (l : i < length f) (e : k ≡ get_or f i k)
    (clean : IsClean f g (take i f)) (grown : IsGrown f g k s) where
  split : take i f ++ k ∷ drop (i + 1) f ≡ f
  split = ap (λ ys. take i f ++ ys) (sym (drop-next f i k l e)) ∙ take-append-drop i f

  fewer : list_any (is_missing f k) g ≡ lacks_apart f g s k
  fewer = missing-apart f g (take i f) (drop (i + 1) f) k s split (subst IsInOrder (drop-next f i k l e) (order-drop i f order)) clean grown

  pub clean-found : lacks_apart f g s k ≡ true → find (λ k. list_any (is_missing f k) g) f ≡ Some k
  clean-found t =
      let p = λ (k : Items). list_any (is_missing f k) g in
      ap (find p) (sym split) ∙ find-append p (take i f) (k ∷ drop (i + 1) f)
      ∙ ap (λ o. option_or o (find p (k ∷ drop (i + 1) f))) (find-none p (take i f) clean) ∙ rw (fewer ∙ t) refl

  pub clean-passed : lacks_apart f g s k ≡ false → IsClean f g (take (i + 1) f)
  clean-passed t y c = elim (among-more f i k l e y c) [
    | inl h ↦ clean y h
    | inr same ↦ ap (λ y. list_any (is_missing f y) g) same ∙ fewer ∙ t
  ]
