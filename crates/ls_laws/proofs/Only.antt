-- A test that one list in order passes finds it alone among the sublists.
use Rattle.ls_laws.proofs.Vocabulary.{◌++◌, ◌∙◌, ◌∷◌, ◌≡◌, All-none, Bool, IsInOrder, IsPart, Items, List, [], among-cases, among-here, among-there, ap, ap₂, filter, filter-append, filter-map, inl, inr, is_among, map, refl, sublists, subst, sym, true, true≢false}
use Rattle.ls_laws.proofs.Lists.{not_among, tail_part}
use Rattle.ls_laws.proofs.Search.{IsPart-cons, in_order-cons, past_head, sublists-each}

none_passes : (q : List Items → Bool) (g : List Items) → IsInOrder g → ((f : List Items) → IsInOrder f → IsPart f g → q f ≡ true → ⊥) → filter q (sublists g) ≡ []
none_passes q g o h = All-none q (sublists g) (sublists-each (λ f. q f ≡ true → ⊥) g o h)

-- f is the only list in order of members of g that passes
pub record IsOnly (q : List Items → Bool) (g f : List Items) : Type 0 where
  pub in_order : IsInOrder f
  pub part : IsPart f g
  pub passes : q f ≡ true
  pub only : (h : List Items) → IsInOrder h → IsPart h g → q h ≡ true → h ≡ f

split : (q : List Items → Bool) (x : Items) (xs : List Items) → filter q (sublists (x ∷ xs)) ≡ map (λ ys. x ∷ ys) (filter (λ ys. q (x ∷ ys)) (sublists xs)) ++ filter q (sublists xs)
split q x xs = filter-append q (map (λ ys. x ∷ ys) (sublists xs)) (sublists xs) ∙ ap (λ l. l ++ filter q (sublists xs)) (filter-map q (λ ys. x ∷ ys) (sublists xs))

-- f without x
only_past : (q : List Items → Bool) (x : Items) (xs f : List Items) → IsInOrder (x ∷ xs) → IsOnly q (x ∷ xs) f → IsPart f xs → filter q (sublists xs) ≡ f ∷ [] → filter q (sublists (x ∷ xs)) ≡ f ∷ []
only_past q x xs f o is part rest =
    split q x xs
    ∙ ap₂ (λ a b. map (λ ys. x ∷ ys) a ++ b)
    (none_passes (λ ys. q (x ∷ ys)) xs o.1 (λ h k p e.
    let same = is.only (x ∷ h) (in_order-cons x xs h o k p) (IsPart-cons x h xs p) e in
    not_among x xs o.0 (part x (subst (λ f. is_among f x ≡ true) same (among-here x x h refl)))))
    rest

-- f with x
only_with : (q : List Items → Bool) (x : Items) (xs ys : List Items) → IsInOrder (x ∷ xs) → IsOnly q (x ∷ xs) (x ∷ ys) → filter (λ ys. q (x ∷ ys)) (sublists xs) ≡ ys ∷ [] → filter q (sublists (x ∷ xs)) ≡ (x ∷ ys) ∷ []
only_with q x xs ys o is rest =
    split q x xs
    ∙ ap₂ (λ a b. map (λ ys. x ∷ ys) a ++ b) rest
    (none_passes q xs o.1 (λ h k p e.
    let same = is.only h k (λ t c. among-there t x xs (p t c)) e in
    not_among x xs o.0 (p x (subst (λ f. is_among f x ≡ true) (sym same) (among-here x x ys refl)))))

tail_of : (x y : Items) (xs ys : List Items) → x ∷ xs ≡ y ∷ ys → xs ≡ ys
tail_of x y xs ys e = cc

pub filter_only : (q : List Items → Bool) (g : List Items) → IsInOrder g → (f : List Items) → IsOnly q g f → filter q (sublists g) ≡ f ∷ []
filter_only q [] o [] is = rw is.passes refl
filter_only q [] o (y ∷ ys) is = absurd (true≢false (sym (is.part y (among-here y y ys refl))))
filter_only q (x ∷ xs) o [] is =
    let part : IsPart [] xs = λ t c. absurd (true≢false (sym c)) in
    only_past q x xs [] o is part (filter_only q xs o.1 [] (record { in_order = tt; part = part; passes = is.passes; only = λ h k p e. is.only h k (λ t c. among-there t x xs (p t c)) e }))
filter_only q (x ∷ xs) o (y ∷ ys) is =
    elim (among-cases y x xs (is.part y (among-here y y ys refl))) [
      | inl e ↦
          let this : IsOnly q (x ∷ xs) (x ∷ ys) = subst (λ t. IsOnly q (x ∷ xs) (t ∷ ys)) e is in
          subst (λ t. filter q (sublists (x ∷ xs)) ≡ (t ∷ ys) ∷ []) (sym e)
          (only_with q x xs ys o this (filter_only (λ ys. q (x ∷ ys)) xs o.1 ys (record {
            in_order = this.in_order.1;
            part = tail_part x ys xs this.in_order this.part;
            passes = this.passes;
            only = λ h k p e. tail_of x x h ys (this.only (x ∷ h) (in_order-cons x xs h o k p) (IsPart-cons x h xs p) e);
          })))
      | inr a ↦
          let part = past_head x xs y ys o is.in_order a is.part in
          only_past q x xs (y ∷ ys) o is part (filter_only q xs o.1 (y ∷ ys) (record { in_order = is.in_order; part = part; passes = is.passes; only = λ h k p e. is.only h k (λ t c. among-there t x xs (p t c)) e }))
    ]
