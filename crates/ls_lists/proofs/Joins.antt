-- Lists of bytes joined by a byte, and one more word.
use Rattle.ls_lists.proofs.Vocabulary.{◌++◌, ◌+◌, ◌<◌, ◌∙◌, ◌∷◌, ◌≡◌, ◌≤◌, List, ℕ, [], ap, append-nil, append_assoc, arith, cond, eqb, flat_map-append, gap, get_or, join_with_byte, length, length-append, map, map-append, ne_eqb, refl, spaced, suc, sym, take, take_more, zero}

-- ---- one more word

pub join-snoc : (xs : List (List ℕ)) (y : List ℕ) → join_with_byte 32 (xs ++ y ∷ []) ≡ join_with_byte 32 xs ++ (gap xs ++ y)
join-snoc [] y = refl
join-snoc (x ∷ []) y = refl
join-snoc (x ∷ z ∷ xs) y = ap (λ l. x ++ (32 ∷ l)) (join-snoc (z ∷ xs) y) ∙ sym (append_assoc x (32 ∷ join_with_byte 32 (z ∷ xs)) (32 ∷ y))

pub gap-snoc : {X : Type 0} (xs : List X) (y : X) → 32 ∷ [] ≡ gap (xs ++ y ∷ [])
gap-snoc [] y = refl
gap-snoc (x ∷ xs) y = refl

module _ {X : Type 0} (f : X → List ℕ) where
  pub gap-map : (xs : List X) → gap xs ≡ gap (map f xs)
  gap-map [] = refl
  gap-map (x ∷ xs) = refl

  pub gap-take : (xs : List X) (i : ℕ) → i < length xs → gap (map f (take i xs)) ≡ cond (eqb i 0) [] (32 ∷ [])
  gap-take [] i h = absurd (omega arith)
  gap-take (x ∷ xs) zero h = refl
  gap-take (x ∷ xs) (suc i) h = rw (ne_eqb (suc i) 0 (λ e. omega arith)) refl

  pub join_more : (xs : List X) (y : X) → join_with_byte 32 (map f xs) ++ (gap xs ++ f y) ≡ join_with_byte 32 (map f (xs ++ y ∷ []))
  join_more xs y = ap (λ g. join_with_byte 32 (map f xs) ++ (g ++ f y)) (gap-map xs) ∙ sym (ap (join_with_byte 32) (map-append f xs (y ∷ [])) ∙ join-snoc (map f xs) (f y))

  pub join_next : (xs : List X) (i : ℕ) (d : X) → i < length xs
      → join_with_byte 32 (map f (take i xs)) ++ (cond (eqb i 0) [] (32 ∷ []) ++ f (get_or xs i d)) ≡ join_with_byte 32 (map f (take (i + 1) xs))
  join_next xs i d h =
      let front = map f (take i xs) in
      sym (ap (join_with_byte 32) (ap (map f) (take_more xs i d h) ∙ map-append f (take i xs) (get_or xs i d ∷ []))
      ∙ join-snoc front (f (get_or xs i d)) ∙ ap (λ g. join_with_byte 32 front ++ (g ++ f (get_or xs i d))) (gap-take xs i h))

  -- ---- pieces, each behind a space

  pub spaced-next : (xs : List X) (i : ℕ) (d : X) → i < length xs → (spaced f (take i xs) ++ 32 ∷ []) ++ f (get_or xs i d) ≡ spaced f (take (i + 1) xs)
  spaced-next xs i d h =
      append_assoc (spaced f (take i xs)) (32 ∷ []) (f (get_or xs i d))
      ∙ ap (λ l. spaced f (take i xs) ++ l) (sym (append-nil (32 ∷ f (get_or xs i d))))
      ∙ sym (ap (spaced f) (take_more xs i d h) ∙ flat_map-append (λ x. 32 ∷ f x) (take i xs) (get_or xs i d ∷ []))

-- words, and then such pieces
pub join-spaced-one : {X : Type 0} (w : List ℕ) (f : X → List ℕ) (xs : List X) → w ++ spaced f xs ≡ join_with_byte 32 (w ∷ map f xs)
join-spaced-one w f [] = append-nil w
join-spaced-one w f (x ∷ xs) = ap (λ l. w ++ (32 ∷ l)) (join-spaced-one (f x) f xs)

pub join-spaced : {X : Type 0} (ws : List (List ℕ)) (f : X → List ℕ) (xs : List X) → 0 < length ws → join_with_byte 32 ws ++ spaced f xs ≡ join_with_byte 32 (ws ++ map f xs)
join-spaced [] f xs h = absurd (omega arith)
join-spaced (w ∷ []) f xs h = join-spaced-one w f xs
join-spaced (w ∷ v ∷ ws) f xs h = append_assoc w (32 ∷ join_with_byte 32 (v ∷ ws)) (spaced f xs) ∙ ap (λ l. w ++ (32 ∷ l)) (join-spaced (v ∷ ws) f xs (omega arith))

-- ---- how long

pub join-rest : (byte : ℕ) (l : List ℕ) (ls : List (List ℕ)) → length (join_with_byte byte ls) ≤ length (join_with_byte byte (l ∷ ls))
join-rest byte l [] = omega arith
join-rest byte l (k ∷ ls) = omega (arith, length-append l (byte ∷ join_with_byte byte (k ∷ ls)))

pub join-back : (byte : ℕ) (ls ks : List (List ℕ)) → length (join_with_byte byte ks) ≤ length (join_with_byte byte (ls ++ ks))
join-back byte [] ks = omega arith
join-back byte (l ∷ ls) ks = omega (arith, join-back byte ls ks, join-rest byte l (ls ++ ks))
