-- What stands after each item while the pairs are put in, the last pair first.
use Rattle.ls_drill.proofs.Vocabulary.{◌&&◌, ◌+◌, ◌<◌, ◌||◌, ◌∙◌, ◌∷◌, ◌≡◌, ◌≢◌, ◌≤◌, Bool, Decides-eqb, KeepsHiddenOrder, IsPair, Items, List, ℕ, [], add-one, ap, ap₂, arith, cases_Bool, drop, drop-cons, empty, eqb, false, get_or, get_or-set_other, get_or-set_same, has, has-empty, has-union, has-with, inl, inr, length, length-set, most_drilled, has_chain, refl, related, replicate, set, subst, suc, sym, true, union, with, zero}
use Rattle.ls_drill.proofs.Chains.{reached-implied}

pub none-of : (n a : ℕ) → get_or (replicate n empty) a empty ≡ empty
none-of zero a = refl
none-of (suc n) zero = refl
none-of (suc n) (suc a) = none-of n a

pub none-before : (n : ℕ) (after : List Items) → after ≡ replicate n empty → (a q : ℕ) → has (get_or after a empty) q ≡ false
none-before n after e a q = ap (λ (l : List Items). has (get_or l a empty) q) e ∙ ap (λ s. has s q) (none-of n a) ∙ has-empty q

drop-length : (ps : List (ℕ × ℕ)) → drop (length ps) ps ≡ []
drop-length [] = refl
drop-length (p ∷ ps) = drop-length ps

pub none-reached : (ps : List (ℕ × ℕ)) (after : List Items) (a q : ℕ) → has (get_or after a empty) q ≡ false → has (get_or after a empty) q ≡ has_chain (drop (length ps) ps) a q
unfolding has_chain
none-reached ps after a q e = e ∙ ap (λ (l : List (ℕ × ℕ)). has_chain l a q) (sym (drop-length ps))

or_turned : (x y z : Bool) → (x || (y || z)) ≡ ((true && (z || y)) || x)
or_turned true true true = refl
or_turned true true false = refl
or_turned true false true = refl
or_turned true false false = refl
or_turned false true true = refl
or_turned false true false = refl
or_turned false false true = refl
or_turned false false false = refl

eqb-sym : (x y : ℕ) → eqb x y ≡ eqb y x
eqb-sym x y = grind arith

-- one pair more
put-pair : (after : List Items) (i j : ℕ) (ps : List (ℕ × ℕ)) → i < j → j < length after → ((a q : ℕ) → a < length after → has (get_or after a empty) q ≡ has_chain ps a q)
    → (a q : ℕ) → a < length after → has (get_or (set after i (union (get_or after i empty) (with (get_or after j empty) j))) a empty) q ≡ has_chain ((i, j) ∷ ps) a q
unfolding has_chain
put-pair after i j ps rises small inv a q lt =
    let more = union (get_or after i empty) (with (get_or after j empty) j) in
    elim (cases_Bool (eqb i a)) [
      | inl t ↦
          let e : i ≡ a = (Decides-eqb i a).0 t in
          let here : get_or (set after i more) a empty ≡ more = subst (λ k. get_or (set after i more) k empty ≡ more) e (get_or-set_same after i more empty (omega arith)) in
          ap (λ s. has s q) here ∙ has-union (get_or after i empty) (with (get_or after j empty) j) q
          ∙ ap₂ (λ x y. x || y) (inv i q (omega arith) ∙ ap (λ k. has_chain ps k q) e) (has-with (get_or after j empty) j q ∙ ap₂ (λ x y. x || y) (inv j q small) (eqb-sym q j))
          ∙ or_turned (has_chain ps a q) (has_chain ps j q) (eqb j q)
          ∙ ap (λ b. (b && (eqb j q || has_chain ps j q)) || has_chain ps a q) (sym t)
      | inr f ↦
          let other : a ≢ i = λ e. let g : eqb i a ≡ true = (Decides-eqb i a).1 (sym e) in let z : true ≡ false = sym g ∙ f in cc in
          ap (λ s. has s q) (get_or-set_other after i a more empty other) ∙ inv a q lt ∙ ap (λ b. (b && (eqb j q || has_chain ps j q)) || has_chain ps a q) (sym f)
    ]

pub put-next : (after new : List Items) (pairs : List (ℕ × ℕ)) (place : ℕ) → place < length pairs → IsPair (length after) (get_or pairs place (0, 0))
    → ((a q : ℕ) → a < length after → has (get_or after a empty) q ≡ has_chain (drop (place + 1) pairs) a q)
    → (let p = get_or pairs place (0, 0) in new ≡ set after p.0 (union (get_or after p.0 empty) (with (get_or after p.1 empty) p.1)))
    → (a q : ℕ) → a < length new → has (get_or new a empty) q ≡ has_chain (drop place pairs) a q
put-next after new pairs place lt pair inv e a q small =
    let p = get_or pairs place (0, 0) in
    let more = union (get_or after p.0 empty) (with (get_or after p.1 empty) p.1) in
    let len : length new ≡ length after = ap length e ∙ length-set after p.0 more in
    let below : a < length after = omega arith in
    ap (λ (l : List Items). has (get_or l a empty) q) e
    ∙ put-pair after p.0 p.1 (drop (place + 1) pairs) pair.rises pair.small inv a q below
    ∙ ap (λ (l : List (ℕ × ℕ)). has_chain l a q) (ap (λ k. p ∷ drop k pairs) (add-one place) ∙ sym (drop-cons pairs place (0, 0) lt))

pub kept : (n number : ℕ) (after : List Items) (pairs : List (ℕ × ℕ)) → n ≤ most_drilled → pairs ≡ related n number → length after ≡ n
    → ((a q : ℕ) → a < n → has (get_or after a empty) q ≡ has_chain pairs a q) → KeepsHiddenOrder n number after
kept n number after pairs few e items all = record {
  few = few;
  items = items;
  implies = λ a q lt. all a q lt ∙ ap (λ (l : List (ℕ × ℕ)). has_chain l a q) e ∙ reached-implied n number a q;
}
