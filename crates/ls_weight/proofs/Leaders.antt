-- The first of greatest weight stands where the first greatest of the weights stands.
use Rattle.ls_weight.proofs.Vocabulary.{◌&&◌, ◌<◌, ◌∙◌, ◌∷◌, ◌≡◌, ◌≤◌, Bool, IsFirstMaxByKey, Items, List, Ratios, Reply, Some, ℕ, [], ap, arith, empty, false, find, first_greatest, get_or, get_or-map, leader, length, length-map, list_all, map, nat_le, nat_tests, refl, slice_get, suc, true, weight, zero}
use Rattle.std.proofs.lemmas.Option.{slice_get-get_or}

-- the first that passes stands at b where the one at b passes, and none before it
find-place : {X : Type 0} (p : X → Bool) (xs : List X) (b : ℕ) (d : X) → b < length xs → p (get_or xs b d) ≡ true → ((k : ℕ) → k < b → p (get_or xs k d) ≡ false) → find p xs ≡ slice_get xs b
find-place p [] b d h e n = absurd (omega arith)
find-place p (x ∷ xs) zero d h e n = rw e refl
find-place p (x ∷ xs) (suc b) d h e n =
    rw (n 0 (omega arith)) (find-place p xs b d (omega arith) e (λ k l. n (suc k) (omega arith)))

-- a test that fails at a place fails for all
list_all-fails : {X : Type 0} (p : X → Bool) (xs : List X) (b : ℕ) (d : X) → b < length xs → p (get_or xs b d) ≡ false → list_all p xs ≡ false
list_all-fails p [] b d h e = absurd (omega arith)
list_all-fails p (x ∷ xs) zero d h e = rw e refl
list_all-fails p (x ∷ xs) (suc b) d h e = rw (list_all-fails p xs b d (omega arith) e) (elim (p x) as (λ t. (t && false) ≡ false) [ true ↦ refl | false ↦ refl ])

-- a test that passes at each place passes for all
list_all-passes : {X : Type 0} (p : X → Bool) (xs : List X) (d : X) → ((k : ℕ) → k < length xs → p (get_or xs k d) ≡ true) → list_all p xs ≡ true
list_all-passes p [] d h = refl
list_all-passes p (x ∷ xs) d h = rw (h 0 (omega arith)) (list_all-passes p xs d (λ k l. h (suc k) (omega arith)))

first_greatest-place : {X : Type 0} (value : X → ℕ) (xs : List X) (b : ℕ) (d : X) → b < length xs → ((k : ℕ) → k < length xs → value (get_or xs k d) ≤ value (get_or xs b d)) → ((k : ℕ) → k < b → value (get_or xs k d) < value (get_or xs b d)) → first_greatest value xs ≡ slice_get xs b
first_greatest-place value xs b d h all before =
    find-place (λ x. list_all (λ y. nat_le (value y) (value x)) xs) xs b d h
    (list_all-passes (λ y. nat_le (value y) (value (get_or xs b d))) xs d (λ k l. let e = all k l in grind (arith, nat_tests)))
    (λ k l. list_all-fails (λ y. nat_le (value y) (value (get_or xs k d))) xs b d h (let e = before k l in grind (arith, nat_tests)))

pub leader-place : (ratios : List Ratios) (replies : List Reply) (f : List Items) (ws : List ℕ) (b : ℕ) → ws ≡ map (weight ratios replies) f → IsFirstMaxByKey (λ w. w) ws (length ws) b → slice_get f b ≡ Some (leader ratios replies f)
unfolding leader
leader-place ratios replies f ws b e best =
    let w = weight ratios replies in
    let long : length ws ≡ length f = ap length e ∙ length-map f w in
    let here : b < length f = omega (arith, best.0) in
    let at : (k : ℕ) → k < length f → get_or ws k 0 ≡ w (get_or f k empty) = λ k l. ap (λ l. get_or l k 0) e ∙ get_or-map w f k empty 0 l in
    let first : first_greatest w f ≡ slice_get f b =
    first_greatest-place w f b empty here
    (λ k l. let t = best.1 k 0 (omega arith) in let a = at k l in let c = at b here in grind (arith, nat_tests))
    (λ k l. let t = best.2 k 0 l in let a = at k (omega arith) in let c = at b here in grind (arith, nat_tests)) in
    let got = slice_get-get_or f b empty here in
    rw (first, got) refl
