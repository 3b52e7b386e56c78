-- Peaks: one more Yes answer keeps a peak; where there was none, it makes one or not.
use Rattle.ls_base.proofs.Vocabulary.{◌++◌, ◌+◌, ◌<◌, ◌∙◌, ◌∷◌, ◌≡◌, ◌≤◌, Bool, List, None, Option, Peak, Query, Some, Start, ℕ, [], ap, arith, base, base_size, compat, cond, false, find, le-ltb, length, length-append, ltb, numbers_from, option_map, peak, refl, suc, sym, take, take-append-le, true, zero}
use Rattle.std.proofs.Math.Seq.{take-length}
use Rattle.ls_lists.proofs.Options.{none_from_map, map-cond}

-- ---- a search among one number more

find-stays : (p q : ℕ → Bool) (i m k : ℕ) → ((j : ℕ) → j < i + m → p j ≡ q j) → find q (numbers_from i m) ≡ Some k → (find p (numbers_from i (suc m)) ≡ Some k) × (k < i + m)
find-stays p q i zero k same e = cc
find-stays p q i (suc m) k same e =
    elim (q i) as (λ b. q i ≡ b → cond b (Some i) (find q (numbers_from (suc i) m)) ≡ Some k → (find p (numbers_from i (suc (suc m))) ≡ Some k) × (k < i + suc m)) [
      | true ↦ λ a e. let is : i ≡ k = cc in (rw (same i (omega arith) ∙ a) e, omega arith)
      | false ↦ λ a e.
          let rest = find-stays p q (suc i) m k (λ j l. same j (omega arith)) e in
          let below = rest.1 in
          (rw (same i (omega arith) ∙ a) rest.0, omega arith)
    ] refl e

find-last : (p q : ℕ → Bool) (i m last : ℕ) → last ≡ i + m → ((j : ℕ) → j < last → p j ≡ q j) → find q (numbers_from i m) ≡ None → find p (numbers_from i (suc m)) ≡ cond (p last) (Some last) None
find-last p q i zero last at same e = ap (λ x. cond (p x) (Some x) None) (let e : i ≡ last = omega arith in e)
find-last p q i (suc m) last at same e =
    elim (q i) as (λ b. q i ≡ b → cond b (Some i) (find q (numbers_from (suc i) m)) ≡ None → find p (numbers_from i (suc (suc m))) ≡ cond (p last) (Some last) None) [
      | true ↦ λ a e. cc
      | false ↦ λ a e. rw (same i (omega arith) ∙ a) (find-last p q (suc i) m last (omega arith) same e)
    ] refl e

-- ---- peaks

-- the size of the base under the first Yes answers does not depend on those that follow
base_size-more : (n : ℕ) (start : Start) (yeses : List Query) (r : Query) (j : ℕ) → j ≤ length yeses → base_size n start (yeses ++ r ∷ []) j ≡ base_size n start yeses j
base_size-more n start yeses r j l = ap (λ first. length (base (compat n start first))) (take-append-le j yeses (r ∷ []) l)

pub peak-stays : (limit n : ℕ) (start : Start) (yeses : List Query) (r : Query) (p : Peak) → peak limit n start yeses ≡ Some p → peak limit n start (yeses ++ r ∷ []) ≡ Some p
unfolding peak
peak-stays limit n start yeses r p e =
    let more = yeses ++ r ∷ [] in
    let some = λ (o : Option ℕ). option_map (λ j. let k : Peak = record { position = j; count = base_size n start yeses j } in k) o ≡ Some p in
    elim (find (λ j. ltb limit (base_size n start yeses j)) (numbers_from 0 (suc (length yeses)))) as (λ o. find (λ j. ltb limit (base_size n start yeses j)) (numbers_from 0 (suc (length yeses))) ≡ o → some o → peak limit n start more ≡ Some p) [
      | None ↦ λ _ e. cc
      | Some k ↦ λ found e.
          let same = λ (j : ℕ) (l : j < 0 + suc (length yeses)). ap (ltb limit) (base_size-more n start yeses r j (omega arith)) in
          let stays = find-stays (λ j. ltb limit (base_size n start more j)) (λ j. ltb limit (base_size n start yeses j)) 0 (suc (length yeses)) k same found in
          let below = stays.1 in
          ap (λ m. option_map (λ j. let k : Peak = record { position = j; count = base_size n start more j } in k) (find (λ j. ltb limit (base_size n start more j)) (numbers_from 0 (suc m)))) (let e : length more ≡ suc (length yeses) = omega (arith, length-append yeses (r ∷ [])) in e)
          ∙ ap (option_map (λ j. let k : Peak = record { position = j; count = base_size n start more j } in k)) stays.0
          ∙ ap (λ c. let k : Peak = record { position = k; count = c } in Some k) (base_size-more n start yeses r k (omega arith))
          ∙ e
    ] refl e

-- where there was no peak, there is one with the new answer exactly where the base has more sets than the limit
pub peak-new : (limit n : ℕ) (start : Start) (yeses : List Query) (r : Query) → peak limit n start yeses ≡ None
    → let size = length (base (compat n start (yeses ++ r ∷ []))) in peak limit n start (yeses ++ r ∷ []) ≡ cond (ltb limit size) (Some (record { position = length yeses + 1; count = size })) None
unfolding peak
peak-new limit n start yeses r e =
    let more = yeses ++ r ∷ [] in
    let last = length yeses + 1 in
    let all : length more ≡ last = omega (arith, length-append yeses (r ∷ [])) in
    let told = λ (j : ℕ). let k : Peak = record { position = j; count = base_size n start more j } in k in
    let none = none_from_map (λ j. let k : Peak = record { position = j; count = base_size n start yeses j } in k) (find (λ j. ltb limit (base_size n start yeses j)) (numbers_from 0 (suc (length yeses)))) e in
    let whole : take last more ≡ more = ap (λ m. take m more) (sym all) ∙ take-length more in
    ap (λ m. option_map told (find (λ j. ltb limit (base_size n start more j)) (numbers_from 0 (suc m)))) (let e : length more ≡ suc (length yeses) = omega arith in e)
    ∙ ap (option_map told) (find-last (λ j. ltb limit (base_size n start more j)) (λ j. ltb limit (base_size n start yeses j)) 0 (suc (length yeses)) last (omega arith) (λ j l. ap (ltb limit) (base_size-more n start yeses r j (omega arith))) none)
    ∙ map-cond told (ltb limit (base_size n start more last)) last
    ∙ ap (λ first. let size = length (base (compat n start first)) in cond (ltb limit size) (Some (let k : Peak = record { position = last; count = size } in k)) None) whole

pub peak-begun : (limit n : ℕ) (start : Start) → length (base (compat n start [])) ≤ limit → peak limit n start [] ≡ None
unfolding peak
peak-begun limit n start few = rw (le-ltb limit (length (base (compat n start []))) few) refl
