-- The first number of those in order is the least.
use Rattle.ls_laws.proofs.Vocabulary.{◌&&◌, ◌<◌, ◌||◌, ◌∷◌, ◌≡◌, ◌≤◌, Bool, IsStrictlyIncreasing, List, No, Some, ℕ, [], and_from, arith, cond, eq-eqb, eqb, false, find, le-leb, leb, list_all, list_any, map, not, option_map, or_left, or_right, refl, sym, tail-increasing, true, true≢false}

-- each later number is greater
later : (m : ℕ) (s : No) (ns : List No) → IsStrictlyIncreasing (map (λ a. a.number) (s ∷ ns)) → m ≤ s.number → list_all (λ a. leb m a.number) ns ≡ true
later m s [] h l = refl
later m s (t ∷ ns) h l =
    let next : s.number < t.number = h 0 (omega arith) in
    and_from (leb m t.number) (list_all (λ a. leb m a.number) ns) (le-leb m t.number (omega arith)) (later m t ns (tail-increasing s.number (map (λ a. a.number) (t ∷ ns)) h) (omega arith))

all_or : (p q : No → Bool) (ns : List No) → list_all q ns ≡ true → list_all (λ a. not (p a) || q a) ns ≡ true
all_or p q [] h = refl
all_or p q (s ∷ ns) h = elim (q s) as (λ b. (b && list_all q ns) ≡ true → ((not (p s) || b) && list_all (λ a. not (p a) || q a) ns) ≡ true) [
  | true ↦ λ h. and_from (not (p s) || true) _ (or_right (not (p s)) true refl) (all_or p q ns h)
  | false ↦ λ h. absurd (true≢false (sym h))
] h

-- the number that is told is that of one that passes
pub first_passes : (p : No → Bool) (ns : List No) (m : ℕ) → option_map (λ a. a.number) (find p ns) ≡ Some m → list_any (λ a. p a && eqb a.number m) ns ≡ true
first_passes p [] m e = absurd (let z : ⊥ = cc in z)
first_passes p (s ∷ ns) m e =
    elim (p s) as (λ b. option_map (λ a. a.number) (cond b (Some s) (find p ns)) ≡ Some m → (b && eqb s.number m || list_any (λ a. p a && eqb a.number m) ns) ≡ true) [
      | true ↦ λ e. or_left (eqb s.number m) _ (eq-eqb s.number m (let same : s.number ≡ m = cc in same))
      | false ↦ λ e. first_passes p ns m e
    ] e

-- and where they stand in order, the least of theirs
pub first_is_least : (p : No → Bool) (ns : List No) (m : ℕ) → IsStrictlyIncreasing (map (λ a. a.number) ns) → option_map (λ a. a.number) (find p ns) ≡ Some m → list_all (λ a. not (p a) || leb m a.number) ns ≡ true
first_is_least p [] m h e = refl
first_is_least p (s ∷ ns) m h e =
    elim (p s) as (λ b. option_map (λ a. a.number) (cond b (Some s) (find p ns)) ≡ Some m → ((not b || leb m s.number) && list_all (λ a. not (p a) || leb m a.number) ns) ≡ true) [
      | true ↦ λ e. let same : s.number ≡ m = cc in and_from (leb m s.number) _ (le-leb m s.number (omega arith)) (all_or p (λ a. leb m a.number) ns (later m s ns h (omega arith)))
      | false ↦ λ e. first_is_least p ns m (tail-increasing s.number (map (λ a. a.number) ns) h) e
    ] e

-- where one passes, a number is told
pub told-any : (p : No → Bool) (ns : List No) → list_any p ns ≡ true → (m : ℕ) × (option_map (λ a. a.number) (find p ns) ≡ Some m)
told-any p [] h = absurd (true≢false (sym h))
told-any p (s ∷ ns) h = elim (p s) as (λ b. (b || list_any p ns) ≡ true → (m : ℕ) × (option_map (λ a. a.number) (cond b (Some s) (find p ns)) ≡ Some m)) [
  | true ↦ λ _. (s.number, refl)
  | false ↦ λ h. told-any p ns h
] h
