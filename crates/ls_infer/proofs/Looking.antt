-- How many block sets a search has looked at.
use Rattle.ls_infer.proofs.Vocabulary.{◌&&◌, ◌*◌, ◌+◌, ◌<◌, ◌∙◌, ◌∷◌, ◌≡◌, ◌≤◌, BlockRange, Bool, IsIn, Items, List, None, Option, Query, Some, ℕ, [], and_from, and_parts, ap, arith, block_before, block_sets, cond, count_by, false, false_from_ne_true, inl, inr, looked_at, not, not-true, not_from_false, refl, sym, true, true≢false}
use Rattle.std.proofs.lemmas.List.Sums.{sum_by-cons}
use Rattle.std.proofs.lemmas.Nat.{mul-le}
use Rattle.ls_infer.specs.Search.{is_from, is_up_to}
use Rattle.ls_query.proofs.BlockOrder.{before-asymmetric, before-transitive}

-- ---- counts

count-cons : {X : Type 0} (p : X → Bool) (x : X) (xs : List X) → count_by p (x ∷ xs) ≡ cond {A = ℕ} (p x) 1 0 + count_by p xs
count-cons p x xs = sum_by-cons (λ y. cond (p y) 1 0) x xs

one-le : (a b : Bool) → (a ≡ true → b ≡ true) → cond a 1 0 ≤ cond b 1 0
one-le false b h = omega arith
one-le true b h = let e : cond {A = ℕ} b 1 0 ≡ 1 = ap (λ c. cond {A = ℕ} c 1 0) (h refl) in omega arith

module _ {X : Type 0} (p q : X → Bool) (below : (x : X) → q x ≡ true → p x ≡ true) where
  count-le : (xs : List X) → count_by q xs ≤ count_by p xs
  count-le [] = omega arith
  count-le (x ∷ xs) =
      let a = one-le (q x) (p x) (below x) in
      let b = count-le xs in
      let c = count-cons q x xs in
      let d = count-cons p x xs in
      omega arith

  count-less : (x : X) → p x ≡ true → q x ≡ false → (xs : List X) → IsIn x xs → count_by q xs < count_by p xs
  count-less x t f [] c = absurd c
  count-less x t f (y ∷ xs) c = elim c [
    | inl e ↦
        let a : cond {A = ℕ} (p y) 1 0 ≡ 1 = ap (λ z. cond {A = ℕ} (p z) 1 0) (sym e) ∙ ap (λ b. cond {A = ℕ} b 1 0) t in
        let b : cond {A = ℕ} (q y) 1 0 ≡ 0 = ap (λ z. cond {A = ℕ} (q z) 1 0) (sym e) ∙ ap (λ b. cond {A = ℕ} b 1 0) f in
        let rest = count-le xs in
        let c = count-cons q y xs in
        let d = count-cons p y xs in
        omega arith
    | inr d ↦
        let rest = count-less x t f xs d in
        let a = one-le (q y) (p y) (below y) in
        let c = count-cons q y xs in
        let d = count-cons p y xs in
        omega arith
  ]

-- ---- the sets of blocks from the first on, up to one of them

not_before : (a b : Items) → (block_before a b ≡ true → block_before b a ≡ true) → block_before a b ≡ false
not_before a b h = false_from_ne_true (block_before a b) (λ e. true≢false (sym (h e) ∙ before-asymmetric a b e))

pub never-before : (a : Items) → block_before a a ≡ false
never-before a = not_before a a (λ e. e)

abbrev pub up_to : BlockRange → Items → Items → ℕ
up_to b first last = count_by (λ a. not (block_before a first) && not (block_before last a)) (block_sets b)

-- where the walk goes on it is one more
pub one-more : (b : BlockRange) (first last set : Items) → block_before last first ≡ false → block_before last set ≡ true → IsIn set (block_sets b)
    → (block_before set first ≡ false) × (up_to b first last < up_to b first set)
one-more b first last set after on here =
    let later = false_from_ne_true (block_before set first) (λ e. true≢false (sym (before-transitive last set first on e) ∙ after)) in (
      later,
      count-less (λ a. not (block_before a first) && not (block_before set a)) (λ a. not (block_before a first) && not (block_before last a)) (λ a h.
          let p = and_parts (not (block_before a first)) (not (block_before last a)) h in
          and_from (not (block_before a first)) (not (block_before set a)) p.0
          (not_from_false (block_before set a) (false_from_ne_true (block_before set a) (λ e. true≢false (sym (before-transitive last set a on e) ∙ not-true (block_before last a) p.1))))) set
          (and_from (not (block_before set first)) (not (block_before set set)) (not_from_false (block_before set first) later) (not_from_false (block_before set set) (never-before set)))
          (ap (λ t. not (block_before set first) && not t) on ∙ none (not (block_before set first)))
          (block_sets b) here,
    )
  where
    none : (t : Bool) → (t && false) ≡ false
    none true = refl
    none false = refl

-- the first is one
pub first-one : (b : BlockRange) (first : Items) → IsIn first (block_sets b) → 1 ≤ up_to b first first
first-one b first here =
    let less = count-less (λ a. not (block_before a first) && not (block_before first a)) (λ a. false) (λ a h. absurd (true≢false (sym h))) first
    (and_from (not (block_before first first)) (not (block_before first first)) (not_from_false (block_before first first) (never-before first)) (not_from_false (block_before first first) (never-before first)))
    refl (block_sets b) here in
    omega arith

-- and all up to one of them are among all
pub up_to-all : (b : BlockRange) (first last : Items) → up_to b first last ≤ looked_at b (Some first) None
up_to-all b first last = count-le (λ a. not (block_before a first) && true) (λ a. not (block_before a first) && not (block_before last a)) (λ a h.
    and_from (not (block_before a first)) true (and_parts (not (block_before a first)) (not (block_before last a)) h).0 refl) (block_sets b)

-- fewer come from a later one on
pub looked_at-later : (b : BlockRange) (first : Option Items) (later : Items) (found : Option Query) → ((a : Items) → is_from (Some later) a ≡ true → is_from first a ≡ true) → looked_at b (Some later) found ≤ looked_at b first found
looked_at-later b first later found below = count-le (λ a. is_from first a && is_up_to found a) (λ a. is_from (Some later) a && is_up_to found a) (λ a h.
    let p = and_parts (is_from (Some later) a) (is_up_to found a) h in
    and_from (is_from first a) (is_up_to found a) (below a p.0) p.1) (block_sets b)

-- ---- what they cost

pub owed-more : (m old before after x y : ℕ) → before + m ≤ old + m * x → after ≤ before + m → x < y → after + m ≤ old + m * y
owed-more m old before after x y owed one less =
    let more : m * (x + 1) ≤ m * y = mul-le m (x + 1) m y (omega arith) (omega arith) in
    let next : m * (x + 1) ≡ m * x + m = grind arith in
    omega arith

pub owed-all : (m old now x y : ℕ) → now + m ≤ old + m * x → x ≤ y → now + m ≤ old + m * y
owed-all m old now x y owed less =
    let more : m * x ≤ m * y = mul-le m x m y (omega arith) less in
    omega arith

pub owed-first : (m old x : ℕ) → 1 ≤ x → old + m ≤ old + m * x
owed-first m old x some =
    let more : m * 1 ≤ m * x = mul-le m 1 m x (omega arith) some in
    omega arith
