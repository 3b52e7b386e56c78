-- Items that come together, by a walk over the sets of a list.
use Rattle.ls_space.proofs.Vocabulary.{◌&&◌, ◌+◌, ◌++◌, ◌<◌, ◌∙◌, ◌∷◌, ◌≡◌, ◌≤◌, ◌⊎◌, ComesWith, IsWithin, IsWithin-from, Items, List, ℕ, [], among-append, among-cases, and_parts, ap, arith, empty, false, false_from_ne_true, full, get_or, has, has-full, has-meet, has-union, inl, inr, is_among, is_apart, is_missing, is_within, is_within-from, lacks_apart, length, lt-ltb, meet, not, not-true, or_cases, refl, subst, sym, take, take_all, take_more, touches, true, true≢false, union, union-left, union-right}
use Rattle.std.proofs.lemmas.Bool.{cases_eq}
use Rattle.std.proofs.lemmas.Bool.Decides.{nat_tests}
use Rattle.ls_set.proofs.Sets.{members}
use Rattle.ls_set.specs.{with}
use Rattle.ls_laws.proofs.Lists.{some-from}
use Rattle.ls_laws.proofs.Remains.{touches-at}

-- a set among the first i + 1 is among the first i, or the one at place i
pub among-more : (f : List Items) (i : ℕ) (k : Items) → i < length f → k ≡ get_or f i k → (b : Items) → is_among (take (i + 1) f) b ≡ true → (is_among (take i f) b ≡ true) ⊎ (b ≡ k)
among-more f i k l e b c =
    let next : take (i + 1) f ≡ take i f ++ k ∷ [] = take_more f i k l ∙ ap (λ x. take i f ++ x ∷ []) (sym e) in
    elim (or_cases (is_among (take i f) b) (is_among (k ∷ []) b) (sym (among-append (take i f) (k ∷ []) b) ∙ ap (λ ys. is_among ys b) (sym next) ∙ c)) [
      | inl h ↦ inl h
      | inr h ↦ elim (among-cases b k [] h) [ inl same ↦ inr same | inr none ↦ absurd (true≢false (sym none)) ]
    ]

-- ---- what all sets with an item have

pub met-none : (i : ℕ) (m : Items) → i < 512 → m ≡ full 512 → ComesWith [] i m
met-none i m l e = record { itself = ap (λ s. has s i) e ∙ has-full 512 i ∙ lt-ltb i 512 l; together = λ b c. absurd (true≢false (sym c)) }

-- an item comes with itself
pub met-alone : (g : List Items) (i : ℕ) (none m : Items) → none ≡ empty → m ≡ with none i → ComesWith g i m
met-alone g i none m e is = record {
  itself = ap (λ s. has s i) is ∙ rw e (grind (arith, members, nat_tests));
  together = λ b c h j a.
      let here : has (with none i) j ≡ true = ap (λ s. has s j) (sym is) ∙ a in
      let at_i = rw e at here in
      elim (cases_eq j i) [
        | inl q ↦ ap (has b) q ∙ h
        | inr n ↦ absurd (let no : ⊥ = grind (arith, members, nat_tests) in no)
      ];
}

pub met-all : (g : List Items) (n i : ℕ) (m : Items) → length g ≤ n → ComesWith (take n g) i m → ComesWith g i m
met-all g n i m l h = subst (λ ss. ComesWith ss i m) (take_all n g l) h

module _ (g : List Items) (n i : ℕ) (m k v : Items) (l : n < length g) (e : k ≡ get_or g n k) (had : ComesWith (take n g) i m) where
  pub met-taken : has k i ≡ true → v ≡ meet m k → ComesWith (take (n + 1) g) i v
  met-taken t is = record {
    itself = ap (λ s. has s i) is ∙ has-meet m k i ∙ rw (had.itself, t) refl;
    together = λ b c h j a.
        let p = and_parts (has m j) (has k j) (sym (ap (λ s. has s j) is ∙ has-meet m k j) ∙ a) in
        elim (among-more g n k l e b c) [ inl x ↦ had.together b x h j p.0 | inr same ↦ ap (λ s. has s j) same ∙ p.1 ];
  }

  pub met-passed : has k i ≡ false → v ≡ m → ComesWith (take (n + 1) g) i v
  met-passed t is = subst (ComesWith (take (n + 1) g) i) (sym is) record {
    itself = had.itself;
    together = λ b c h. elim (among-more g n k l e b c) [
      | inl x ↦ had.together b x h
      | inr same ↦ absurd (true≢false (sym h ∙ ap (λ s. has s i) same ∙ t))
    ];
  }

-- ---- a set that has all items of the sets

module _ (g : List Items) (n : ℕ) (w k v : Items) (l : n < length g) (e : k ≡ get_or g n k) where
  pub whole-more : ((b : Items) → is_among (take n g) b ≡ true → IsWithin b w) → v ≡ union w k → (b : Items) → is_among (take (n + 1) g) b ≡ true → IsWithin b v
  whole-more had is b c j a = ap (λ s. has s j) is ∙ elim (among-more g n k l e b c) [
    | inl x ↦ union-left w k j (had b x j a)
    | inr same ↦ union-right w k j (sym (ap (λ s. has s j) same) ∙ a)
  ]

-- where the sets have only items of k and grown ones, no union is missing
pub none-apart : (f g : List Items) (k s w : Items) → ((b : Items) → is_among g b ≡ true → IsWithin b w) → is_within w (union k s) ≡ true → lacks_apart f g s k ≡ false
none-apart f g k s w within all = false_from_ne_true (lacks_apart f g s k) (λ t.
    let r = some-from (is_apart f s k) g t in
    let b = r.0 in
    let p = and_parts (not (touches b s)) (not (is_within b k) && is_missing f k b) r.2 in
    let q = and_parts (not (is_within b k)) (is_missing f k b) p.1 in
    let inside : IsWithin b k = λ j a. elim (or_cases (has k j) (has s j) (sym (has-union k s j) ∙ IsWithin-from w (union k s) all j (within b r.1 j a))) [
      | inl h ↦ h
      | inr h ↦ absurd (true≢false (sym (touches-at b s j a h) ∙ not-true (touches b s) p.0))
    ] in
    true≢false (sym (is_within-from b k inside) ∙ not-true (is_within b k) q.0))
