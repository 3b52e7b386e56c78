-- Atoms: each item of a member is in an atom at it that lies within the member. So the base spans, and every list of members that spans has it.
use Rattle.ls_laws.proofs.Vocabulary.{◌&&◌, ◌∙◌, ◌∷◌, ◌≡◌, ◌≤◌, ◌⊎◌, Bool, Decides-is_same, IsPart, IsWithin, IsWithin-from, Items, List, Spans, ℕ, [], among-cases, among-filter, among-here, among-there, and_from, and_parts, ap, arith, base, cases_Bool, cases_lt, false, false_from_ne_true, has, in-some, inl, inr, is_among, is_atom_at, is_same, is_within, is_within-from, items, len, list_any, not, not-true, not_from_false, refl, some_of, subst, sym, true, true≢false, unions}
use Rattle.ls_laws.proofs.Listed.{in-items}
use Rattle.ls_laws.proofs.Lists.{some-among, some-from}
use Rattle.ls_laws.proofs.Interiors.{has-unions, from-interior, interior-whole}
use Rattle.ls_laws.proofs.Counts.{as_many}

-- ---- a member with the fewest items

pub record IsFewest (p : Items → Bool) (f : List Items) (m : Items) : Type 0 where
  pub member : is_among f m ≡ true
  pub passes : p m ≡ true
  pub fewest : (l : Items) → is_among f l ≡ true → p l ≡ true → len m ≤ len l

some_fewest : (p : Items → Bool) (f : List Items) → ((l : Items) → is_among f l ≡ true → p l ≡ false) ⊎ ((m : Items) × IsFewest p f m)
some_fewest p [] = inl (λ l c. absurd (true≢false (sym c)))
some_fewest p (t ∷ f) =
    elim (cases_Bool (p t)) [
      | inl a ↦ elim (some_fewest p f) [
        | inl none ↦ inr (
          t,
          record {
            member = among-here t t f refl;
            passes = a;
            fewest = λ l c h. elim (among-cases l t f c) [ inl e ↦ subst (λ u. len t ≤ len u) (sym e) (omega arith) | inr b ↦ absurd (true≢false (sym h ∙ none l b)) ];
          },
        )
        | inr r ↦ let best = r.1 in elim (cases_lt (len r.0) (len t)) [
          | inl less ↦ inr (
            r.0,
            record {
              member = among-there r.0 t f best.member;
              passes = best.passes;
              fewest = λ l c h. elim (among-cases l t f c) [ inl e ↦ subst (λ u. len r.0 ≤ len u) (sym e) (omega arith) | inr b ↦ best.fewest l b h ];
            },
          )
          | inr more ↦ inr (
            t,
            record {
              member = among-here t t f refl;
              passes = a;
              fewest = λ l c h. elim (among-cases l t f c) [ inl e ↦ subst (λ u. len t ≤ len u) (sym e) (omega arith) | inr b ↦ let x = best.fewest l b h in omega arith ];
            },
          )
        ]
      ]
      | inr a ↦ elim (some_fewest p f) [
        | inl none ↦ inl (λ l c. elim (among-cases l t f c) [ inl e ↦ ap p e ∙ a | inr b ↦ none l b ])
        | inr r ↦ let best = r.1 in inr (
          r.0,
          record {
            member = among-there r.0 t f best.member;
            passes = best.passes;
            fewest = λ l c h. elim (among-cases l t f c) [ inl e ↦ absurd (true≢false (sym h ∙ ap p e ∙ a)) | inr b ↦ best.fewest l b h ];
          },
        )
      ]
    ]

pub fewest_of : (p : Items → Bool) (f : List Items) (k : Items) → is_among f k ≡ true → p k ≡ true → (m : Items) × IsFewest p f m
fewest_of p f k c h = elim (some_fewest p f) [ inl none ↦ absurd (true≢false (sym h ∙ none k c)) | inr r ↦ r ]

-- ---- atoms

-- a member with q that is within no other member with q but those that have it whole
pub record IsAtom (f : List Items) (q : ℕ) (k : Items) : Type 0 where
  pub member : is_among f k ≡ true
  pub has_q : has k q ≡ true
  pub least : (l : Items) → is_among f l ≡ true → IsWithin l k → has l q ≡ true → l ≡ k

-- a smaller member with q
abbrev lesser : ℕ → Items → Items → Bool
lesser q k l = has l q && is_within l k && not (is_same l k)

pub IsAtom-from : (f : List Items) (q : ℕ) (k : Items) → is_among f k ≡ true → is_atom_at f q k ≡ true → IsAtom f q k
IsAtom-from f q k c h =
    let b = and_parts (has k q) (not (list_any (lesser q k) f)) h in
    record {
      member = c;
      has_q = b.0;
      least = λ l cl w hq. elim (cases_Bool (is_same l k)) [
        | inl e ↦ (Decides-is_same l k).0 e
        | inr e ↦ absurd (true≢false (sym (some-among (lesser q k) f l cl (and_from (has l q && is_within l k) (not (is_same l k)) (and_from (has l q) (is_within l k) hq (is_within-from l k w)) (not_from_false (is_same l k) e))) ∙ not-true (list_any (lesser q k) f) b.1))
      ];
    }

pub is_atom_at-from : (f : List Items) (q : ℕ) (k : Items) → IsAtom f q k → is_atom_at f q k ≡ true
is_atom_at-from f q k a =
    and_from (has k q) (not (list_any (lesser q k) f)) a.has_q
    (not_from_false (list_any (lesser q k) f) (false_from_ne_true (list_any (lesser q k) f) (λ h.
    let x = some-from (lesser q k) f h in
    let y = and_parts (has x.0 q && is_within x.0 k) (not (is_same x.0 k)) x.2 in
    let z = and_parts (has x.0 q) (is_within x.0 k) y.0 in
    true≢false (sym ((Decides-is_same x.0 k).1 (a.least x.0 x.1 (IsWithin-from x.0 k z.1) z.0)) ∙ not-true (is_same x.0 k) y.1))))

-- an atom is in the base
pub among-base : (f : List Items) (q : ℕ) (k : Items) → IsAtom f q k → is_among (base f) k ≡ true
unfolding base
among-base f q k a =
    among-filter (λ k. list_any (λ q. is_atom_at f q k) (items k)) f k
    ∙ and_from (is_among f k) (list_any (λ q. is_atom_at f q k) (items k)) a.member
    (in-some (λ q. is_atom_at f q k) (items k) q (in-items k q a.has_q) (is_atom_at-from f q k a))

-- and a base set is an atom at some item
pub base-atom : (f : List Items) (k : Items) → is_among (base f) k ≡ true → (q : ℕ) × IsAtom f q k
unfolding base
base-atom f k c =
    let h = and_parts (is_among f k) (list_any (λ q. is_atom_at f q k) (items k)) (sym (among-filter (λ k. list_any (λ q. is_atom_at f q k) (items k)) f k) ∙ c) in
    let r = some_of (λ q. is_atom_at f q k) (items k) h.1 in
    (r.0, IsAtom-from f r.0 k h.0 r.1)

-- each item of a member is in an atom at it within the member
pub atom_within : (f : List Items) (k : Items) (q : ℕ) → is_among f k ≡ true → has k q ≡ true → (a : Items) × IsAtom f q a × IsWithin a k
atom_within f k q c h =
    let p = λ (l : Items). is_within l k && has l q in
    let r = fewest_of p f k c (and_from (is_within k k) (has k q) (is_within-from k k (λ i x. x)) h) in
    let best = r.1 in
    let x = and_parts (is_within r.0 k) (has r.0 q) best.passes in
    let w = IsWithin-from r.0 k x.0 in (
      r.0,
      record {
        member = best.member;
        has_q = x.1;
        least = λ l cl wl hl. as_many l r.0 wl (best.fewest l cl (and_from (is_within l k) (has l q) (is_within-from l k (λ i y. w i (wl i y))) hl));
      },
      w,
    )

-- a base set is a member
pub base-member : (f : List Items) → IsPart (base f) f
base-member f k c = let a = (base-atom f k c).1 in a.member

-- ---- the base spans, and is in each list that spans

pub base-spans : (f : List Items) → Spans (base f) f
base-spans f k c = interior-whole (base f) k (λ q h.
    let r = atom_within f k q c h in
    let a = r.1 in
    (r.0, among-base f q r.0 a, r.2, a.has_q))

-- no base set is a union of other members
pub base-no_union : (f : List Items) (k : Items) (parts : List Items) → is_among (base f) k ≡ true
    → ((s : Items) → is_among parts s ≡ true → (is_among f s ≡ true) × ¬ (s ≡ k)) → ¬ (unions parts ≡ k)
base-no_union f k parts c other e =
    let r = base-atom f k c in
    let a = r.1 in
    let x = some-from (λ s. has s r.0) parts (sym (has-unions parts r.0) ∙ ap (λ s. has s r.0) e ∙ a.has_q) in
    let o = other x.0 x.1 in
    o.1 (a.least x.0 o.0 (λ i h. ap (λ s. has s i) (sym e) ∙ (has-unions parts i ∙ some-among (λ s. has s i) parts x.0 x.1 h)) x.2)

-- a list of members of whose sets each member is a union has every base set
pub base-least : (f g : List Items) → IsPart g f → Spans g f
    → (k : Items) → is_among (base f) k ≡ true → is_among g k ≡ true
base-least f g part span k c =
    let r = base-atom f k c in
    let a = r.1 in
    let x = from-interior g k r.0 (ap (λ s. has s r.0) (span k a.member) ∙ a.has_q) in
    subst (λ s. is_among g s ≡ true) (a.least x.0 (part x.0 x.1) x.2 x.3) x.1
