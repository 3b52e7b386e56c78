-- Skill maps: their disjunctive states are the unions of the skills' items, and the conjunctive
-- ones are the complements of those of the same map.
use Rattle.std.proofs.Common.{ℕ, zero, suc, ◌<◌, ◌≤◌, ◌≡◌, ◌↔◌, inl, inr, Bool, true, not, ◌&&◌}
use Rattle.std.proofs.Common.{◌||◌, ltb, List, [], ◌∷◌, length, refl, sym, ap, ◌∙◌, subst, arith}
use Rattle.std.proofs.Common.{true≢false, ltb-true, lt-ltb}
use Rattle.std.specs.List.{list_any}
use Rattle.std.proofs.lemmas.Bool.{cases_Bool, cases_eq, and_parts, and_from, or_right}
use Rattle.std.proofs.lemmas.Bool.Decides.{nat_tests}
use Rattle.ls_set.specs.ItemSet.{Items, has, full, minus, is_same, is_within, is_among, subsets}
use Rattle.ls_set.specs.ItemSet.{IsInOrder, IsWithin}
use Rattle.ls_set.proofs.Sets.{members, has-empty, has-full, has-minus, same_set, both_ways}
use Rattle.ls_set.proofs.Sets.{Decides-is_same, is_within-from, IsWithin-from}
use Rattle.ls_set.proofs.Members.{among-here, among-there, among-cases, among-filter}
use Rattle.ls_set.proofs.Order.{among-subsets, subsets_from-in_order}
use Rattle.ls_theory.specs.Families.{interior, is_space}
use Rattle.ls_theory.specs.Starts.{Sets}
use Rattle.ls_theory.specs.Compatible.{compat}
use Rattle.ls_theory.specs.Bases.{base}
use Rattle.ls_laws.specs.Spans.{AreOn, IsPart, spanned}
use Rattle.ls_laws.specs.Families.{IsFamily}
use Rattle.ls_laws.proofs.Lists.{some-among, some-from, same_members, IsInOrder-filter}
use Rattle.ls_laws.proofs.Interiors.{has-unions, from-interior, interior-whole, space-from}
use Rattle.ls_laws.proofs.Interiors.{space-to}
use Rattle.ls_laws.proofs.Atoms.{base-least, base-member}
use Rattle.ls_laws.proofs.Families.{family_sets, spanned-IsFamily}
use Rattle.ls_laws.proofs.Spans.{among-spanned, base-in_order, spanned-base, spanned-has}
use Rattle.ls_laws.proofs.Spans.{spanned-in_order, spanned-whole}
use Rattle.ls_clauses.specs.Starts.{IsCover}
use Rattle.ls_clauses.proofs.Covers.{cover-member}
use Rattle.ls_laws.proofs.BaseStarts.{compat-sets}
use Rattle.ls_origins.proofs.Lengths.{no_longer}
use Rattle.ls_origins.proofs.Numbered.{every-number, number-every}
use Rattle.ls_origins.proofs.ItemLists.{from-items, among-items}
use Rattle.ls_origins.specs.Skills.{items_that, skill, has_some_skill, has_all_skills, any_state}
use Rattle.ls_origins.specs.Skills.{all_state, any, all, duals}

-- ---- the numbers that pass

pub has-items_that : (n : ℕ) (p : ℕ → Bool) (i : ℕ) → has (items_that n p) i ≡ (ltb i n && p i)
has-items_that zero p i = has-empty i ∙ grind (arith, nat_tests)
has-items_that (suc n) p i = elim (cases_eq i n) [
  | inl e ↦ let b = has-items_that n p i in let c = ap p e in elim (cases_Bool (p n)) [
    | inl a ↦ rw a (grind (arith, members, nat_tests))
    | inr a ↦ rw a (grind (arith, members, nat_tests))
  ]
  | inr d ↦ let b = has-items_that n p i in elim (cases_Bool (p n)) [
    | inl a ↦ rw a (grind (arith, members, nat_tests))
    | inr a ↦ rw a (grind (arith, members, nat_tests))
  ]
]

pub that-parts : (n : ℕ) (p : ℕ → Bool) (i : ℕ) → has (items_that n p) i ≡ true → (i < n)
    × (p i ≡ true)
that-parts n p i h =
    let a = and_parts (ltb i n) (p i) (sym (has-items_that n p i) ∙ h) in (ltb-true i n a.0, a.1)

pub that-from : (n : ℕ) (p : ℕ → Bool) (i : ℕ) → i < n → p i ≡ true → has (items_that n p) i ≡ true
that-from n p i l h = has-items_that n p i ∙ and_from (ltb i n) (p i) (lt-ltb i n l) h

pub that-within : (n : ℕ) (p : ℕ → Bool) → IsWithin (items_that n p) (full n)
that-within n p i h = has-full n i ∙ lt-ltb i n (that-parts n p i h).0

small-item : (n : ℕ) (s : Items) (i : ℕ) → IsWithin s (full n) → has s i ≡ true → i < n
small-item n s i small h = ltb-true i n (sym (has-full n i) ∙ small i h)

-- ---- the skills of a map

pub skill-among : (m : List Items) (p : ℕ) → p < length m → is_among m (skill m p) ≡ true
skill-among [] p l = absurd (omega arith)
skill-among (s ∷ m) zero l = among-here s s m refl
skill-among (s ∷ m) (suc p) l = among-there (skill m p) s m (skill-among m p (omega arith))

pub among-skill : (m : List Items) (s : Items) → is_among m s ≡ true → (p : ℕ) × (p < length m)
    × (skill m p ≡ s)
among-skill [] s c = absurd (true≢false (sym c))
among-skill (t ∷ m) s c = elim (among-cases s t m c) [
  | inl e ↦ (0, omega arith, sym e)
  | inr a ↦ let r = among-skill m s a in let l = r.1 in (suc r.0, omega arith, r.2)
]

-- an item is in the disjunctive state of t where some skill of t has it
pub has-any_state : (n : ℕ) (m : List Items) (t : Items) (q : ℕ) → has (any_state n m t) q ≡ true
    → (q < n) × ((p : ℕ) × (has t p ≡ true) × (has (skill m p) q ≡ true))
has-any_state n m t q h =
    let a = that-parts n (has_some_skill m t) q h in
    (a.0, from-items (λ p. has (skill m p) q) t a.1)

pub to-any_state : (n : ℕ) (m : List Items) (t : Items) (q p : ℕ) → q < n → has t p ≡ true
    → has (skill m p) q ≡ true → has (any_state n m t) q ≡ true
to-any_state n m t q p l a b =
    that-from n (has_some_skill m t) q l (among-items (λ p. has (skill m p) q) t p a b)

-- ---- the family of disjunctive states

abbrev is_any : ℕ → List Items → Items → Bool
is_any n m s = list_any (λ t. is_same s (any_state n m t)) (subsets (length m))

abbrev is_all : ℕ → List Items → Items → Bool
is_all n m s = list_any (λ t. is_same s (all_state n m t)) (subsets (length m))

among-any : (n : ℕ) (m : List Items) (s : Items) → is_among (any n m) s
    ≡ (is_within s (full n) && is_any n m s)
unfolding any
among-any n m s =
    among-filter (is_any n m) (subsets n) s ∙ ap (λ b. b && is_any n m s) (among-subsets n s)

among-all : (n : ℕ) (m : List Items) (s : Items) → is_among (all n m) s
    ≡ (is_within s (full n) && is_all n m s)
unfolding all
among-all n m s =
    among-filter (is_all n m) (subsets n) s ∙ ap (λ b. b && is_all n m s) (among-subsets n s)

pub among-duals : (n : ℕ) (f : List Items) (s : Items) → is_among (duals n f) s
    ≡ (is_within s (full n) && is_among f (minus (full n) s))
unfolding duals
among-duals n f s =
    among-filter (λ s. is_among f (minus (full n) s)) (subsets n) s ∙ ap
    (λ b. b && is_among f (minus (full n) s)) (among-subsets n s)

pub any-in_order : (n : ℕ) (m : List Items) → IsInOrder (any n m)
unfolding any
any-in_order n m = IsInOrder-filter _ (subsets n) (subsets_from-in_order 0 n)

pub all-in_order : (n : ℕ) (m : List Items) → IsInOrder (all n m)
unfolding all
all-in_order n m = IsInOrder-filter _ (subsets n) (subsets_from-in_order 0 n)

pub duals-in_order : (n : ℕ) (f : List Items) → IsInOrder (duals n f)
unfolding duals
duals-in_order n f = IsInOrder-filter _ (subsets n) (subsets_from-in_order 0 n)

-- the state of some set of skills, as a fact
state-from : (state : Items → Items) (k : ℕ) (s : Items)
    → list_any (λ t. is_same s (state t)) (subsets k) ≡ true → (t : Items) × IsWithin t (full k)
    × (s ≡ state t)
state-from state k s h =
    let r = some-from (λ t. is_same s (state t)) (subsets k) h in (
      r.0,
      IsWithin-from r.0 (full k) (sym (among-subsets k r.0) ∙ r.1),
      (Decides-is_same s (state r.0)).0 r.2,
    )

state-to : (state : Items → Items) (k : ℕ) (s t : Items) → IsWithin t (full k) → s ≡ state t
    → list_any (λ t. is_same s (state t)) (subsets k) ≡ true
state-to state k s t small e =
    some-among (λ t. is_same s (state t)) (subsets k) t
    (among-subsets k t ∙ is_within-from t (full k) small) ((Decides-is_same s (state t)).1 e)

-- the skills within s
skills_within : List Items → Items → Items
skills_within m s = items_that (length m) (λ p. is_within (skill m p) s)

state-whole : (n : ℕ) (m : List Items) (t : Items) → AreOn n m → IsWithin t (full (length m))
    → interior m (any_state n m t) ≡ any_state n m t
state-whole n m t on small = interior-whole m (any_state n m t) (λ q h.
    let a = has-any_state n m t q h in
    let p = a.1.0 in
    let c = skill-among m p (small-item (length m) t p small a.1.1) in (
      skill
          m p,
      c,
      (λ j b. to-any_state n m t j p (small-item n (skill m p) j (on (skill m p) c) b) a.1.1
          b),
      a.1.2,
    ))

whole-state : (n : ℕ) (m : List Items) (s : Items) → IsWithin s (full n) → interior m s ≡ s → s
    ≡ any_state n m (skills_within m s)
unfolding skills_within
whole-state n m s small e =
    same_set s (any_state n m (skills_within m s))
    (λ q. both_ways (has s q) (has (any_state n m (skills_within m s)) q)
    (λ h.
    let r = from-interior m s q (ap (λ t. has t q) e ∙ h) in
    let p = among-skill m r.0 r.1 in
    let same = p.2 in
    to-any_state n m (skills_within m s) q p.0 (small-item n s q small h)
    (that-from (length m) (λ p. is_within (skill m p) s) p.0 p.1
    (ap (λ t. is_within t s) same ∙ is_within-from r.0 s r.2))
    (ap (λ t. has t q) same ∙ r.3))
    (λ h.
    let a = has-any_state n m (skills_within m s) q h in
    let w = that-parts (length m) (λ p. is_within (skill m p) s) a.1.0 a.1.1 in
    IsWithin-from (skill m a.1.0) s w.1 q a.1.2))

-- they are the unions of the skills' items
pub any-spanned : (n : ℕ) (m : List Items) → AreOn n m → any n m ≡ spanned n m
unfolding skills_within
any-spanned n m on = same_members (any n m) (spanned n m) (any-in_order n m) (spanned-in_order n m)
    (λ s c.
    let a = and_parts (is_within s (full n)) (is_any n m s) (sym (among-any n m s) ∙ c) in
    let r = state-from (any_state n m) (length m) s a.1 in
    among-spanned n m s ∙ and_from (is_within s (full n)) (is_same (interior m s) s) a.0
    ((Decides-is_same (interior m s) s).1
    (ap (interior m) r.2 ∙ state-whole n m r.0 on r.1 ∙ sym r.2)))
    (λ s c.
    let a =
    and_parts (is_within s (full n)) (is_same (interior m s) s) (sym (among-spanned n m s) ∙ c)
    in
    among-any n m s ∙ and_from (is_within s (full n)) (is_any n m s) a.0
    (state-to (any_state n m) (length m) s (skills_within m s)
    (that-within (length m) (λ p. is_within (skill m p) s))
    (whole-state n m s (IsWithin-from s (full n) a.0) ((Decides-is_same (interior m s) s).0 a.1))))

-- ---- complements

pub twice : (n : ℕ) (s : Items) → IsWithin s (full n) → minus (full n) (minus (full n) s) ≡ s
twice n s small =
    same_set (minus (full n) (minus (full n) s)) s (λ i. let a = small i in grind (arith, members))

-- the conjunctive state of t is the complement of the disjunctive state of the other skills
complement-state : (n : ℕ) (m : List Items) (t : Items) → all_state n m t
    ≡ minus (full n) (any_state n m (minus (full (length m)) t))
complement-state n m t =
    let k = length m in
    let o = minus (full k) t in
    same_set (all_state n m t) (minus (full n) (any_state n m o))
    (λ q. both_ways (has (all_state n m t) q) (has (minus (full n) (any_state n m o)) q)
    (λ h.
    let a = that-parts n (has_all_skills m t) q h in
    elim (cases_Bool (has (any_state n m o) q)) [
      | inl b ↦
          let r = has-any_state n m o q b in
          let p = r.1.0 in
          let other =
          and_parts (has (full k) p) (not (has t p)) (sym (has-minus (full k) t p) ∙ r.1.1) in
          let l : p < k = ltb-true p k (sym (has-full k p) ∙ other.0) in
          let c =
          every-number (λ p. not (has (skill m p) q) || has t p) 0 k p (omega arith)
          (omega arith) a.1 in
          let d = other.1 in
          let e = r.1.2 in
          absurd (true≢false (grind (arith, members)))
      | inr b ↦ has-minus (full n) (any_state n m o) q ∙ and_from (has (full n) q)
          (not (has (any_state n m o) q)) (that-within n (has_all_skills m t) q h) (ap not b)
    ])
    (λ h.
    let a =
    and_parts (has (full n) q) (not (has (any_state n m o) q))
    (sym (has-minus (full n) (any_state n m o) q) ∙ h) in
    let l : q < n = ltb-true q n (sym (has-full n q) ∙ a.0) in
    that-from n (has_all_skills m t) q l
    (number-every (λ p. not (has (skill m p) q) || has t p) 0 k (λ p below.
    let small : p < k = omega arith in
    elim (cases_Bool (has (skill m p) q)) [
      | inr b ↦ rw b refl
      | inl b ↦ elim (cases_Bool (has t p)) [
        | inl c ↦ or_right (not (has (skill m p) q)) (has t p) c
        | inr c ↦
            let in_o : has o p ≡ true =
            has-minus (full k) t p ∙ and_from (has (full k) p) (not (has t p))
            (has-full k p ∙ lt-ltb p k small) (ap not c) in
            let d = to-any_state n m o q p l in_o b in
            absurd (true≢false (sym a.1 ∙ ap not d))
      ]
    ]))))

pub all-complements : (n : ℕ) (m : List Items) → all n m ≡ duals n (any n m)
all-complements n m =
    let k = length m in
    same_members (all n m) (duals n (any n m)) (all-in_order n m) (duals-in_order n (any n m))
    (λ s c.
    let a = and_parts (is_within s (full n)) (is_all n m s) (sym (among-all n m s) ∙ c) in
    let r = state-from (all_state n m) k s a.1 in
    let o = minus (full k) r.0 in
    let e : minus (full n) s ≡ any_state n m o =
    ap (minus (full n)) (r.2 ∙ complement-state n m r.0) ∙ twice n (any_state n m o)
    (that-within n (has_some_skill m o)) in
    among-duals n (any n m) s ∙ and_from (is_within s (full n))
    (is_among (any n m) (minus (full n) s)) a.0
    (among-any n m (minus (full n) s) ∙ and_from (is_within (minus (full n) s) (full n))
    (is_any n m (minus (full n) s))
    (is_within-from (minus (full n) s) (full n) (λ i h. grind (arith, members)))
    (state-to (any_state n m) k (minus (full n) s) o (λ i h. grind (arith, members)) e)))
    (λ s c.
    let a =
    and_parts (is_within s (full n)) (is_among (any n m) (minus (full n) s))
    (sym (among-duals n (any n m) s) ∙ c) in
    let b =
    and_parts (is_within (minus (full n) s) (full n)) (is_any n m (minus (full n) s))
    (sym (among-any n m (minus (full n) s)) ∙ a.1) in
    let r = state-from (any_state n m) k (minus (full n) s) b.1 in
    let t = r.0 in
    let o = minus (full k) t in
    let e : s ≡ all_state n m o =
    sym (twice n s (IsWithin-from s (full n) a.0)) ∙ ap (minus (full n))
    (r.2 ∙ ap (any_state n m) (sym (twice k t r.1))) ∙ sym (complement-state n m o) in
    among-all n m s ∙ and_from (is_within s (full n)) (is_all n m s) a.0
    (state-to (all_state n m) k s o (λ i h. grind (arith, members)) e))

-- ---- how many skills

-- each base set is the items of some skill
pub base-skills : (n : ℕ) (m : List Items) → AreOn n m → IsPart (base (any n m)) m
base-skills n m on =
    subst (λ f. IsPart (base f) m) (sym (any-spanned n m on))
    (base-least (spanned n m) m (spanned-has n m on) (spanned-whole n m))

-- so no map with the family has fewer skills
pub fewest-skills : (n : ℕ) (m : List Items) → AreOn n m → length (base (any n m)) ≤ length m
fewest-skills n m on =
    no_longer (base (any n m)) m (base-in_order (any n m) (any-in_order n m)) (base-skills n m on)

-- the map with one skill for each base set
pub any-base : (n : ℕ) (f : List Items) → IsFamily n f → any n (base f) ≡ f
any-base n f family =
    any-spanned n (base f) (λ k c. family.small k (base-member f k c)) ∙ spanned-base n f
    family.in_order (family_sets n f family)

-- the states are a space exactly where each item has a skill
pub any-space : (n : ℕ) (m : List Items) → AreOn n m
    → (is_space (full n) (any n m) ≡ true) ↔ IsCover n m
any-space n m on = (
  λ h. record {
    small = on;
    each_item = λ q l.
        let c : is_among (spanned n m) (full n) ≡ true =
        subst (λ f. is_among f (full n) ≡ true) (any-spanned n m on)
        (space-from (full n) (any n m) h).holds_whole in
        let r =
        from-interior m (full n) q
        (ap (λ s. has s q) (spanned-whole n m (full n) c) ∙ has-full n q ∙ lt-ltb q n l) in
        has-unions m q ∙ some-among (λ k. has k q) m r.0 r.1 r.3;
  },
  λ cover. subst (λ f. is_space (full n) f ≡ true) (sym (any-spanned n m on))
      (let f = spanned-IsFamily n m in space-to (full n) (spanned n m) f.holds_empty
      (cover-member n m cover) f.holds_unions),
)

pub any-compat : (n : ℕ) (m : List Items) → AreOn n m → any n m ≡ compat n (Sets m) []
any-compat n m on = any-spanned n m on ∙ sym (compat-sets n m)

pub any-IsFamily : (n : ℕ) (m : List Items) → AreOn n m → IsFamily n (any n m)
any-IsFamily n m on = subst (IsFamily n) (sym (any-spanned n m on)) (spanned-IsFamily n m)

pub fewest-of : (n : ℕ) (f m : List Items) → AreOn n m → any n m ≡ f → length (base f) ≤ length m
fewest-of n f m on e = subst (λ g. length (base g) ≤ length m) e (fewest-skills n m on)

-- the map of the base has the same states

pub any-again : (n : ℕ) (m : List Items) → AreOn n m → any n (base (any n m)) ≡ any n m
any-again n m on = any-base n (any n m) (any-IsFamily n m on)

pub all-again : (n : ℕ) (m : List Items) → AreOn n m → all n (base (any n m)) ≡ all n m
all-again n m on =
    all-complements n (base (any n m)) ∙ ap (duals n) (any-again n m on) ∙ sym (all-complements n m)
