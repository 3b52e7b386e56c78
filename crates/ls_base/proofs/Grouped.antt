-- Sets in groups by their least items: the union of those below a set, group by group.
use Rattle.ls_base.proofs.Vocabulary.{◌&&◌, ◌++◌, ◌+◌, ◌<◌, ◌∙◌, ◌∷◌, ◌≡◌, ◌≢◌, ◌≤◌, ◌⊎◌, Bool}
use Rattle.ls_base.proofs.Vocabulary.{Decides-is_same, Each-among, IsWithin, IsWithin-from, Items}
use Rattle.ls_base.proofs.Vocabulary.{List, None, Some, ℕ, [], among-cases, among-filter}
use Rattle.ls_base.proofs.Vocabulary.{among-here, among-there, and_from, and_parts, ap, append-nil}
use Rattle.ls_base.proofs.Vocabulary.{arith, cases_eq, cases_lt, cond, drop, drop-next, drop_all}
use Rattle.ls_base.proofs.Vocabulary.{empty, eq-eqb, eqb, false, false_from_ne_true, filter}
use Rattle.ls_base.proofs.Vocabulary.{filter-append, from-interior, get_or, get_or-set_other}
use Rattle.ls_base.proofs.Vocabulary.{get_or-set_same, get_or_from_slice_get, has, has-empty}
use Rattle.ls_base.proofs.Vocabulary.{has-union, has-without, inl, inr, is_among, is_proper}
use Rattle.ls_base.proofs.Vocabulary.{is_same, is_within, items-none, least, least-cases, len}
use Rattle.ls_base.proofs.Vocabulary.{len-zero, length, length-set, ne_eqb, not, not-true}
use Rattle.ls_base.proofs.Vocabulary.{option_map_or, or_cases, or_right, refl, same_within, set}
use Rattle.ls_base.proofs.Vocabulary.{slice_get, slice_get_read, slice_get_within, subst, sym}
use Rattle.ls_base.proofs.Vocabulary.{to-interior, true, true≢false, union, union-empty_right}
use Rattle.ls_base.proofs.Vocabulary.{union-left, union-within, union_assoc, union_below, without}
use Rattle.ls_base.proofs.Vocabulary.{ap₂, len-less}
use Rattle.std.specs.Prelude.{Vec}
use Rattle.std.specs.declared.alloc.Global.{Global}
use Rattle.ls_base.specs.Sizes.{Rises, begins_at}
use Rattle.ls_set.specs.{most_items}
use Rattle.ls_base.specs.Groups.{IsGrouped}
use Rattle.ls_base.specs.declared.groups.Found.{Found}
use Rattle.ls_base.proofs.Below.{below-unites}
use Rattle.ls_base.proofs.Rising.{larger-not_proper, Rises-drop}

-- ---- a loop that joins what lies below k in a list

below-none : (k : Items) (f : List Items) → ((l : Items) → is_among f l ≡ true → len k ≤ len l) →
    union_below f k ≡ empty
below-none k [] h = (below-unites k).none
below-none k (l ∷ f) h = (below-unites k).passed l (larger-not_proper l k (h l (among-here l l f
    refl))) f ∙ below-none k f (λ t c. h t (among-there t l f c))

-- the union so far, and what the sets from a place on give, is what all give with the first
abbrev pub IsJoined : Items → Items → Items → List Items → ℕ → Type 0
IsJoined first u k sets i = union u (union_below (drop i sets) k) ≡ union first (union_below sets k)

module _ (first k : Items) (sets : List Items) (i : ℕ) where
  pub joined-all : (u : Items) → length sets ≤ i → IsJoined first u k sets i → u ≡ union first
      (union_below sets k)
  joined-all u l had = sym (ap (union u) (ap (λ f. union_below f k) (drop_all i sets l) ∙
      (below-unites k).none) ∙ union-empty_right u) ∙ had

  module _ (u l : Items) (bound : i < length sets) (at : l ≡ get_or sets i l) (had : IsJoined first
      u k sets i) where
    step : drop i sets ≡ l ∷ drop (i + 1) sets
    step = drop-next sets i l bound at

    pub joined-taken : (v : Items) → is_proper l k ≡ true → v ≡ union u l → IsJoined first v k sets
        (i + 1)
    joined-taken v t is =
        let rest = union_below (drop (i + 1) sets) k in
        ap (λ w. union w rest) is ∙ union_assoc u l rest ∙ ap (union u) (sym ((below-unites k).taken
        l t (drop (i + 1) sets)))
        ∙ ap (λ f. union u (union_below f k)) (sym step) ∙ had

    pub joined-passed : (v : Items) → is_proper l k ≡ false → v ≡ u → IsJoined first v k sets (i +
        1)
    joined-passed v t is =
        ap (λ w. union w (union_below (drop (i + 1) sets) k)) is ∙ ap (union u) (sym ((below-unites
        k).passed l t (drop (i + 1) sets)))
        ∙ ap (λ f. union u (union_below f k)) (sym step) ∙ had

    -- no later set lies below k
    pub joined-ended : Rises sets → len k ≤ len l → u ≡ union first (union_below sets k)
    joined-ended rises large =
        let later = subst Rises step (Rises-drop i sets rises) in
        let none : union_below (drop i sets) k ≡ empty = ap (λ f. union_below f k) step ∙ below-none
        k (l ∷ drop (i + 1) sets)
        (λ t c. elim (among-cases t l (drop (i + 1) sets) c) [
          | inl e ↦ subst (λ t. len k ≤ len t) (sym e) large
          | inr d ↦ let more = Each-among (λ t. len l ≤ len t) (drop (i + 1) sets) t later.0 d in
              omega arith
        ]) in
        sym (ap (union u) none ∙ union-empty_right u) ∙ had

-- where the union has all of k, no more can be joined
pub joined-whole : (first k v : Items) (sets : List Items) (i : ℕ) → IsJoined first v k sets i → v ≡
    k → v ≡ union first (union_below sets k)
joined-whole first k v sets i had whole =
    let rest = union_below (drop i sets) k in
    same_within v (union v rest) (union-left v rest) (subst (λ w. IsWithin (union v rest) w) (sym
    whole) (union-within v rest k (subst (λ w. IsWithin w k) (sym whole) (λ _ h. h))
    ((below-unites k).within (drop i sets)))) ∙ had

-- ---- least items

begins-from : (i : ℕ) (k : Items) → least k ≡ Some i → begins_at i k ≡ true
begins-from i k e = ap (λ o. option_map_or (λ j. eqb j i) o false) e ∙ eq-eqb i i refl

len-none : (k : Items) → least k ≡ None → k ≡ empty
unfolding len
len-none k e = len-zero k (ap length (items-none k e))

-- a set with an item begins no later
first_item : (k : Items) (i : ℕ) → has k i ≡ true → (q : ℕ) × (least k ≡ Some q) × (has k q ≡ true)
    × (q ≤ i)
first_item k i h = elim (least k) as (λ o. least k ≡ o → (q : ℕ) × (least k ≡ Some q) × (has k q ≡
    true) × (q ≤ i)) [
      | None ↦ λ e. absurd (true≢false (sym h ∙ ap (λ s. has s i) (len-none k e) ∙ has-empty i))
      | Some q ↦ λ e.
          let first = least-cases k q e in (
            q,
            e,
            first.0,
            elim (cases_lt i q) [
              | inl l ↦ absurd (true≢false (sym h ∙ first.1 i l))
              | inr
                  l ↦ l
            ],
          )
    ] refl

-- ---- a loop over the items of k

-- the union lies within what lies below k in the list, and has all of it that begins at no item
-- that is left
pub record Covers (found : List Items) (k u left : Items) : Type 0 where
  pub within : IsWithin u (union_below found k)
  pub seen : (l : Items) → is_among found l ≡ true → is_proper l k ≡ true → (q : ℕ) → least l ≡ Some
      q → (has left q ≡ true) ⊎ IsWithin l u
  pub inside : IsWithin left k

pub covers-small : (found : List Items) (k u left : Items) → Covers found k u left → IsWithin u k
covers-small found k u left c i h = (below-unites k).within found i (c.within i h)

proper-within : (l k : Items) → is_proper l k ≡ true → IsWithin l k
proper-within l k p = IsWithin-from l k (and_parts (is_within l k) (not (is_same l k)) p).0

pub covers-first : (found : List Items) (k u : Items) → u ≡ empty → Covers found k u k
covers-first found k u e = record {
  within = λ i h. absurd (true≢false (sym h ∙ ap (λ s. has s i) e ∙ has-empty i));
  seen = λ l c p q first. inl (proper-within l k p q (least-cases l q first).0);
  inside = λ q h. h;
}

module _ (found group : List Items) (k u v left rest : Items) (i : ℕ) (had : Covers found k u left)
    (taken : rest ≡ without left i)
    (is : group ≡ filter (begins_at i) found) (joins : v ≡ union u (union_below group k)) where
  from-group : IsWithin (union_below group k) (union_below found k)
  from-group j h =
      let p = λ (l : Items). is_proper l k in
      let r = from-interior (filter p group) k j h in
      let x = and_parts (is_among group r.0) (p r.0) (sym (among-filter p group r.0) ∙ r.1) in
      let y = and_parts (is_among found r.0) (begins_at i r.0) (sym (among-filter (begins_at i)
      found r.0) ∙ ap (λ f. is_among f r.0) (sym is) ∙ x.0) in
      to-interior (filter p found) k r.0 j (among-filter p found r.0 ∙ and_from (is_among found r.0)
      (p r.0) y.0 x.1) r.2 r.3

  to-group : (l : Items) → is_among found l ≡ true → is_proper l k ≡ true → least l ≡ Some i →
      IsWithin l v
  to-group l c t first j h =
      let p = λ (l : Items). is_proper l k in
      let here = ap (λ f. is_among f l) is ∙ among-filter (begins_at i) found l ∙ and_from (is_among
      found l) (begins_at i l) c (begins-from i l first) in
      ap (λ s. has s j) joins ∙ has-union u (union_below group k) j
      ∙ or_right (has u j) (has (union_below group k) j) (to-interior (filter p group) k l j
      (among-filter p group l ∙ and_from (is_among group l) (p l) here t) (proper-within l k t)
      h)

  pub covers-more : Covers found k v rest
  covers-more = record {
    within = λ j h. elim (or_cases (has u j) (has (union_below group k) j) (sym (has-union u
        (union_below group k) j) ∙ ap (λ s. has s j) (sym joins) ∙ h)) [
          | inl a ↦ had.within j a
          | inr b ↦ from-group j b
        ];
    seen = λ l c t q first. elim (had.seen l c t q first) [
      | inl a ↦ elim (cases_eq q i) [
        | inl e ↦ inr (to-group l c t (first ∙ ap Some e))
        | inr n ↦ inl (ap (λ s. has s q) taken ∙ has-without left i q ∙ and_from (has left q) (not
            (eqb q i)) a (ap not (ne_eqb q i n)))
      ]
      | inr w ↦ inr (λ j h. ap (λ s. has s j) joins ∙ union-left u (union_below group k) j (w j h))
    ];
    inside = λ q h. had.inside q (and_parts (has left q) (not (eqb q i)) (sym (has-without left i q)
        ∙ ap (λ s. has s q) (sym taken) ∙ h)).0;
  }

-- what is in k, and before all that is left, is in the union
pub covers-lacks : (found : List Items) (k v rest left : Items) (i : ℕ) → Covers found k v rest →
    rest ≡ without left i → least left ≡ Some i → IsWithin left k → has v i ≡ false → is_same
    (union_below found k) k ≡ false
covers-lacks found k v rest left i had taken at inside lacks = false_from_ne_true (is_same
    (union_below found k) k) (λ e.
    let p = λ (l : Items). is_proper l k in
    let cases = least-cases left i at in
    let r = from-interior (filter p found) k i (ap (λ s. has s i) ((Decides-is_same (union_below
    found k) k).0 e) ∙ inside i cases.0) in
    let x = and_parts (is_among found r.0) (p r.0) (sym (among-filter p found r.0) ∙ r.1) in
    let first = first_item r.0 i r.3 in
    let early = first.3 in
    elim (had.seen r.0 x.0 x.1 first.0 first.1) [
      | inl a ↦
          let both = and_parts (has left first.0) (not (eqb first.0 i)) (sym (has-without left i
          first.0) ∙ ap (λ s. has s first.0) (sym taken) ∙ a) in
          elim (cases_eq first.0 i) [
            | inl e ↦ absurd (true≢false (sym (eq-eqb first.0 i e) ∙ not-true (eqb first.0 i)
                both.1))
            | inr n ↦ absurd (true≢false (sym both.0 ∙ cases.1 first.0 (omega arith)))
          ]
      | inr w ↦ true≢false (sym (w i r.3) ∙ lacks)
    ])

pub covers-whole : (found : List Items) (k v left : Items) → Covers found k v left → v ≡ k → is_same
    (union_below found k) k ≡ true
covers-whole found k v left had whole =
    (Decides-is_same (union_below found k) k).1 (same_within (union_below found k) k ((below-unites
    k).within found) (subst (λ s. IsWithin s (union_below found k)) whole had.within))

pub covers-all : (found : List Items) (k v left : Items) → Covers found k v left → least left ≡ None
    → v ≡ union_below found k
covers-all found k v left had none = same_within v (union_below found k) had.within (λ j h.
    let p = λ (l : Items). is_proper l k in
    let r = from-interior (filter p found) k j h in
    let x = and_parts (is_among found r.0) (p r.0) (sym (among-filter p found r.0) ∙ r.1) in
    let first = first_item r.0 j r.3 in
    elim (had.seen r.0 x.0 x.1 first.0 first.1) [
      | inl a ↦ absurd (true≢false (sym a ∙ ap (λ s. has s first.0) (len-none left none) ∙ has-empty
          first.0))
      | inr w ↦ w j r.3
    ])

pub left-fewer : (left rest : Items) (i : ℕ) → least left ≡ Some i → rest ≡ without left i → len
    rest < len left
left-fewer left rest i at taken =
    let cases = least-cases left i at in
    len-less rest left i (λ j h. (and_parts (has left j) (not (eqb j i)) (sym (has-without left i j)
    ∙ ap (λ s. has s j) (sym taken) ∙ h)).0)
    (ap (λ s. has s i) taken ∙ has-without left i i ∙ ap₂ (λ a b. a && not b) cases.0 (eq-eqb i i
    refl)) cases.0

-- the same for a group that is read
pub covers-next : (f : Found) (k u v left rest : Items) (i : ℕ) (w : Vec Items Global) (group : List
    Items) → IsGrouped f → Covers f.sets.items k u left → rest ≡ without left i
    → i < most_items → w ≡ get_or f.groups.items i w → group ≡ w.items → v ≡ union u (union_below
    group k) → Covers f.sets.items k v rest
covers-next f k u v left rest i w group grouped had taken place at is joins =
    covers-more f.sets.items group k u v left rest i had taken (is ∙ grouped.grouped i w
    (slice_get_read f.groups.items most_items i w (sym grouped.many) place at)) joins

-- ---- a set is put into its group

begins-more : (sets : List Items) (k : Items) (i : ℕ) (b : Bool) → begins_at i k ≡ b → filter
    (begins_at i) (sets ++ k ∷ []) ≡ filter (begins_at i) sets ++ cond b (k ∷ []) []
begins-more sets k i b e = filter-append (begins_at i) sets (k ∷ []) ∙ ap (λ b. filter (begins_at i)
    sets ++ cond b (k ∷ []) []) e

begins-other : (k : Items) (i q : ℕ) → least k ≡ Some q → q ≢ i → begins_at i k ≡ false
begins-other k i q e n = ap (λ o. option_map_or (λ j. eqb j i) o false) e ∙ ne_eqb q i n

abbrev pub Groups : Type 0
Groups = List (Vec Items Global)

-- each group has those of the sets that begin at its item
abbrev pub Grouped : List Items → Groups → Type 0
Grouped sets groups = (i : ℕ) (v : Vec Items Global) → slice_get groups i ≡ Some v → v.items ≡
    filter (begins_at i) sets

pub put-some : (sets : List Items) (groups : Groups) (k : Items) (q : ℕ) (v w : Vec Items Global) →
    Grouped sets groups → least k ≡ Some q → q < length groups
    → v ≡ get_or groups q v → w.items ≡ v.items ++ k ∷ [] → Grouped (sets ++ k ∷ []) (set groups q
    w)
put-some sets groups k q v w had e place at is i x told =
    let inside : i < length groups = omega (
      arith,
      slice_get_within (set groups q w) i x told,
      length-set groups q w,
    ) in
    let read = λ (d : Vec Items Global). get_or_from_slice_get (set groups q w) i x d told in
    elim (cases_eq i q) [
      | inl same ↦
          ap (λ (u : Vec Items Global). u.items) (sym (read x) ∙ ap (λ j. get_or (set groups q w) j
          x) same ∙ get_or-set_same groups q w x place)
          ∙ is ∙ ap (λ l. l ++ k ∷ []) (had q v (slice_get_read groups (length groups) q v refl
          place at))
          ∙ ap (λ j. filter (begins_at j) sets ++ k ∷ []) (sym same) ∙ sym (begins-more sets k i
          true (begins-from i k (e ∙ ap Some (sym same))))
      | inr other ↦
          had i x (slice_get_read groups (length groups) i x refl inside (sym (sym (get_or-set_other
          groups q i w x other) ∙ read x)))
          ∙ sym (append-nil (filter (begins_at i) sets)) ∙ sym (begins-more sets k i false
          (begins-other k i q e (λ h. other (sym h))))
    ]

pub put-none : (sets : List Items) (groups : Groups) (k : Items) → Grouped sets groups → least k ≡
    None → Grouped (sets ++ k ∷ []) groups
put-none sets groups k had e i x told =
    had i x told ∙ sym (append-nil (filter (begins_at i) sets)) ∙ sym (begins-more sets k i false
    (ap (λ o. option_map_or (λ j. eqb j i) o false) e))
