-- Sets of a list that lie lowest: within each set of the list lies one of them.
use Rattle.std.proofs.Common.{ℕ, ◌+◌, ◌<◌, ◌≤◌, ◌≡◌, ◌∙◌, ◌&&◌, true, false, not, cond, Bool, List}
use Rattle.std.proofs.Common.{[], ◌∷◌, ◌++◌, drop, filter, get_or, length, length-append, inl, inr}
use Rattle.std.proofs.Common.{refl, sym, ap, subst, arith, true≢false}
use Rattle.std.specs.List.{list_any}
use Rattle.std.proofs.lemmas.Bool.{cases_Bool}
use Rattle.std.proofs.lemmas.List.{drop_all}
use Rattle.std.proofs.lemmas.List.Elements.{filter_agree}
use Rattle.ls_lists.proofs.Bools.{same_truth}
use Rattle.ls_lists.proofs.Places.{drop-next}
use Rattle.ls_set.specs.{Items, IsWithin, empty, has, is_within, with}
use Rattle.ls_set.proofs.Members.{among-cases, among-here, among-there}
use Rattle.ls_set.proofs.Sets.{IsWithin-from, is_within-from, has-empty, has-with}
use Rattle.ls_laws.specs.Spans.{is_proper, joins, touches}
use Rattle.ls_laws.proofs.Lists.{some-among, some-from}
use Rattle.ls_laws.proofs.Remains.{common, touches-at}
use Rattle.ls_laws.specs.LeastSets.{IsBelow, has_none_within, having}
use Rattle.ls_laws.proofs.LeastSets.{among-either, among-left, among-right}
use Rattle.ls_base.specs.Gains.{is_gained}

-- ---- one more set

-- within which one of those that lie lowest lies
below-covered : (c g : List Items) (x : Items) → IsBelow c g
    → list_any (λ l. is_within l x) c ≡ true → IsBelow c (x ∷ g)
below-covered c g x low h = record {
  part = λ k a. among-there k x g (low.part k a);
  within =
      λ k a. elim (among-cases k x g a) [
        | inl same ↦ let m = some-from (λ l. is_within l x) c h in
            (m.0, m.1, subst (λ t. IsWithin m.0 t) (sym same) (IsWithin-from m.0 x m.2))
        | inr there ↦ low.within k there
      ];
}

-- which is taken
below-taken : (c g : List Items) (x : Items) → IsBelow c g → IsBelow (c ++ x ∷ []) (x ∷ g)
below-taken c g x low = record {
  part =
      λ k a. elim (among-either c (x ∷ []) k a) [
        | inl h ↦ among-there k x g (low.part k h)
        | inr h ↦ elim (among-cases k x [] h) [
          | inl same ↦ among-here k x g same
          | inr none ↦ absurd (true≢false (sym none))
        ]
      ];
  within =
      λ k a. elim (among-cases k x g a) [
        | inl same ↦ (
          x,
          among-right c (x ∷ []) x (among-here x x [] refl),
          λ i h. ap (λ s. has s i) same ∙ h,
        )
        | inr there ↦ let m = low.within k there in
            (m.0, among-left c (x ∷ []) m.0 m.1, m.2)
      ];
}

-- ---- a walk from the end

-- those that were taken lie lowest among the sets from a place on that have one of the items
pub record AreLowest (taken : List Items) (items : Items) (sets : List Items) (i : ℕ)
    : Type 0 where
  pub below : IsBelow taken (filter (λ k. touches k items) (drop i sets))
  pub few : length taken + i ≤ length sets

pub lowest-none : (taken : List Items) (items : Items) (sets : List Items) → taken ≡ []
    → AreLowest taken items sets (length sets)
lowest-none taken items sets none =
    subst (λ l. AreLowest l items sets (length sets)) (sym none) (record {
      below =
          subst (λ f. IsBelow [] (filter (λ k. touches k items) f))
          (sym (drop_all (length sets) sets (omega arith)))
          (record { part = λ k a. a; within = λ k a. absurd (true≢false (sym a)) });
      few = omega arith;
    })

pub lowest-all : (taken : List Items) (items : Items) (sets : List Items) (i : ℕ) → i ≡ 0
    → AreLowest taken items sets i
    → IsBelow taken (filter (λ k. touches k items) sets) × (length taken ≤ length sets)
lowest-all taken items sets i none low =
    let few = low.few in (
      subst (λ j. IsBelow taken (filter (λ k. touches k items) (drop j sets))) none low.below,
      omega arith,
    )

-- a set is covered by what was found of those that were taken
pub covered : (l taken : List Items) (k : Items) (b : Bool) → l ≡ taken
    → b ≡ list_any (λ t. is_within t k) l → b ≡ true → list_any (λ t. is_within t k) taken ≡ true
covered l taken k b same is on =
    subst (λ t. list_any (λ s. is_within s k) t ≡ true) same (sym is ∙ on)

module _ (taken sets : List Items) (items k : Items) (i : ℕ) (less : i < length sets)
    (is : k ≡ get_or sets i k) (had : AreLowest taken items sets (i + 1)) where
  -- what lies after the place
  abbrev later : List Items
  later = filter (λ k. touches k items) (drop (i + 1) sets)

  lowest-at : (next : List Items) → length next ≤ length taken + 1
      → (b : Bool) → touches k items ≡ b → IsBelow next (cond b (k ∷ later) later)
      → AreLowest next items sets i
  lowest-at next more b e low =
      let few = had.few in
      record {
        below =
            subst (λ f. IsBelow next (filter (λ k. touches k items) f))
            (sym (drop-next sets i k less is))
            (subst (λ b. IsBelow next (cond b (k ∷ later) later)) (sym e) low);
        few = omega arith;
      }

  pub lowest-apart : touches k items ≡ false → AreLowest taken items sets i
  lowest-apart apart = lowest-at taken (omega arith) false apart had.below

  pub lowest-above : list_any (λ l. is_within l k) taken ≡ true → AreLowest taken items sets i
  lowest-above h = elim (cases_Bool (touches k items)) [
    | inl near ↦
        lowest-at taken (omega arith) true near (below-covered taken later k had.below h)
    | inr apart ↦ lowest-apart apart
  ]

  pub lowest-taken : touches k items ≡ true → AreLowest (taken ++ k ∷ []) items sets i
  lowest-taken near =
      lowest-at (taken ++ k ∷ []) (omega (arith, length-append taken (k ∷ []))) true near
      (below-taken taken later k had.below)

-- ---- by those that lie lowest it is told whether one lies within a set

none-by-lowest : (c g : List Items) (k : Items) → IsBelow c g
    → has_none_within c k ≡ has_none_within g k
none-by-lowest c g k low = ap not (same_truth (list_any (λ l. is_within l k) c)
    (list_any (λ l. is_within l k) g)
    (λ h. let x = some-from (λ l. is_within l k) c h in
    some-among (λ l. is_within l k) g x.0 (low.part x.0 x.1) x.2)
    (λ h.
    let x = some-from (λ l. is_within l k) g h in
    let m = low.within x.0 x.1 in
    let all = IsWithin-from x.0 k x.2 in
    some-among (λ l. is_within l k) c m.0 m.1
    (is_within-from m.0 k (λ i a. all i (m.2 i a)))))

touches-one : (k : Items) (i : ℕ) → touches k (with empty i) ≡ has k i
touches-one k i = same_truth (touches k (with empty i)) (has k i)
    (λ h.
    let x = common k (with empty i) h in
    let same : x.0 ≡ i = grind (arith, has-with empty i x.0, has-empty x.0, x.2) in
    subst (λ j. has k j ≡ true) same x.1)
    (λ h. touches-at k (with empty i) i h (grind (arith, has-with empty i i)))

-- the same is gained beside those that lie lowest of the sets with an item as beside all of these
pub gained-by-lowest : (lowest staying sets near js : List Items) (i : ℕ)
    → IsBelow lowest (filter (λ k. touches k (with empty i)) staying)
    → filter (is_gained lowest sets near) js
    ≡ filter (is_gained (having i staying) sets near) js
gained-by-lowest lowest staying sets near js i low =
    let same : filter (λ k. touches k (with empty i)) staying ≡ having i staying =
    filter_agree (λ k. touches k (with empty i)) (λ k. has k i) (λ k. touches-one k i) staying in
    let below = subst (λ g. IsBelow lowest g) same low in
    filter_agree (is_gained lowest sets near) (is_gained (having i staying) sets near)
    (λ k. ap (λ b. b && not (list_any (λ l. is_proper l k) (joins sets near)))
    (none-by-lowest lowest (having i staying) k below)) js
