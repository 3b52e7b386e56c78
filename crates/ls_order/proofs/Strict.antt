-- Rows of pairs, closed: the relation of the pairs.
use Rattle.std.proofs.Common.{ℕ, ◌<◌, ◌≤◌, ◌≡◌, inl, inr, Bool, true, cond, eqb, List, [], ◌∷◌}
use Rattle.std.proofs.Common.{find, length, Option, None, Some, IfNone, refl, sym, ap, ap₂, ◌∙◌}
use Rattle.std.proofs.Common.{subst, arith}
use Rattle.std.proofs.Common.{eq-eqb, eqb-true}
use Rattle.std.proofs.lemmas.Bool.{cases_lt, or_cases, or_left, or_right}
use Rattle.ls_set.specs.ItemSet.{Items, has, most_items, with, numbers_from, IsWithin}
use Rattle.ls_set.proofs.Sets.{has-with, same_within}
use Rattle.ls_origins.specs.Relations.{below_of, first_cycle, relation, strictly_below}
use Rattle.ls_order.specs.Orders.{ArePairs, IsOrder}
use Rattle.ls_order.specs.Closing.{closed, AreRows, ArePaired}
use Rattle.ls_order.specs.Related.{IsRelation}
use Rattle.ls_order.proofs.Closed.{closed-transitive, closed-keeps, closed-least, length-closed}
use Rattle.ls_order.proofs.Closed.{past-rows}
use Rattle.ls_order.proofs.Reached.{relation-length, relation-reflexive, same-rows}
use Rattle.ls_order.proofs.Reached.{strict-below, strict-holds, strict-least, strict-or-same}
use Rattle.ls_order.proofs.Reached.{strict-transitive, relation-past, acyclic-order}
use Rattle.ls_order.proofs.Refused.{cycles}

-- what closed rows have is what the pairs put strictly below
pub closed-strict : (n : ℕ) (pairs : List (ℕ × ℕ)) (rows : List Items) → ArePairs n pairs
    → AreRows n pairs rows → (q : ℕ) → below_of (closed n rows) q ≡ strictly_below n pairs q
closed-strict n pairs rows small are q =
    same_within (below_of (closed n rows) q) (strictly_below n pairs q)
    (closed-least (λ i x. has (strictly_below n pairs x) i ≡ true) n rows
    (λ x y z a b. strict-transitive n pairs z y small b x a)
    (λ x i h. strict-holds n pairs i x small (sym (are.same i x) ∙ h)) q)
    (strict-least (λ i x. has (below_of (closed n rows) x) i ≡ true) n pairs
    (λ x y z a b. transitive z y b x a)
    (λ low high p. closed-keeps n rows high low (are.same low high ∙ p)) q)
  where
    transitive : (x r : ℕ) → has (below_of (closed n rows) x) r ≡ true
        → IsWithin (below_of (closed n rows) r) (below_of (closed n rows) x)
    transitive =
        subst
        (λ m. (x r : ℕ) → has (below_of (closed m rows) x) r ≡ true
        → IsWithin (below_of (closed m rows) r) (below_of (closed m rows) x)) are.each_item
        (closed-transitive rows)

-- with the item itself it is the row of the relation
with-own : (n : ℕ) (pairs : List (ℕ × ℕ)) (q : ℕ) → ArePairs n pairs → q < n
    → with (strictly_below n pairs q) q ≡ below_of (relation n pairs) q
with-own n pairs q small l =
    let strict = strictly_below n pairs q in
    same_within (with strict q) (below_of (relation n pairs) q)
    (λ i h. elim (or_cases (has strict i) (eqb i q) (sym (has-with strict q i) ∙ h)) [
      | inl a ↦ strict-below n pairs q i small a
      | inr a ↦ ap (has (below_of (relation n pairs) q)) (eqb-true i q a)
          ∙ relation-reflexive n pairs q l
    ])
    (λ i h. has-with strict q i ∙ elim (strict-or-same n pairs q i small h) [
      | inl e ↦ or_right (has strict i) (eqb i q) (eq-eqb i q e)
      | inr a ↦ or_left (has strict i) (eqb i q) a
    ])

pub own-relation : (n : ℕ) (pairs : List (ℕ × ℕ)) (rows own : List Items) → ArePairs n pairs
    → AreRows n pairs rows → length own ≡ n
    → ((q : ℕ) → q < n → below_of own q ≡ with (below_of (closed n rows) q) q)
    → own ≡ relation n pairs
own-relation n pairs rows own small are as_many put =
    same-rows own (relation n pairs) (as_many ∙ sym (relation-length n pairs))
    (λ q. elim (cases_lt q n) [
      | inl l ↦ put q l ∙ ap (λ s. with s q) (closed-strict n pairs rows small are q)
          ∙ with-own n pairs q small l
      | inr l ↦ past-rows own q (omega arith) ∙ sym (relation-past n pairs q l)
    ])

-- ---- an item below itself

find-same : (p r : ℕ → Bool) (xs : List ℕ) → ((x : ℕ) → p x ≡ r x) → find p xs ≡ find r xs
find-same p r [] e = refl
find-same p r (x ∷ xs) e = ap₂ (λ b rest. cond b (Some x) rest) (e x) (find-same p r xs e)

pub own-cycle : (n : ℕ) (pairs : List (ℕ × ℕ)) (rows : List Items) → ArePairs n pairs
    → AreRows n pairs rows
    → find (λ q. has (below_of (closed n rows) q) q) (numbers_from 0 n) ≡ first_cycle n pairs
own-cycle n pairs rows small are =
    find-same (λ q. has (below_of (closed n rows) q) q) (λ q. has (strictly_below n pairs q) q)
    (numbers_from 0 n) (λ q. ap (λ s. has s q) (closed-strict n pairs rows small are q))

pub own-order : (n : ℕ) (pairs : List (ℕ × ℕ)) (own : List Items) → ArePairs n pairs
    → first_cycle n pairs ≡ None → own ≡ relation n pairs → IsOrder n own
own-order n pairs own small none e =
    subst (IsOrder n) (sym e) (acyclic-order n pairs small ((cycles n pairs).0 none))

-- ---- rows that a call has closed, and into which it has put each item

pub made-cycle : (n : ℕ) (pairs : List (ℕ × ℕ)) (given rows : List Items) (found : Option ℕ)
    → ArePairs n pairs → AreRows n pairs given → rows ≡ closed n given
    → found ≡ find (λ q. has (below_of rows q) q) (numbers_from 0 (length rows))
    → found ≡ first_cycle n pairs
made-cycle n pairs given rows found small are e is =
    let as_many = ap length e ∙ length-closed n given ∙ are.each_item in
    is ∙ ap₂ (λ (rs : List Items) m. find (λ q. has (below_of rs q) q) (numbers_from 0 m)) e as_many
    ∙ own-cycle n pairs given small are

pub made-order : (n : ℕ) (pairs : List (ℕ × ℕ)) (given rows own : List Items) → ArePairs n pairs
    → AreRows n pairs given → rows ≡ closed n given → length own ≡ length rows
    → ((q : ℕ) → q < length rows → below_of own q ≡ with (below_of rows q) q)
    → own ≡ relation n pairs
made-order n pairs given rows own small are e own_many put =
    let as_many = ap length e ∙ length-closed n given ∙ are.each_item in
    own-relation n pairs given own small are (own_many ∙ as_many)
    (λ q l. put q (omega (arith, as_many)) ∙ ap (λ rs. with (below_of rs q) q) e)

pub if-none : {X : Type 0} (found : Option X) (P : Type 0) → P → IfNone found P
if-none None P p = p
if-none (Some x) P p = tt

pub made-relation : (given next own : List Items) (found : Option ℕ)
    → ArePaired (length given) given → length given ≤ most_items
    → ((pairs : List (ℕ × ℕ)) → ArePairs (length given) pairs → AreRows (length given) pairs given
    → found ≡ first_cycle (length given) pairs)
    → ((pairs : List (ℕ × ℕ)) → ArePairs (length given) pairs → AreRows (length given) pairs given
    → next ≡ relation (length given) pairs) → found ≡ None → length next ≡ length given
    → own ≡ next → IsRelation (record { item_count = length own; below = own })
made-relation given next own found paired few cycle below none as_many e =
    let n = length given in
    let pairs = paired.pairs in
    let long : length own ≡ n = ap length e ∙ as_many in
    record {
      few = omega (arith, long, few);
      order = subst (λ m. IsOrder m own) (sym long)
          (own-order n pairs own paired.small
          (sym (cycle pairs paired.small paired.are_rows) ∙ none)
          (e ∙ below pairs paired.small paired.are_rows));
    }
