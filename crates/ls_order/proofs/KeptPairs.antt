-- The family of the relation of pairs.
use Rattle.std.proofs.Common.{ℕ, ◌≡◌, inl, inr, true}
use Rattle.std.proofs.Common.{not, ◌&&◌, ◌||◌, eqb, List, [], ◌∷◌}
use Rattle.std.proofs.Common.{refl, sym, ap, ◌∙◌}
use Rattle.std.proofs.Common.{true≢false, eq-eqb, eqb-true}
use Rattle.std.specs.List.{list_all}
use Rattle.std.proofs.lemmas.Bool.{cases_Bool, and_parts, and_from, or_cases}
use Rattle.std.proofs.lemmas.Bool.{or_left, or_right}
use Rattle.ls_set.specs.ItemSet.{Items, has, full}
use Rattle.ls_set.specs.ItemSet.{is_within, is_among, items}
use Rattle.ls_set.proofs.Sets.{both_ways, is_within-from}
use Rattle.ls_set.proofs.Sets.{IsWithin-from}
use Rattle.ls_laws.proofs.Compat.{all-items, items-all}
use Rattle.ls_origins.specs.Relations.{is_kept, kept_sets, relation}
use Rattle.ls_origins.specs.Relations.{strictly_below}
use Rattle.ls_order.specs.Orders.{has_pair, ArePairs}
use Rattle.ls_order.specs.Orders.{keeps_pairs}
use Rattle.ls_order.proofs.Related.{among-kept, kept-within, kept-from}
use Rattle.ls_order.proofs.Reached.{relation-all, relation-holds, strict-below, strict-holds}

keeps-from : (pairs : List (ℕ × ℕ)) (k : Items) (low high : ℕ) → keeps_pairs pairs k ≡ true
    → has_pair pairs low high ≡ true → has k high ≡ true → has k low ≡ true
keeps-from [] k low high h p a = absurd (true≢false (sym p))
keeps-from (x ∷ pairs) k low high h p a =
    let b = and_parts (not (has k x.1) || has k x.0) (keeps_pairs pairs k) h in
    elim (or_cases (eqb x.0 low && eqb x.1 high) (has_pair pairs low high) p) [
      | inr d ↦ keeps-from pairs k low high b.1 d a
      | inl d ↦
          let e = and_parts (eqb x.0 low) (eqb x.1 high) d in
          let low_is = eqb-true x.0 low e.0 in
          let high_is = eqb-true x.1 high e.1 in
          let a' : has k x.1 ≡ true = ap (has k) high_is ∙ a in
          ap (has k) (sym low_is) ∙ sym (ap (λ b. not b || has k x.0) a') ∙ b.0
    ]

keeps-to : (pairs : List (ℕ × ℕ)) (k : Items)
    → ((low high : ℕ) → has_pair pairs low high ≡ true → has k high ≡ true → has k low ≡ true)
    → keeps_pairs pairs k ≡ true
keeps-to [] k h = refl
keeps-to (x ∷ pairs) k h = and_from (not (has k x.1) || has k x.0) (keeps_pairs pairs k)
    (elim (cases_Bool (has k x.1)) [
      | inl a ↦ or_right (not (has k x.1)) (has k x.0)
          (h x.0
          x.1
          (or_left (eqb x.0 x.0 && eqb x.1 x.1) (has_pair pairs x.0 x.1)
          (and_from (eqb x.0 x.0) (eqb x.1 x.1) (eq-eqb x.0 x.0 refl) (eq-eqb x.1 x.1 refl))) a)
      | inr a ↦ or_left (not (has k x.1)) (has k x.0) (ap not a)
    ])
    (keeps-to
    pairs
    k (λ
    low
    high p. h low high (or_right (eqb x.0 low && eqb x.1 high) (has_pair pairs low high) p)))

pub kept-pairs : (n : ℕ) (pairs : List (ℕ × ℕ)) (k : Items) → ArePairs n pairs
    → is_among (kept_sets n (relation n pairs)) k ≡ (is_within k (full n) && keeps_pairs pairs k)
kept-pairs n pairs k small =
    among-kept n (relation n pairs) k ∙ ap (λ b. is_within k (full n) && b)
    (both_ways (is_kept (relation n pairs) k) (keeps_pairs pairs k)
    (λ h.
    keeps-to
    pairs
    k (λ low high p a. kept-within (relation n pairs) k high h a low
    (relation-holds n pairs low high small p)))
    (λ h. kept-from (relation n pairs) k
    (λ q a i b. relation-all (λ i. has k i ≡ true) n pairs q a
    (λ low high p c. keeps-from pairs k low high h p c) i b)))

-- the same by what is strictly below
pub kept-strictly : (n : ℕ) (pairs : List (ℕ × ℕ)) (k : Items) → ArePairs n pairs
    → is_among (kept_sets n (relation n pairs)) k
    ≡ (is_within k (full n) && list_all (λ q. is_within (strictly_below n pairs q) k) (items k))
kept-strictly n pairs k small =
    among-kept n (relation n pairs) k ∙ ap (λ b. is_within k (full n) && b)
    (both_ways (is_kept (relation n pairs) k)
    (list_all (λ q. is_within (strictly_below n pairs q) k) (items k))
    (λ h. items-all (λ q. is_within (strictly_below n pairs q) k) k
    (λ q a. is_within-from (strictly_below n pairs q) k
    (λ i b. kept-within (relation n pairs) k q h a i (strict-below n pairs q i small b))))
    (λ h. kept-from (relation n pairs) k (λ q a i b. relation-all (λ i. has k i ≡ true) n pairs q a
    (λ low high p c. IsWithin-from (strictly_below n pairs high) k
    (all-items (λ q. is_within (strictly_below n pairs q) k) k high h c) low
    (strict-holds n pairs low high small p)) i b)))
