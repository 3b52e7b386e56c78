-- Least sets: a list of sets of g that has one within each set of g has the same least sets, and the atoms at an item are the least sets with it.
use Rattle.std.proofs.Common.{ℕ, ◌≡◌, ◌⊎◌, inl, inr, Bool, true, false, not, ◌&&◌, List, [], ◌++◌, filter, refl, sym, ap, ◌∙◌, subst, true≢false}
use Rattle.std.specs.List.{list_any}
use Rattle.std.proofs.lemmas.Bool.{cases_Bool, and_parts, and_from, or_cases, or_left, or_right, not-true, not_from_false, false_from_ne_true}
use Rattle.std.proofs.Math.Bool.{and_assoc}
use Rattle.std.proofs.lemmas.List.Elements.{filter_agree}
use Rattle.ls_lists.proofs.Bools.{same_truth}
use Rattle.ls_lists.proofs.Filters.{filter-both}
use Rattle.ls_set.specs.{IsWithin, Items, has, is_among, is_same, is_within}
use Rattle.ls_set.proofs.Sets.{same_within, Decides-is_same, IsWithin-from, is_within-from}
use Rattle.ls_set.proofs.Members.{among-append, among-filter}
use Rattle.ls_theory.specs.{atoms_at, is_atom_at}
use Rattle.ls_laws.specs.Spans.{IsPart, is_proper}
use Rattle.ls_laws.proofs.Lists.{some-among, some-from}
pub use Rattle.ls_laws.proofs.Lists.{some-filter, some-same}
use Rattle.ls_laws.proofs.Counts.{as_many}
use Rattle.ls_laws.proofs.Atoms.{fewest_of}
use Rattle.ls_laws.specs.LeastSets.{least_sets, least_beside, has_none_within, IsBelow, having}

-- ---- members of the lists

pub among-parts : (p : Items → Bool) (f : List Items) (k : Items) → is_among (filter p f) k ≡ true → (is_among f k ≡ true) × (p k ≡ true)
among-parts p f k c = and_parts (is_among f k) (p k) (sym (among-filter p f k) ∙ c)

pub among-from : (p : Items → Bool) (f : List Items) (k : Items) → is_among f k ≡ true → p k ≡ true → is_among (filter p f) k ≡ true
among-from p f k c h = among-filter p f k ∙ and_from (is_among f k) (p k) c h

pub among-either : (f g : List Items) (k : Items) → is_among (f ++ g) k ≡ true → (is_among f k ≡ true) ⊎ (is_among g k ≡ true)
among-either f g k c = or_cases (is_among f k) (is_among g k) (sym (among-append f g k) ∙ c)

pub among-left : (f g : List Items) (k : Items) → is_among f k ≡ true → is_among (f ++ g) k ≡ true
among-left f g k c = among-append f g k ∙ or_left (is_among f k) (is_among g k) c

pub among-right : (f g : List Items) (k : Items) → is_among g k ≡ true → is_among (f ++ g) k ≡ true
among-right f g k c = among-append f g k ∙ or_right (is_among f k) (is_among g k) c

-- ---- least sets

-- a set of the list that each set of it within has whole
pub record IsLeast (g : List Items) (k : Items) : Type 0 where
  pub member : is_among g k ≡ true
  pub least : (l : Items) → is_among g l ≡ true → IsWithin l k → l ≡ k

pub IsLeast-from : (g : List Items) (k : Items) → is_among (least_sets g) k ≡ true → IsLeast g k
IsLeast-from g k c =
    let p = and_parts (is_among g k) (not (list_any (λ l. is_proper l k) g)) (sym (among-filter (λ k. not (list_any (λ l. is_proper l k) g)) g k) ∙ c) in
    record {
      member = p.0;
      least = λ l a w. (Decides-is_same l k).0 (elim (is_same l k) as (λ b. is_same l k ≡ b → b ≡ true) [
        | true ↦ λ _. refl
        | false ↦ λ e. absurd (true≢false (sym (some-among (λ l. is_proper l k) g l a (and_from (is_within l k) (not (is_same l k)) (is_within-from l k w) (not_from_false (is_same l k) e))) ∙ not-true (list_any (λ l. is_proper l k) g) p.1))
      ] refl);
    }

pub least-from : (g : List Items) (k : Items) → IsLeast g k → is_among (least_sets g) k ≡ true
least-from g k h =
    among-filter (λ k. not (list_any (λ l. is_proper l k) g)) g k
    ∙ and_from (is_among g k) (not (list_any (λ l. is_proper l k) g)) h.member
    (not_from_false (list_any (λ l. is_proper l k) g) (false_from_ne_true (list_any (λ l. is_proper l k) g) (λ a.
    let x = some-from (λ l. is_proper l k) g a in
    let p = and_parts (is_within x.0 k) (not (is_same x.0 k)) x.2 in
    true≢false (sym ((Decides-is_same x.0 k).1 (h.least x.0 x.1 (IsWithin-from x.0 k p.0))) ∙ not-true (is_same x.0 k) p.1))))

-- each set of a list has a least one within it
pub least_within : (g : List Items) (k : Items) → is_among g k ≡ true → (m : Items) × (is_among (least_sets g) m ≡ true) × IsWithin m k
least_within g k c =
    let r = fewest_of (λ l. is_within l k) g k c (is_within-from k k (λ i h. h)) in
    let m = r.0 in
    let best = r.1 in
    let w = IsWithin-from m k best.passes in (
      m,
      least-from g m (record { member = best.member; least = λ l a v. as_many l m v (best.fewest l a (is_within-from l k (λ i h. w i (v i h)))) }),
      w,
    )

-- ---- lists with the same least sets

pub least-below : (g : List Items) → IsBelow (least_sets g) g
least-below g = record { part = λ k c. (IsLeast-from g k c).member; within = least_within g }

pub below-through : (c d g : List Items) → IsBelow c d → IsBelow d g → IsBelow c g
below-through c d g a b = record {
  part = λ k h. b.part k (a.part k h);
  within = λ k h. let x = b.within k h in let y = a.within x.0 x.1 in (y.0, y.1, λ i e. x.2 i (y.2 i e));
}

pub below-more : (c d g : List Items) → IsBelow c g → IsPart c d → IsPart d g → IsBelow d g
below-more c d g a p q = record { part = q; within = λ k h. let x = a.within k h in (x.0, p x.0 x.1, x.2) }

pub same-least : (c g : List Items) → IsBelow c g → (k : Items) → is_among (least_sets g) k ≡ is_among (least_sets c) k
same-least c g b k = same_truth (is_among (least_sets g) k) (is_among (least_sets c) k)
    (λ h.
    let x = IsLeast-from g k h in
    let m = b.within k x.member in
    let e = x.least m.0 (b.part m.0 m.1) m.2 in
    least-from c k (record { member = subst (λ s. is_among c s ≡ true) e m.1; least = λ l a w. x.least l (b.part l a) w }))
    (λ h.
    let x = IsLeast-from c k h in
    least-from g k (record {
      member = b.part k x.member;
      least = λ l a w.
          let m = b.within l a in
          let e = x.least m.0 m.1 (λ i t. w i (m.2 i t)) in
          same_within l k w (subst (λ s. IsWithin s l) e m.2);
    }))

-- ---- least sets beside others

-- a least set of two lists is in the first, or is a least one of the second within which none of the first lies
pub least-either : (kept js : List Items) (k : Items) → is_among (least_sets (kept ++ js)) k ≡ true → (is_among kept k ≡ true) ⊎ (is_among (least_beside kept js) k ≡ true)
least-either kept js k h =
    let x = IsLeast-from (kept ++ js) k h in
    elim (cases_Bool (is_among kept k)) [
      | inl a ↦ inl a
      | inr out ↦ elim (among-either kept js k x.member) [
        | inl a ↦ absurd (true≢false (sym a ∙ out))
        | inr j ↦ inr (among-from (has_none_within kept) (least_sets js) k (least-from js k (record { member = j; least = λ l c w. x.least l (among-right kept js l c) w }))
            (not_from_false (list_any (λ l. is_within l k) kept) (false_from_ne_true (list_any (λ l. is_within l k) kept) (λ s.
            let y = some-from (λ l. is_within l k) kept s in
            true≢false (sym (subst (λ t. is_among kept t ≡ true) (x.least y.0 (among-left kept js y.0 y.1) (IsWithin-from y.0 k y.2)) y.1) ∙ out)))))
      ]
    ]

-- such a least one of the second is a least set of both
pub beside-least : (kept js : List Items) (k : Items) → is_among (least_beside kept js) k ≡ true → is_among (least_sets (kept ++ js)) k ≡ true
beside-least kept js k a =
    let p = among-parts (has_none_within kept) (least_sets js) k a in
    let x = IsLeast-from js k p.0 in
    least-from (kept ++ js) k (record {
      member = among-right kept js k x.member;
      least = λ l c w. elim (among-either kept js l c) [
        | inl s ↦ absurd (true≢false (sym (some-among (λ l. is_within l k) kept l s (is_within-from l k w)) ∙ not-true (list_any (λ l. is_within l k) kept) p.1))
        | inr j ↦ x.least l j w
      ];
    })

-- ---- the atoms at an item

pub atoms-least : (f : List Items) (i : ℕ) → atoms_at f i ≡ least_sets (having i f)
atoms-least f i =
    sym (filter-both (λ k. has k i) (λ k. not (list_any (λ l. is_proper l k) (having i f))) f
    ∙ filter_agree (λ k. has k i && not (list_any (λ l. is_proper l k) (having i f))) (is_atom_at f i) (λ k. ap (λ b. has k i && not b)
    (some-filter (λ l. has l i) (λ l. is_proper l k) f
    ∙ some-same (λ l. has l i && is_proper l k) (λ l. has l i && is_within l k && not (is_same l k)) f (λ l. sym (and_assoc (has l i) (is_within l k) (not (is_same l k)))))) f)
