-- The rows of a file of pairs, line by line.
use Rattle.std.proofs.Common.{ℕ, zero, suc, ◌<◌, ◌≡◌, ◌&&◌, ◌||◌, ◌∙◌, ◌∷◌, ◌++◌}
use Rattle.std.proofs.Common.{[], Bool}
use Rattle.std.proofs.Common.{List, ap, ap₂, arith}
use Rattle.std.proofs.Common.{eqb, false}
use Rattle.std.proofs.Common.{get_or, inl, inr, length, ne_eqb, eq-eqb, refl, replicate, set, subst}
use Rattle.std.proofs.Common.{sym, true}
use Rattle.std.proofs.Common.{true≢false, eqb-true}
use Rattle.std.proofs.lemmas.Bool.{and_parts, cases_eq, or_cases}
use Rattle.std.proofs.lemmas.List.{get_or-set_same, get_or-set_other, length-set}
use Rattle.ls_set.specs.ItemSet.{Items, has, empty, with}
use Rattle.ls_set.proofs.Sets.{has-empty, has-with}
unfoldable use Rattle.ls_cutting.specs.{lines}
use Rattle.ls_origins.specs.Relations.{below_of}
use Rattle.ls_order.specs.Closing.{AreRows}
use Rattle.ls_order.specs.Orders.{ArePairs, has_pair}
use Rattle.ls_files.specs.PairFiles.{with_line}
use Rattle.ls_order.specs.Reading.{IsTaken}
use Rattle.ls_files.specs.declared.pair_line.PairLine.{PairLine}
use Rattle.ls_files.specs.declared.pair_line.PairLine.TheVariants as line

-- ---- rows

none-of : (n q : ℕ) → get_or (replicate n empty) q empty ≡ empty
none-of zero q = refl
none-of (suc n) zero = refl
none-of (suc n) (suc q) = none-of n q

length-none : (n : ℕ) → length (replicate n empty) ≡ n
length-none zero = refl
length-none (suc n) = ap suc (length-none n)

pub rows-none : (n : ℕ) (rows : List Items) → rows ≡ replicate n empty → AreRows n [] rows
rows-none n rows e = record {
  each_item = ap length e ∙ length-none n;
  same = λ low high. ap (λ rs. has (below_of rs high) low) e ∙ ap (λ s. has s low) (none-of n high)
      ∙ has-empty low;
}

pub pairs-none : (n : ℕ) → ArePairs n []
pairs-none n low high h = absurd (true≢false (sym h))

has-appended : (pairs : List (ℕ × ℕ)) (p : ℕ × ℕ) (low high : ℕ)
    → has_pair (pairs ++ p ∷ []) low high
    ≡ (has_pair pairs low high || (eqb p.0 low && eqb p.1 high))
has-appended [] p low high = last (eqb p.0 low && eqb p.1 high)
  where
    last : (b : Bool) → (b || false) ≡ b
    last true = refl
    last false = refl
has-appended (x ∷ pairs) p low high =
    elim
    (eqb x.0 low && eqb x.1 high)
    as (λ b. (b || has_pair (pairs ++ p ∷ []) low high)
    ≡ ((b || has_pair pairs low high) || (eqb p.0 low && eqb p.1 high)))
    [ true ↦ refl | false ↦ has-appended pairs p low high ]

pub pairs-more : (n : ℕ) (pairs : List (ℕ × ℕ)) (low high : ℕ) → ArePairs n pairs → low < n
    → high < n → ArePairs n (pairs ++ (low, high) ∷ [])
pairs-more n pairs low high small l k i j h =
    elim (or_cases (has_pair pairs i j) (eqb low i && eqb high j)
    (sym (has-appended pairs (low, high) i j) ∙ h)) [
      | inl a ↦ small i j a
      | inr a ↦
          let b = and_parts (eqb low i) (eqb high j) a in
          (subst (λ x. x < n) (eqb-true low i b.0) l, subst (λ x. x < n) (eqb-true high j b.1) k)
    ]

pub rows-more : (n : ℕ) (pairs : List (ℕ × ℕ)) (rows : List Items) (low high : ℕ)
    → AreRows n pairs rows → high < length rows
    → AreRows n (pairs ++ (low, high) ∷ []) (set rows high (with (below_of rows high) low))
rows-more n pairs rows low high are k = record {
  each_item = length-set rows high (with (below_of rows high) low) ∙ are.each_item;
  same = λ i j. elim (cases_eq j high) [
    | inl e ↦
        let row : below_of (set rows high (with (below_of rows high) low)) j
        ≡ with (below_of rows high) low =
        ap (below_of (set rows high (with (below_of rows high) low))) e
        ∙ get_or-set_same rows high (with (below_of rows high) low) empty k in
        let is = eq-eqb high j (sym e) in
        let before = are.same i high in
        let before' = ap (has_pair pairs i) e in
        let put = has-with (below_of rows high) low i in
        let after = has-appended pairs (low, high) i j in
        let turned = eqb-turned low i in
        ap (λ s. has s i) row ∙ put ∙ ap₂ (λ a b. a || b) (before ∙ sym before')
        (sym turned ∙ sym (right (eqb low i)) ∙ ap (λ b. eqb low i && b) (sym is)) ∙ sym after
    | inr other ↦
        let is : eqb high j ≡ false = ne_eqb high j (λ e. other (sym e)) in
        let after = has-appended pairs (low, high) i j in
        ap (λ s. has s i)
        (get_or-set_other rows high j (with (below_of rows high) low) empty other)
        ∙ are.same i j ∙ sym (none (has_pair pairs i j)) ∙ ap (λ b. has_pair pairs i j || b)
        (sym (ap (λ b. eqb low i && b) is ∙ neither (eqb low i))) ∙ sym after
  ];
}
  where
    eqb-turned : (x y : ℕ) → eqb x y ≡ eqb y x
    eqb-turned x y = grind arith

    right : (b : Bool) → (b && true) ≡ b
    right true = refl
    right false = refl

    none : (b : Bool) → (b || false) ≡ b
    none true = refl
    none false = refl

    neither : (b : Bool) → (b && false) ≡ false
    neither true = refl
    neither false = refl

pub taken-pair : (n : ℕ) (pairs : List (ℕ × ℕ)) (row low high : ℕ) (l : PairLine)
    (rows next : List Items) → ArePairs n pairs → AreRows n pairs rows → l ≡ line.Pair low high
    → low < n → high < n → next ≡ set rows high (with (below_of rows high) low)
    → IsTaken n pairs row l next
taken-pair n pairs row low high l rows next small are is lesser less e = record {
  pairs = pairs ++ (low, high) ∷ [];
  read = ap (with_line pairs row) is;
  small = pairs-more n pairs low high small lesser less;
  are_rows = subst (AreRows n (pairs ++ (low, high) ∷ [])) (sym e)
      (rows-more n pairs rows low high are (omega (arith, are.each_item)));
}
