-- Weights and sums after one more reply.
use Rattle.ls_weight.proofs.Vocabulary.{◌&&◌, ◌*◌, ◌++◌, ◌+◌, ◌-◌, ◌<◌, ◌∙◌, ◌∷◌, ◌≡◌, ◌≤◌, Bool, IsFirstMaxByKey, Items, List, Ratios, Reply, ℕ, [], add-mul, agreeing_with, agrees, and_parts, ap, ap₂, arith, cond, empty, factor, false, get_or, get_or-map, get_or_default, has, length, length-map, list_all, map, mass, mass-sum, mul-add, mul-le-mul_left, mul-le-mul_right, mul-lt-mul_of_pos_right, mul-zero, mul_comm, nat_lt, nat_tests, not, ratio_for, refl, state_at, sum_by, sum_by-cons, sym, total, true, weight, weight-more}
use Rattle.std.proofs.lemmas.Grind.{same_number_lists}
use Rattle.ls_weight.proofs.SumsBelow.{sum_below-same, sum_by-below}

-- ---- sums

product-split : (w a b : ℕ) (h g : Bool) → b ≤ a → cond h (w * cond g a b) 0 ≡ b * cond h w 0 + (a - b) * cond (g && h) w 0
product-split w a b true true l =
    let parts : (b + (a - b)) * w ≡ b * w + (a - b) * w = add-mul b (a - b) w in
    let whole : b + (a - b) ≡ a = omega arith in
    mul_comm w a ∙ ap (λ n. n * w) (sym whole) ∙ parts
product-split w a b true false l = mul_comm w b ∙ rw (mul-zero (a - b)) (omega arith)
product-split w a b false g l = elim g as (λ t. 0 ≡ b * 0 + (a - b) * cond (t && false) w 0) [
  | true ↦ rw (mul-zero b, mul-zero (a - b)) refl
  | false ↦ rw (mul-zero b, mul-zero (a - b)) refl
]

-- the weights of the sets that pass, after the reply: b times those before, and those that agree another a - b times
pub after-sum : (ratios : List Ratios) (replies : List Reply) (r : Reply) (h : Items → Bool) (f : List Items) → let ratio = ratio_for ratios r in ratio.b ≤ ratio.a → sum_by (λ k. cond (h k) (weight ratios (replies ++ (r ∷ [])) k) 0) f ≡ ratio.b * sum_by (λ k. cond (h k) (weight ratios replies k) 0) f + (ratio.a - ratio.b) * sum_by (λ k. cond (agrees k r && h k) (weight ratios replies k) 0) f
after-sum ratios replies r h [] l = let ratio = ratio_for ratios r in rw (mul-zero ratio.b, mul-zero (ratio.a - ratio.b)) refl
after-sum ratios replies r h (k ∷ f) l =
    let ratio = ratio_for ratios r in
    let new = λ (k : Items). cond (h k) (weight ratios (replies ++ (r ∷ [])) k) 0 in
    let old = λ (k : Items). cond (h k) (weight ratios replies k) 0 in
    let some = λ (k : Items). cond (agrees k r && h k) (weight ratios replies k) 0 in
    let here : new k ≡ ratio.b * old k + (ratio.a - ratio.b) * some k = ap (λ n. cond (h k) n 0) (weight-more ratios replies r k) ∙ product-split (weight ratios replies k) ratio.a ratio.b (h k) (agrees k r) l in
    let rest : sum_by new f ≡ ratio.b * sum_by old f + (ratio.a - ratio.b) * sum_by some f = after-sum ratios replies r h f l in
    let first : ratio.b * (old k + sum_by old f) ≡ ratio.b * old k + ratio.b * sum_by old f = mul-add ratio.b (old k) (sum_by old f) in
    let second : (ratio.a - ratio.b) * (some k + sum_by some f) ≡ (ratio.a - ratio.b) * some k + (ratio.a - ratio.b) * sum_by some f = mul-add (ratio.a - ratio.b) (some k) (sum_by some f) in
    sum_by-cons new k f ∙ ap₂ (λ x y. x + y) here rest ∙ (let e : _ ≡ _ = omega arith in e) ∙ sym (ap₂ (λ x y. ratio.b * x + (ratio.a - ratio.b) * y) (sum_by-cons old k f) (sum_by-cons some k f))

sum_by-agree : {X : Type 0} (f g : X → ℕ) → ((x : X) → f x ≡ g x) → (xs : List X) → sum_by f xs ≡ sum_by g xs
sum_by-agree f g h [] = refl
sum_by-agree f g h (x ∷ xs) = sum_by-cons f x xs ∙ ap₂ (λ m n. m + n) (h x) (sum_by-agree f g h xs) ∙ sym (sum_by-cons g x xs)

sum_by-parts : {X : Type 0} (p : X → Bool) (w : X → ℕ) (xs : List X) → sum_by (λ x. cond (p x) (w x) 0) xs + sum_by (λ x. cond (not (p x) && true) (w x) 0) xs ≡ sum_by w xs
sum_by-parts p w [] = refl
sum_by-parts {X} p w (x ∷ xs) =
    let yes_part = λ (x : X). cond (p x) (w x) 0 in
    let no_part = λ (x : X). cond (not (p x) && true) (w x) 0 in
    let rest : sum_by yes_part xs + sum_by no_part xs ≡ sum_by w xs = sum_by-parts p w xs in
    let here : yes_part x + no_part x ≡ w x = elim (p x) as (λ b. cond b (w x) 0 + cond (not b && true) (w x) 0 ≡ w x) [ true ↦ omega arith | false ↦ omega arith ] in
    rw (sum_by-cons yes_part x xs, sum_by-cons no_part x xs, sum_by-cons w x xs) (omega arith)

and-true : (b : Bool) → b ≡ (b && true)
and-true true = refl
and-true false = refl

-- the weights of the sets that agree with a right reply are the item's mass, and with a wrong one the rest of the total
pub agreeing-is : (ratios : List Ratios) (replies : List Reply) (f : List Items) (q : ℕ) (right : Bool) → cond right (mass ratios replies f q) (total ratios replies f - mass ratios replies f q) ≡ sum_by (λ k. cond (cond right (has k q) (not (has k q)) && true) (weight ratios replies k) 0) f
agreeing-is ratios replies f q true =
    mass-sum ratios replies f q
    ∙ sum_by-agree _ (λ k. cond (has k q && true) (weight ratios replies k) 0) (λ k. ap (λ b. cond b (weight ratios replies k) 0) (and-true (has k q))) f
agreeing-is ratios replies f q false =
    let parts = sum_by-parts (λ k. has k q) (weight ratios replies) f in
    let own = mass-sum ratios replies f q in
    omega arith

-- ---- the total and the masses

pub after-total : (ratios : List Ratios) (replies : List Reply) (r : Reply) (f : List Items) → let ratio = ratio_for ratios r in ratio.b ≤ ratio.a → ratio.b * total ratios replies f + (ratio.a - ratio.b) * cond r.right (mass ratios replies f r.q) (total ratios replies f - mass ratios replies f r.q) ≡ total ratios (replies ++ (r ∷ [])) f
after-total ratios replies r f l =
    let ratio = ratio_for ratios r in
    ap (λ n. ratio.b * total ratios replies f + (ratio.a - ratio.b) * n) (agreeing-is ratios replies f r.q r.right)
    ∙ sym (after-sum ratios replies r (λ k. true) f l)

agreeing_with-is : (ratios : List Ratios) (replies : List Reply) (r : Reply) (f : List Items) (ws : List ℕ) (q : ℕ) → ws ≡ map (weight ratios replies) f → agreeing_with f r ws q ≡ sum_by (λ k. cond (agrees k r && has k q) (weight ratios replies k) 0) f
agreeing_with-is ratios replies r f ws q e =
    let part = λ (k : Items). cond (agrees k r && has k q) (weight ratios replies k) 0 in
    sum_below-same (length f) _ (λ i. part (state_at f i)) (λ i l. ap (λ n. cond (agrees (state_at f i) r && has (state_at f i) q) n 0) (ap (λ l. get_or l i 0) e ∙ get_or-map (weight ratios replies) f i empty 0 l))
    ∙ sym (sum_by-below part f empty)

pub after-mass : (ratios : List Ratios) (replies : List Reply) (r : Reply) (f : List Items) (ws : List ℕ) (q : ℕ) → let ratio = ratio_for ratios r in ratio.b ≤ ratio.a → ws ≡ map (weight ratios replies) f → ratio.b * mass ratios replies f q + (ratio.a - ratio.b) * agreeing_with f r ws q ≡ mass ratios (replies ++ (r ∷ [])) f q
after-mass ratios replies r f ws q l e =
    let ratio = ratio_for ratios r in
    ap₂ (λ m n. ratio.b * m + (ratio.a - ratio.b) * n) (mass-sum ratios replies f q) (agreeing_with-is ratios replies r f ws q e)
    ∙ sym (after-sum ratios replies r (λ k. has k q) f l)
    ∙ sym (mass-sum ratios (replies ++ (r ∷ [])) f q)

-- ---- the weights

pub after-weights : (ratios : List Ratios) (replies : List Reply) (r : Reply) (f : List Items) (ws new : List ℕ) → ws ≡ map (weight ratios replies) f → length new ≡ length ws → ((i : ℕ) → i < length f → get_or new i 0 ≡ get_or ws i 0 * cond (agrees (state_at f i) r) (ratio_for ratios r).a (ratio_for ratios r).b) → new ≡ map (weight ratios (replies ++ (r ∷ []))) f
after-weights ratios replies r f ws new e long each =
    let w = weight ratios replies in
    let after = weight ratios (replies ++ (r ∷ [])) in
    let old : length ws ≡ length f = ap length e ∙ length-map f w in
    same_number_lists new (map after f) (omega (arith, length-map f after)) (λ i l.
    let b : i < length f = omega arith in
    each i b
    ∙ ap (λ n. n * factor ratios (state_at f i) r) (ap (λ l. get_or l i 0) e ∙ get_or-map w f i empty 0 b)
    ∙ sym (weight-more ratios replies r (state_at f i))
    ∙ sym (get_or-map after f i empty 0 b))

-- the first greatest weight stays that where its state agrees
pub first-stays : (ws new : List ℕ) (p a b : ℕ) (g : ℕ → Bool) → length new ≡ length ws → ((i : ℕ) → i < length ws → get_or new i 0 ≡ get_or ws i 0 * cond (g i) a b) → b ≤ a → 1 ≤ b → g p ≡ true → IsFirstMaxByKey (λ v. v) ws (length ws) p → IsFirstMaxByKey (λ v. v) new (length new) p
first-stays ws new p a b g long each le some agrees best =
    let own : get_or new p 0 ≡ get_or ws p 0 * a = each p best.0 ∙ ap (λ t. get_or ws p 0 * cond t a b) agrees in
    let up : (k : ℕ) → k < length ws → get_or new k 0 ≤ get_or ws k 0 * a = λ k l.
    let factor : cond (g k) a b ≤ a = elim (g k) as (λ t. cond t a b ≤ a) [ true ↦ omega arith | false ↦ le ] in
    let grown : get_or ws k 0 * cond (g k) a b ≤ get_or ws k 0 * a = mul-le-mul_left (get_or ws k 0) factor in
    let is = each k l in
    omega arith in (
      omega (arith, best.0),
      λ k d l.
          let m : k < length ws = omega arith in
          let most : get_or ws k 0 * a ≤ get_or ws p 0 * a = mul-le-mul_right a (best.1 k 0 m) in
          let here = up k m in
          rw (get_or_default new k d 0 l, get_or_default new p d 0 (omega (arith, best.0))) (omega arith),
      λ k d l.
          let m : k < length ws = omega (arith, best.0) in
          let less : get_or ws k 0 * a < get_or ws p 0 * a = mul-lt-mul_of_pos_right (best.2 k 0 l) (let s : 0 < a = omega arith in s) in
          let here = up k m in
          rw (get_or_default new k d 0 (omega arith), get_or_default new p d 0 (omega (arith, best.0))) (omega arith),
    )

-- ---- the replies

pub items-more : (n : ℕ) (replies : List Reply) (r : Reply) → list_all (λ r. nat_lt r.q n) replies ≡ true → r.q < n → list_all (λ r. nat_lt r.q n) (replies ++ (r ∷ [])) ≡ true
items-more n [] r e l = grind (arith, nat_tests)
items-more n (x ∷ replies) r e l =
    let p = and_parts (nat_lt x.q n) (list_all (λ (r : Reply). nat_lt r.q n) replies) e in
    rw (p.0) (items-more n replies r p.1 l)
