-- What is known of weights and sums that are kept.
use Rattle.ls_weight.proofs.Light.{light-total}
use Rattle.ls_weight.proofs.Vocabulary.{◌*◌, ◌<◌, ◌^◌, ◌∙◌, ◌∷◌, ◌≡◌, ◌≤◌, IsFirstMaxByKey, AreKeptSums, Items, KeptSums, List, Ratio, Ratios, Reply, Weighing, ℕ, [], ap, arith, count_by, empty, get_or, get_or-le-sum_by, get_or-map, get_or-map-range_with_len, get_or-replicate, has, is_ratio, length, length-map, length-replicate, map, mass, mass-sum, nat_tests, range_with_len, refl, replicate, sum_by-cons, sym, total, true, weight}
use Rattle.std.proofs.lemmas.Nat.{mul-le}
use Rattle.ls_lists.proofs.Filters.{sum_by-filter-le}

-- ---- before any reply

pub ones-are : (ratios : List Ratios) (f : List Items) → replicate (length f) 1 ≡ map (weight ratios []) f
unfolding weight
ones-are ratios [] = refl
ones-are ratios (k ∷ f) = ap (λ l. 1 ∷ l) (ones-are ratios f)

pub count-is : (ratios : List Ratios) (f : List Items) → length f ≡ total ratios [] f
unfolding weight
count-is ratios [] = refl
count-is ratios (k ∷ f) = let rest = count-is ratios f in let all = sum_by-cons (weight ratios []) k f in omega arith

pub counts-are : (ratios : List Ratios) (f : List Items) (n q : ℕ) → q < n → get_or (map (λ q. count_by (λ k. has k q) f) (range_with_len 0 n)) q 0 ≡ mass ratios [] f q
unfolding weight
counts-are ratios f n q l = get_or-map-range_with_len (λ q. count_by (λ k. has k q) f) 0 n q q 0 l (omega arith) ∙ sym (mass-sum ratios [] f q)

pub first-one : (m : ℕ) → 0 < m → IsFirstMaxByKey (λ v. v) (replicate m 1) (length {A = ℕ} (replicate m 1)) 0
first-one m l =
    let long = length-replicate {A = ℕ} m 1 in
    (omega arith, λ k d b. rw (get_or-replicate m k 1 d (omega arith), get_or-replicate m 0 1 d l) (omega arith), λ k d b. absurd (omega arith))

-- ---- bounds

pub kept-bound : (n : ℕ) (w : Weighing) (kept : KeptSums) → AreKeptSums n w kept → total w.settings.ratios w.replies w.states ≤ 2 ^ 120
kept-bound n w kept h = light-total w.settings w.replies w.states h.allowed.ratios h.light h.budget

pub mass-le : (ratios : List Ratios) (replies : List Reply) (f : List Items) (q : ℕ) → mass ratios replies f q ≤ total ratios replies f
mass-le ratios replies f q = sum_by-filter-le (weight ratios replies) (λ k. has k q) f

pub kept-long : (n : ℕ) (w : Weighing) (kept : KeptSums) → AreKeptSums n w kept → length kept.weights ≡ length w.states
kept-long n w kept h = ap length h.weights ∙ length-map w.states (weight w.settings.ratios w.replies)

pub kept-at : (n : ℕ) (w : Weighing) (kept : KeptSums) (i d : ℕ) (k : Items) → AreKeptSums n w kept → i < length w.states → get_or kept.weights i d ≡ weight w.settings.ratios w.replies (get_or w.states i k)
kept-at n w kept i d k h l = ap (λ l. get_or l i d) h.weights ∙ get_or-map (weight w.settings.ratios w.replies) w.states i k d l

-- a weight is at most the total
pub kept-part : (n : ℕ) (w : Weighing) (kept : KeptSums) (i d : ℕ) → AreKeptSums n w kept → i < length w.states → get_or kept.weights i d ≤ total w.settings.ratios w.replies w.states
kept-part n w kept i d h l = omega (arith, kept-at n w kept i d empty h l, get_or-le-sum_by (weight w.settings.ratios w.replies) w.states i empty l)

ratio-small : (r : Ratio) → is_ratio r ≡ true → r.a ≤ 64
ratio-small r e = grind (arith, nat_tests)

-- the total may be multiplied once more
pub kept-grows : (n : ℕ) (w : Weighing) (kept : KeptSums) (r : Ratio) → AreKeptSums n w kept → is_ratio r ≡ true → kept.total * r.a < 2 ^ 128
kept-grows n w kept r h e =
    let le : kept.total * r.a ≤ 2 ^ 120 * 64 = mul-le kept.total r.a (2 ^ 120) 64 (omega (arith, h.total, kept-bound n w kept h)) (ratio-small r e) in
    omega arith
