-- The next growth by the places at which it can leave a list, and what growths and orders reach.
use Rattle.ls_paths.proofs.Vocabulary.{◌&&◌, ◌++◌, ◌+◌, ◌<◌, ◌∙◌, ◌∷◌, ◌≡◌, ◌≤◌, Bool, Decides-is_same, AreOn, Items, List, None, Option, Some, ℕ, [], and_from, and_parts, ap, ap₂, arith, cases_Bool, cases_eq, cond, drop, empty, eq-eqb, eqb, eqb-true, false, false_from_ne_true, first_growth, first_next, found-passes, full, get_or, has, has-empty, has-minus, has-with, inl, inr, is_among, is_next, is_order, is_same, len, len-empty, len-full, len-with, len-zero, length, members, minus, nat_tests, next_item_after, next_growth, not, not_from_false, numbers_from, option_map, option_or, or_right, refl, same_set, set_of, subst, suc, sym, take, true, true≢false, union, union-empty_left, union-empty_right, unwrap_or, with, without, zero}
use Rattle.ls_paths.specs.Levels.{grown_to, is_grown, is_fresh, is_whole, leaves_at, leaves_below}
use Rattle.ls_paths.proofs.Growths.{IsLearning, begins, some-next, next-left, with-union}
use Rattle.ls_paths.proofs.PathOrder.{all-left}

-- ---- options

or-none : {X : Type 0} (a : Option X) → option_or a None ≡ a
or-none None = refl
or-none (Some x) = refl

or-assoc : {X : Type 0} (a b c : Option X) → option_or a (option_or b c) ≡ option_or (option_or a b) c
or-assoc None b c = refl
or-assoc (Some x) b c = refl

map-or : {X Y : Type 0} (h : X → Y) (a b : Option X) → option_map h (option_or a b) ≡ option_or (option_map h a) (option_map h b)
map-or h None b = refl
map-or h (Some x) b = refl

-- ---- the next growth, by the place at which it leaves the list

leaves-deeper : (n : ℕ) (f : List Items) (k : Items) (o : ℕ) (os : List ℕ) (j : ℕ) → leaves_at n f k (o ∷ os) (suc j) ≡ option_map (λ rest. o ∷ rest) (leaves_at n f (with k o) os j)
leaves-deeper n f k o os j =
    let here = grown_to (with k o) (take j os) in
    let first = λ (i : ℕ). first_growth n f (length (drop (suc j) os)) (with here i) in
    elim (next_item_after n f here (get_or os j 0)) as (λ r. option_map (λ i. (o ∷ take j os) ++ i ∷ first i) r ≡ option_map (λ rest. o ∷ rest) (option_map (λ i. take j os ++ i ∷ first i) r)) [
      | None ↦ refl
      | Some i ↦ refl
    ]

leaves-lower : (n : ℕ) (f : List Items) (k : Items) (o : ℕ) (os : List ℕ) (j : ℕ) → leaves_below n f k (o ∷ os) (suc j) ≡ option_or (option_map (λ rest. o ∷ rest) (leaves_below n f (with k o) os j)) (leaves_at n f k (o ∷ os) 0)
leaves-lower n f k o os zero = or-none (leaves_at n f k (o ∷ os) 0)
leaves-lower n f k o os (suc j) =
    let behind = λ (r : Option (List ℕ)). option_map (λ rest. o ∷ rest) r in
    let last = leaves_at n f k (o ∷ os) 0 in
    let at = leaves_at n f (with k o) os j in
    let below = leaves_below n f (with k o) os j in
    ap₂ option_or (leaves-deeper n f k o os j) (leaves-lower n f k o os j)
    ∙ or-assoc (behind at) (behind below) last
    ∙ ap (λ r. option_or r last) (sym (map-or (λ rest. o ∷ rest) at below))

-- its first item can be added: the next growth is that behind it, or leaves the list there
next-behind : (n : ℕ) (f : List Items) (k : Items) (o : ℕ) (os : List ℕ) (j : ℕ) → is_next f k o ≡ true → next_growth n f os (with k o) ≡ leaves_below n f (with k o) os j → next_growth n f (o ∷ os) k ≡ leaves_below n f k (o ∷ os) (suc j)
next-behind n f k o os j h e =
    ap₂ (λ b r. option_or (cond b (option_map (λ rest. o ∷ rest) r) None) (leaves_at n f k (o ∷ os) 0)) h e ∙ sym (leaves-lower n f k o os j)

-- that of a growth to the end
pub next-whole : (n : ℕ) (f : List Items) (k : Items) (order : List ℕ) → is_grown f k order ≡ true → next_growth n f order k ≡ leaves_below n f k order (length order)
next-whole n f k [] h = refl
next-whole n f k (o ∷ os) h =
    let p = and_parts (is_next f k o) (is_grown f (with k o) os) h in
    next-behind n f k o os (length os) p.0 (next-whole n f (with k o) os p.1)

-- that of a list whose first m items are a growth, and whose next item cannot be added
pub next-broken : (n : ℕ) (f : List Items) (k : Items) (order : List ℕ) (m : ℕ) → m < length order → is_grown f k (take m order) ≡ true → is_next f (grown_to k (take m order)) (get_or order m 0) ≡ false → next_growth n f order k ≡ leaves_below n f k order (suc m)
next-broken n f k [] m l h out = absurd (omega arith)
next-broken n f k (o ∷ os) zero l h out =
    ap (λ b. option_or (cond b (option_map (λ rest. o ∷ rest) (next_growth n f os (with k o))) None) (leaves_at n f k (o ∷ os) 0)) out ∙ sym (or-none (leaves_at n f k (o ∷ os) 0))
next-broken n f k (o ∷ os) (suc m) l h out =
    let p = and_parts (is_next f k o) (is_grown f (with k o) (take m os)) h in
    next-behind n f k o os (suc m) p.0 (next-broken n f (with k o) os m (omega arith) p.1 out)

-- ---- the first growth, and the next, are growths

pub first-long : (n : ℕ) (f : List Items) (m : ℕ) (k : Items) → length (first_growth n f m k) ≡ m
first-long n f zero k = refl
first-long n f (suc m) k = ap suc (first-long n f m (with k (first_next n f k)))

pub first-grown : (n : ℕ) (f : List Items) (m : ℕ) (k : Items) → IsLearning n f → is_among f k ≡ true → len (minus (full n) k) ≡ m → is_grown f k (first_growth n f m k) ≡ true
first-grown n f zero k learning c e = refl
first-grown n f (suc m) k learning c e =
    let b = begins (is_next f k) (numbers_from 0 n) (some-next n m f k learning c e) in
    let i = first_next n f k in
    let same : i ≡ b.first = ap (λ o. unwrap_or o 0) b.found in
    let h : is_next f k i ≡ true = ap (is_next f k) same ∙ b.passes in
    let p = next-left n m f k i learning.family.small h e in
    and_from (is_next f k i) (is_grown f (with k i) (first_growth n f m (with k i))) h (first-grown n f m (with k i) learning p.0 p.1)

-- the list is a growth of the set, as long as another
pub record Grows (f : List Items) (k : Items) (m : ℕ) (order : List ℕ) : Type 0 where
  pub grown : is_grown f k order ≡ true
  pub long : length order ≡ m

-- a growth behind an item that can be added
behind : (f : List Items) (k : Items) (m i : ℕ) (rest : List ℕ) → is_next f k i ≡ true → Grows f (with k i) m rest → Grows f k (suc m) (i ∷ rest)
behind f k m i rest h g = record { grown = and_from (is_next f k i) (is_grown f (with k i) rest) h g.grown; long = ap suc g.long }

some-same : {X : Type 0} (x y : X) → ◌≡◌ {A = Option X} (Some x) (Some y) → x ≡ y
some-same x y e = cc

-- behind an item, or past it: what is so of the next growth behind it, is so of the next growth
next-cases : (n : ℕ) (f : List Items) (o : ℕ) (os : List ℕ) (k : Items) (new : List ℕ) (P : List ℕ → Type 0)
    → (is_next f k o ≡ true → (rest : List ℕ) → next_growth n f os (with k o) ≡ Some rest → P (o ∷ rest))
    → ((i : ℕ) → is_next f k i ≡ true → P (i ∷ first_growth n f (length os) (with k i)))
    → next_growth n f (o ∷ os) k ≡ Some new → P new
next-cases n f o os k new P kept left is =
    elim (cases_Bool (is_next f k o)) [
      | inr a ↦ past (next_item_after n f k o) refl (sym (at_test a) ∙ is)
      | inl a ↦
          elim (next_growth n f os (with k o)) as (λ r. next_growth n f os (with k o) ≡ r → option_or (option_map (λ rest. o ∷ rest) r) later ≡ Some new → P new) [
            | None ↦ λ _ e. past (next_item_after n f k o) refl e
            | Some rest ↦ λ found e. subst P (some-same (o ∷ rest) new e) (kept a rest found)
          ] refl (sym (at_test a) ∙ is)
    ]
  where
    later : Option (List ℕ)
    later = option_map (λ i. i ∷ first_growth n f (length os) (with k i)) (next_item_after n f k o)

    at_test : {b : Bool} → is_next f k o ≡ b → next_growth n f (o ∷ os) k ≡ option_or (cond b (option_map (λ rest. o ∷ rest) (next_growth n f os (with k o))) None) later
    at_test e = ap (λ b. option_or (cond b (option_map (λ rest. o ∷ rest) (next_growth n f os (with k o))) None) later) e

    past : (r : Option ℕ) → next_item_after n f k o ≡ r → option_map (λ i. i ∷ first_growth n f (length os) (with k i)) r ≡ Some new → P new
    past None _ e = absurd (let z : None ≡ Some new = e in cc)
    past (Some i) found e = subst P (some-same (i ∷ first_growth n f (length os) (with k i)) new e) (left i (found-passes (is_next f k) _ i found))

pub next-grown : (n : ℕ) (f : List Items) (order : List ℕ) (k : Items) (new : List ℕ) → IsLearning n f → is_among f k ≡ true → len (minus (full n) k) ≡ length order → next_growth n f order k ≡ Some new → Grows f k (length order) new
next-grown n f [] k new learning c e is = absurd (let z : None ≡ Some new = is in cc)
next-grown n f (o ∷ os) k new learning c e is =
    let small = learning.family.small in
    next-cases n f o os k new (Grows f k (suc (length os)))
    (λ a rest found. let p = next-left n (length os) f k o small a e in behind f k (length os) o rest a (next-grown n f os (with k o) rest learning p.0 p.1 found))
    (λ i a.
    let p = next-left n (length os) f k i small a e in
    behind f k (length os) i _ a (record { grown = first-grown n f (length os) (with k i) learning p.0 p.1; long = first-long n f (length os) (with k i) }))
    is

-- ---- what a growth to the end reaches

pub reaches-full : (n : ℕ) (f : List Items) (k : Items) (order : List ℕ) → AreOn n f → is_among f k ≡ true → is_grown f k order ≡ true → len (minus (full n) k) ≡ length order → grown_to k order ≡ full n
reaches-full n f k [] small c h e =
    let none : minus (full n) k ≡ empty = len-zero (minus (full n) k) e in
    same_set k (full n) (λ i.
    let out : has (minus (full n) k) i ≡ false = ap (λ s. has s i) none ∙ has-empty i in
    let within = small k c i in
    both (has k i) (has (full n) i) within (sym (has-minus (full n) k i) ∙ out))
  where
    both : (a b : Bool) → (a ≡ true → b ≡ true) → (b && not a) ≡ false → a ≡ b
    both true b h e = sym (h refl)
    both false true h e = absurd (true≢false e)
    both false false h e = refl
reaches-full n f k (o ∷ os) small c h e =
    let p = and_parts (is_next f k o) (is_grown f (with k o) os) h in
    let q = next-left n (length os) f k o small p.0 e in
    reaches-full n f (with k o) os small q.0 p.1 q.1

pub reached-is : (k : Items) (order : List ℕ) → grown_to k order ≡ union k (set_of order)
reached-is k [] = sym (union-empty_right k)
reached-is k (o ∷ os) = reached-is (with k o) os ∙ sym (with-union k (set_of os) o)

pub reached-all : (order : List ℕ) → grown_to empty order ≡ set_of order
reached-all order = reached-is empty order ∙ union-empty_left (set_of order)

-- one item more
one-more : (j : ℕ) → j + 1 ≡ suc j
one-more j = omega arith

reached-suc : (k : Items) (order : List ℕ) (j : ℕ) → j < length order → grown_to k (take (suc j) order) ≡ with (grown_to k (take j order)) (get_or order j 0)
reached-suc k [] j l = absurd (omega arith)
reached-suc k (o ∷ os) zero l = refl
reached-suc k (o ∷ os) (suc j) l = reached-suc (with k o) os j (omega arith)

pub reached-next : (k : Items) (order : List ℕ) (j : ℕ) → j < length order → grown_to k (take (j + 1) order) ≡ with (grown_to k (take j order)) (get_or order j 0)
reached-next k order j l = ap (λ m. grown_to k (take m order)) (one-more j) ∙ reached-suc k order j l

grown-suc : (f : List Items) (k : Items) (order : List ℕ) (j : ℕ) → j < length order → is_grown f k (take j order) ≡ true → is_next f (grown_to k (take j order)) (get_or order j 0) ≡ true → is_grown f k (take (suc j) order) ≡ true
grown-suc f k [] j l h a = absurd (omega arith)
grown-suc f k (o ∷ os) zero l h a = and_from (is_next f k o) true a refl
grown-suc f k (o ∷ os) (suc j) l h a =
    let p = and_parts (is_next f k o) (is_grown f (with k o) (take j os)) h in
    and_from (is_next f k o) (is_grown f (with k o) (take (suc j) os)) p.0 (grown-suc f (with k o) os j (omega arith) p.1 a)

pub grown-next : (f : List Items) (k : Items) (order : List ℕ) (j : ℕ) → j < length order → is_grown f k (take j order) ≡ true → is_next f (grown_to k (take j order)) (get_or order j 0) ≡ true → is_grown f k (take (j + 1) order) ≡ true
grown-next f k order j l h a = ap (λ m. is_grown f k (take m order)) (one-more j) ∙ grown-suc f k order j l h a

pub fresh-at : (k : Items) (order : List ℕ) (j : ℕ) → is_fresh k order ≡ true → j < length order → has (grown_to k (take j order)) (get_or order j 0) ≡ false
fresh-at k [] j h l = absurd (omega arith)
fresh-at k (o ∷ os) zero h l = false_from_ne_true (has k o) (λ a. true≢false (sym (and_parts (not (has k o)) (is_fresh (with k o) os) h).0 ∙ ap not a))
fresh-at k (o ∷ os) (suc j) h l = fresh-at (with k o) os j (and_parts (not (has k o)) (is_fresh (with k o) os) h).1 (omega arith)

-- ---- orders of all items

pub already : (k : Items) (o : ℕ) → has k o ≡ true → with k o ≡ k
already k o a = same_set (with k o) k (λ i. elim (cases_eq i o) [
  | inl e ↦ let b : has k i ≡ true = ap (has k) e ∙ a in grind (arith, members, nat_tests)
  | inr e ↦ grind (arith, members, nat_tests)
])

reached-few : (k : Items) (order : List ℕ) → len (grown_to k order) ≤ len k + length order
reached-few k [] = omega arith
reached-few k (o ∷ os) = elim (cases_Bool (has k o)) [
  | inl a ↦ let e : len (with k o) ≡ len k = ap len (already k o a) in let r = reached-few (with k o) os in omega arith
  | inr a ↦ let e = len-with k o a in let r = reached-few (with k o) os in omega arith
]

fresh-from : (k : Items) (order : List ℕ) → len k + length order ≤ len (grown_to k order) → is_fresh k order ≡ true
fresh-from k [] l = refl
fresh-from k (o ∷ os) l = elim (cases_Bool (has k o)) [
  | inl a ↦ let e : len (with k o) ≡ len k = ap len (already k o a) in let r = reached-few (with k o) os in absurd (omega arith)
  | inr a ↦ let e = len-with k o a in and_from (not (has k o)) (is_fresh (with k o) os) (not_from_false (has k o) a) (fresh-from (with k o) os (omega arith))
]

pub record Orders (n : ℕ) (order : List ℕ) : Type 0 where
  pub long : length order ≡ n
  pub all : set_of order ≡ full n

pub order-parts : (n : ℕ) (order : List ℕ) → is_order n order ≡ true → Orders n order
order-parts n order h =
    let p = and_parts (eqb (length order) n) (is_same (set_of order) (full n)) h in
    record { long = eqb-true (length order) n p.0; all = same_from p.1 }
  where
    same_from : is_same (set_of order) (full n) ≡ true → set_of order ≡ full n
    same_from a = (Decides-is_same (set_of order) (full n)).0 a

pub order-fresh : (n : ℕ) (order : List ℕ) → is_order n order ≡ true → is_fresh empty order ≡ true
order-fresh n order h =
    let p = order-parts n order h in
    let e : len (grown_to empty order) ≡ n = ap len (reached-all order ∙ p.all) ∙ len-full n in
    let z = len-empty in
    let l = p.long in
    fresh-from empty order (omega arith)

-- ---- the places at which a list can be left

pub leaves-found : (n : ℕ) (f : List Items) (k : Items) (order : List ℕ) (j i : ℕ) → next_item_after n f (grown_to k (take j order)) (get_or order j 0) ≡ Some i → leaves_below n f k order (suc j) ≡ Some (take j order ++ i ∷ first_growth n f (length (drop (suc j) order)) (with (grown_to k (take j order)) i))
leaves-found n f k order j i e =
    let here = grown_to k (take j order) in
    ap (λ r. option_or (option_map (λ i. take j order ++ i ∷ first_growth n f (length (drop (suc j) order)) (with here i)) r) (leaves_below n f k order j)) e

pub leaves-passed : (n : ℕ) (f : List Items) (k : Items) (order : List ℕ) (j : ℕ) → next_item_after n f (grown_to k (take j order)) (get_or order j 0) ≡ None → leaves_below n f k order (suc j) ≡ leaves_below n f k order j
leaves-passed n f k order j e =
    let here = grown_to k (take j order) in
    ap (λ r. option_or (option_map (λ i. take j order ++ i ∷ first_growth n f (length (drop (suc j) order)) (with here i)) r) (leaves_below n f k order j)) e

-- the last of the items is taken back
pub taken-back : (k : Items) (order : List ℕ) (j : ℕ) → is_fresh k order ≡ true → j < length order → without (grown_to k (take (j + 1) order)) (get_or order j 0) ≡ grown_to k (take j order)
taken-back k order j h l =
    let here = grown_to k (take j order) in
    let o = get_or order j 0 in
    let out : has here o ≡ false = fresh-at k order j h l in
    ap (λ s. without s o) (reached-next k order j l) ∙ same_set (without (with here o) o) here (λ i. elim (cases_eq i o) [
      | inl e ↦ let b : has here i ≡ false = ap (has here) e ∙ out in grind (arith, members, nat_tests)
      | inr e ↦ grind (arith, members, nat_tests)
    ])

pub reached-has : (k : Items) (order : List ℕ) (j : ℕ) → j < length order → has (grown_to k (take (j + 1) order)) (get_or order j 0) ≡ true
reached-has k order j l = ap (λ s. has s (get_or order j 0)) (reached-next k order j l) ∙ has-with (grown_to k (take j order)) (get_or order j 0) (get_or order j 0) ∙ or_right (has (grown_to k (take j order)) (get_or order j 0)) (eqb (get_or order j 0) (get_or order j 0)) (eq-eqb (get_or order j 0) (get_or order j 0) refl)

-- ---- what holds of a path

pub grown-fresh : (f : List Items) (k : Items) (order : List ℕ) → is_grown f k order ≡ true → is_fresh k order ≡ true
grown-fresh f k [] h = refl
grown-fresh f k (o ∷ os) h =
    let p = and_parts (is_next f k o) (is_grown f (with k o) os) h in
    and_from (not (has k o)) (is_fresh (with k o) os) (and_parts (not (has k o)) (is_among f (with k o)) p.0).0 (grown-fresh f (with k o) os p.1)

pub whole-parts : (n : ℕ) (f : List Items) (order : List ℕ) → is_whole n f order ≡ true → Grows f empty n order
whole-parts n f order h =
    let p = and_parts (eqb (length order) n) (is_grown f empty order) h in
    record { grown = p.1; long = eqb-true (length order) n p.0 }

pub whole-from : (n : ℕ) (f : List Items) (order : List ℕ) → Grows f empty n order → is_whole n f order ≡ true
whole-from n f order g = and_from (eqb (length order) n) (is_grown f empty order) (eq-eqb (length order) n g.long) g.grown

-- its items are all items
pub whole-reaches : (n : ℕ) (f : List Items) (order : List ℕ) → IsLearning n f → is_whole n f order ≡ true → grown_to empty order ≡ full n
whole-reaches n f order learning h =
    let g = whole-parts n f order h in
    reaches-full n f empty order learning.family.small learning.family.holds_empty g.grown (all-left n ∙ sym g.long)

pub whole-order : (n : ℕ) (f : List Items) (order : List ℕ) → IsLearning n f → is_whole n f order ≡ true → is_order n order ≡ true
whole-order n f order learning h =
    let g = whole-parts n f order h in
    and_from (eqb (length order) n) (is_same (set_of order) (full n)) (eq-eqb (length order) n g.long)
    ((Decides-is_same (set_of order) (full n)).1 (sym (reached-all order) ∙ whole-reaches n f order learning h))

pub first-whole : (n : ℕ) (f : List Items) → IsLearning n f → is_whole n f (first_growth n f n empty) ≡ true
first-whole n f learning =
    whole-from n f (first_growth n f n empty) (record { grown = first-grown n f n empty learning learning.family.holds_empty (all-left n); long = first-long n f n empty })

pub next-is_whole : (n : ℕ) (f : List Items) (order new : List ℕ) → IsLearning n f → length order ≡ n → next_growth n f order empty ≡ Some new → is_whole n f new ≡ true
next-is_whole n f order new learning long e =
    let g = next-grown n f order empty new learning learning.family.holds_empty (all-left n ∙ sym long) e in
    whole-from n f new (record { grown = g.grown; long = g.long ∙ long })
