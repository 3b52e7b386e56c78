-- Steps of a walk: a list that is written from a place on, and the sets that its items give.
use Rattle.ls_paths.proofs.Vocabulary.{◌&&◌, ◌++◌, ◌+◌, ◌-◌, ◌<◌, ◌∙◌, ◌∷◌, ◌≡◌, ◌≤◌, Bool, IsWithin, Items, List, None, Option, Some, ℕ, [], and_from, and_parts, ap, append-nil, append_assoc, ap₂, arith, drop, drop_all, empty, false, first_growth, first_next, found-passes, full, get_or, has, has-full, has-with, is_among, is_fresh, is_grown, is_next, leaves_below, length, length-drop, length-set, length-take-le, ltb-true, members, minus, next_item_after, next_growth, next_item, not, not_from_false, grown_to, refl, same_set, set, subst, suc, sym, take, take_all, take_more_set, true, true≢false, with, without, without-within, zero}
use Rattle.std.proofs.lemmas.Bool.Decides.{nat_tests}
use borrow.Rule.Slice.PartMut.{put_mid}
use Rattle.std.specs.Option.{is_some}
use Rattle.ls_paths.proofs.Levels.{fresh-at, grown-next, leaves-found, leaves-passed, next-broken, next-whole, reached-has, reached-next, taken-back}

-- ---- sets of items below n

-- the items outside a set, where one is added to it, or taken back
pub outside-all : (n : ℕ) → full n ≡ minus (full n) empty
outside-all n = same_set _ _ (λ i. grind (arith, members, nat_tests))

pub outside-less : (n : ℕ) (k out : Items) (i : ℕ) → out ≡ minus (full n) k → without out i ≡ minus (full n) (with k i)
outside-less n k out i e = ap (λ s. without s i) e ∙ same_set (without (minus (full n) k) i) (minus (full n) (with k i)) (λ j. grind (arith, members, nat_tests))

pub outside-more : (n : ℕ) (k out : Items) (i : ℕ) → i < n → out ≡ minus (full n) k → with out i ≡ minus (full n) (without k i)
outside-more n k out i l e = ap (λ s. with s i) e ∙ same_set (with (minus (full n) k) i) (minus (full n) (without k i)) (λ j. grind (arith, members, nat_tests, l))

-- what is looked up among the items outside
pub outside-next : (n : ℕ) (k out : Items) (i : ℕ) (r x : Option ℕ) → out ≡ minus (full n) k → r ≡ next_item out i → r ≡ x → next_item (minus (full n) k) i ≡ x
outside-next n k out i r x e v is = ap (λ s. next_item s i) (sym e) ∙ sym v ∙ is

-- where nothing is found
pub none-is : (o : Option ℕ) → is_some o ≡ false → o ≡ None
none-is None h = refl
none-is (Some i) h = absurd (true≢false h)

-- what is asked of a set with one more item
pub asked-of : (f : List Items) (k w : Items) (i : ℕ) (r b : Bool) → w ≡ with k i → r ≡ is_among f w → r ≡ b → is_among f (with k i) ≡ b
asked-of f k w i r b e v is = ap (is_among f) (sym e) ∙ sym v ∙ is

pub item-small : (n : ℕ) (k : Items) (i : ℕ) → IsWithin k (full n) → has k i ≡ true → i < n
item-small n k i small h = ltb-true i n (sym (has-full n i) ∙ small i h)

pub without-small : (n : ℕ) (k : Items) (i : ℕ) → IsWithin k (full n) → IsWithin (without k i) (full n)
without-small n k i small j h = small j (without-within k i j h)

has-more : (k : Items) (o i : ℕ) → has k i ≡ true → has (with k o) i ≡ true
has-more k o i h = has-with k o i ∙ rw h refl

reached-more : (k : Items) (order : List ℕ) (i : ℕ) → has k i ≡ true → has (grown_to k order) i ≡ true
reached-more k [] i h = h
reached-more k (o ∷ os) i h = reached-more (with k o) os i (has-more k o i h)

-- the first items of a list give a part of what all give
pub reached-part : (k : Items) (order : List ℕ) (j : ℕ) → IsWithin (grown_to k (take j order)) (grown_to k order)
reached-part k [] zero i h = h
reached-part k [] (suc j) i h = h
reached-part k (o ∷ os) zero i h = reached-more k (o ∷ os) i h
reached-part k (o ∷ os) (suc j) i h = reached-part (with k o) os j i h

pub part-small : (n : ℕ) (order : List ℕ) (j : ℕ) → IsWithin (grown_to empty order) (full n) → IsWithin (grown_to empty (take j order)) (full n)
part-small n order j small i h = small i (reached-part empty order j i h)

pub place-small : (n : ℕ) (order : List ℕ) (j : ℕ) → IsWithin (grown_to empty order) (full n) → j < length order → get_or order j 0 < n
place-small n order j small l = item-small n (grown_to empty (take (j + 1) order)) (get_or order j 0) (part-small n order (j + 1) small) (reached-has empty order j l)

-- ---- a list that is written

-- one more item is written
pub grow-more : (n : ℕ) (f : List Items) (m i : ℕ) (order : List ℕ) (k : Items) (item : ℕ) (all : List ℕ) → all ≡ take i order ++ first_growth n f (m - i) k → i < length order → i < m → item ≡ first_next n f k
    → all ≡ take (i + 1) (set order i item) ++ first_growth n f (m - (i + 1)) (with k item)
grow-more n f m i order k item all h l less e =
    let rest = first_growth n f (m - (i + 1)) (with k item) in
    let step : first_growth n f (m - i) k ≡ item ∷ rest = ap (λ d. first_growth n f d k) (let q : m - i ≡ suc (m - (i + 1)) = omega arith in q) ∙ ap (λ x. x ∷ first_growth n f (m - (i + 1)) (with k x)) (sym e) in
    h ∙ ap (λ r. take i order ++ r) step ∙ sym (append_assoc (take i order) (item ∷ []) rest) ∙ ap (λ t. t ++ rest) (sym (take_more_set order i item l))

-- all are
pub grow-end : (n : ℕ) (f : List Items) (m i : ℕ) (order : List ℕ) (k : Items) (all : List ℕ) → all ≡ take i order ++ first_growth n f (m - i) k → length order ≡ m → m ≤ i → order ≡ all
grow-end n f m i order k all h e l =
    sym (h ∙ ap₂ (λ t d. t ++ first_growth n f d k) (take_all i order (omega arith)) (let q : m - i ≡ 0 = omega arith in q) ∙ append-nil order)

-- an item at a place, and a list behind it
pub written : (order : List ℕ) (j next : ℕ) (ys post : List ℕ) → j < length order → post ≡ [] → take (j + 1) (set order j next) ++ (ys ++ post) ≡ take j order ++ next ∷ ys
written order j next ys post l e =
    ap₂ (λ t r. t ++ r) (take_more_set order j next l) (ap (λ p. ys ++ p) e ∙ append-nil ys) ∙ append_assoc (take j order) (next ∷ []) ys

-- ---- where the next growth leaves a list

-- one more item is grown_to
pub level-more : (order : List ℕ) (j : ℕ) (k w : Items) → j < length order → k ≡ grown_to empty (take j order) → w ≡ with k (get_or order j 0) → w ≡ grown_to empty (take (j + 1) order)
level-more order j k w l e ww = ww ∙ ap (λ s. with s (get_or order j 0)) e ∙ sym (reached-next empty order j l)

-- all its items could be added so far, and the next cannot
pub level-found : (n : ℕ) (f : List Items) (order : List ℕ) (j : ℕ) (k : Items) → j < length order → is_grown f empty (take j order) ≡ true → k ≡ grown_to empty (take j order) → is_among f (with k (get_or order j 0)) ≡ false → next_growth n f order empty ≡ leaves_below n f empty order (j + 1)
level-found n f order j k l h e out =
    let next : next_growth n f order empty ≡ leaves_below n f empty order (suc j) = next-broken n f empty order j l h (ap (λ s. is_next f s (get_or order j 0)) (sym e) ∙ closed (not (has k (get_or order j 0))) (is_among f (with k (get_or order j 0))) out) in
    next ∙ ap (leaves_below n f empty order) (let q : suc j ≡ j + 1 = omega arith in q)
  where
    closed : (a b : Bool) → b ≡ false → (a && b) ≡ false
    closed true b h = h
    closed false b h = refl

pub level-passed : (f : List Items) (order : List ℕ) (j : ℕ) (k : Items) → j < length order → is_fresh empty order ≡ true → is_grown f empty (take j order) ≡ true → k ≡ grown_to empty (take j order) → is_among f (with k (get_or order j 0)) ≡ true → is_grown f empty (take (j + 1) order) ≡ true
level-passed f order j k l fresh h e in_f =
    let o = get_or order j 0 in
    grown-next f empty order j l h (ap (λ s. is_next f s o) (sym e) ∙ and_from (not (has k o)) (is_among f (with k o)) (not_from_false (has k o) (ap (λ s. has s o) e ∙ fresh-at empty order j fresh l)) in_f)

pub level-end : (n : ℕ) (f : List Items) (order : List ℕ) (j : ℕ) → length order ≤ j → is_grown f empty (take j order) ≡ true → next_growth n f order empty ≡ leaves_below n f empty order (length order)
level-end n f order j l h = next-whole n f empty order (ap (is_grown f empty) (sym (take_all j order l)) ∙ h)

-- the sets on the way of a growth are members
pub grown-members : (f : List Items) (k : Items) (order : List ℕ) (m j : ℕ) → is_among f k ≡ true → is_grown f k (take m order) ≡ true → j ≤ m → is_among f (grown_to k (take j order)) ≡ true
grown-members f k [] m zero c h l = c
grown-members f k [] m (suc j) c h l = c
grown-members f k (o ∷ os) m zero c h l = c
grown-members f k (o ∷ os) zero (suc j) c h l = absurd (omega arith)
grown-members f k (o ∷ os) (suc m) (suc j) c h l =
    let p = and_parts (is_next f k o) (is_grown f (with k o) (take m os)) h in
    grown-members f (with k o) os m j (and_parts (not (has k o)) (is_among f (with k o)) p.0).1 p.1 (omega arith)

-- what can be added gives a member
pub next-member : (n : ℕ) (f : List Items) (k : Items) (o i : ℕ) → next_item_after n f k o ≡ Some i → is_among f (with k i) ≡ true
next-member n f k o i e = (and_parts (not (has k i)) (is_among f (with k i)) (found-passes (is_next f k) _ i e)).1

-- another item can be taken at the place before the level
pub leave-at : (n : ℕ) (f : List Items) (order : List ℕ) (j m : ℕ) (k : Items) (next d : ℕ) (new : List ℕ) → m ≡ suc j → k ≡ grown_to empty (take j order) → next_item_after n f k (get_or order j 0) ≡ Some next → d ≡ length order - suc j → new ≡ take j order ++ next ∷ first_growth n f d (with k next) → leaves_below n f empty order m ≡ Some new
leave-at n f order j m k next d new e kk found dd is =
    let long : length (drop (suc j) order) ≡ d = length-drop (suc j) order ∙ sym dd in
    ap (leaves_below n f empty order) e ∙ leaves-found n f empty order j next (ap (λ s. next_item_after n f s (get_or order j 0)) (sym kk) ∙ found)
    ∙ ap Some (ap₂ (λ c s. take j order ++ next ∷ first_growth n f c (with s next)) long (sym kk) ∙ sym is)

-- none can
pub leave-past : (n : ℕ) (f : List Items) (order : List ℕ) (j m : ℕ) (k : Items) → m ≡ suc j → k ≡ grown_to empty (take j order) → next_item_after n f k (get_or order j 0) ≡ None → leaves_below n f empty order m ≡ leaves_below n f empty order j
leave-past n f order j m k e kk none =
    ap (leaves_below n f empty order) e ∙ leaves-passed n f empty order j (ap (λ s. next_item_after n f s (get_or order j 0)) (sym kk) ∙ none)

-- the item before the level is taken back
pub record TakenBack (n : ℕ) (order was : List ℕ) (j : ℕ) (k out : Items) : Type 0 where
  pub less : get_or was j 0 < n
  pub set : without k (get_or was j 0) ≡ grown_to empty (take j order)
  pub outside : with out (get_or was j 0) ≡ minus (full n) (without k (get_or was j 0))
  pub small : IsWithin (without k (get_or was j 0)) (full n)

pub taken-at : (n : ℕ) (order was : List ℕ) (j m : ℕ) (k out : Items) → m ≡ suc j → j < length order → is_fresh empty order ≡ true → was ≡ order → k ≡ grown_to empty (take m order) → out ≡ minus (full n) k → IsWithin k (full n) → TakenBack n order was j k out
taken-at n order was j m k out e l fresh same set outside small =
    let item : get_or was j 0 ≡ get_or order j 0 = ap (λ (xs : List ℕ). get_or xs j 0) same in
    let whole : k ≡ grown_to empty (take (j + 1) order) = set ∙ ap (λ x. grown_to empty (take x order)) (let q : m ≡ j + 1 = omega arith in q) in
    let in_k : has k (get_or was j 0) ≡ true = ap₂ has whole item ∙ reached-has empty order j l in
    let less = item-small n k (get_or was j 0) small in_k in
    record {
      less = less;
      set = ap₂ without whole item ∙ taken-back empty order j fresh l;
      outside = outside-more n k out (get_or was j 0) less outside;
      small = without-small n k (get_or was j 0) small;
    }

-- the list with the next item at the place, and the growth behind it
pub leave-write : (n : ℕ) (f : List Items) (order was : List ℕ) (j m : ℕ) (k : Items) (next : ℕ) (ys : List ℕ) (w : Items)
    → m ≡ suc j → k ≡ grown_to empty (take j order) → next_item_after n f k (get_or order j 0) ≡ Some next → was ≡ order → j < length order → w ≡ with k next
    → (let xs = set was j next in let rest = length xs - (j + 1) in ys ≡ first_growth n f (length (take rest (drop (j + 1) xs))) w → leaves_below n f empty order m ≡ Some (put_mid (j + 1) rest xs ys))
leave-write n f order was j m k next ys w e kk found same l ww grown =
    let xs = set was j next in
    let rest = length xs - (j + 1) in
    let past : List ℕ = drop (j + 1) xs in
    let long : length xs ≡ length order = length-set was j next ∙ ap length same in
    let behind : length past ≡ length xs - (j + 1) = length-drop (j + 1) xs in
    let d = length (take rest past) in
    let dd : d ≡ length order - suc j = length-take-le rest past (omega arith) ∙ omega arith in
    let none : drop rest past ≡ [] = drop_all rest past (omega arith) in
    let less : j < length was = subst (λ (n : ℕ). j < n) (sym (ap length same)) l in
    let is : take (j + 1) xs ++ (ys ++ drop rest past) ≡ take j order ++ next ∷ first_growth n f d (with k next) =
    written was j next ys (drop rest past) less none ∙ ap₂ (λ t r. take j t ++ next ∷ r) same (grown ∙ ap (first_growth n f d) ww) in
    leave-at n f order j m k next d (take (j + 1) xs ++ (ys ++ drop rest past)) e kk found dd is
