-- Relations and surmise functions with one clause for each item, read from each other.
use Rattle.std.proofs.Common.{ℕ, zero, suc, ◌+◌, ◌-◌, ◌<◌, ◌≤◌, ◌≡◌, Bool, true, false, cond}
use Rattle.std.proofs.Common.{◌&&◌, List, [], ◌∷◌, ◌++◌, map, find, take, length, get_or}
use Rattle.std.proofs.Common.{Option, Some, None, option_map, Ok, refl, sym, ap, ap₂, ◌∙◌, arith}
use Rattle.std.proofs.Common.{Result, inl, inr, subst, le-ltb, true≢false}
use Rattle.std.specs.Option.{option_or}
use Rattle.std.proofs.lemmas.Bool.{and_from, and_parts}
use Rattle.ls_set.specs.ItemSet.{Items, empty, has, full, is_among, subsets, most_items}
use Rattle.ls_set.specs.ItemSet.{numbers_from, IsInOrder, IsWithin}
use Rattle.ls_set.proofs.Sets.{both_ways, is_within-from}
use Rattle.ls_set.proofs.Members.{among-cases, among-filter}
use Rattle.ls_set.proofs.Order.{among-subsets, subsets_from-in_order}
use Rattle.ls_theory.specs.Words.{pairs}
use Rattle.ls_theory.specs.Bases.{base, most_base_sets}
use Rattle.ls_theory.specs.Starts.{Clauses}
use Rattle.ls_theory.specs.Compatible.{compat}
use Rattle.ls_theory.specs.Clauses.{all_clauses}
use Rattle.ls_laws.specs.Spans.{AreOn}
use Rattle.ls_laws.proofs.Lists.{same_members, IsInOrder-filter}
use Rattle.ls_clauses.specs.Surmise.{IsSurmise}
use Rattle.ls_clauses.proofs.Clauses.{all-small, base-ordered}
use Rattle.ls_clauses.proofs.Flaws.{surmise-flawless}
use Rattle.ls_files.specs.SurmiseFiles.{in_order, surmise_from, wide, IsSurmiseFaultOf}
use Rattle.ls_theory.specs.declared.surmise_fault.SurmiseFault.{SurmiseFault}
use Rattle.ls_theory.specs.declared.surmise_fault.SurmiseFault.TheVariants as fault
use Rattle.std.specs.declared.alloc.AllocError.{AllocError}
use Rattle.ls_lists.proofs.Options.{ok-err}
use Rattle.ls_origins.specs.Relations.{below_of, clauses_below, first_clauses, kept_sets}
use Rattle.ls_origins.specs.Relations.{two_clauses, quasi_pair, relation_fault}
use Rattle.ls_origins.specs.declared.relation_fault.RelationFault.TheVariants.{TwoClauses, Quasi}
use Rattle.ls_order.specs.Orders.{IsOrder}
use Rattle.ls_order.proofs.Finding.{numbers-next}
use Rattle.ls_order.proofs.OneEach.{clauses-kept}
use Rattle.ls_order.proofs.Refused.{faultless-order}
use Rattle.ls_order.proofs.Related.{kept-compat, preorder-surmise, order-count}

-- ---- lists that are put together one after another

pub mapped-next : {X Y : Type 0} (f : X → Y) (xs : List X) (i : ℕ) (x d : X) → i < length xs
    → x ≡ get_or xs i d → map f (take i xs) ++ f x ∷ [] ≡ map f (take (i + 1) xs)
mapped-next f xs i x d l e =
    next f xs i x d l e ∙ ap (λ k. map f (take k xs)) (let k : suc i ≡ i + 1 = omega arith in k)
  where
    next : {X Y : Type 0} (f : X → Y) (xs : List X) (i : ℕ) (x d : X) → i < length xs
        → x ≡ get_or xs i d → map f (take i xs) ++ f x ∷ [] ≡ map f (take (suc i) xs)
    next f [] i x d l e = absurd (omega arith)
    next f (y ∷ xs) zero x d l e = ap (λ v. f v ∷ []) e
    next f (y ∷ xs) (suc i) x d l e = ap (λ zs. f y ∷ zs) (next f xs i x d (omega arith) e)

pub mapped-all : {X Y : Type 0} (f : X → Y) (xs : List X) (end : ℕ) → length xs ≤ end
    → map f (take end xs) ≡ map f xs
mapped-all f [] zero l = refl
mapped-all f [] (suc end) l = refl
mapped-all f (x ∷ xs) zero l = absurd (omega arith)
mapped-all f (x ∷ xs) (suc end) l = ap (λ zs. f x ∷ zs) (mapped-all f xs end (omega arith))

pub as-many : {X Y : Type 0} (f : X → Y) (xs : List X) → length (map f xs) ≡ length xs
as-many f [] = refl
as-many f (x ∷ xs) = ap suc (as-many f xs)

pub some-long : {X : Type 0} (xs : List X) → ¬ (xs ≡ []) → 0 < length xs
some-long [] some = absurd (some refl)
some-long (x ∷ xs) some = omega arith

-- ---- the first two items below each other

-- the two items are below each other
abbrev pub is_quasi : List Items → ℕ × ℕ → Bool
is_quasi below p = has (below_of below p.1) p.0 && has (below_of below p.0) p.1

-- what is found from k on is what is found from j on
abbrev pub IsAfter : (ℕ → Bool) → ℕ → ℕ → ℕ → Type 0
IsAfter p j k end = find p (numbers_from k (end - k)) ≡ find p (numbers_from j (end - j))

find-mapped : {X Y : Type 0} (p : Y → Bool) (g : X → Y) (xs : List X) (ys : List Y)
    → find p (map g xs ++ ys) ≡ option_or (option_map g (find (λ x. p (g x)) xs)) (find p ys)
find-mapped p g [] ys = refl
find-mapped p g (x ∷ xs) ys =
    elim
    (p (g x))
    as (λ b. cond b (Some (g x)) (find p (map g xs ++ ys))
    ≡ option_or (option_map g (cond b (Some x) (find (λ x. p (g x)) xs))) (find p ys)) [
      | true ↦ refl
      | false ↦ find-mapped p g xs ys
    ]

-- the pairs of a number and a later one come first
pairs-next : (p : ℕ × ℕ → Bool) (j end : ℕ) → j < end
    → find p (pairs (numbers_from j (end - j)))
    ≡ option_or
    (option_map (λ y. (j, y)) (find (λ y. p (j, y)) (numbers_from (j + 1) (end - (j + 1)))))
    (find p (pairs (numbers_from (j + 1) (end - (j + 1)))))
pairs-next p j end l =
    let rest = numbers_from (j + 1) (end - (j + 1)) in
    ap (λ xs. find p (pairs xs)) (numbers-next j end l)
    ∙ find-mapped p (λ y. (j, y)) rest (pairs rest)

-- what is found among the pairs from j on is what is found in all
abbrev pub FoundPair : (ℕ × ℕ → Bool) → ℕ → ℕ → Type 0
FoundPair p j end =
    find p (pairs (numbers_from j (end - j))) ≡ find p (pairs (numbers_from 0 end))

pub pair-found : (p : ℕ × ℕ → Bool) (j end k : ℕ) → j < end
    → Some k ≡ find (λ y. p (j, y)) (numbers_from (j + 1) (end - (j + 1))) → FoundPair p j end
    → Some (j, k) ≡ find p (pairs (numbers_from 0 end))
pair-found p j end k l e h =
    ap (λ o. option_or (option_map (λ y. (j, y)) o)
    (find p (pairs (numbers_from (j + 1) (end - (j + 1)))))) e
    ∙ sym (pairs-next p j end l)
    ∙ h

pub pair-next : (p : ℕ × ℕ → Bool) (j end : ℕ) → j < end
    → None ≡ find (λ y. p (j, y)) (numbers_from (j + 1) (end - (j + 1))) → FoundPair p j end
    → FoundPair p (j + 1) end
pair-next p j end l e h =
    ap (λ o. option_or (option_map (λ y. (j, y)) o)
    (find p (pairs (numbers_from (j + 1) (end - (j + 1)))))) e
    ∙ sym (pairs-next p j end l)
    ∙ h

-- ---- the fault of a surmise function

pub fault-two : (n : ℕ) (clauses : List (List Items)) (q : ℕ) → two_clauses n clauses ≡ Some q
    → relation_fault n clauses ≡ Some (TwoClauses q)
unfolding relation_fault
fault-two n clauses q e = rw e refl

module _ (n : ℕ) (clauses : List (List Items)) (single : two_clauses n clauses ≡ None) where
  pub fault-quasi : (q r : ℕ) → quasi_pair n (first_clauses clauses) ≡ Some (q, r)
      → relation_fault n clauses ≡ Some (Quasi q r)
  unfolding relation_fault
  fault-quasi q r e = rw (single, e) refl

  pub fault-none : quasi_pair n (first_clauses clauses) ≡ None → relation_fault n clauses ≡ None
  unfolding relation_fault
  fault-none e = rw (single, e) refl

-- the rows are the first clauses, and what is found in them is a quasi pair
module _ (n : ℕ) (clauses : List (List Items)) (rows : List Items) (found : Option (ℕ × ℕ))
    (surmise : IsSurmise n clauses) (is : rows ≡ first_clauses clauses)
    (told : found ≡ quasi_pair (length rows) rows) where
  long : length rows ≡ n
  long = ap length is ∙ as-many (λ cs. get_or cs 0 empty) clauses ∙ surmise.each_item

  pub pair-read : found ≡ quasi_pair n (first_clauses clauses)
  pair-read = told ∙ ap₂ quasi_pair long is

  pub none-read : two_clauses n clauses ≡ None → found ≡ None → relation_fault n clauses ≡ None
  none-read single none = fault-none n clauses single (sym pair-read ∙ none)

  pub order-read : relation_fault n clauses ≡ None → IsOrder (length rows) rows
  order-read none =
      let o = faultless-order n clauses surmise none in
      subst (λ m. IsOrder m rows) (sym long)
      (subst (λ (below : List Items). IsOrder n below) (sym is) o.0)

  pub family-read : relation_fault n clauses ≡ None
      → kept_sets (length rows) rows ≡ compat n (Clauses clauses) []
  family-read none =
      let o = faultless-order n clauses surmise none in
      ap₂ kept_sets long is ∙ clauses-kept n clauses o.1

-- ---- the surmise function of a partial order

-- what is read well has no fault but want of memory
pub never-fault : {X : Type 0} (r : Result X SurmiseFault) (x : X) (e : SurmiseFault) → r ≡ Ok x
    → IsSurmiseFaultOf r e → ((a : AllocError) → e ≡ fault.Memory a → ⊥) → ⊥
never-fault r x (fault.Memory a) ok f none = none a refl
never-fault r x fault.BadJson ok f none = ok-err (sym ok ∙ f)
never-fault r x fault.UnknownItem ok f none = ok-err (sym ok ∙ f)
never-fault r x (fault.NoClause q) ok f none = ok-err (sym ok ∙ f)
never-fault r x (fault.Reflexive q j) ok f none = ok-err (sym ok ∙ f)
never-fault r x (fault.NotClosed q j i) ok f none = ok-err (sym ok ∙ f)
never-fault r x (fault.Comparable q i j) ok f none = ok-err (sym ok ∙ f)
never-fault r x (fault.Wide count) ok f none = ok-err (sym ok ∙ f)

among-in_order : (n : ℕ) (own : List Items) → AreOn n own → (k : Items)
    → is_among (in_order n own) k ≡ is_among own k
among-in_order n own small k =
    both_ways (is_among (in_order n own) k) (is_among own k)
    (λ h. (and_parts (is_among (subsets n) k) (is_among own k)
    (sym (among-filter (is_among own) (subsets n) k) ∙ h)).1)
    (λ h. among-filter (is_among own) (subsets n) k
    ∙ and_from (is_among (subsets n) k) (is_among own k)
    (among-subsets n k ∙ is_within-from k (full n) (small k h)) h)

ordered : (n : ℕ) (own : List Items) → IsInOrder (in_order n own)
ordered n own = IsInOrder-filter (is_among own) (subsets n) (subsets_from-in_order 0 n)

-- a single set stays as it is
single-again : (n : ℕ) (b : Items) → AreOn n (b ∷ []) → in_order n (b ∷ []) ≡ b ∷ []
single-again n b small =
    same_members (in_order n (b ∷ [])) (b ∷ []) (ordered n (b ∷ [])) (tt, tt)
    (λ k h. sym (among-in_order n (b ∷ []) small k) ∙ h)
    (λ k h. among-in_order n (b ∷ []) small k ∙ h)

singles-again : (n : ℕ) (below : List Items)
    → ((q : ℕ) → AreOn n (below_of below q ∷ []))
    → map (in_order n) (clauses_below below) ≡ clauses_below below
singles-again n [] small = refl
singles-again n (b ∷ below) small =
    ap₂ (λ x xs. x ∷ xs) (single-again n b (small 0))
    (singles-again n below (λ q. small (suc q)))

-- the clauses of a partial order are read as they stand
module _ (n : ℕ) (below : List Items) (order : IsOrder n below) (few : n ≤ most_items) where
  surmise : IsSurmise n (clauses_below below)
  surmise = preorder-surmise n below order.preorder

  none-wide : wide n (clauses_below below) ≡ None
  none-wide =
      let clauses = clauses_below below in
      let all = all_clauses clauses in
      let same =
      base-ordered n clauses (in_order n all) surmise (ordered n all)
      (among-in_order n all (all-small n clauses surmise)) in
      let long : length (in_order n all) ≡ n =
      ap length (sym same) ∙ ap (λ f. length (base f)) (sym (kept-compat n below order.preorder))
      ∙ order-count n below order in
      rw (le-ltb most_base_sets (length (in_order n all)) (omega (arith, long, few))) refl

  pub order-again : surmise_from n (clauses_below below) ≡ Ok (clauses_below below)
  unfolding surmise_from
  order-again =
      rw (surmise-flawless n (clauses_below below) surmise, none-wide)
      (ap Ok (singles-again n below (λ q k h.
      let at = among-cases k (below_of below q) [] h in
      elim at [
        | inl e ↦ subst (λ s. IsWithin s (full n)) (sym e) (order.preorder.small q)
        | inr d ↦ absurd (true≢false (sym d))
      ])))
