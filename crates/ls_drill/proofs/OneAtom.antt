-- Where each Yes is on one item, each item has one atom in the compatible sets, and so the base has at most as many sets as there are items.
use Rattle.ls_drill.proofs.Vocabulary.{◌&&◌, ◌+◌, ◌||◌, ◌∙◌, ◌∷◌, ◌≡◌, ◌≤◌, AllByRecursion, Bool, Breaks-from, Free, IsInOrder, IsWithin, IsWithin-from, Items, List, None, Option, Peak, Query, ℕ, [], among-compat, and_from, and_parts, ap, arith, base, base_size, breaks, breaks-from, breaks_none, cases_Bool, comes_before, compat, compat-in_order, cond, false, false_from_ne_true, filter, find, full, has, has-full, has-meet, has-single, in-some, inl, inr, is_among, is_atom_at, is_within, is_within-from, items, len, length, list_any, ltb, ltb-true, meet, nat_tests, not, not-true, not_from_false, numbers_from, option_map, peak, refl, single, some_of, suc, sym, take, true, true≢false, zero}
use Rattle.ls_lists.proofs.Filters.{filter-nothing}
use Rattle.ls_set.proofs.Members.{among-here, among-there}
use Rattle.ls_set.proofs.Order.{comes_before-irreflexive}
use Rattle.ls_laws.proofs.Counts.{len-one}
use Rattle.ls_laws.proofs.Atoms.{IsAtom-from}
use Rattle.ls_laws.proofs.Blocks.{in-numbers}

-- ---- meets

-- a set that has q, and does not break ({x}, q), has x
has-one : (k : Items) (r : Query) (x : ℕ) → r.a ≡ single x → breaks k r ≡ false → has k r.q ≡ true → has k x ≡ true
has-one k r x e none h =
    elim (cases_Bool (has k x)) [
      | inl a ↦ a
      | inr b ↦ absurd (true≢false (sym (breaks-from k r (record {
        apart = λ i a. false_from_ne_true (has r.a i) (λ m.
            let same : (has (single x) i) ≡ true = sym (ap (λ s. has s i) e) ∙ m in
            let at : i ≡ x = grind (arith, nat_tests, has-single x i, same) in
            true≢false (sym a ∙ ap (has k) at ∙ b));
        has_q = h;
      })) ∙ none))
    ]

-- so a meet of two such sets doesn't break it
unbroken-meet : (k l : Items) (r : Query) → len r.a ≡ 1 → breaks k r ≡ false → breaks l r ≡ false → breaks (meet k l) r ≡ false
unbroken-meet k l r one a b = false_from_ne_true (breaks (meet k l) r) (λ h.
    let x = len-one r.a one in
    let broken = Breaks-from (meet k l) r h in
    let q = and_parts (has k r.q) (has l r.q) (sym (has-meet k l r.q) ∙ broken.has_q) in
    let here = has-meet k l x.0 ∙ and_from (has k x.0) (has l x.0) (has-one k r x.0 x.1 a q.0) (has-one l r x.0 x.1 b q.1) in
    let in_a : has r.a x.0 ≡ true = ap (λ s. has s x.0) x.1 ∙ has-single x.0 x.0 ∙ grind (arith, nat_tests) in
    true≢false (sym in_a ∙ broken.apart x.0 here))

none-meet : (yeses : List Query) (k l : Items) → AllByRecursion (λ (r : Query). len r.a ≡ 1) yeses → breaks_none yeses k ≡ true → breaks_none yeses l ≡ true → breaks_none yeses (meet k l) ≡ true
none-meet [] k l one a b = refl
none-meet (r ∷ yeses) k l one a b =
    let p = and_parts (not (breaks k r)) (breaks_none yeses k) a in
    let q = and_parts (not (breaks l r)) (breaks_none yeses l) b in
    and_from (not (breaks (meet k l) r)) (breaks_none yeses (meet k l))
    (not_from_false (breaks (meet k l) r) (unbroken-meet k l r one.0 (not-true (breaks k r) p.0) (not-true (breaks l r) q.0)))
    (none-meet yeses k l one.1 p.1 q.1)

meet-left : (k l : Items) → IsWithin (meet k l) k
meet-left k l i h = (and_parts (has k i) (has l i) (sym (has-meet k l i) ∙ h)).0

meet-right : (k l : Items) → IsWithin (meet k l) l
meet-right k l i h = (and_parts (has k i) (has l i) (sym (has-meet k l i) ∙ h)).1

module _ (n : ℕ) (yeses : List Query) (one : AllByRecursion (λ (r : Query). len r.a ≡ 1) yeses) where
  among-meet : (k l : Items) → is_among (compat n Free yeses) k ≡ true → is_among (compat n Free yeses) l ≡ true → is_among (compat n Free yeses) (meet k l) ≡ true
  among-meet k l a b =
      let p = and_parts (is_within k (full n)) (true && breaks_none yeses k) (sym (among-compat n Free yeses k) ∙ a) in
      let q = and_parts (is_within l (full n)) (true && breaks_none yeses l) (sym (among-compat n Free yeses l) ∙ b) in
      let w : IsWithin (meet k l) (full n) = λ i h. IsWithin-from k (full n) p.0 i (meet-left k l i h) in
      among-compat n Free yeses (meet k l) ∙ and_from (is_within (meet k l) (full n)) (true && breaks_none yeses (meet k l)) (is_within-from (meet k l) (full n) w) (none-meet yeses k l one p.1 q.1)

  -- ---- one atom at each item
  one_atom : (q : ℕ) (k l : Items) → is_among (compat n Free yeses) k ≡ true → is_among (compat n Free yeses) l ≡ true
      → is_atom_at (compat n Free yeses) q k ≡ true → is_atom_at (compat n Free yeses) q l ≡ true → k ≡ l
  one_atom q k l a b x y =
      let f = compat n Free yeses in
      let s = IsAtom-from f q k a x in
      let t = IsAtom-from f q l b y in
      let m = among-meet k l a b in
      let h = has-meet k l q ∙ and_from (has k q) (has l q) s.has_q t.has_q in
      sym (s.least (meet k l) m (meet-left k l) h) ∙ t.least (meet k l) m (meet-right k l) h

-- ---- how many pass

at_most_one : (p : Items → Bool) (f : List Items) → IsInOrder f → ((k l : Items) → is_among f k ≡ true → is_among f l ≡ true → p k ≡ true → p l ≡ true → k ≡ l) → length (filter p f) ≤ 1
at_most_one p [] o same = omega arith
at_most_one p (s ∷ f) o same =
    elim (p s) as (λ b. p s ≡ b → length (cond b (s ∷ filter p f) (filter p f)) ≤ 1) [
      | false ↦ λ e. at_most_one p f o.1 (λ k l a b. same k l (among-there k s f a) (among-there l s f b))
      | true ↦ λ e. let none : filter p f ≡ [] = rest s f o.0 e (λ k a b. same s k (among-here s s f refl) (among-there k s f a) e b) in
          let z : length (filter p f) ≡ 0 = ap length none in
          omega arith
    ] refl
  where
    rest : (s : Items) (f : List Items) → AllByRecursion (λ t. comes_before s t ≡ true) f → p s ≡ true → ((k : Items) → is_among f k ≡ true → p k ≡ true → s ≡ k) → filter p f ≡ []
    rest s [] h e same = refl
    rest s (t ∷ f) h e same =
        elim (p t) as (λ b. p t ≡ b → cond b (t ∷ filter p f) (filter p f) ≡ []) [
          | false ↦ λ d. rest s f h.1 e (λ k a. same k (among-there k t f a))
          | true ↦ λ d. let e2 : s ≡ t = same t (among-here t t f refl) d in absurd (true≢false (sym h.0 ∙ ap (λ x. comes_before s x) (sym e2) ∙ comes_before-irreflexive s))
        ] refl

either-fewer : (p q : Items → Bool) (f : List Items) → length (filter (λ k. p k || q k) f) ≤ length (filter p f) + length (filter q f)
either-fewer p q [] = omega arith
either-fewer p q (k ∷ f) =
    let rest = either-fewer p q f in
    elim (p k) as (λ b. length (cond (b || q k) (k ∷ filter (λ k. p k || q k) f) (filter (λ k. p k || q k) f)) ≤ length (cond b (k ∷ filter p f) (filter p f)) + length (filter q (k ∷ f))) [
      | true ↦ elim (q k) as (λ c. length (k ∷ filter (λ k. p k || q k) f) ≤ length (k ∷ filter p f) + length (cond c (k ∷ filter q f) (filter q f))) [
        | true ↦ omega arith
        | false ↦ omega arith
      ]
      | false ↦ elim (q k) as (λ c. length (cond c (k ∷ filter (λ k. p k || q k) f) (filter (λ k. p k || q k) f)) ≤ length (filter p f) + length (cond c (k ∷ filter q f) (filter q f))) [
        | true ↦ omega arith
        | false ↦ omega arith
      ]
    ]

some-fewer : (t : ℕ → Items → Bool) (qs : List ℕ) (f : List Items) → ((q : ℕ) → length (filter (t q) f) ≤ 1) → length (filter (λ k. list_any (λ q. t q k) qs) f) ≤ length qs
some-fewer t [] f h = let e : length (filter (λ (k : Items). false) f) ≡ 0 = ap length (filter-nothing f) in omega arith
some-fewer t (q ∷ qs) f h =
    let a = either-fewer (t q) (λ k. list_any (λ q. t q k) qs) f in
    let b = some-fewer t qs f h in
    let c = h q in
    omega arith

fewer-on : (p q : Items → Bool) (f : List Items) → ((k : Items) → is_among f k ≡ true → p k ≡ true → q k ≡ true) → length (filter p f) ≤ length (filter q f)
fewer-on p q [] h = omega arith
fewer-on p q (k ∷ f) h =
    let rest = fewer-on p q f (λ l a. h l (among-there l k f a)) in
    elim (p k) as (λ b. p k ≡ b → length (cond b (k ∷ filter p f) (filter p f)) ≤ length (filter q (k ∷ f))) [
      | true ↦ λ e. let d : q k ≡ true = h k (among-here k k f refl) e in
          elim (q k) as (λ c. true ≡ c → length (k ∷ filter p f) ≤ length (cond c (k ∷ filter q f) (filter q f))) [
            | true ↦ λ _. omega arith
            | false ↦ λ z. absurd (true≢false z)
          ] (sym d)
      | false ↦ λ e. elim (q k) as (λ c. length (filter p f) ≤ length (cond c (k ∷ filter q f) (filter q f))) [
        | true ↦ omega arith
        | false ↦ rest
      ]
    ] refl

length-numbers : (i m : ℕ) → length (numbers_from i m) ≡ m
length-numbers i zero = refl
length-numbers i (suc m) = ap suc (length-numbers (suc i) m)

-- ---- the base

pub base-few : (n : ℕ) (yeses : List Query) → AllByRecursion (λ (r : Query). len r.a ≡ 1) yeses → length (base (compat n Free yeses)) ≤ n
unfolding base
base-few n yeses one =
    let f = compat n Free yeses in
    let all = numbers_from 0 n in
    let a = fewer-on (λ k. list_any (λ q. is_atom_at f q k) (items k)) (λ k. list_any (λ q. is_atom_at f q k) all) f (λ k c h.
    let r = some_of (λ q. is_atom_at f q k) (items k) h in
    let w = and_parts (is_within k (full n)) (true && breaks_none yeses k) (sym (among-compat n Free yeses k) ∙ c) in
    let atom = IsAtom-from f r.0 k c r.1 in
    let small : has (full n) r.0 ≡ true = IsWithin-from k (full n) w.0 r.0 atom.has_q in
    in-some (λ q. is_atom_at f q k) all r.0 (in-numbers 0 n r.0 (omega arith) (let lt = ltb-true r.0 n (sym (has-full n r.0) ∙ small) in omega arith)) r.1) in
    let b = some-fewer (is_atom_at f) all f (λ q. at_most_one (is_atom_at f q) f (compat-in_order n Free yeses) (one_atom n yeses one q)) in
    let c = length-numbers 0 n in
    omega arith

-- ---- no base on the way has too many sets

none-found : (p : ℕ → Bool) (xs : List ℕ) → ((x : ℕ) → p x ≡ false) → find p xs ≡ None
none-found p [] h = refl
none-found p (x ∷ xs) h = rw (h x) (none-found p xs h)

take-all : (P : Query → Type 0) (j : ℕ) (rs : List Query) → AllByRecursion P rs → AllByRecursion P (take j rs)
take-all P zero rs h = tt
take-all P (suc j) [] h = tt
take-all P (suc j) (r ∷ rs) h = (h.0, take-all P j rs h.1)

pub no-peak : (limit n : ℕ) (yeses : List Query) → n ≤ limit → AllByRecursion (λ (r : Query). len r.a ≡ 1) yeses → peak limit n Free yeses ≡ None
unfolding peak
no-peak limit n yeses le one =
    ap (λ (o : Option ℕ). option_map (λ j. (let p : Peak = record { position = j; count = base_size n Free yeses j } in p)) o) (none-found (λ j. ltb limit (base_size n Free yeses j)) (numbers_from 0 (suc (length yeses))) (λ j.
    let few = base-few n (take j yeses) (take-all (λ (r : Query). len r.a ≡ 1) j yeses one) in
    let le : base_size n Free yeses j ≤ limit = omega arith in
    grind (arith, nat_tests)))
