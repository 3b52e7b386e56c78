-- Closures: what they tell of the queries, of what is left without the members that break one, and of the Nos.
use Rattle.ls_laws.proofs.Vocabulary.{◌&&◌, ◌<◌, ◌||◌, ◌∙◌, ◌∷◌, ◌≡◌, ◌≢◌, Bool, Decides-is_same, AreOn, IsWithin, IsWithin-from, Items, List, Query, ℕ, [], among-here, among-there, and_from, and_parts, ap, ap₂, breaks, closure, empty, eq-eqb, eqb, eqb-true, false, false_from_ne_true, full, has, has-empty, has-full, has-meet, has-minus, has-with, interior, is_among, is_forced_by, is_forced_by_closures, is_same, is_within, is_within-from, left_by, list_any, lt-ltb, meet, minus, not, not-true, not_both_ways, not_from_false, or_left, or_right, outside, refl, same_set, same_truth, some_breaks, sym, true, true_from_ne_false, true≢false, union, with}
use Rattle.ls_laws.proofs.Interiors.{IsUnionFamily, filter-IsUnionFamily, has-interior, interior-is, IsInterior-interior}
use Rattle.ls_laws.proofs.Breaks.{IsGood, Breaks-from, breaks-from, breaks-empty, unbroken-union, some_breaks-here, breaker, among-left_from, among-left_parts}

-- what is left is a family
pub left-IsUnionFamily : (n : ℕ) (f : List Items) (r : Query) → IsUnionFamily n f → IsUnionFamily n (left_by r f)
left-IsUnionFamily n f r family = filter-IsUnionFamily n f (λ k. not (breaks k r)) (not_from_false (breaks empty r) (breaks-empty r))
    (λ s t a b. not_from_false (breaks (union s t) r) (unbroken-union s t r (not-true (breaks s r) a) (not-true (breaks t r) b))) family

list_any-agree : (p q : Items → Bool) (f : List Items) → ((k : Items) → is_among f k ≡ true → p k ≡ q k) → list_any p f ≡ list_any q f
list_any-agree p q [] h = refl
list_any-agree p q (k ∷ f) h = ap₂ (λ a b. a || b) (h k (among-here k k f refl)) (list_any-agree p q f (λ t c. h t (among-there t k f c)))

-- within the complement of A is to have no item of A
within-complement : (n : ℕ) (k a : Items) → IsWithin k (full n) → is_within k (minus (full n) a) ≡ is_same (meet k a) empty
within-complement n k a small = same_truth (is_within k (minus (full n) a)) (is_same (meet k a) empty)
    (λ w. (Decides-is_same (meet k a) empty).1 (same_set (meet k a) empty (λ i.
    has-meet k a i ∙ outside (has k i) (has (full n) i) (has a i) (small i) (λ h. sym (has-minus (full n) a i) ∙ IsWithin-from k (minus (full n) a) w i h) ∙ sym (has-empty i))))
    (λ e. is_within-from k (minus (full n) a) (λ i h.
    let none : (has k i && has a i) ≡ false = sym (has-meet k a i) ∙ ap (λ s. has s i) ((Decides-is_same (meet k a) empty).0 e) ∙ has-empty i in
    has-minus (full n) a i ∙ and_from (has (full n) i) (not (has a i)) (small i h) (not_from_false (has a i) (sym (ap (λ b. b && has a i) h) ∙ none))))

-- q is in the closure of A where no member breaks (A, q)
pub has-closure : (n : ℕ) (f : List Items) (r : Query) → AreOn n f → r.q < n → has (closure (full n) f r.a) r.q ≡ not (some_breaks f r)
has-closure n f r small l =
    has-minus (full n) (interior f (minus (full n) r.a)) r.q
    ∙ ap (λ b. b && not (has (interior f (minus (full n) r.a)) r.q)) (has-full n r.q ∙ lt-ltb r.q n l)
    ∙ ap not (has-interior f (minus (full n) r.a) r.q ∙ list_any-agree (λ k. is_within k (minus (full n) r.a) && has k r.q) (λ k. breaks k r) f
    (λ k c. ap (λ b. b && has k r.q) (within-complement n k r.a (small k c))))

-- what the closure of B is to the members: the greatest member that has no item of B is all that is outside
record IsClosure (n : ℕ) (f : List Items) (b c : Items) : Type 0 where
  top : Items
  member : is_among f top ≡ true
  apart : (i : ℕ) → has top i ≡ true → has b i ≡ false
  greatest : (k : Items) → is_among f k ≡ true → ((i : ℕ) → has k i ≡ true → has b i ≡ false) → IsWithin k top
  outside : (i : ℕ) → has c i ≡ true → has top i ≡ false
  inside : (i : ℕ) → has (full n) i ≡ true → has top i ≡ false → has c i ≡ true

closure-is : (n : ℕ) (f : List Items) (b : Items) → IsUnionFamily n f → IsClosure n f b (closure (full n) f b)
closure-is n f b family =
    let m = interior-is f family.holds_empty family.holds_unions (minus (full n) b) in
    let top = interior f (minus (full n) b) in
    record {
      top = top;
      member = m.member;
      apart = λ i h. not-true (has b i) (and_parts (has (full n) i) (not (has b i)) (sym (has-minus (full n) b i) ∙ m.within i h)).1;
      greatest = λ k c apart. m.greatest k c (λ i h. has-minus (full n) b i ∙ and_from (has (full n) i) (not (has b i)) (family.small k c i h) (not_from_false (has b i) (apart i h)));
      outside = λ i h. not-true (has top i) (and_parts (has (full n) i) (not (has top i)) (sym (has-minus (full n) top i) ∙ h)).1;
      inside = λ i a h. has-minus (full n) top i ∙ and_from (has (full n) i) (not (has top i)) a (not_from_false (has top i) h);
    }

-- the No with q added to what it closes
abbrev grown : ℕ → List Items → Query → Query → Query
grown n f r s = record { a = with (closure (full n) f s.a) r.q; q = s.q }

-- outside a closure and q is outside the closure, and not q
grown-none : (n : ℕ) (f : List Items) (r s : Query) (i : ℕ) → has (with (closure (full n) f s.a) r.q) i ≡ false → (has (closure (full n) f s.a) i ≡ false) × (i ≢ r.q)
grown-none n f r s i h =
    let e : (has (closure (full n) f s.a) i || eqb i r.q) ≡ false = sym (has-with (closure (full n) f s.a) r.q i) ∙ h in (
      false_from_ne_true (has (closure (full n) f s.a) i) (λ a. true≢false (sym (or_left (has (closure (full n) f s.a) i) (eqb i r.q) a) ∙ e)),
      λ q. true≢false (sym (or_right (has (closure (full n) f s.a) i) (eqb i r.q) (eq-eqb i r.q q)) ∙ e),
    )

-- where no member of what is left breaks the No, the closures hold it
kept-closed : (n : ℕ) (f : List Items) (r s : Query) → IsUnionFamily n f → IsGood n r → s.q < n → some_breaks f s ≡ true → some_breaks (left_by r f) s ≡ false → is_forced_by_closures n f r s ≡ true
kept-closed n f r s family good item is_broken kept =
    let cl = closure-is n f s.a family in
    let b = breaker f s is_broken in
    let first = Breaks-from b.0 s b.2 in
    let whole : breaks cl.top s ≡ true = breaks-from cl.top s (record { apart = cl.apart; has_q = cl.greatest b.0 b.1 first.apart s.q first.has_q }) in
    let out : breaks cl.top r ≡ true = true_from_ne_false (breaks cl.top r) (λ h. true≢false (sym (some_breaks-here (left_by r f) cl.top s (among-left_from f r cl.top cl.member h) whole) ∙ kept)) in
    let lost = Breaks-from cl.top r out in
    and_from (is_within r.a (closure (full n) f s.a)) (has (closure (full n) f (with (closure (full n) f s.a) r.q)) s.q)
    (is_within-from r.a (closure (full n) f s.a) (λ i h. cl.inside i (good.small i h) (not_both_ways (has cl.top i) (has r.a i) (lost.apart i) h)))
    (has-closure n f (grown n f r s) family.small item ∙ not_from_false (some_breaks f (grown n f r s)) (false_from_ne_true (some_breaks f (grown n f r s)) (λ h.
    let k = breaker f (grown n f r s) h in
    let broken_by = Breaks-from k.0 (grown n f r s) k.2 in
    let out_of = λ (i : ℕ) (a : has k.0 i ≡ true). grown-none n f r s i (broken_by.apart i a) in
    let in_top = λ (i : ℕ) (a : has k.0 i ≡ true). true_from_ne_false (has cl.top i) (λ e. true≢false (sym (cl.inside i (family.small k.0 k.1 i a) e) ∙ (out_of i a).0)) in
    let breaks_s : breaks k.0 s ≡ true = breaks-from k.0 s (record { apart = λ i a. cl.apart i (in_top i a); has_q = broken_by.has_q }) in
    let stays : breaks k.0 r ≡ false = false_from_ne_true (breaks k.0 r) (λ e. (out_of r.q (Breaks-from k.0 r e).has_q).1 refl) in
    true≢false (sym (some_breaks-here (left_by r f) k.0 s (among-left_from f r k.0 k.1 stays) breaks_s) ∙ kept))))

closed-kept : (n : ℕ) (f : List Items) (r s : Query) → IsUnionFamily n f → s.q < n → is_forced_by_closures n f r s ≡ true → some_breaks (left_by r f) s ≡ false
closed-kept n f r s family item h =
    let cl = closure-is n f s.a family in
    let p = and_parts (is_within r.a (closure (full n) f s.a)) (has (closure (full n) f (with (closure (full n) f s.a) r.q)) s.q) h in
    let inside = IsWithin-from r.a (closure (full n) f s.a) p.0 in
    let none : some_breaks f (grown n f r s) ≡ false = not-true (some_breaks f (grown n f r s)) (sym (has-closure n f (grown n f r s) family.small item) ∙ p.1) in
    false_from_ne_true (some_breaks (left_by r f) s) (λ h.
    let k = breaker (left_by r f) s h in
    let m = among-left_parts f r k.0 k.1 in
    let broken_by = Breaks-from k.0 s k.2 in
    let out_of = λ (i : ℕ) (a : has k.0 i ≡ true). not_both_ways (has (closure (full n) f s.a) i) (has cl.top i) (cl.outside i) (cl.greatest k.0 m.0 broken_by.apart i a) in
    let lacks : has k.0 r.q ≡ false = false_from_ne_true (has k.0 r.q) (λ a. true≢false (sym (breaks-from k.0 r (record { apart = λ i b. not_both_ways (has r.a i) (has k.0 i) (λ c. absurd (true≢false (sym (inside i c) ∙ out_of i b))) b; has_q = a })) ∙ m.1)) in
    let breaks_grown : breaks k.0 (grown n f r s) ≡ true = breaks-from k.0 (grown n f r s) (record {
      apart = λ i a. has-with (closure (full n) f s.a) r.q i ∙ rw (out_of i a) (false_from_ne_true (eqb i r.q) (λ e. true≢false (sym a ∙ ap (has k.0) (eqb-true i r.q e) ∙ lacks)));
      has_q = broken_by.has_q;
    }) in
    true≢false (sym (some_breaks-here f k.0 (grown n f r s) m.0 breaks_grown) ∙ none))

-- the closure form
pub kept_is : (n : ℕ) (f : List Items) (r s : Query) → IsUnionFamily n f → IsGood n r → s.q < n → some_breaks f s ≡ true → is_forced_by f r s ≡ is_forced_by_closures n f r s
kept_is n f r s family good item is_broken = same_truth (is_forced_by f r s) (is_forced_by_closures n f r s)
    (λ h. kept-closed n f r s family good item is_broken (not-true (some_breaks (left_by r f) s) h))
    (λ h. not_from_false (some_breaks (left_by r f) s) (closed-kept n f r s family item h))

-- ---- the closures after a Yes

-- where the closure of B lacks an item of A, or has q, it is the same without the members that break (A, q)
pub closure_stays : (n : ℕ) (f : List Items) (r : Query) (b : Items) → IsUnionFamily n f → IsGood n r → (is_within r.a (closure (full n) f b) && not (has (closure (full n) f b) r.q)) ≡ false
    → closure (full n) (left_by r f) b ≡ closure (full n) f b
closure_stays n f r b family good h =
    let m = interior-is f family.holds_empty family.holds_unions (minus (full n) b) in
    let top = interior f (minus (full n) b) in
    let stays : breaks top r ≡ false = false_from_ne_true (breaks top r) (λ e.
    let lost = Breaks-from top r e in
    true≢false (sym (and_from (is_within r.a (closure (full n) f b)) (not (has (closure (full n) f b) r.q))
    (is_within-from r.a (closure (full n) f b) (λ i a. has-minus (full n) top i ∙ and_from (has (full n) i) (not (has top i)) (good.small i a) (not_from_false (has top i) (not_both_ways (has top i) (has r.a i) (lost.apart i) a))))
    (not_from_false (has (closure (full n) f b) r.q) (false_from_ne_true (has (closure (full n) f b) r.q) (λ c.
    true≢false (sym lost.has_q ∙ not-true (has top r.q) (and_parts (has (full n) r.q) (not (has top r.q)) (sym (has-minus (full n) top r.q) ∙ c)).1))))) ∙ h)) in
    ap (minus (full n)) (sym (IsInterior-interior (left_by r f) (left-IsUnionFamily n f r family).holds_empty (left-IsUnionFamily n f r family).holds_unions (minus (full n) b) top (record {
      member = among-left_from f r top m.member stays;
      within = m.within;
      greatest = λ k c w. m.greatest k (among-left_parts f r k c).0 w;
    })))
