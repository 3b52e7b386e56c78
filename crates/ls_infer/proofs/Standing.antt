-- What a Yes that comes or goes changes of what is kept of a standing No.
use Rattle.ls_infer.proofs.Vocabulary.{◌&&◌, ◌+◌, ◌<◌, ◌||◌, ◌∙◌, ◌≡◌, Bool, Breaks-from, Decides-is_same, IsChange, IsFamily, IsGood, IsPart, IsUnionFamily, IsWithin, IsWithin-from, Items, List, No, Query, Some, StandingNo, YesChange, ℕ, among-left, and_from, and_parts, ap, ap₂, breaks, can_grow, cases_Bool, closure, closure_again, closure_before_yes, closure_from_old, closure_grows, closure_holds, closure_stays, closure_widens, empty, enough_for, false, false_from_ne_true, family_sets, full, get_or, good-from, good-to, has, has-meet, images, images-at, images-next, inl, inr, interior, is_among, is_good, is_kept, can_change, is_same, is_within, is_within-from, left-IsPart, left_by, length, ltb, ltb-true, meet, minus, minus-within, not, not-false, not-true, or_parts, refl, same_set, same_within, slice_get, slice_get-get_or, some_item, standing, subst, sym, true, true≢false, with}
use Rattle.std.proofs.Math.ListN.{set}
use Rattle.ls_infer.proofs.Kept.{has-enough, with-within}
use Rattle.ls_infer.proofs.Outside.{with-left, with-cases, outside-member}
use Rattle.ls_infer.proofs.States.{with-itself, enough-apart, enough-only, enough-grows, enough-unbroken, enough-stays, unbroken-among}

-- ---- closures that stay

no-more : (b : Bool) → (b && false) ≡ false
no-more true = refl
no-more false = refl

has-stays : (n : ℕ) (f : List Items) (r : Query) (s : Items) → IsUnionFamily n f → IsGood n r → has (closure (full n) f s) r.q ≡ true → closure (full n) (left_by r f) s ≡ closure (full n) f s
has-stays n f r s family good h =
    closure_stays n f r s family good (ap (λ b. is_within r.a (closure (full n) f s) && not b) h ∙ no-more (is_within r.a (closure (full n) f s)))

lack-stays : (n : ℕ) (f : List Items) (r : Query) (s : Items) → IsUnionFamily n f → IsGood n r → is_within r.a (closure (full n) f s) ≡ false → closure (full n) (left_by r f) s ≡ closure (full n) f s
lack-stays n f r s family good h = closure_stays n f r s family good (ap (λ b. b && not (has (closure (full n) f s) r.q)) h)

-- a set within a closure closes to no more
inside : (n : ℕ) (f : List Items) (s t : Items) → IsWithin s (closure (full n) f t) → IsWithin (closure (full n) f s) (closure (full n) f t)
inside n f s t w i h = subst (λ c. has c i ≡ true) (closure_again (full n) f t) (closure_grows (full n) f s (closure (full n) f t) w i h)

-- a closure with a further item
pub closed-with : (n : ℕ) (f : List Items) (b : Items) (i : ℕ) → i < n → IsWithin (with (closure (full n) f b) i) (full n)
closed-with n f b i l = with-within n (closure (full n) f b) i (minus-within (full n) _) l

-- ---- what is enough

-- where each item below n is enough in both families or in none
enough-same : (n : ℕ) (f g : List Items) (c : Items) (p : ℕ) → ((i : ℕ) → i < n → has (closure (full n) g (with c i)) p ≡ has (closure (full n) f (with c i)) p) → enough_for n g c p ≡ enough_for n f c p
enough-same n f g c p h = same_set (enough_for n g c p) (enough_for n f c p) (λ i.
    has-enough n g c p i
    ∙ elim (ltb i n) as (λ b. ltb i n ≡ b → (b && has (closure (full n) g (with c i)) p) ≡ (b && has (closure (full n) f (with c i)) p)) [ true ↦ λ e. h i (ltb-true i n e) | false ↦ λ _. refl ] refl
    ∙ sym (has-enough n f c p i))

-- a closure with q: with any item it stays
enough-closed : (n : ℕ) (f : List Items) (r : Query) (b : Items) (p : ℕ) → IsUnionFamily n f → IsGood n r → has (closure (full n) f b) r.q ≡ true
    → enough_for n (left_by r f) (closure (full n) f b) p ≡ enough_for n f (closure (full n) f b) p
enough-closed n f r b p family good h =
    let c = closure (full n) f b in
    enough-same n f (left_by r f) c p (λ i l. ap (λ d. has d p) (has-stays n f r (with c i) family good (closure_holds (full n) f (with c i) (closed-with n f b i l) r.q (with-left c i r.q h))))

-- an item of A is enough: what reaches all of A reaches that
enough-met : (n : ℕ) (f : List Items) (r : Query) (b : Items) (p j : ℕ) → IsUnionFamily n f → IsGood n r → has r.a j ≡ true → has (enough_for n f (closure (full n) f b) p) j ≡ true
    → enough_for n (left_by r f) (closure (full n) f b) p ≡ enough_for n f (closure (full n) f b) p
enough-met n f r b p j family good a e =
    let c = closure (full n) f b in
    let reaches = (and_parts (ltb j n) (has (closure (full n) f (with c j)) p) (sym (has-enough n f c p j) ∙ e)).1 in
    enough-same n f (left_by r f) c p (λ i l.
    let d = closure (full n) f (with c i) in
    let holds = closure_holds (full n) f (with c i) (closed-with n f b i l) in
    elim (is_within r.a d) as (λ x. is_within r.a d ≡ x → has (closure (full n) (left_by r f) (with c i)) p ≡ has d p) [
      | true ↦ λ w.
          let here : has d p ≡ true = inside n f (with c j) (with c i) (λ k h. elim (with-cases c j k h) [
            | inl x ↦ holds k (with-left c i k x)
            | inr x ↦ subst (λ m. has d m ≡ true) (sym x) (IsWithin-from r.a d w j a)
          ]) p reaches in
          closure_widens (full n) f (left_by r f) (with c i) (left-IsPart f r) p here ∙ sym here
      | false ↦ λ w. ap (λ k. has k p) (lack-stays n f r (with c i) family good w)
    ] refl)

-- ---- what is kept

pub record IsKept (n : ℕ) (s : StandingNo) : Type 0 where
  pub good : IsGood n s.no.query
  pub closed : IsWithin s.closed (full n)
  pub enough : IsWithin s.enough (full n)

pub kept-parts : (n : ℕ) (s : StandingNo) → is_kept n s ≡ true → IsKept n s
kept-parts n s h =
    let b = and_parts (is_good n s.no.query && is_within s.closed (full n)) (is_within s.enough (full n)) h in
    let a = and_parts (is_good n s.no.query) (is_within s.closed (full n)) b.0 in
    record {
      good = good-from n s.no.query a.0;
      closed = IsWithin-from s.closed (full n) a.1;
      enough = IsWithin-from s.enough (full n) b.1;
    }

pub kept-from : (n : ℕ) (s : StandingNo) → IsKept n s → is_kept n s ≡ true
kept-from n s k =
    and_from (is_good n s.no.query && is_within s.closed (full n)) (is_within s.enough (full n))
    (and_from (is_good n s.no.query) (is_within s.closed (full n)) (good-to n s.no.query k.good) (is_within-from s.closed (full n) k.closed))
    (is_within-from s.enough (full n) k.enough)

-- with another closure, and other items that are enough
pub kept-again : (n : ℕ) (s : StandingNo) (closed enough : Items) (is_state : Bool) → is_kept n s ≡ true → IsWithin closed (full n) → IsWithin enough (full n)
    → is_kept n (record { no = s.no; closed = closed; enough = enough; is_state = is_state }) ≡ true
kept-again n s closed enough is_state kept within small = kept-from n (record { no = s.no; closed = closed; enough = enough; is_state = is_state }) (record { good = (kept-parts n s kept).good; closed = within; enough = small })

-- it is what the family makes of it
pub record IsStanding (n : ℕ) (f : List Items) (s : StandingNo) : Type 0 where
  pub closed : s.closed ≡ closure (full n) f s.no.query.a
  pub enough : s.enough ≡ enough_for n f (closure (full n) f s.no.query.a) s.no.query.q
  pub is_state : s.is_state ≡ is_among f s.enough

stands : (n : ℕ) (f : List Items) (s : StandingNo) → s ≡ standing n f s.no → IsStanding n f s
stands n f s e = record {
  closed = ap (λ (t : StandingNo). t.closed) e;
  enough = ap (λ (t : StandingNo). t.enough) e;
  is_state = ap (λ (t : StandingNo). t.is_state) e ∙ ap (is_among f) (sym (ap (λ (t : StandingNo). t.enough) e));
}

-- made again from its parts
pub standing-from : (n : ℕ) (f : List Items) (a : No) (closed enough : Items) (is_state : Bool) → closed ≡ closure (full n) f a.query.a → enough ≡ enough_for n f closed a.query.q → is_state ≡ is_among f enough
    → record { no = a; closed = closed; enough = enough; is_state = is_state } ≡ standing n f a
standing-from n f a closed enough is_state c e m =
    ap₂ (λ x y. record { no = a; closed = closed; enough = x; is_state = y }) e (m ∙ ap (is_among f) e)
    ∙ ap (λ x. record { no = a; closed = x; enough = enough_for n f x a.query.q; is_state = is_among f (enough_for n f x a.query.q) }) c

stands-again : (n : ℕ) (f : List Items) (s : StandingNo) → IsStanding n f s → s ≡ standing n f s.no
stands-again n f s k = standing-from n f s.no s.closed s.enough s.is_state k.closed (k.enough ∙ ap (λ x. enough_for n f x s.no.query.q) (sym k.closed)) k.is_state

-- where p is left in a state of those that are known to be enough, with itself, these are all
pub standing-only : (n : ℕ) (f : List Items) (a : No) (closed known : Items) (is_state : Bool) → IsUnionFamily n f → a.query.q < n → closed ≡ closure (full n) f a.query.a → IsWithin known (enough_for n f closed a.query.q)
    → has closed a.query.q ≡ false → has (interior f (with known a.query.q)) a.query.q ≡ true → is_state ≡ is_among f (with known a.query.q)
    → record { no = a; closed = closed; enough = with known a.query.q; is_state = is_state } ≡ standing n f a
standing-only n f a closed known is_state family l made sound lacks inside state =
    let q = a.query.q in
    let all = with-itself n f closed q known l sound in
    let member : is_among f (minus (full n) closed) ≡ true = subst (λ c. is_among f (minus (full n) c) ≡ true) (sym made) (outside-member n f a.query.a family) in
    standing-from n f a closed (with known q) is_state made
    (enough-only n f closed q (with known q) all (λ i h. enough-apart n f closed q member lacks i (all i h)) inside) state

-- ---- a Yes that comes

pub after-closed : (n : ℕ) (before after : List Items) (r : Query) (s : StandingNo) → IsChange YesChange.Added n r before after → is_good n r ≡ true → is_kept n s ≡ true → s ≡ standing n before s.no → has s.closed r.q ≡ true
    → s ≡ standing n after s.no
after-closed n before after r s change good kept e h =
    let b = s.no.query.a in
    let q = s.no.query.q in
    let good_r = good-from n r good in
    let family = family_sets n before change.0 in
    let old = stands n before s e in
    let here : has (closure (full n) before b) r.q ≡ true = ap (λ c. has c r.q) (sym old.closed) ∙ h in
    let same = has-stays n before r b family good_r here in
    subst (λ g. s ≡ standing n g s.no) (sym change.1) (stands-again n (left_by r before) s (record {
      closed = old.closed ∙ sym same;
      enough = old.enough ∙ sym (enough-closed n before r b q family good_r here) ∙ ap (λ c. enough_for n (left_by r before) c q) (sym same);
      is_state = old.is_state ∙ sym (unbroken-among before r s.enough (ap (λ t. breaks t r) old.enough
          ∙ enough-unbroken n before (closure (full n) before b) q r (outside-member n before b family) (kept-parts n s kept).good.item good_r here));
    }))

pub after-met : (n : ℕ) (before after : List Items) (r : Query) (s : StandingNo) (i : ℕ) → IsChange YesChange.Added n r before after → is_good n r ≡ true → s ≡ standing n before s.no
    → is_within r.a s.closed ≡ false → has (meet r.a s.enough) i ≡ true → s ≡ standing n after s.no
after-met n before after r s i change good e lacks h =
    let b = s.no.query.a in
    let q = s.no.query.q in
    let good_r = good-from n r good in
    let family = family_sets n before change.0 in
    let old = stands n before s e in
    let p = and_parts (has r.a i) (has s.enough i) (sym (has-meet r.a s.enough i) ∙ h) in
    let out : is_within r.a (closure (full n) before b) ≡ false = ap (is_within r.a) (sym old.closed) ∙ lacks in
    let same = lack-stays n before r b family good_r out in
    subst (λ g. s ≡ standing n g s.no) (sym change.1) (stands-again n (left_by r before) s (record {
      closed = old.closed ∙ sym same;
      enough = old.enough ∙ sym (enough-met n before r b q i family good_r p.0 (ap (λ t. has t i) (sym old.enough) ∙ p.1)) ∙ ap (λ c. enough_for n (left_by r before) c q) (sym same);
      is_state = old.is_state ∙ sym (unbroken-among before r s.enough (false_from_ne_true (breaks s.enough r) (λ x. true≢false (sym p.0 ∙ (Breaks-from s.enough r x).apart i p.1))));
    }))

pub after-again : (n : ℕ) (before after : List Items) (r : Query) (s : StandingNo) (closed : Items) → IsChange YesChange.Added n r before after → is_kept n s ≡ true → s ≡ standing n before s.no
    → closed ≡ closure (full n) after s.closed → closed ≡ closure (full n) after s.no.query.a
after-again n before after r s closed change kept e made =
    made ∙ ap (λ (t : StandingNo). closure (full n) after t.closed) e ∙ closure_from_old (full n) before after s.no.query.a (subst (λ g. IsPart g before) (sym change.1) (left-IsPart before r)) (kept-parts n s kept).good.small

pub after-lack : (n : ℕ) (before after : List Items) (r : Query) (s : StandingNo) → IsChange YesChange.Added n r before after → is_good n r ≡ true → s ≡ standing n before s.no
    → is_within r.a s.closed ≡ false → s.closed ≡ closure (full n) after s.no.query.a
after-lack n before after r s change good e lacks =
    ap (λ (t : StandingNo). t.closed) e
    ∙ sym (ap (λ g. closure (full n) g s.no.query.a) change.1 ∙ lack-stays n before r s.no.query.a (family_sets n before change.0) (good-from n r good) (ap (λ (t : StandingNo). is_within r.a t.closed) (sym e) ∙ lacks))

-- what was enough stays so
pub after-known : (n : ℕ) (before after : List Items) (r : Query) (s : StandingNo) (closed : Items) → IsChange YesChange.Added n r before after → s ≡ standing n before s.no → closed ≡ closure (full n) after s.no.query.a
    → IsWithin s.enough (enough_for n after closed s.no.query.q)
after-known n before after r s closed change e made i h =
    subst (λ c. has (enough_for n after c s.no.query.q) i ≡ true) (sym made)
    (enough-grows n before after s.no.query.a s.no.query.q (subst (λ g. IsPart g before) (sym change.1) (left-IsPart before r)) i (ap (λ (t : StandingNo). has t.enough i) (sym e) ∙ h))

-- and where it was a state that does not break the query, it is still one, and all that is enough
pub after-state : (n : ℕ) (before after : List Items) (r : Query) (s : StandingNo) (closed : Items) → IsChange YesChange.Added n r before after → is_kept n s ≡ true → s ≡ standing n before s.no → closed ≡ closure (full n) after s.no.query.a
    → s.is_state ≡ true → breaks s.enough r ≡ false → record { no = s.no; closed = closed; enough = s.enough; is_state = s.is_state } ≡ standing n after s.no
after-state n before after r s closed change kept e made state unbroken =
    let old = stands n before s e in
    let member : is_among after s.enough ≡ true = ap (λ g. is_among g s.enough) change.1 ∙ unbroken-among before r s.enough unbroken ∙ sym old.is_state ∙ state in
    standing-from n after s.no closed s.enough s.is_state made
    (enough-stays n before after s.no.query.a closed s.enough s.no.query.q (family_sets n before change.0) (subst (λ g. IsPart g before) (sym change.1) (left-IsPart before r)) (kept-parts n s kept).good.item made old.enough member)
    (state ∙ sym member)

-- and where it was none, it is none
pub after-no_state : (n : ℕ) (before after : List Items) (r : Query) (s : StandingNo) → IsChange YesChange.Added n r before after → s ≡ standing n before s.no → s.is_state ≡ false → is_among after s.enough ≡ false
after-no_state n before after r s change e none =
    ap (λ g. is_among g s.enough) change.1 ∙ among-left before r s.enough ∙ ap (λ b. b && not (breaks s.enough r)) (sym (stands n before s e).is_state ∙ none)

-- ---- a Yes that is taken back

pub before-closed : (n : ℕ) (before after : List Items) (r : Query) (s : StandingNo) → IsChange YesChange.Removed n r before after → IsFamily n after → is_good n r ≡ true → is_kept n s ≡ true → s ≡ standing n before s.no
    → is_within r.a s.closed ≡ false → has s.closed r.q ≡ true → s ≡ standing n after s.no
before-closed n before after r s change family good kept e lacks h =
    let b = s.no.query.a in
    let q = s.no.query.q in
    let good_r = good-from n r good in
    let sets = family_sets n after family in
    let old = stands n (left_by r after) s (subst (λ g. s ≡ standing n g s.no) change e) in
    let same = closure_before_yes n after r b sets good_r (ap (is_within r.a) (sym old.closed) ∙ lacks) in
    let here : has (closure (full n) after b) r.q ≡ true = ap (λ c. has c r.q) (sym (old.closed ∙ same)) ∙ h in
    let enough : s.enough ≡ enough_for n after (closure (full n) after b) q = old.enough ∙ ap (λ c. enough_for n (left_by r after) c q) same ∙ enough-closed n after r b q sets good_r here in
    stands-again n after s (record {
      closed = old.closed ∙ same;
      enough = enough;
      is_state = old.is_state ∙ unbroken-among after r s.enough (ap (λ t. breaks t r) enough
          ∙ enough-unbroken n after (closure (full n) after b) q r (outside-member n after b sets) (kept-parts n s kept).good.item good_r here);
    })

pub before-lack : (n : ℕ) (before after : List Items) (r : Query) (s : StandingNo) → IsChange YesChange.Removed n r before after → IsFamily n after → is_good n r ≡ true → s ≡ standing n before s.no
    → is_within r.a s.closed ≡ false → s.closed ≡ closure (full n) after s.no.query.a
before-lack n before after r s change family good e lacks =
    let old = stands n (left_by r after) s (subst (λ g. s ≡ standing n g s.no) change e) in
    old.closed ∙ closure_before_yes n after r s.no.query.a (family_sets n after family) (good-from n r good) (ap (is_within r.a) (sym old.closed) ∙ lacks)

-- nothing more is enough
pub before-among : (n : ℕ) (before after : List Items) (r : Query) (s : StandingNo) (closed : Items) → IsChange YesChange.Removed n r before after → s ≡ standing n before s.no → closed ≡ closure (full n) after s.no.query.a
    → IsWithin (enough_for n after closed s.no.query.q) s.enough
before-among n before after r s closed change e made i h =
    ap (λ (t : StandingNo). has t.enough i) e
    ∙ enough-grows n after before s.no.query.a s.no.query.q (subst (λ g. IsPart g after) (sym change) (left-IsPart after r)) i (ap (λ c. has (enough_for n after c s.no.query.q) i) (sym made) ∙ h)

-- where nothing less is, it is a state without the Yes as with it, unless it was none and breaks the query
pub before-state : (n : ℕ) (before after : List Items) (r : Query) (s : StandingNo) (closed enough : Items) → IsChange YesChange.Removed n r before after → s ≡ standing n before s.no → closed ≡ closure (full n) after s.no.query.a
    → enough ≡ enough_for n after closed s.no.query.q → IsWithin s.enough enough → (s.is_state || not (breaks s.enough r)) ≡ true → record { no = s.no; closed = closed; enough = s.enough; is_state = s.is_state } ≡ standing n after s.no
before-state n before after r s closed enough change e made all within keeps =
    let old = stands n before s e in
    let same : s.enough ≡ enough_for n after closed s.no.query.q = same_within s.enough (enough_for n after closed s.no.query.q) (λ i h. ap (λ t. has t i) (sym all) ∙ within i h) (before-among n before after r s closed change e made) in
    let was : s.is_state ≡ is_among (left_by r after) s.enough = old.is_state ∙ ap (λ g. is_among g s.enough) change in
    let still : s.is_state ≡ is_among after s.enough = elim s.is_state as (λ b. s.is_state ≡ b → s.is_state ≡ is_among after s.enough) [
      | true ↦ λ h. h ∙ sym (left-IsPart after r s.enough (sym was ∙ h))
      | false ↦ λ h. was ∙ unbroken-among after r s.enough (not-true (breaks s.enough r) (ap (λ b. b || not (breaks s.enough r)) (sym h) ∙ keeps))
    ] refl in
    standing-from n after s.no closed s.enough s.is_state made same still

-- ---- one No after another

pub standing-at : (n : ℕ) (before after : List Items) (nos : List No) (ys : List StandingNo) (i : ℕ) (x : StandingNo) → i < length nos → ys ≡ images (standing n after) (standing n before) nos i → x ≡ get_or ys i x → x ≡ standing n before x.no
standing-at n before after nos ys i x l made here =
    let a = get_or nos i x.no in
    let at : slice_get nos i ≡ Some a = slice_get-get_or nos i x.no l in
    let old : x ≡ standing n before a = here ∙ ap (λ zs. get_or zs i x) made ∙ images-at (standing n after) (standing n before) nos i a x at in
    old ∙ ap (standing n before) (sym (ap (λ (s : StandingNo). s.no) old))

pub standing-next : (n : ℕ) (before after : List Items) (nos : List No) (ys : List StandingNo) (i : ℕ) (x y : StandingNo) → i < length nos → ys ≡ images (standing n after) (standing n before) nos i → x ≡ get_or ys i x
    → (x ≡ standing n before x.no → y ≡ standing n after x.no) → set ys i y ≡ images (standing n after) (standing n before) nos (i + 1)
standing-next n before after nos ys i x y l made here next =
    let a = get_or nos i x.no in
    let at : slice_get nos i ≡ Some a = slice_get-get_or nos i x.no l in
    let old : x ≡ standing n before a = here ∙ ap (λ zs. get_or zs i x) made ∙ images-at (standing n after) (standing n before) nos i a x at in
    images-next (standing n after) (standing n before) nos ys i a y at made (next (standing-at n before after nos ys i x l made here) ∙ ap (standing n after) (ap (λ (s : StandingNo). s.no) old))

-- ---- what no Yes reaches stays

unreached-after : (n : ℕ) (before after : List Items) (r : Query) (s : StandingNo) → IsChange YesChange.Added n r before after → is_good n r ≡ true → is_kept n s ≡ true → s ≡ standing n before s.no
    → is_within r.a s.closed ≡ false → can_grow r s ≡ false → s ≡ standing n after s.no
unreached-after n before after r s change good kept e lacks h = elim (cases_Bool s.is_state) [
  | inl state ↦ after-state n before after r s s.closed change kept e (after-lack n before after r s change good e lacks) state (rw state at h)
  | inr none ↦
      let meets : is_same (meet r.a s.enough) empty ≡ false = rw none at h in
      elim (some_item (meet r.a s.enough)) [
        | inl empty ↦ absurd (true≢false (sym ((Decides-is_same (meet r.a s.enough) _).1 empty) ∙ meets))
        | inr some ↦ after-met n before after r s some.0 change good e lacks some.1
      ]
]

pub unreached : (n : ℕ) (before after : List Items) (r : Query) (s : StandingNo) (change : YesChange) → IsChange change n r before after → IsFamily n after → is_good n r ≡ true → is_kept n s ≡ true → s ≡ standing n before s.no
    → can_change change r s ≡ false → s ≡ standing n after s.no
unreached n before after r s YesChange.Added change family good kept e h = elim (cases_Bool (has s.closed r.q)) [
  | inl here ↦ after-closed n before after r s change good kept e here
  | inr out ↦
      let p = or_parts (is_within r.a s.closed) (can_grow r s) (rw out at h) in
      unreached-after n before after r s change good kept e p.0 p.1
]
unreached n before after r s YesChange.Removed change family good kept e h =
    let p = or_parts (is_within r.a s.closed) (not (has s.closed r.q)) h in
    before-closed n before after r s change family good kept e p.0 (not-false (has s.closed r.q) p.1)
