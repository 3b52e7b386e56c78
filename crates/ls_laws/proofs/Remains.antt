-- The sets that a base leaves after a Yes span what remains.
use Rattle.ls_laws.proofs.Vocabulary.{◌&&◌, ◌∙◌, ◌∷◌, ◌≡◌, Decides-is_same, IsInOrder, IsPart, IsUnionClosed, Items, List, Query, Spans, ℕ, [], after_yes, among-append, among-cases, among-filter, among-here, among-there, and_from, and_parts, ap, base, breaks, cases_Bool, empty, false, false_from_ne_true, filter, has, has-empty, has-meet, inl, inr, interior, is_among, is_same, joins, left_by, map, meet, needed, not, not-true, not_from_false, or_cases, or_left, or_right, refl, subst, sym, touches, true, true≢false, union, union-left, union-right, union-within}
use Rattle.ls_laws.proofs.Lists.{IsInOrder-filter}
use Rattle.ls_laws.proofs.Interiors.{from-interior, interior-whole}
use Rattle.ls_laws.proofs.Counts.{some_item}
use Rattle.ls_laws.proofs.Atoms.{among-base, base-member, atom_within}
use Rattle.ls_laws.proofs.Spans.{base-of, base-needed}

among-map : (k g : Items) (gs : List Items) → is_among gs g ≡ true → is_among (map (union k) gs) (union k g) ≡ true
among-map k g [] c = c
among-map k g (t ∷ gs) c = elim (among-cases g t gs c) [
  | inl e ↦ among-here (union k g) (union k t) (map (union k) gs) (ap (union k) e)
  | inr a ↦ among-there (union k g) (union k t) (map (union k) gs) (among-map k g gs a)
]

from-map : (k l : Items) (gs : List Items) → is_among (map (union k) gs) l ≡ true → (g : Items) × (is_among gs g ≡ true) × (l ≡ union k g)
from-map k l [] c = absurd (true≢false (sym c))
from-map k l (t ∷ gs) c = elim (among-cases l (union k t) (map (union k) gs) c) [
  | inl e ↦ (t, among-here t t gs refl, e)
  | inr a ↦ let r = from-map k l gs a in (r.0, among-there r.0 t gs r.1, r.2)
]

pub among-joins : (k g : Items) (ks gs : List Items) → is_among ks k ≡ true → is_among gs g ≡ true → is_among (joins ks gs) (union k g) ≡ true
among-joins k g [] gs a b = a
among-joins k g (t ∷ ks) gs a b =
    among-append (map (union t) gs) (joins ks gs) (union k g)
    ∙ elim (among-cases k t ks a) [
      | inl e ↦ or_left _ (is_among (joins ks gs) (union k g)) (subst (λ s. is_among (map (union s) gs) (union k g) ≡ true) e (among-map k g gs b))
      | inr c ↦ or_right (is_among (map (union t) gs) (union k g)) _ (among-joins k g ks gs c b)
    ]

pub record IsJoin (ks gs : List Items) (l : Items) : Type 0 where
  pub left : Items
  pub right : Items
  pub left_in : is_among ks left ≡ true
  pub right_in : is_among gs right ≡ true
  pub is : l ≡ union left right

pub from-joins : (l : Items) (ks gs : List Items) → is_among (joins ks gs) l ≡ true → IsJoin ks gs l
from-joins l [] gs c = absurd (true≢false (sym c))
from-joins l (t ∷ ks) gs c =
    elim (or_cases (is_among (map (union t) gs) l) (is_among (joins ks gs) l) (sym (among-append (map (union t) gs) (joins ks gs) l) ∙ c)) [
      | inl a ↦ let r = from-map t l gs a in record { left = t; right = r.0; left_in = among-here t t ks refl; right_in = r.1; is = r.2 }
      | inr a ↦ let r = from-joins l ks gs a in record { left = r.left; right = r.right; left_in = among-there r.left t ks r.left_in; right_in = r.right_in; is = r.is }
    ]

-- ---- after a Yes

-- two sets meet where they have an item in common
pub touches-at : (s t : Items) (x : ℕ) → has s x ≡ true → has t x ≡ true → touches s t ≡ true
touches-at s t x a b = not_from_false (is_same (meet s t) empty) (false_from_ne_true (is_same (meet s t) empty) (λ e.
    true≢false (sym (has-meet s t x ∙ and_from (has s x) (has t x) a b) ∙ ap (λ u. has u x) ((Decides-is_same (meet s t) empty).0 e) ∙ has-empty x)))

pub common : (s t : Items) → touches s t ≡ true → (x : ℕ) × (has s x ≡ true) × (has t x ≡ true)
common s t m = elim (some_item (meet s t)) [
  | inl e ↦ absurd (true≢false (sym ((Decides-is_same (meet s t) empty).1 e) ∙ not-true (is_same (meet s t) empty) m))
  | inr r ↦ let b = and_parts (has s r.0) (has t r.0) (sym (has-meet s t r.0) ∙ r.1) in (r.0, b.0, b.1)
]

-- a set that has q and does not break the query meets its A
pub spared : (k : Items) (r : Query) → breaks k r ≡ false → has k r.q ≡ true → touches k r.a ≡ true
spared k r b h = not_from_false (is_same (meet k r.a) empty) (false_from_ne_true (is_same (meet k r.a) empty) (λ e. true≢false (sym (and_from (is_same (meet k r.a) empty) (has k r.q) e h) ∙ b)))

pub unbroken : (k : Items) (r : Query) → touches k r.a ≡ true → breaks k r ≡ false
unbroken k r m = false_from_ne_true (breaks k r) (λ b. true≢false (sym (and_parts (is_same (meet k r.a) empty) (has k r.q) b).0 ∙ not-true (is_same (meet k r.a) empty) m))

-- each member that does not break the query is the union of those sets within it
pub after_yes-spans : (f : List Items) (r : Query) (k : Items) → is_among f k ≡ true → breaks k r ≡ false → interior (after_yes (base f) r) k ≡ k
unfolding after_yes
after_yes-spans f r k c b = interior-whole (after_yes (base f) r) k (λ p hp.
    let whole = filter (λ k. not (breaks k r)) (base f) in
    let broken = filter (λ k. breaks k r) (base f) in
    let meeting = filter (λ g. touches g r.a) (base f) in
    let x = atom_within f k p c hp in
    let s = x.0 in
    let at = x.1 in
    let in_base = among-base f p s at in
    elim (cases_Bool (breaks s r)) [
      | inr ok ↦ (s, among-append whole (joins broken meeting) s ∙ or_left _ _ (among-filter (λ k. not (breaks k r)) (base f) s ∙ and_from (is_among (base f) s) (not (breaks s r)) in_base (not_from_false (breaks s r) ok)), x.2, at.has_q)
      | inl bad ↦
          let hq = x.2 r.q (and_parts (is_same (meet s r.a) empty) (has s r.q) bad).1 in
          let z = common k r.a (spared k r b hq) in
          let y = atom_within f k z.0 c z.1 in
          let g = y.0 in
          let ag = y.1 in
          let g_in = among-filter (λ g. touches g r.a) (base f) g ∙ and_from (is_among (base f) g) (touches g r.a) (among-base f z.0 g ag) (touches-at g r.a z.0 ag.has_q z.2) in
          let s_in = among-filter (λ k. breaks k r) (base f) s ∙ and_from (is_among (base f) s) (breaks s r) in_base bad in
          (union s g, among-append whole (joins broken meeting) (union s g) ∙ or_right (is_among whole (union s g)) _ (among-joins s g broken meeting s_in g_in), union-within s g k x.2 y.2, union-left s g p at.has_q)
    ])

-- and each of those sets is a member that does not break it
pub after_yes-members : (f : List Items) (r : Query) → IsUnionClosed f → (k : Items) → is_among (after_yes (base f) r) k ≡ true → (is_among f k ≡ true) × (breaks k r ≡ false)
unfolding after_yes
after_yes-members f r u k c =
    let whole = filter (λ k. not (breaks k r)) (base f) in
    let broken = filter (λ k. breaks k r) (base f) in
    let meeting = filter (λ g. touches g r.a) (base f) in
    elim (or_cases (is_among whole k) (is_among (joins broken meeting) k) (sym (among-append whole (joins broken meeting) k) ∙ c)) [
      | inl a ↦ let x = and_parts (is_among (base f) k) (not (breaks k r)) (sym (among-filter (λ k. not (breaks k r)) (base f) k) ∙ a) in (base-member f k x.0, not-true (breaks k r) x.1)
      | inr a ↦
          let j = from-joins k broken meeting a in
          let x = and_parts (is_among (base f) j.left) (breaks j.left r) (sym (among-filter (λ k. breaks k r) (base f) j.left) ∙ j.left_in) in
          let y = and_parts (is_among (base f) j.right) (touches j.right r.a) (sym (among-filter (λ g. touches g r.a) (base f) j.right) ∙ j.right_in) in
          let z = common j.right r.a y.1 in (
            subst (λ s. is_among f s ≡ true) (sym j.is) (u j.left j.right (base-member f j.left x.0) (base-member f j.right y.0)),
            subst (λ s. breaks s r ≡ false) (sym j.is) (unbroken (union j.left j.right) r (touches-at (union j.left j.right) r.a z.0 (union-right j.left j.right z.0 z.1) z.2)),
          )
    ]

pub among-left : (f : List Items) (r : Query) (k : Items) → is_among (left_by r f) k ≡ (is_among f k && not (breaks k r))
among-left f r k = among-filter (λ k. not (breaks k r)) f k

pub after_yes-part : (f : List Items) (r : Query) → IsUnionClosed f → IsPart (after_yes (base f) r) (left_by r f)
after_yes-part f r u k c = let x = after_yes-members f r u k c in among-left f r k ∙ and_from (is_among f k) (not (breaks k r)) x.0 (not_from_false (breaks k r) x.1)

pub after_yes-whole : (f : List Items) (r : Query) → Spans (after_yes (base f) r) (left_by r f)
after_yes-whole f r k c = let x = and_parts (is_among f k) (not (breaks k r)) (sym (among-left f r k) ∙ c) in after_yes-spans f r k x.0 (not-true (breaks k r) x.1)

-- The base of the members that do not break the query has, of those sets, the ones that are not the union of the others within them.
pub after_yes-base : (f : List Items) (r : Query) → IsUnionClosed f → (k : Items) → is_among (base (left_by r f)) k ≡ is_among (needed (after_yes (base f) r)) k
after_yes-base f r u = base-of (left_by r f) (after_yes (base f) r) (after_yes-part f r u) (after_yes-whole f r)

-- a set is the union of those within it of either of two lists with the same sets
interior-same : (g h : List Items) (k : Items) → ((l : Items) → is_among g l ≡ is_among h l) → interior g k ≡ k → interior h k ≡ k
interior-same g h k e w = interior-whole h k (λ q a. let r = from-interior g k q (ap (λ s. has s q) w ∙ a) in (r.0, sym (e r.0) ∙ r.1, r.2, r.3))

-- the base of what remains, from those sets put in order
pub after_yes-needed : (f : List Items) (r : Query) → IsUnionClosed f → IsInOrder f → (g : List Items) → IsInOrder g → ((k : Items) → is_among g k ≡ is_among (after_yes (base f) r) k) → base (left_by r f) ≡ needed g
after_yes-needed f r u o g h e = base-needed (left_by r f) g (IsInOrder-filter (λ k. not (breaks k r)) f o) h
    (λ k c. after_yes-part f r u k (sym (e k) ∙ c))
    (λ k c. interior-same (after_yes (base f) r) g k (λ l. sym (e l)) (after_yes-whole f r k c))
