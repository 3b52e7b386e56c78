-- Rounds in which items fall out of a set, down to the interior under the rules.
use Rattle.ls_columns.proofs.Vocabulary.{All-list_all, AllByRecursion, Breaks-from, Decides-is_same, Each-both, Falling, IsApart, IsFalling, IsFamily, IsWithin, IsWithin-from, Items, List, Narrows, None, Option, Query, Some, [], among-filter, and_from, and_parts, ap, arith, breaks, breaks-from, breaks_none, common_item, cond, drop, each, each-in, empty, fallen_by, false, false_from_ne_true, filter, full, get-in, has, has-empty, has-meet, has-union, inl, inr, interior, interior-greatest, interior-is, interior-within, interior_keeping, is_among, is_same, is_within, is_within-from, is_within-interior, len, len-less, list_all-All, meet, meets, meets_rule, members, minus, minus-within, most_items, nat_tests, no_item, not, not-true, not_from_false, or_cases, refl, ruled-IsFamily, same_within, set_at, slice_get, some_item, some_missing, suc, sym, true, true≢false, union, with, without, zero, ℕ, ◌<◌, ◌∙◌, ◌∷◌, ◌≡◌, ◌≤◌}
use Rattle.ls_columns.proofs.Columned.{meets-to}
use Rattle.ls_columns.proofs.Asked.{fallen-here, fallen-from}

-- the interior under the rules
abbrev pub under : List Items → List Query → Items → Items
under f rs s = interior (filter (breaks_none rs) f) s

pub record IsUnder (f : List Items) (rs : List Query) (s inside : Items) : Type 0 where
  pub member : is_among f inside ≡ true
  pub unbroken : breaks_none rs inside ≡ true
  pub within : IsWithin inside s

pub under-is : (n : ℕ) (f : List Items) (rs : List Query) (s : Items) → IsFamily n f → IsUnder f rs s (under f rs s)
under-is n f rs s family =
    let ruled = ruled-IsFamily rs family in
    let a = interior-is (filter (breaks_none rs) f) ruled.holds_empty ruled.holds_unions s in
    let inside = under f rs s in
    let p = and_parts (is_among f inside) (breaks_none rs inside) (sym (among-filter (breaks_none rs) f inside) ∙ a.member) in
    record { member = p.0; unbroken = p.1; within = a.within }

-- a member that breaks no rule, within the set
pub under-greatest : (f : List Items) (rs : List Query) (s t : Items) → is_among f t ≡ true → breaks_none rs t ≡ true → IsWithin t s → IsWithin t (under f rs s)
under-greatest f rs s t m u w = interior-greatest (filter (breaks_none rs) f) s t (among-filter (breaks_none rs) f t ∙ and_from (is_among f t) (breaks_none rs t) m u) w

given_whole : (f : List Items) (s keep kept : Items) → kept ≡ interior f s → IsWithin keep kept → Some kept ≡ interior_keeping f s keep
given_whole f s keep kept e w =
    let h : is_within keep (interior f s) ≡ true = rw (← e) (is_within-from keep kept w) in
    rw (h, e) refl

given_none : (f : List Items) (s keep : Items) → (IsWithin keep (interior f s) → ⊥) → None ≡ interior_keeping f s keep
given_none f s keep h =
    let e : is_within keep (interior f s) ≡ false = false_from_ne_true (is_within keep (interior f s)) (λ x. h (IsWithin-from keep (interior f s) x)) in
    rw e refl

-- ---- what falls in a round

unbroken_at : (rs : List Query) (t : Items) (k : ℕ) (r : Query) → slice_get rs k ≡ Some r → breaks_none rs t ≡ true → breaks t r ≡ false
unbroken_at rs t k r e u = not-true (breaks t r) (each-in (λ r. not (breaks t r) ≡ true) rs r (list_all-All (λ r. not (breaks t r)) rs u) (get-in rs k r e))

-- a set within the kept one that breaks no rule has none of the items that fall by the rules
fallen-apart : (rs : List Query) (fallen kept t : Items) → breaks_none rs t ≡ true → IsWithin t kept → IsApart t (fallen_by rs fallen kept)
fallen-apart rs fallen kept t u w j h = false_from_ne_true (has (fallen_by rs fallen kept) j) (λ x.
    let f = fallen-from rs fallen kept j x in
    let r = f.1 in
    let broken = breaks-from t r (record {
      apart = λ i y. false_from_ne_true (has r.a i) (λ z. true≢false (sym (meets-to kept r.a i (w i y) z) ∙ ap not f.3));
      has_q = rw f.4 h;
    }) in
    true≢false (sym broken ∙ unbroken_at rs t f.0 r f.2 u))

-- nor one that falls with a fallen item
pub out-apart : (rs : List Query) (sets : List Items) (fallen kept with by t : Items) → IsFalling rs sets → ((j : ℕ) → has with j ≡ true → (i : ℕ) × (has fallen i ≡ true) × (has (set_at sets i) j ≡ true))
    → by ≡ fallen_by rs fallen kept → breaks_none rs t ≡ true → IsWithin t kept → IsApart t fallen → IsApart t (meet (union with by) kept)
out-apart rs sets fallen kept with by t a from e u w apart j h = false_from_ne_true (has (meet (union with by) kept) j) (λ x.
    let p = and_parts (has (union with by) j) (has kept j) (sym (has-meet (union with by) kept j) ∙ x) in
    elim (or_cases (has with j) (has by j) (sym (has-union with by j) ∙ p.0)) [
      | inl y ↦
          let f = from j y in
          let out : has t f.0 ≡ false = false_from_ne_true (has t f.0) (λ z. true≢false (sym f.1 ∙ apart f.0 z)) in
          true≢false (sym h ∙ a f.0 j f.2 t u out)
      | inr y ↦ true≢false (sym (ap (λ s. has s j) (sym e) ∙ y) ∙ fallen-apart rs fallen kept t u w j h)
    ])

pub out-all : (with by all kept : Items) → by ≡ all → IsWithin (meet all kept) (meet (union with by) kept)
out-all with by all kept e j h = let x : has by j ≡ has all j = ap (λ s. has s j) e in grind (arith, members)

pub out-part : (s kept : Items) → IsWithin (meet s kept) kept
out-part s kept j h = (and_parts (has s j) (has kept j) (sym (has-meet s kept j) ∙ h)).1

-- ---- what is left after a round

get-drop : (all : List Query) (d : ℕ) (r : Query) (rs : List Query) → drop d all ≡ r ∷ rs → slice_get all d ≡ Some r
get-drop [] zero r rs e = cc
get-drop [] (suc d) r rs e = cc
get-drop (x ∷ all) zero r rs e = let same : x ≡ r = cc in ap Some same
get-drop (x ∷ all) (suc d) r rs e = get-drop all d r rs e

drop-next : (all : List Query) (d : ℕ) (r : Query) (rs : List Query) → drop d all ≡ r ∷ rs → drop (suc d) all ≡ rs
drop-next [] zero r rs e = cc
drop-next [] (suc d) r rs e = cc
drop-next (x ∷ all) zero r rs e = let same : all ≡ rs = cc in same
drop-next (x ∷ all) (suc d) r rs e = drop-next all d r rs e

-- the item of a rule that is broken, and has a fallen item in A, falls
taken_all : (rs all : List Query) (d : ℕ) (n : ℕ) (fallen kept out : Items) → n ≤ most_items → IsWithin kept (full n) → drop d all ≡ rs → IsWithin (meet (fallen_by all fallen kept) kept) out
    → AllByRecursion (λ r. breaks kept r ≡ true → meets r.a fallen ≡ true → has out r.q ≡ true) rs
taken_all [] all d n fallen kept out few small e w = tt
taken_all (r ∷ rs) all d n fallen kept out few small e w = (
  λ b m.
      let broken = Breaks-from kept r b in
      let below : has (full n) r.q ≡ true = small r.q broken.has_q in
      let item : r.q < n = grind (arith, members, nat_tests) in
      let p = and_parts (is_same (meet kept r.a) empty) (has kept r.q) b in
      let here = fallen-here all fallen kept d r (get-drop all d r rs e) (omega arith) m p.0 in
      w r.q (has-meet (fallen_by all fallen kept) kept r.q ∙ and_from _ (has kept r.q) here p.1),
  taken_all rs all (suc d) n fallen kept out few small (drop-next all d r rs e) w,
)

-- where nothing falls, the inner family's interior
pub Narrows-inside : (n m : ℕ) (f : List Items) (rs : List Query) (fallen kept out : Items) → IsFamily m f → n ≤ most_items → IsWithin kept (full n) → IsWithin (meet (fallen_by rs fallen kept) kept) out → out ≡ empty
    → Narrows f rs fallen kept (interior f kept)
Narrows-inside n m f rs fallen kept out family few small all none = record {
  within = interior-within f kept;
  taken = each {P = λ r. breaks kept r ≡ true → meets r.a fallen ≡ true → has out r.q ≡ true} {Q = λ r. breaks kept r ≡ true → meets r.a fallen ≡ true → has (interior f kept) r.q ≡ false}
      (λ r h b x. absurd (true≢false (sym (h b x) ∙ ap (λ s. has s r.q) none ∙ has-empty r.q))) rs (taken_all rs rs 0 n fallen kept out few small refl all);
  greatest = λ t c _ w _. interior-greatest f kept t c w;
  stays = λ e. sym (is_within-interior f family.holds_empty family.holds_unions kept) ∙ is_within-from kept (interior f kept) (λ i h. rw e h);
}

-- a member of which nothing falls stays whole
pub Narrows-whole : (n : ℕ) (f : List Items) (rs : List Query) (set fallen kept out : Items) → n ≤ most_items → IsWithin kept (full n) → IsWithin kept set → is_within set kept ≡ true → is_among f set ≡ true
    → IsWithin (meet (fallen_by rs fallen kept) kept) out → out ≡ empty → Narrows f rs fallen kept kept
Narrows-whole n f rs set fallen kept out few small part whole member all none = record {
  within = λ i h. h;
  taken = each {P = λ r. breaks kept r ≡ true → meets r.a fallen ≡ true → has out r.q ≡ true} {Q = λ r. breaks kept r ≡ true → meets r.a fallen ≡ true → has kept r.q ≡ false}
      (λ r h b x. absurd (true≢false (sym (h b x) ∙ ap (λ s. has s r.q) none ∙ has-empty r.q))) rs (taken_all rs rs 0 n fallen kept out few small refl all);
  greatest = λ t _ _ w _. w;
  stays = λ _. ap (is_among f) (same_within kept set part (IsWithin-from set kept whole)) ∙ member;
}

-- else the set without what falls
pub Narrows-minus : (n : ℕ) (f : List Items) (rs : List Query) (fallen kept out : Items) → n ≤ most_items → IsWithin kept (full n) → IsWithin out kept → IsWithin (meet (fallen_by rs fallen kept) kept) out
    → ((t : Items) → breaks_none rs t ≡ true → IsWithin t kept → IsApart t fallen → IsApart t out) → is_same out empty ≡ false → Narrows f rs fallen kept (minus kept out)
Narrows-minus n f rs fallen kept out few small part all only some = record {
  within = minus-within kept out;
  taken = each {P = λ r. breaks kept r ≡ true → meets r.a fallen ≡ true → has out r.q ≡ true} {Q = λ r. breaks kept r ≡ true → meets r.a fallen ≡ true → has (minus kept out) r.q ≡ false}
      (λ r h b x. let gone = h b x in grind (arith, members)) rs (taken_all rs rs 0 n fallen kept out few small refl all);
  greatest = λ t _ u w a i h. let here = w i h in let stays = only t u w a i h in grind (arith, members);
  stays = λ e. elim (some_item out) [
    | inl none ↦ absurd (true≢false (sym ((Decides-is_same out empty).1 none) ∙ some))
    | inr x ↦
        let gone = x.1 in
        let here = part x.0 x.1 in
        let no : has (minus kept out) x.0 ≡ false = grind (arith, members) in
        absurd (true≢false (sym here ∙ ap (λ s. has s x.0) (sym e) ∙ no))
  ];
}

-- ---- from round to round

-- where items fall, they are in the A of each rule that is broken next
falling_next : (rs : List Query) (kept next : Items) → IsWithin next kept → AllByRecursion (λ r. breaks kept r ≡ true → has next r.q ≡ false) rs → Falling rs (minus kept next) next
falling_next rs kept next w taken = record {
  apart = λ i h. grind (arith, members);
  awake = each {P = λ r. breaks kept r ≡ true → has next r.q ≡ false} {Q = λ r. breaks next r ≡ true → meets r.a (minus kept next) ≡ true} (λ r gone b.
      let q = (Breaks-from next r b).has_q in
      let unbroken = false_from_ne_true (breaks kept r) (λ x. true≢false (sym q ∙ gone x)) in
      let x = meets_rule kept r (w r.q q) unbroken in
      let out = no_item next r x.0 b x.2 in
      let inside = x.1 in
      meets-to r.a (minus kept next) x.0 x.2 (grind (arith, members))) rs taken;
}

-- no member under the rules lost an item, and none of keep fell
pub record Going (f : List Items) (rs : List Query) (s keep fallen kept : Items) : Type 0 where
  pub reaches : IsWithin (under f rs s) kept
  pub within : IsWithin kept s
  pub falling : Falling rs fallen kept
  pub keeps : IsWithin keep kept

pub Going-first : (f : List Items) (rs : List Query) (s keep fallen : Items) → Falling rs fallen s → IsWithin keep s → Going f rs s keep fallen s
Going-first f rs s keep fallen a k = record { reaches = interior-within (filter (breaks_none rs) f) s; within = λ i h. h; falling = a; keeps = k }

taken_now : (f : List Items) (rs : List Query) (s keep fallen kept next : Items) → Going f rs s keep fallen kept → Narrows f rs fallen kept next → AllByRecursion (λ r. breaks kept r ≡ true → has next r.q ≡ false) rs
taken_now f rs s keep fallen kept next g a =
    Each-both (λ r. breaks kept r ≡ true → meets r.a fallen ≡ true) (λ r. breaks kept r ≡ true → meets r.a fallen ≡ true → has next r.q ≡ false) (λ r. breaks kept r ≡ true → has next r.q ≡ false)
    (λ r m t b. t b (m b)) rs g.falling.awake a.taken

reaches_next : (n : ℕ) (f : List Items) (rs : List Query) (s keep fallen kept next : Items) → IsFamily n f → Going f rs s keep fallen kept → Narrows f rs fallen kept next → IsWithin (under f rs s) next
reaches_next n f rs s keep fallen kept next family g a =
    let is = under-is n f rs s family in
    a.greatest (under f rs s) is.member is.unbroken g.reaches (λ i h. g.falling.apart i (g.reaches i h))

pub Going-more : (n : ℕ) (f : List Items) (rs : List Query) (s keep fallen kept next : Items) → IsFamily n f → Narrows f rs fallen kept next → is_within keep next ≡ true → Going f rs s keep fallen kept → Going f rs s keep (minus kept next) next
Going-more n f rs s keep fallen kept next family a k g = record {
  reaches = reaches_next n f rs s keep fallen kept next family g a;
  within = λ i h. g.within i (a.within i h);
  falling = falling_next rs kept next a.within (taken_now f rs s keep fallen kept next g a);
  keeps = IsWithin-from keep next k;
}

-- where an item of keep falls, no member under the rules has all of it
pub Going-none : (n : ℕ) (f : List Items) (rs : List Query) (s keep fallen kept next : Items) → IsFamily n f → Narrows f rs fallen kept next → is_within keep next ≡ false → Going f rs s keep fallen kept
    → None ≡ interior_keeping (filter (breaks_none rs) f) s keep
Going-none n f rs s keep fallen kept next family a k g = given_none (filter (breaks_none rs) f) s keep (λ w.
    true≢false (sym (is_within-from keep next (λ i h. reaches_next n f rs s keep fallen kept next family g a i (w i h))) ∙ k))

-- where nothing falls, the kept set is the interior
pub Going-done : (n : ℕ) (f : List Items) (rs : List Query) (s keep fallen kept next : Items) → IsFamily n f → Narrows f rs fallen kept next → is_within kept next ≡ true → Going f rs s keep fallen kept
    → Some kept ≡ interior_keeping (filter (breaks_none rs) f) s keep
Going-done n f rs s keep fallen kept next family a h g =
    let same = same_within next kept a.within (IsWithin-from kept next h) in
    let unbroken = All-list_all (λ r. not (breaks kept r)) rs (each {P = λ r. breaks kept r ≡ true → has next r.q ≡ false} {Q = λ r. not (breaks kept r) ≡ true}
    (λ r gone. not_from_false (breaks kept r) (false_from_ne_true (breaks kept r) (λ b. true≢false (sym (Breaks-from kept r b).has_q ∙ ap (λ s. has s r.q) (sym same) ∙ gone b)))) rs (taken_now f rs s keep fallen kept next g a)) in
    given_whole (filter (breaks_none rs) f) s keep kept (same_within kept (under f rs s) (under-greatest f rs s kept (a.stays same) unbroken g.within) g.reaches) g.keeps

pub fewer_left : (kept next : Items) → IsWithin next kept → is_within kept next ≡ false → len next < len kept
fewer_left kept next w h = elim (some_missing next kept) [
  | inl x ↦ absurd (true≢false (sym (is_within-from kept next x) ∙ h))
  | inr x ↦ len-less next kept x.0 w x.2 x.1
]

-- ---- a member without an item

-- where an item of keep falls with the item, no member without it has all of keep
pub falls_keep : (n : ℕ) (f : List Items) (rs : List Query) (sets : List Items) (member keep : Items) (item : ℕ) → IsFamily n f → IsFalling rs sets → is_same (meet (set_at sets item) keep) empty ≡ false
    → None ≡ interior_keeping (filter (breaks_none rs) f) (without member item) keep
falls_keep n f rs sets member keep item family a h =
    let x = common_item (set_at sets item) keep h in
    let is = under-is n f rs (without member item) family in
    let out : has (under f rs (without member item)) item ≡ false = false_from_ne_true (has (under f rs (without member item)) item) (λ y.
    let there = is.within item y in
    let gone : has (without member item) item ≡ false = grind (arith, members, nat_tests) in
    true≢false (sym there ∙ gone)) in
    given_none (filter (breaks_none rs) f) (without member item) keep (λ w. true≢false (sym (w x.0 x.2) ∙ a item x.0 x.1 (under f rs (without member item)) is.unbroken out))

-- where the inner family's interior has not all of keep, neither has the one under the rules
pub none_under : (n : ℕ) (f : List Items) (rs : List Query) (s keep : Items) → IsFamily n f → None ≡ interior_keeping f s keep → None ≡ interior_keeping (filter (breaks_none rs) f) s keep
none_under n f rs s keep family e =
    let is = under-is n f rs s family in
    given_none (filter (breaks_none rs) f) s keep (λ k.
    let h : is_within keep (interior f s) ≡ true = is_within-from keep (interior f s) (λ i x. interior-greatest f s (under f rs s) is.member is.within i (k i x)) in
    let no : None ≡ Some (interior f s) = rw h at e in
    cc)

given_some : (inside keep next : Items) → Some next ≡ cond (is_within keep inside) (Some inside) None → (next ≡ inside) × IsWithin keep next
given_some inside keep next e =
    elim (is_within keep inside) as (λ b. is_within keep inside ≡ b → Some next ≡ cond b (Some inside) None → (next ≡ inside) × IsWithin keep next) [
      | true ↦ λ h x. let same : next ≡ inside = cc in (same, rw same (IsWithin-from keep inside h))
      | false ↦ λ _ x. absurd (let no : ⊥ = cc in no)
    ] refl e

-- the interior under the rules of the interior in the family is that of the whole
under_twice : (n : ℕ) (f : List Items) (rs : List Query) (s : Items) → IsFamily n f → under f rs (interior f s) ≡ under f rs s
under_twice n f rs s family =
    let part = under-is n f rs (interior f s) family in
    let whole = under-is n f rs s family in
    same_within (under f rs (interior f s)) (under f rs s)
    (under-greatest f rs s (under f rs (interior f s)) part.member part.unbroken (λ i h. interior-within f s i (part.within i h)))
    (under-greatest f rs (interior f s) (under f rs s) whole.member whole.unbroken (interior-greatest f s (under f rs s) whole.member whole.within))

-- a member breaks no rule, so what falls out of it is in the A of each rule that the rest breaks
pub without_settled : (n : ℕ) (f : List Items) (rs : List Query) (member s keep next : Items) (settled : Option Items) → IsFamily n f → (is_among f member ≡ true → Some next ≡ interior_keeping f s keep) → IsWithin next member
    → (is_among f next ≡ true → Falling rs (minus member next) next → IsWithin keep next → settled ≡ interior_keeping (filter (breaks_none rs) f) next keep)
    → is_among (filter (breaks_none rs) f) member ≡ true → settled ≡ interior_keeping (filter (breaks_none rs) f) s keep
without_settled n f rs member s keep next settled family given w settles c =
    let p = and_parts (is_among f member) (breaks_none rs member) (sym (among-filter (breaks_none rs) f member) ∙ c) in
    let inner = given_some (interior f s) keep next (given p.0) in
    let unbroken = each {P = λ r. not (breaks member r) ≡ true} {Q = λ r. breaks member r ≡ true → has next r.q ≡ false} (λ r u b. absurd (true≢false (sym b ∙ not-true (breaks member r) u))) rs (list_all-All (λ r. not (breaks member r)) rs p.1) in
    let here : is_among f next ≡ true = rw inner.0 (interior-is f family.holds_empty family.holds_unions s).member in
    settles here (falling_next rs member next w unbroken) inner.1
    ∙ ap (λ inside. cond (is_within keep inside) (Some inside) None) (ap (under f rs) inner.0 ∙ under_twice n f rs s family)
