-- The interior under rules, round by round.
use Rattle.ls_rules.proofs.Vocabulary.{AllByRecursion, AreSingles, Breaks-from, IsAwake, IsInterior-interior, IsWithin, IsWithin-from, Items, List, None, NoneKeeps, Option, Query, Round, Settles, Settling, Some, [], among-filter, and_from, and_parts, ap, arith, breaks, breaks_none, cond, empty, empty-within, false, false_from_ne_true, filter, has, inl, inr, interior, interior-greatest, interior-is, interior-within, is_among, is_same, is_within, is_within-from, is_within-interior, len, len-less, meet, members, minus, nat_tests, not, not-true, refl, same_within, set_at, some_missing, sym, true, true≢false, unwrap_or, without, ℕ, ◌<◌, ◌∙◌, ◌∷◌, ◌≡◌}
use Rattle.ls_laws.specs.Families.{IsFamily}
use Rattle.ls_laws.proofs.Families.{ruled-IsFamily}
use Rattle.ls_interior.specs.Keeping.{interior_keeping}
use Rattle.ls_rules.proofs.Alone.{asked-out}
use Rattle.ls_rules.proofs.Rounds.{common_item, meets_rule, no_item, none_broken, taken}

-- the round begins with what is lost of a settled set in its interior in the family, as far as it wakes a rule
abbrev pub lost : Items → Items → Items → Round
lost items kept next = record { kept = next; fallen = meet (minus kept next) items }

-- where a settled set loses items, these wake every rule that is broken
lost_awake : (rules : List Query) (items kept next : Items) → AllByRecursion (λ r. IsWithin r.a items) rules → breaks_none rules kept ≡ true → IsWithin next kept → AllByRecursion (IsAwake (lost items kept next)) rules
lost_awake [] items kept next a h w = tt
lost_awake (r ∷ rules) items kept next a h w =
    let p = and_parts (not (breaks kept r)) (breaks_none rules kept) h in (
      λ b.
          let x = meets_rule kept r (w r.q (Breaks-from next r b).has_q) (not-true (breaks kept r) p.0) in
          let inside = x.1 in
          let out = no_item next r x.0 b x.2 in
          let wakes = a.0 x.0 x.2 in
          (x.0, x.2, grind (arith, members, nat_tests)),
      lost_awake rules items kept next a.1 p.1 w,
    )

-- what holds of a settled set within s that no member within s reaches past
pub record Reaches (f : List Items) (rules : List Query) (s kept : Items) : Type 0 where
  pub within : IsWithin kept s
  pub unbroken : breaks_none rules kept ≡ true
  pub greatest : (t : Items) → is_among f t ≡ true → breaks_none rules t ≡ true → IsWithin t s → IsWithin t kept

-- a settled set that is a member is the interior under the rules
Reaches-done : (n : ℕ) (f : List Items) (rules : List Query) (s kept : Items) → IsFamily n f → Reaches f rules s kept → is_among f kept ≡ true → kept ≡ interior (filter (breaks_none rules) f) s
Reaches-done n f rules s kept family r member =
    let ruled = ruled-IsFamily rules family in
    IsInterior-interior (filter (breaks_none rules) f) ruled.holds_empty ruled.holds_unions s kept (record {
      member = among-filter (breaks_none rules) f kept ∙ and_from (is_among f kept) (breaks_none rules kept) member r.unbroken;
      within = r.within;
      greatest = λ t c w. let p = and_parts (is_among f t) (breaks_none rules t) (sym (among-filter (breaks_none rules) f t) ∙ c) in r.greatest t p.0 p.1 w;
    })

-- a set that is within its interior in the family is a member
member_from : (n : ℕ) (f : List Items) (kept : Items) → IsFamily n f → is_within kept (interior f kept) ≡ true → is_among f kept ≡ true
member_from n f kept family h = sym (is_within-interior f family.holds_empty family.holds_unions kept) ∙ h

-- the rounds in a member within s, from which no member within s that breaks no rule lost an item
pub record Going (f : List Items) (rules : List Query) (s keep member : Items) (round : Round) : Type 0 where
  pub is_member : is_among f member ≡ true
  pub within : IsWithin member s
  pub greatest : (t : Items) → is_among f t ≡ true → breaks_none rules t ≡ true → IsWithin t s → IsWithin t member
  pub settling : Settling rules member round
  pub keeps : IsWithin keep round.kept

-- what such a round settles reaches far enough
pub Going-settled : (f : List Items) (rules : List Query) (s keep member settled : Items) (round : Round) → Going f rules s keep member round → Settles rules member settled → Reaches f rules s settled
Going-settled f rules s keep member settled round g a = record {
  within = λ i h. g.within i (a.within i h);
  unbroken = a.unbroken;
  greatest = λ t c u w. a.greatest t u (g.greatest t c u w);
}

-- a member that loses items, from which the rules go on
pub Settling-lost : (rules : List Query) (items kept next : Items) → AllByRecursion (λ r. IsWithin r.a items) rules → breaks_none rules kept ≡ true → IsWithin next kept → Settling rules next (lost items kept next)
Settling-lost rules items kept next a u w = record { within = λ i h. h; awake = lost_awake rules items kept next a u w; greatest = λ t _ x. x }

pub Going-more : (n : ℕ) (f : List Items) (rules : List Query) (items s keep kept : Items) → IsFamily n f → AllByRecursion (λ r. IsWithin r.a items) rules → Reaches f rules s kept → IsWithin keep (interior f kept)
    → Going f rules s keep (interior f kept) (lost items kept (interior f kept))
Going-more n f rules items s keep kept family a r k = record {
  is_member = (interior-is f family.holds_empty family.holds_unions kept).member;
  within = λ i h. r.within i (interior-within f kept i h);
  greatest = λ t c u w. interior-greatest f kept t c (r.greatest t c u w);
  settling = Settling-lost rules items kept (interior f kept) a r.unbroken (interior-within f kept);
  keeps = k;
}

-- ---- what is to be kept

-- a set that has all of keep is given
given_whole : (f : List Items) (s keep kept : Items) → kept ≡ interior f s → IsWithin keep kept → Some kept ≡ interior_keeping f s keep
given_whole f s keep kept e w =
    let h : is_within keep (interior f s) ≡ true = rw (← e) (is_within-from keep kept w) in
    rw (h, e) refl

-- none is given where the interior has not all of keep
given_none : (f : List Items) (s keep : Items) → (IsWithin keep (interior f s) → ⊥) → None ≡ interior_keeping f s keep
given_none f s keep h =
    let e : is_within keep (interior f s) ≡ false = false_from_ne_true (is_within keep (interior f s)) (λ x. h (IsWithin-from keep (interior f s) x)) in
    rw e refl

-- the interior under the rules is a member within the set, and breaks no rule
ruled_interior : (n : ℕ) (f : List Items) (rules : List Query) (s : Items) → IsFamily n f → let inside = interior (filter (breaks_none rules) f) s in (is_among f inside ≡ true) × (breaks_none rules inside ≡ true) × IsWithin inside s
ruled_interior n f rules s family =
    let ruled = ruled-IsFamily rules family in
    let a = interior-is (filter (breaks_none rules) f) ruled.holds_empty ruled.holds_unions s in
    let inside = interior (filter (breaks_none rules) f) s in
    let p = and_parts (is_among f inside) (breaks_none rules inside) (sym (among-filter (breaks_none rules) f inside) ∙ a.member) in
    (p.0, p.1, a.within)

-- where no set that breaks no rule keeps enough, neither does the interior
pub none_settled : (n : ℕ) (f : List Items) (rules : List Query) (s keep member : Items) (round : Round) → IsFamily n f → Going f rules s keep member round → NoneKeeps rules member keep
    → None ≡ interior_keeping (filter (breaks_none rules) f) s keep
none_settled n f rules s keep member round family g none =
    let inside = interior (filter (breaks_none rules) f) s in
    let a = ruled_interior n f rules s family in
    given_none (filter (breaks_none rules) f) s keep (λ k. none inside a.1 (g.greatest inside a.0 a.1 a.2) k)

pub none_inside : (n : ℕ) (f : List Items) (rules : List Query) (s keep kept : Items) → IsFamily n f → Reaches f rules s kept → is_within keep (interior f kept) ≡ false
    → None ≡ interior_keeping (filter (breaks_none rules) f) s keep
none_inside n f rules s keep kept family r h =
    let inside = interior (filter (breaks_none rules) f) s in
    let a = ruled_interior n f rules s family in
    given_none (filter (breaks_none rules) f) s keep (λ k.
    let w = interior-greatest f kept inside a.0 (r.greatest inside a.0 a.1 a.2) in
    true≢false (sym (is_within-from keep (interior f kept) (λ i x. w i (k i x))) ∙ h))

-- a set that is not within its interior in the family has more items than that
pub fewer_kept : (f : List Items) (kept : Items) → is_within kept (interior f kept) ≡ false → len (interior f kept) < len kept
fewer_kept f kept h =
    let next = interior f kept in
    elim (some_missing next kept) [
      | inl w ↦ absurd (true≢false (sym (is_within-from kept next w) ∙ h))
      | inr x ↦ len-less next kept x.0 (interior-within f kept) x.2 x.1
    ]

-- the interior under the rules of the interior in the family is that of the whole
ruled_twice : (n : ℕ) (f : List Items) (rules : List Query) (s : Items) → IsFamily n f → interior (filter (breaks_none rules) f) (interior f s) ≡ interior (filter (breaks_none rules) f) s
ruled_twice n f rules s family =
    let a = ruled_interior n f rules (interior f s) family in
    Reaches-done n f rules s (interior (filter (breaks_none rules) f) (interior f s)) family (record {
      within = λ i h. interior-within f s i (a.2 i h);
      unbroken = a.1;
      greatest = λ t c u w. interior-greatest (filter (breaks_none rules) f) (interior f s) t (among-filter (breaks_none rules) f t ∙ and_from (is_among f t) (breaks_none rules t) c u) (interior-greatest f s t c w);
    }) a.0

-- ---- what each step gives

-- where the rules take nothing out of a member, it is the interior
pub nothing_fell : (n : ℕ) (f : List Items) (rules : List Query) (s keep member settled : Items) (round : Round) → IsFamily n f → Going f rules s keep member round
    → (Settles rules member settled × IsWithin keep settled) → is_within member settled ≡ true → Some settled ≡ interior_keeping (filter (breaks_none rules) f) s keep
nothing_fell n f rules s keep member settled round family g a h =
    let same = same_within settled member a.0.within (IsWithin-from member settled h) in
    given_whole (filter (breaks_none rules) f) s keep settled
    (Reaches-done n f rules s settled family (Going-settled f rules s keep member settled round g a.0) (rw same g.is_member)) a.1

-- where the inner family takes nothing out of what is settled, that is the interior
pub nothing_lost : (n : ℕ) (f : List Items) (rules : List Query) (s keep member settled : Items) (round : Round) → IsFamily n f → Going f rules s keep member round
    → (Settles rules member settled × IsWithin keep settled) → is_within settled (interior f settled) ≡ true → Some settled ≡ interior_keeping (filter (breaks_none rules) f) s keep
nothing_lost n f rules s keep member settled round family g a h =
    given_whole (filter (breaks_none rules) f) s keep settled
    (Reaches-done n f rules s settled family (Going-settled f rules s keep member settled round g a.0) (member_from n f settled family h)) a.1

-- the empty set is kept always
keeping_empty : (f : List Items) (s : Items) → interior_keeping f s empty ≡ Some (interior f s)
keeping_empty f s = rw (is_within-from empty (interior f s) (empty-within (interior f s))) refl

pub inside_settled : (n : ℕ) (f : List Items) (rules : List Query) (s d : Items) (settled : Option Items) → IsFamily n f → settled ≡ interior_keeping (filter (breaks_none rules) f) (interior f s) empty
    → unwrap_or settled d ≡ interior (filter (breaks_none rules) f) s
inside_settled n f rules s d settled family e = ap (λ o. unwrap_or o d) (e ∙ keeping_empty (filter (breaks_none rules) f) (interior f s)) ∙ ruled_twice n f rules s family

-- where the first round takes nothing out of the inner interior, that is the interior under the rules
pub inside_whole : (n : ℕ) (f : List Items) (rules : List Query) (s : Items) (first : Round) → IsFamily n f → Settling rules (interior f s) first → (first.fallen ≡ empty → first.kept ≡ interior f s)
    → first.fallen ≡ empty → interior f s ≡ interior (filter (breaks_none rules) f) s
inside_whole n f rules s first family a whole e =
    let unbroken = none_broken first rules e a.awake in
    Reaches-done n f rules s (interior f s) family (record {
      within = interior-within f s;
      unbroken = rw (← whole e) unbroken;
      greatest = λ t c _ w. interior-greatest f s t c w;
    }) (interior-is f family.holds_empty family.holds_unions s).member

-- where the inner family's interior has not all of keep, neither has the one under the rules
pub none_under : (n : ℕ) (f : List Items) (rules : List Query) (s keep : Items) → IsFamily n f → None ≡ interior_keeping f s keep → None ≡ interior_keeping (filter (breaks_none rules) f) s keep
none_under n f rules s keep family e =
    let inside = interior (filter (breaks_none rules) f) s in
    let a = ruled_interior n f rules s family in
    given_none (filter (breaks_none rules) f) s keep (λ k.
    let h : is_within keep (interior f s) ≡ true = is_within-from keep (interior f s) (λ i x. interior-greatest f s inside a.0 a.2 i (k i x)) in
    let no : None ≡ Some (interior f s) = rw h at e in
    cc)

-- where an item of keep falls with the item by a rule of the item alone, none is given
pub none_alone : (n : ℕ) (f : List Items) (rules : List Query) (singles : List Items) (member keep : Items) (item : ℕ) → IsFamily n f → AreSingles singles rules → is_same (meet (set_at singles item) keep) empty ≡ false
    → None ≡ interior_keeping (filter (breaks_none rules) f) (without member item) keep
none_alone n f rules singles member keep item family a h =
    let inside = interior (filter (breaks_none rules) f) (without member item) in
    let x = common_item (set_at singles item) keep h in
    let b = ruled_interior n f rules (without member item) family in
    let out : has inside item ≡ false = false_from_ne_true (has inside item) (λ y. true≢false (sym (b.2 item y) ∙ taken member item)) in
    given_none (filter (breaks_none rules) f) (without member item) keep (λ k.
    true≢false (sym (k x.0 x.2) ∙ asked-out rules inside item x.0 b.1 out (ap (λ m. has m x.0) (sym (a item)) ∙ x.1)))

given_some : (inside keep next : Items) → Some next ≡ cond (is_within keep inside) (Some inside) None → (next ≡ inside) × IsWithin keep next
given_some inside keep next e =
    elim (is_within keep inside) as (λ b. is_within keep inside ≡ b → Some next ≡ cond b (Some inside) None → (next ≡ inside) × IsWithin keep next) [
      | true ↦ λ h x. let same : next ≡ inside = cc in (same, rw same (IsWithin-from keep inside h))
      | false ↦ λ _ x. absurd (let no : ⊥ = cc in no)
    ] refl e

-- of a member without an item the inner family's interior is given, and what the rules make of it
pub without_settled : (n : ℕ) (f : List Items) (rules : List Query) (items member s keep next : Items) (settled : Option Items) → IsFamily n f → AllByRecursion (λ r. IsWithin r.a items) rules
    → (is_among f member ≡ true → Some next ≡ interior_keeping f s keep) → IsWithin next member
    → (is_among f next ≡ true → Settling rules next (lost items member next) → IsWithin keep next → settled ≡ interior_keeping (filter (breaks_none rules) f) next keep)
    → is_among (filter (breaks_none rules) f) member ≡ true → settled ≡ interior_keeping (filter (breaks_none rules) f) s keep
without_settled n f rules items member s keep next settled family a given w settles c =
    let p = and_parts (is_among f member) (breaks_none rules member) (sym (among-filter (breaks_none rules) f member) ∙ c) in
    let inner = given_some (interior f s) keep next (given p.0) in
    let here : is_among f next ≡ true = rw inner.0 (interior-is f family.holds_empty family.holds_unions s).member in
    settles here (Settling-lost rules items member next a p.1 w) inner.1
    ∙ ap (λ inside. cond (is_within keep inside) (Some inside) None) (ap (interior (filter (breaks_none rules) f)) inner.0 ∙ ruled_twice n f rules s family)

-- ---- where nothing that fell out wakes a rule

-- a member of which nothing was taken out breaks no rule, and is the interior
pub nothing_woken : (n : ℕ) (f : List Items) (rules : List Query) (keep member fallen : Items) → IsFamily n f → fallen ≡ empty → is_among f member ≡ true
    → Settling rules member (record { kept = member; fallen = fallen }) → IsWithin keep member → Some member ≡ interior_keeping (filter (breaks_none rules) f) member keep
nothing_woken n f rules keep member fallen family e here a w =
    given_whole (filter (breaks_none rules) f) member keep member
    (Reaches-done n f rules member member family (record { within = λ i h. h; unbroken = none_broken (record { kept = member; fallen = fallen }) rules e a.awake; greatest = λ t _ _ x. x }) here) w

-- ---- where there is no rule

no_rules : (f : List Items) → filter (breaks_none []) f ≡ f
no_rules [] = refl
no_rules (k ∷ f) = ap (λ l. k ∷ l) (no_rules f)

-- the members of the family are those under the rules
pub without_rules : (rules : List Query) (f : List Items) → rules ≡ [] → filter (breaks_none rules) f ≡ f
without_rules rules f e = ap (λ rs. filter (breaks_none rs) f) e ∙ no_rules f
