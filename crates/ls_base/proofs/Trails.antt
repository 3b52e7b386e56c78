-- Trails: what their entries stand for, and which is the last.
use Rattle.ls_base.proofs.Vocabulary.{◌++◌, ◌+◌, ◌-◌, ◌<◌, ◌∙◌, ◌∷◌, ◌≡◌, ◌≤◌, All, All-append, All-drop, All-filter, All-from_recursion, All-map, All-push, All-set, All-take, All-weaker, AreAskable, EndsAt, Entry, Followed, IfSome, IsAskable, IsEntry, IsFollowed, IsTrail, List, Query, Some, Start, ℕ, [], ap, arith, begins_at_none, cases_lt, cond, cut, drop, false, filter, filter_passes, get_or, get_or_from_slice_get, given_up, inl, inr, is_good, last_entry, leb-true, length, length-append, length-set, length-take, length-take-le, list_all, list_all-All, ltb, ltb-false, ltb-true, option_map, option_map_or, followed_count, refl, set, slice_get, slice_get-get_or, slice_get_read, slice_get_within, subst, suc, sym, take, take-append-le, take-take, take_all, take_more, true}
use Rattle.std.proofs.Math.Dec.{leb}
use Rattle.std.proofs.lemmas.Grind.{get_or-set_at}
use Rattle.ls_base.proofs.Followings.{IsAskable-good}

-- ---- the last entry

pub last-read : (es : List Entry) (i : ℕ) (e : Entry) → 0 < length es → i ≡ length es - 1 → e ≡ get_or es i e → last_entry es ≡ Some e
last-read es i e l at is = slice_get_read es (length es) (length es - 1) e refl (omega arith) (subst (λ j. e ≡ get_or es j e) at is)

pub last-same : (es : List Entry) (e x : Entry) → last_entry es ≡ Some e → last_entry es ≡ Some x → e ≡ x
last-same es e x a b = let both : Some e ≡ Some x = sym a ∙ b in cc

pub last-some : (es : List Entry) → 0 < length es → (e : Entry) × (last_entry es ≡ Some e)
last-some [] l = absurd (omega arith)
last-some (x ∷ es) l = (get_or (x ∷ es) (length (x ∷ es) - 1) x, slice_get-get_or (x ∷ es) (length (x ∷ es) - 1) x (omega arith))

pub last-set : (es : List Entry) (i : ℕ) (e : Entry) → 0 < length es → i ≡ length es - 1 → last_entry (set es i e) ≡ Some e
last-set es i e l at =
    last-read (set es i e) i e (omega (arith, length-set es i e)) (omega (arith, length-set es i e)) (sym (get_or-set_at es i i e e refl (omega arith)))

slice_get-last : (es : List Entry) (e : Entry) → slice_get (es ++ e ∷ []) (length es) ≡ Some e
slice_get-last [] e = refl
slice_get-last (x ∷ es) e = slice_get-last es e

pub last-push : (es : List Entry) (e : Entry) → last_entry (es ++ e ∷ []) ≡ Some e
last-push es e = ap (slice_get (es ++ e ∷ [])) (let at : length (es ++ e ∷ []) - 1 ≡ length es = omega (arith, length-append es (e ∷ [])) in at) ∙ slice_get-last es e

last-cons : (x y : Entry) (es : List Entry) → last_entry (x ∷ y ∷ es) ≡ last_entry (y ∷ es)
last-cons x y es = ap (slice_get (x ∷ y ∷ es)) (let at : length (x ∷ y ∷ es) - 1 ≡ suc (length (y ∷ es) - 1) = omega arith in at)

last-remove : (es : List Entry) → 2 < length es → last_entry (take 1 es ++ drop 2 es) ≡ last_entry es
last-remove [] l = absurd (omega arith)
last-remove (x ∷ []) l = absurd (omega arith)
last-remove (x ∷ y ∷ []) l = absurd (omega arith)
last-remove (x ∷ y ∷ z ∷ es) l = last-cons x z es ∙ sym (last-cons y z es) ∙ sym (last-cons x y (z ∷ es))

begins-remove : (es : List Entry) → 2 < length es → begins_at_none (take 1 es ++ drop 2 es) ≡ begins_at_none es
begins-remove [] l = absurd (omega arith)
begins-remove (x ∷ es) l = refl

-- ---- what the entries stand for

pub entry-last : (n : ℕ) (start : Start) (yeses : List Query) (es : List Entry) (e : Entry) → IsTrail n start yeses es → last_entry es ≡ Some e → IsEntry n start yeses e
entry-last n start yeses es e t l = subst (IsEntry n start yeses) (get_or_from_slice_get es (length es - 1) e e l) (t (length es - 1) e (slice_get_within es (length es - 1) e l))

trail-remove : (n : ℕ) (start : Start) (yeses : List Query) (es : List Entry) → IsTrail n start yeses es → IsTrail n start yeses (take 1 es ++ drop 2 es)
trail-remove n start yeses es t = let P = IsEntry n start yeses in All-append P (take 1 es) (drop 2 es) (All-take P 1 es t) (All-drop P 2 es t)

-- what stays when the oldest entries are let go but the first
pub record IsLetGo (old new : List Entry) : Type 0 where
  pub trail : (n : ℕ) (start : Start) (yeses : List Query) → IsTrail n start yeses old → IsTrail n start yeses new
  pub last : last_entry new ≡ last_entry old
  pub begins : begins_at_none new ≡ begins_at_none old
  pub begun : 0 < length old → 0 < length new

pub let_go-more : (old es new : List Entry) → IsLetGo old es → 2 < length es → new ≡ take 1 es ++ drop 2 es → length new ≡ length es - 1 → IsLetGo old new
let_go-more old es new had more is less = record {
  trail = λ n start yeses t. subst (IsTrail n start yeses) (sym is) (trail-remove n start yeses es (had.trail n start yeses t));
  last = ap last_entry is ∙ last-remove es more ∙ had.last;
  begins = ap begins_at_none is ∙ begins-remove es more ∙ had.begins;
  begun = λ l. omega arith;
}

-- an entry that stands for one more Yes answer
entry-next : (n : ℕ) (start : Start) (yeses : List Query) (first m : ℕ) (f : Followed) (r : Query) → first ≤ m + 1 → slice_get yeses m ≡ Some r
    → ((k : ℕ) → first ≤ k → k ≤ m → IsFollowed n start (take k yeses) f) → IsFollowed n start (take m yeses ++ r ∷ []) f → IsEntry n start yeses (record { first = first; last = m + 1; followed = f })
entry-next n start yeses first m f r l at before here =
    let in' : m < length yeses = slice_get_within yeses m r at in
    let more = take_more yeses m r in' ∙ ap (λ x. take m yeses ++ x ∷ []) (get_or_from_slice_get yeses m r r at) in
    record {
      in_order = l;
      few = omega arith;
      followed = λ k low high. elim (cases_lt m k) [
        | inr a ↦ before k low a
        | inl a ↦ subst (λ j. IsFollowed n start (take j yeses) f) (let e : m + 1 ≡ k = omega arith in e) (subst (λ ys. IsFollowed n start ys f) (sym more) here)
      ];
    }

here : (yeses : List Query) (es : List Entry) (e : Entry) (r : Query) → last_entry es ≡ Some e → slice_get yeses (followed_count es) ≡ Some r → slice_get yeses e.last ≡ Some r
here yeses es e r l at = ap (λ o. slice_get yeses (option_map_or (λ e. e.last) o 0)) (sym l) ∙ at

-- the last entry stands for one more
pub trail-set : (n : ℕ) (start : Start) (yeses : List Query) (es : List Entry) (i : ℕ) (e : Entry) (r : Query) → last_entry es ≡ Some e → IsTrail n start yeses es → slice_get yeses (followed_count es) ≡ Some r
    → (IsFollowed n start (take e.last yeses) e.followed → IsFollowed n start (take e.last yeses ++ r ∷ []) e.followed) → IsTrail n start yeses (set es i (record { first = e.first; last = e.last + 1; followed = e.followed }))
trail-set n start yeses es i e r l t at stays =
    let h = entry-last n start yeses es e t l in
    let order : e.first ≤ e.last = h.in_order in
    All-set (IsEntry n start yeses) es i _ (entry-next n start yeses e.first e.last e.followed r (omega arith) (here yeses es e r l at) h.followed (stays (h.followed e.last order (omega arith)))) t

-- or there is a new one
pub trail-push : (n : ℕ) (start : Start) (yeses : List Query) (es : List Entry) (e : Entry) (r : Query) (f : Followed) → last_entry es ≡ Some e → IsTrail n start yeses es → slice_get yeses (followed_count es) ≡ Some r
    → (IsFollowed n start (take e.last yeses) e.followed → e.last + 1 ≡ length (take e.last yeses) + 1 → IsFollowed n start (take e.last yeses ++ r ∷ []) f) → IsTrail n start yeses (es ++ record { first = e.last + 1; last = e.last + 1; followed = f } ∷ [])
trail-push n start yeses es e r f l t at next =
    let h = entry-last n start yeses es e t l in
    let order : e.first ≤ e.last = h.in_order in
    let few : e.last ≤ length yeses = h.few in
    All-push (IsEntry n start yeses) es _ t (entry-next n start yeses (e.last + 1) e.last f r (omega arith) (here yeses es e r l at) (λ k low high. absurd (omega arith))
    (next (h.followed e.last order (omega arith)) (omega (arith, length-take-le e.last yeses few))))

-- where all are followed, the last entry is what follows them all
pub trail-end : (n : ℕ) (start : Start) (yeses : List Query) (es : List Entry) → IsTrail n start yeses es → 0 < length es → length yeses ≤ followed_count es → EndsAt n start yeses es
trail-end n start yeses es t l whole =
    let x = last-some es l in
    let e = x.0 in
    let h = entry-last n start yeses es e t x.1 in
    let order : e.first ≤ e.last = h.in_order in
    let few : e.last ≤ length yeses = h.few in
    let at : followed_count es ≡ e.last = ap (λ o. option_map_or (λ e. e.last) o 0) x.1 in
    record {
      end = e.followed;
      is_last = ap (option_map (λ e. e.followed)) x.1;
      is_followed = subst (λ ys. IsFollowed n start ys e.followed) (take_all e.last yeses (omega arith)) (h.followed e.last order (omega arith));
    }

-- ---- what is given up

-- an entry stands for fewer answers, also of others that begin with the same ones
entry-less : (n : ℕ) (start : Start) (yeses others : List Query) (e : Entry) (count m : ℕ) → IsEntry n start yeses e → take count others ≡ take count yeses → e.first ≤ m → m ≤ e.last → m ≤ count → IsEntry n start others (record { first = e.first; last = m; followed = e.followed })
entry-less n start yeses others e count m h same low high below =
    let few : e.last ≤ length yeses = h.few in
    record {
      in_order = low;
      few = omega (arith, ap length same, length-take count others, length-take count yeses);
      followed = λ k a b. subst (λ ys. IsFollowed n start ys e.followed) (sym (take-take k count yeses (omega arith)) ∙ ap (take k) (sym same) ∙ take-take k count others (omega arith)) (h.followed k a (omega arith));
    }

entry-cut : (n : ℕ) (start : Start) (yeses others : List Query) (e : Entry) (count : ℕ) → IsEntry n start yeses e → take count others ≡ take count yeses → e.first ≤ count → IsEntry n start others (cut count e)
entry-cut n start yeses others e count h same low = elim (ltb count e.last) as (λ b. ltb count e.last ≡ b → IsEntry n start others (cond b (record e { last = count }) e)) [
  | true ↦ λ x. let l = ltb-true count e.last x in entry-less n start yeses others e count count h same low (omega arith) (omega arith)
  | false ↦ λ x. let l = ltb-false count e.last x in entry-less n start yeses others e count e.last h same h.in_order (omega arith) (omega arith)
] refl

pub trail-given_up : (n : ℕ) (start : Start) (yeses others : List Query) (es : List Entry) (count : ℕ) → IsTrail n start yeses es → take count others ≡ take count yeses → IsTrail n start others (given_up count es)
trail-given_up n start yeses others es count t same =
    let p = λ (e : Entry). leb e.first count in
    let kept = All-filter p (IsEntry n start yeses) es t in
    let low = filter_passes p es in
    All-map (IsEntry n start others) (cut count) (filter p es) (λ k d l. entry-cut n start yeses others (get_or (filter p es) k d) count (kept k d l) same (leb-true (get_or (filter p es) k d).first count (low k d l)))

-- ---- one more Yes answer, and queries

-- a trail of the Yes answers is one where one more comes
pub IsTrail-more : (n : ℕ) (start : Start) (yeses : List Query) (r : Query) (es : List Entry) → IsTrail n start yeses es → IsTrail n start (yeses ++ r ∷ []) es
IsTrail-more n start yeses r es t =
    All-weaker (IsEntry n start yeses) (IsEntry n start (yeses ++ r ∷ [])) (λ e h.
    let few : e.last ≤ length yeses = h.few in
    record {
      in_order = h.in_order;
      few = omega (arith, length-append yeses (r ∷ []));
      followed = λ k low high. subst (λ ys. IsFollowed n start ys e.followed) (sym (take-append-le k yeses (r ∷ []) (omega arith))) (h.followed k low high);
    }) es t

-- good queries can be asked of the last entry of a trail
pub AreAskable-good : (n : ℕ) (start : Start) (yeses queries : List Query) (es : List Entry) → IsTrail n start yeses es → list_all (is_good n) queries ≡ true → AreAskable queries es
AreAskable-good n start yeses queries [] t good = tt
AreAskable-good n start yeses queries (y ∷ es) t good =
    let x = last-some (y ∷ es) (omega arith) in
    let e = x.0 in
    let h = entry-last n start yeses (y ∷ es) e t x.1 in
    let order : e.first ≤ e.last = h.in_order in
    let ask : All (IsAskable e.followed) queries =
    All-weaker (λ r. is_good n r ≡ true) (IsAskable e.followed) (λ r g. IsAskable-good n start (take e.first yeses) e.followed r (h.followed e.first (omega arith) order) g) queries
    (All-from_recursion (λ r. is_good n r ≡ true) queries (list_all-All (is_good n) queries good)) in
    subst (λ o. IfSome o (λ e. All (IsAskable e.followed) queries)) (sym x.1) ask
