-- What follows one more Yes answer.
use Rattle.ls_base.proofs.Vocabulary.{◌++◌, ◌+◌, ◌<◌, ◌∙◌, ◌∷◌, ◌≡◌, ◌≤◌, BaseState, Followed, IsAskable, IsFollowed, IsFollowedBase, List, Query, Start, ℕ, [], ap, base, compat, family, get_or, is_good, le-ltb, left_by, length, list_all, lt-ltb, most_base_sets, refl, spanned-base, subst, sym, true, true_from_ne_false, true≢false}
use Rattle.std.proofs.lemmas.List.Folds.{list_all_at}
use Rattle.ls_laws.proofs.Compat.{compat-more, compat-in_order, compat-IsUnionFamily}
use Rattle.ls_base.specs.declared.followed.Followed.TheVariants.{Within, Past}
use Rattle.ls_base.proofs.Peaks.{peak-begun, peak-new}

-- the family of the base under the Yes answers, without what breaks one more, is that under them all
left-compat : (n : ℕ) (start : Start) (yeses : List Query) (r : Query) (b : BaseState) → IsFollowedBase n start yeses b → left_by r (family b) ≡ compat n start (yeses ++ r ∷ [])
left-compat n start yeses r b h =
    let is : family b ≡ compat n start yeses =
    ap (λ m. let c : BaseState = record { item_count = m; sets = b.sets } in family c) h.items
    ∙ ap (λ sets. let c : BaseState = record { item_count = n; sets = sets } in family c) h.is_base
    ∙ spanned-base n (compat n start yeses) (compat-in_order n start yeses) (compat-IsUnionFamily n start yeses) in
    ap (left_by r) is ∙ sym (compat-more n start yeses r)

pub begun : (n : ℕ) (start : Start) (b : BaseState) → b.item_count ≡ n → b.sets ≡ base (compat n start []) → length b.sets ≤ most_base_sets → IsFollowedBase n start [] b
begun n start b items is few = record { items = items; is_base = is; no_peak = peak-begun most_base_sets n start (subst (λ sets. length sets ≤ most_base_sets) is few) }

pub followed-within : (n : ℕ) (start : Start) (yeses : List Query) (r : Query) (b next : BaseState) → IsFollowedBase n start yeses b → next.item_count ≡ b.item_count
    → next.sets ≡ base (left_by r (family b)) → length (base (left_by r (family b))) ≤ most_base_sets → IsFollowedBase n start (yeses ++ r ∷ []) next
followed-within n start yeses r b next h items is few =
    let same = left-compat n start yeses r b h in
    let small = subst (λ f. length (base f) ≤ most_base_sets) same few in
    record {
      items = items ∙ h.items;
      is_base = is ∙ ap base same;
      no_peak = peak-new most_base_sets n start yeses r h.no_peak ∙ rw (le-ltb most_base_sets (length (base (compat n start (yeses ++ r ∷ [])))) small) refl;
    }

-- where the base stays, so does what is followed
pub followed-same : (n : ℕ) (start : Start) (yeses : List Query) (r : Query) (b : BaseState) → IsFollowedBase n start yeses b → base (left_by r (family b)) ≡ b.sets → length b.sets ≤ most_base_sets → IsFollowedBase n start (yeses ++ r ∷ []) b
followed-same n start yeses r b h same few = followed-within n start yeses r b b h refl (sym same) (subst (λ sets. length sets ≤ most_base_sets) (sym same) few)

pub followed-past : (n : ℕ) (start : Start) (yeses : List Query) (r : Query) (b : BaseState) (position count : ℕ) → IsFollowedBase n start yeses b → position ≡ length yeses + 1
    → most_base_sets < length (base (left_by r (family b))) → count ≡ length (base (left_by r (family b))) → IsFollowed n start (yeses ++ r ∷ []) (Past position count)
followed-past n start yeses r b position count h last large told =
    let same = left-compat n start yeses r b h in
    let more = compat n start (yeses ++ r ∷ []) in
    let size : length (base more) ≡ count = sym (told ∙ ap (λ f. length (base f)) same) in
    peak-new most_base_sets n start yeses r h.no_peak
    ∙ rw (lt-ltb most_base_sets (length (base more)) (subst (λ f. most_base_sets < length (base f)) same large), size, sym last) refl

-- a good query can be asked of what is followed
pub IsAskable-good : (n : ℕ) (start : Start) (yeses : List Query) (f : Followed) (r : Query) → IsFollowed n start yeses f → is_good n r ≡ true → IsAskable f r
IsAskable-good n start yeses (Within b) r h good = ap (λ m. is_good m r) h.items ∙ good
IsAskable-good n start yeses (Past position count) r h good = tt

pub good_at : (n : ℕ) (yeses : List Query) (i : ℕ) (r : Query) → list_all (is_good n) yeses ≡ true → i < length yeses → r ≡ get_or yeses i r → is_good n r ≡ true
good_at n yeses i r good l e = true_from_ne_false (is_good n r) (λ h. true≢false (sym good ∙ list_all_at (is_good n) yeses i r l (ap (is_good n) (sym e) ∙ h)))
