-- Pupils, written and read.
use Rattle.ls_codecs.proofs.Vocabulary.{◌++◌, ◌+◌, ◌<◌, ◌∷◌, ◌≡◌, ◌≤◌, AllByRecursion, Bool, IsPupil, IsReadBack, IsUtf8-are_ascii, List, Pupil, Query, Ratios, Some, ℕ, [], and_parts, ap, arith, asked, booleans-back, codes, cond, depth, eqb, eqb-true, eq-eqb, false, fewer, find, follow, half_split, has_share, imbalance, is_asked, is_name, is_name-utf8, is_pupil, kept, key-back, leb, length, limits_field, list_all, list_all-All, lists, lists-back, mapped-back, max, members_depth, no_members, odds_field, option_map, pairs-back, pupil_codec, pupil_fields, pupil_from, pupil_parts, pupil_states, query_codec, refl, replies_field, reply_codec, settings_parts, start_field, subst, suc, true, unwrap_or, yes_field, zero, zipped}
use Rattle.serde_json.specs.Written.{has_float}
use Rattle.ls_set.specs.{Items, is_good, most_items, numbers_from}
use Rattle.ls_theory.specs.declared.reply.Reply.{Reply}
use Rattle.ls_theory.specs.declared.reason.Reason.TheVariants.{Share, Budget}
use Rattle.ls_theory.specs.declared.asked.Asked.{Asked}
use Rattle.ls_theory.specs.declared.asked.Asked.TheVariants.{Item, Over}
use Rattle.ls_theory.specs.Settings.{Settings}
use Rattle.ls_files.specs.declared.version.Version.TheVariants as version
use Rattle.ls_files.proofs.Texts.{IsPlain}
use Rattle.ls_codecs.proofs.WrittenSettings.{settings-from as settings-parts, odds-back, limits-back}
use Rattle.ls_codecs.proofs.WrittenStarts.{item-back, query-back, start-back}

-- ---- what the tests say

pub record Stands (n : ℕ) (p : Pupil) : Type 0 where
  pub name : is_name p.name ≡ true
  pub good : list_all (is_good n) p.yeses ≡ true
  pub follows : follow p.settings (pupil_states n p) [] p.replies ≡ true

pub stands-parts : (n : ℕ) (p : Pupil) → is_pupil n p ≡ true → Stands n p
unfolding is_pupil
stands-parts n p h =
    let a = and_parts _ _ h in
    let b = and_parts _ _ a.0 in
    let c = and_parts _ _ b.0 in
    let d = and_parts _ _ c.0 in
    let e = and_parts (is_name p.name) (list_all (is_good n) p.yeses) d.0 in
    record { name = e.0; good = e.1; follows = a.1 }

-- ---- the items of replies

found-less : (p : ℕ → Bool) (i m : ℕ) → 0 < i + m → unwrap_or (find p (numbers_from i m)) 0 < i + m
found-less p i zero some = some
found-less p i (suc m) some = elim (p i) as (λ b. unwrap_or (cond b (Some i) (find p (numbers_from (suc i) m))) 0 < i + suc m) [
  | true ↦ omega arith
  | false ↦ let rest = found-less p (suc i) m (omega arith) in omega arith
]

half_split-less : (ratios : List Ratios) (replies : List Reply) (f : List Items) → 0 < length ratios → half_split ratios replies f < length ratios
unfolding half_split
half_split-less ratios replies f some =
    let value = imbalance ratios replies f in
    let same : 0 + length ratios ≡ length ratios = omega arith in
    subst (λ m. half_split ratios replies f < m) same (found-less (λ x. list_all (λ y. leb (value x) (value y)) (numbers_from 0 (length ratios))) 0 (length ratios) (omega arith))

asked-chosen : (share budget : Bool) (i q : ℕ) → cond share (Over Share) (cond budget (Over Budget) (Item i)) ≡ Item q → i ≡ q
asked-chosen true budget i q e = absurd (cc e)
asked-chosen false true i q e = absurd (cc e)
asked-chosen false false i q e = cc e

asked-less : (s : Settings) (f : List Items) (replies : List Reply) (q : ℕ) → 0 < length s.ratios → asked s f replies ≡ Item q → q < length s.ratios
unfolding asked
asked-less s f replies q some e =
    let same = asked-chosen (has_share s f replies) (eqb (length replies) s.budget) (half_split s.ratios replies f) q e in
    let less = half_split-less s.ratios replies f some in
    omega arith

asked-item : (x : Asked) (q : ℕ) → is_asked x q ≡ true → x ≡ Item q
asked-item (Item i) q h = ap Item (eqb-true i q h)
asked-item (Over reason) q h = absurd (cc h)

follow-less : (s : Settings) (f : List Items) (earlier rs : List Reply) → 0 < length s.ratios → follow s f earlier rs ≡ true → AllByRecursion (λ r. r.q < length s.ratios) rs
follow-less s f earlier [] some h = tt
follow-less s f earlier (r ∷ rs) some h =
    let p = and_parts (is_asked (asked s f earlier) r.q) (follow s f (earlier ++ r ∷ []) rs) h in
    (asked-less s f earlier r.q some (asked-item (asked s f earlier) r.q p.0), follow-less s f (earlier ++ r ∷ []) rs some p.1)

-- the items of a pupil's replies
pub replies-less : (n : ℕ) (p : Pupil) → 0 < n → IsPupil n p → AllByRecursion (λ r. r.q < n) p.replies
replies-less n p some h =
    let count = (settings-parts n p.settings h.settings).count in
    subst (λ m. AllByRecursion (λ r. r.q < m) p.replies) count
    (follow-less p.settings (pupil_states n p) [] p.replies (omega arith) (stands-parts n p h.stands).follows)

-- ---- read back

queries-back : (n : ℕ) → n ≤ most_items → IsReadBack (List Query) (lists (query_codec n)) (λ rs. list_all (is_good n) rs ≡ true) 2
queries-back n few = fewer (λ rs. list_all (is_good n) rs ≡ true) (λ rs h. list_all-All (is_good n) rs h) (lists-back (query-back n few))

reply-back : (n : ℕ) → n ≤ most_items → IsReadBack Reply (reply_codec n) (λ r. r.q < n) 1
reply-back n few =
    fewer (λ r. r.q < n) (λ r less. (less, tt))
    (mapped-back (λ (p : ℕ × Bool). let r : Reply = record { q = p.0; right = p.1 } in r) (λ r. (r.q, r.right)) (λ r. refl) (pairs-back (item-back n few) booleans-back))

replies-back : (n : ℕ) → n ≤ most_items → IsReadBack (List Reply) (lists (reply_codec n)) (AllByRecursion (λ r. r.q < n)) 2
replies-back n few = lists-back (reply-back n few)

pub both_within : (m a b : ℕ) → a ≤ m → b ≤ m → max a b ≤ m
both_within m a b p q = omega arith

module _ (n : ℕ) (few : n ≤ most_items) where
  pub pupil-exact : (p : Pupil) → has_float ((pupil_codec version.Ratios n).write p) ≡ false
  pupil-exact p =
      rw (
        (odds-back n).exact p.settings.ratios,
        (replies-back n few).exact p.replies,
        (start-back n).exact p.start,
        (queries-back n few).exact p.yeses,
      ) refl

  pupil-shallow : (p : Pupil) → depth ((pupil_codec version.Ratios n).write p) ≤ 4
  pupil-shallow p =
      let odds = (odds-back n).shallow p.settings.ratios in
      let replies = (replies-back n few).shallow p.replies in
      let start = (start-back n).shallow p.start in
      let queries = (queries-back n few).shallow p.yeses in
      let members : members_depth ((pupil_fields version.Ratios n).put_in (pupil_parts p) no_members) ≤ 3 =
      both_within 3 _ _ (omega arith) (both_within 3 _ _ (omega arith) (both_within 3 _ _ odds (both_within 3 _ _ (omega arith) (both_within 3 _ _ start (both_within 3 _ _ (omega arith) (omega arith)))))) in
      omega arith

  module _ (some : 0 < n) where
    own-back : (p : Pupil) → IsPupil n p → (pupil_codec version.Ratios n).read ((pupil_codec version.Ratios n).write p) ≡ Some p
    own-back p h =
        let d = (pupil_codec version.Ratios n).write p in
        let s = settings-parts n p.settings h.settings in
        let stands = stands-parts n p h.stands in
        let limits : limits_field.find_in d ≡ Some (p.settings.budget, p.settings.share) = key-back limits-back (codes "limits") d (p.settings.budget, p.settings.share) s.limits refl in
        let odds : (odds_field version.Ratios n).find_in d ≡ Some p.settings.ratios = key-back (odds-back n) (codes "odds") d p.settings.ratios (s.ratios, eq-eqb (length p.settings.ratios) n s.count) refl in
        let start : (start_field n).find_in d ≡ Some p.start = key-back (start-back n) (codes "start") d p.start h.start refl in
        let queries : (yes_field n).find_in d ≡ Some p.yeses = key-back (queries-back n few) (codes "yes") d p.yeses stands.good refl in
        let replies : (replies_field n).find_in d ≡ Some p.replies = key-back (replies-back n few) (codes "replies") d p.replies (replies-less n p some h) refl in
        kept (is_pupil n) _ p
        (ap (option_map pupil_from)
        (zipped _ _ (p.name, settings_parts p.settings) (p.start, (p.yeses, p.replies))
        (zipped (Some p.name) _ p.name (settings_parts p.settings) refl (zipped _ _ p.settings.ratios (p.settings.budget, p.settings.share) odds limits))
        (zipped _ _ p.start (p.yeses, p.replies) start (zipped _ _ p.yeses p.replies queries replies))))
        h.stands

    own-plain : (p : Pupil) → IsPupil n p → IsPlain ((pupil_codec version.Ratios n).write p)
    own-plain p h =
        let s = settings-parts n p.settings h.settings in
        let stands = stands-parts n p h.stands in (
          (
            IsUtf8-are_ascii (codes "limits") refl,
            limits-back.plain (p.settings.budget, p.settings.share) s.limits,
            (
              IsUtf8-are_ascii (codes "name") refl,
              is_name-utf8 p.name stands.name,
              (
                IsUtf8-are_ascii (codes "odds") refl,
                (odds-back n).plain p.settings.ratios (s.ratios, eq-eqb (length p.settings.ratios) n s.count),
                (
                  IsUtf8-are_ascii (codes "replies") refl,
                  (replies-back n few).plain p.replies (replies-less n p some h),
                  (
                    IsUtf8-are_ascii (codes "start") refl,
                    (start-back n).plain p.start h.start,
                    (IsUtf8-are_ascii (codes "yes") refl, (queries-back n few).plain p.yeses stands.good, tt),
                  ),
                ),
              ),
            ),
          ),
          refl,
        )

    pub pupil-back : IsReadBack Pupil (pupil_codec version.Ratios n) (IsPupil n) 4
    pupil-back = record { back = own-back; plain = own-plain; shallow = pupil-shallow; exact = pupil-exact }
