-- What is read of a session is a part of a whole one: settings, starts and interviews.
use Rattle.ls_codecs.proofs.Vocabulary.{All-list_all, AllByRecursion, Answer, BaseFault, Bool, Data, Decides-is_same, Err, Interview, IsDistinct, IsStanding, IsStrictlyIncreasing-from_sorted, IsStrictlySortedBy, Less, List, Ok, Ratio, Ratios, Result, Some, Version, [], and_from, and_parts, ap, are_apart, are_limits, are_made, are_ratios, are_settings, base_codec, based, block_codec, cond, each, eq-eqb, eqb, eqb-true, false, filter, is_ascending, is_base, is_ratio, is_same_query, leb, leb-true, length, limits_codec, list_all, list_all-All, list_any, ltb, map, most_answers, most_number, nat_cmp, no_queries, not, not-true, numbers, odds_codec, option_map_or, pointwise, pointwise_decides, ratio_codec, ratio_in, ratios_codec, read_list, read_pair, refl, result_ok, set_codec, settings_from, spaces_of, stands, subst, sym, true, true≢false, ℕ, ◌&&◌, ◌+◌, ◌||◌, ◌∙◌, ◌∷◌, ◌≡◌}
use Rattle.ls_set.specs.{Items, is_good, is_same}
use Rattle.ls_codecs.proofs.Inverse.{kept_if-some, map-some, list-some, pair-some}

-- ---- settings

ratios-sound : (v : Version) (d : Data) (r : Ratios) → (ratios_codec v).read d ≡ Some r → are_ratios r ≡ true
ratios-sound v d r e =
    let made = map-some (λ (p : Ratio × Ratio). let r : Ratios = record { right = p.0; wrong = p.1 } in r) (read_pair (ratio_codec v).read (ratio_codec v).read d) r e in
    let parts = pair-some (ratio_codec v).read (ratio_codec v).read d made.0 made.1 in
    let right = kept_if-some is_ratio ((ratio_in v).read parts.0.0) made.0.0 parts.1 in
    let wrong = kept_if-some is_ratio ((ratio_in v).read parts.0.1) made.0.1 parts.2 in
    subst (λ r. are_ratios r ≡ true) made.2 (and_from (is_ratio made.0.0) (is_ratio made.0.1) right.1 wrong.1)

pub odds-sound : (v : Version) (n : ℕ) (d : Data) (rs : List Ratios) → (odds_codec v n).read d ≡ Some rs → (length rs ≡ n) × (list_all are_ratios rs ≡ true)
odds-sound v n d rs e =
    let list = kept_if-some (λ rs. eqb (length rs) n) (read_list (ratios_codec v).read d) rs e in
    (eqb-true (length rs) n list.1, All-list_all are_ratios rs (list-some (ratios_codec v).read (λ r. are_ratios r ≡ true) (ratios-sound v) d rs list.0))

pub limits-sound : (d : Data) (limits : ℕ × ℕ) → limits_codec.read d ≡ Some limits → are_limits limits.0 limits.1 ≡ true
limits-sound d limits e = (kept_if-some (λ p. are_limits p.0 p.1) (read_pair numbers.read numbers.read d) limits e).1

pub settings-sound : (n : ℕ) (rs : List Ratios) (limits : ℕ × ℕ) → (length rs ≡ n) × (list_all are_ratios rs ≡ true) → are_limits limits.0 limits.1 ≡ true → are_settings n (settings_from rs limits) ≡ true
settings-sound n rs limits odds within =
    and_from (eqb (length rs) n && list_all are_ratios rs) (are_limits limits.0 limits.1) (and_from (eqb (length rs) n) (list_all are_ratios rs) (eq-eqb (length rs) n odds.0) odds.1) within

-- ---- bases

based-from : (sets : List Items) (r : Result (List Items) BaseFault) → option_map_or (λ found. pointwise is_same found sets) (result_ok r) false ≡ true → r ≡ Ok sets
based-from sets (Ok found) h = ap Ok ((pointwise_decides Decides-is_same found sets).0 h)
based-from sets (Err e) h = absurd (true≢false (sym h))

pub is_base-based : (n : ℕ) (sets : List Items) → is_base n sets ≡ true → based n sets ≡ Ok sets
is_base-based n sets h = based-from sets (based n sets) h

pub base-sound : (n : ℕ) (d : Data) (sets : List Items) → (base_codec n).read d ≡ Some sets → based n sets ≡ Ok sets
base-sound n d sets e = is_base-based n sets (kept_if-some (is_base n) (read_list (set_codec n).read d) sets e).1

-- ---- interviews

none-same : {X : Type 0} (same : X → X → Bool) (x : X) (xs : List X) → list_any (same x) xs ≡ false → AllByRecursion (λ y. same x y ≡ false) xs
none-same same x [] h = tt
none-same same x (y ∷ ys) h = elim (same x y) as (λ b. same x y ≡ b → (b || list_any (same x) ys) ≡ false → AllByRecursion (λ y. same x y ≡ false) (y ∷ ys)) [
  | true ↦ λ e h. absurd (true≢false h)
  | false ↦ λ e h. (e, none-same same x ys h)
] refl h

pub apart-distinct : {X : Type 0} (same : X → X → Bool) (xs : List X) → are_apart same xs ≡ true → IsDistinct same xs
unfolding IsDistinct
apart-distinct same [] h = tt
apart-distinct same (x ∷ xs) h =
    let p = and_parts (not (list_any (same x) xs)) (are_apart same xs) h in
    (none-same same x xs (not-true (list_any (same x) xs) p.0), apart-distinct same xs p.1)

less-first : (m y : ℕ) → ltb m y ≡ true → nat_cmp m y ≡ Less
less-first m y h = rw h refl

ascending-increasing : (ms : List ℕ) → is_ascending ms ≡ true → IsStrictlySortedBy nat_cmp ms
unfolding IsStrictlySortedBy
ascending-increasing [] h = tt
ascending-increasing (m ∷ ms) h =
    let p = and_parts (list_all (ltb m) ms) (is_ascending ms) h in
    (each (less-first m) ms (list_all-All (ltb m) ms p.0), ascending-increasing ms p.1)

some-list : {X : Type 0} (xs : List X) → not (eqb (length xs) 0) ≡ true → xs ≡ [] → ⊥
some-list xs h e = true≢false (sym h ∙ ap (λ ys. not (eqb (length ys) 0)) e)

good-nos : (n : ℕ) (answers : List Answer) → list_all (λ a. is_good n a.query) answers ≡ true → list_all (is_good n) (no_queries answers) ≡ true
good-nos n [] h = refl
good-nos n (a ∷ answers) h =
    let p = and_parts (is_good n a.query) (list_all (λ a. is_good n a.query) answers) h in
    elim a.yes as (λ b. list_all (is_good n) (map (λ a. a.query) (cond (not b) (a ∷ filter (λ a. not a.yes) answers) (filter (λ a. not a.yes) answers))) ≡ true) [
      | true ↦ good-nos n answers p.1
      | false ↦ and_from (is_good n a.query) (list_all (is_good n) (no_queries answers)) p.0 (good-nos n answers p.1)
    ]

-- the test tells exactly which answers stand
pub stands-standing : (i : Interview) → stands i ≡ true → IsStanding i
unfolding stands
stands-standing i h =
    let a = and_parts _ _ h in
    let b = and_parts _ _ a.0 in
    let c = and_parts _ _ b.0 in
    let d = and_parts _ _ c.0 in
    let e = and_parts _ _ d.0 in
    let f = and_parts (not (eqb (length (spaces_of i)) 0)) (list_all (λ x. is_good i.count x.query) i.answers) e.0 in
    let bounds = and_parts (leb 1 i.next) (leb i.next (most_number + 1)) a.1 in
    record {
      sound = record { some_fits = some-list (spaces_of i) f.0; are_good = good-nos i.count i.answers f.1 };
      good = f.1;
      distinct = apart-distinct is_same_query (map (λ x. x.query) i.answers) e.1;
      numbered = record { in_order = IsStrictlyIncreasing-from_sorted (map (λ x. x.number) i.answers) (ascending-increasing (map (λ x. x.number) i.answers) d.1); below_next = c.1 };
      few_answers = leb-true (length i.answers) most_answers b.1;
      some_number = leb-true 1 i.next bounds.0;
      numbers_left = leb-true i.next (most_number + 1) bounds.1;
    }

pub block-sound : (n : ℕ) (d : Data) (k : ℕ) → (block_codec n).read d ≡ Some k → are_made n k ≡ true
block-sound n d k e = (kept_if-some (are_made n) (numbers.read d) k e).1
